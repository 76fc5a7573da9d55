use Rattle.std.proofs.Common.{◌≡◌, ◌∙◌, Some, slice_get, option_map, ap, sym, arith}
use Rattle.std.proofs.lemmas.Grind.{common_steps}
use Rattle.std.proofs.lemmas.Option.{slice_get_cases}
use Rattle.tinyjson.specs.View.{view}
use Rattle.tinyjson_schema_keywords.specs.Applied.{schema_at}
use Rattle.tinyjson_schema_table.specs.Held.{held}
use Rattle.tinyjson_schema_table.proofs.Held.{same_at}
use Rattle.tinyjson_schema_table.proofs.shape.Shape.value_of.Goals as goal

pub returns-in-Some-get : goal.returns-in-Some-get
returns-in-Some-get c =
    let self = c.args.self.now in
    let i = c.in-Some.place in
    let got : slice_get c.deref.result.now i ≡ Some c.in-Some-get.value.now = grind (
      arith,
      common_steps,
      slice_get_cases
          c.deref.result.now i,
    ) in
    let there : slice_get self.values.items i ≡ Some c.in-Some-get.value.now = ap (λ xs. slice_get xs i) (sym c.deref.ensures.value)
    ∙ got in
    same_at (option_map (λ x. view x.now)) (schema_at (view self.schema.now)) self.values.items held i c.in-Some-get.value.now c.args.keyword
    self.held there c.in-Some.ensures

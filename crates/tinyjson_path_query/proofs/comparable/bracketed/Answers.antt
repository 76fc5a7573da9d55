use Rattle.std.proofs.Common.{◌≡◌, ◌∙◌, true, false, ap, refl, subst, rules, w64, SFits}
use Rattle.std.proofs.lemmas.Int.{to_z-of_z}
use Rattle.std.specs.Prelude.{option_map}
use Rattle.tinyjson_path_query.specs.declared.query.SingularSegment.TheVariants as does
use Rattle.tinyjson_path_query.specs.Fronts.{behind, is_quote}
use Rattle.tinyjson_path_query.specs.Reading.{IsRest}
use Rattle.tinyjson_path_query.specs.Values as value
use Rattle.tinyjson_path_query.proofs.Literals.{bracketed_name_from, bracketed_index_from}
use Rattle.tinyjson_path_query.proofs.comparable.bracketed.Goals as goal

pub returns-then-is_quote : goal.returns-then-is_quote
returns-then-is_quote c =
    let read = c.in_ok-name.ensures in
    let quote : is_quote c.in-Some.first.now ≡ true = search rules in
    let rest = subst (IsRest (behind 93 c.in_ok-name.after.now)) c.in-Some-behind.is c.behind.ensures in (
      value.name read.0,
      bracketed_name_from c.args.text.now _ read.0 c.in_ok-name.after.now c.in-Some.first.now c.in-Some.ensures.cases.0 quote read.1
          ∙ ap (option_map (λ zs. (value.name read.0, zs))) rest,
      (c.in_ok-name.name, refl, read.2),
    )

pub returns : goal.returns
returns c =
    let i = c.in_ok-index.index in
    let fits : SFits w64 i = search rules in
    let quote : is_quote c.in-Some.first.now ≡ false = search rules in
    let rest = subst (IsRest (behind 93 c.in_ok-index.after.now)) c.in-Some-behind-2.is c.behind-2.ensures in (
      value.index i,
      bracketed_index_from c.args.text.now _ c.in-Some.first.now i c.in_ok-index.after.now c.in-Some.ensures.cases.0 quote
          c.in_ok-index.ensures
          ∙ ap (option_map (λ zs. (value.index i, zs))) rest,
      ap does.Index (to_z-of_z w64 i fits),
    )

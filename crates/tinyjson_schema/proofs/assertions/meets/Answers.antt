use Rattle.std.proofs.Common.{◌≡◌, true, sym, ap, subst}
use Rattle.std.specs.Option.{option_map_or}
use Rattle.std.specs.Prelude.{IfOk}
use Rattle.tinyjson_view.specs.Views.{tree_of}
use Rattle.tinyjson_schema_assertions.specs.Assertions.{accepts}
use Rattle.tinyjson_schema.proofs.assertions.meets.Goals as goal

pub returns-in-Some : goal.returns-in-Some
returns-in-Some c =
    let k = c.args.keyword in
    let t = tree_of c.args.value.now in
    let has = sym c.in-Some.ensures in
    subst (λ x. IfOk c.accepts.result (λ is. is ≡ x)) (sym (ap (λ o. option_map_or (λ w. accepts k w t) o true) has)) c.accepts.ensures

pub returns-in-None : goal.returns-in-None
returns-in-None c =
    let k = c.args.keyword in
    let t = tree_of c.args.value.now in
    let has = sym c.in-None.ensures in
    sym (ap (λ o. option_map_or (λ w. accepts k w t) o true) has)

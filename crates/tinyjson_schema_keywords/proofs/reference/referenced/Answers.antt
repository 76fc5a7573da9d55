use Rattle.std.proofs.Common.{◌≡◌, option_map, ap, subst}
use Rattle.std.specs.Prelude.{option_and_then, IfOk}
use Rattle.tinyjson.specs.View.{view}
use Rattle.tinyjson_schema_keywords.specs.References.{target}
use Rattle.tinyjson_schema_keywords.proofs.reference.referenced.Goals as goal

pub returns-in-Some : goal.returns-in-Some
returns-in-Some c = subst (λ o. IfOk c.target.result (λ r. option_map (λ x. view x.now) r ≡ o))
    (ap (option_and_then (target (view c.args.walk.whole.now.root.now))) c.in-Some.ensures) c.target.ensures

pub returns-in-None : goal.returns-in-None
returns-in-None c = ap (option_and_then (target (view c.args.walk.whole.now.root.now))) c.in-None.ensures

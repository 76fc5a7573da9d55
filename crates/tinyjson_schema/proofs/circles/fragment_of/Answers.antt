use Rattle.std.proofs.Common.{◌≡◌, Vec, Global, ℕ, option_map, sym, subst}
use Rattle.std.specs.Prelude.{IfOk}
use Rattle.tinyjson_schema.proofs.Remembering.{fragment_by}
use Rattle.tinyjson_schema.proofs.circles.fragment_of.Goals as goal

pub returns-in-String : goal.returns-in-String
returns-in-String c = subst (λ o. IfOk c.read_reference.result (λ d. option_map (λ (v : Vec ℕ Global). v.items) d ≡ o))
    (sym (fragment_by c.args.reference.now c.in-String.reference c.as_str.result.now c.in-String.is c.as_str.ensures.value))
    c.read_reference.ensures

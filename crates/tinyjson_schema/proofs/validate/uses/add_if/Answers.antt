use Rattle.std.proofs.Common.{[], ◌∷◌, cond, sym, ap}
use Rattle.tinyjson_schema.specs.Steps.{use_of}
use Rattle.tinyjson_schema.proofs.Adding.{uses_none, uses_as, uses_pushed}
use Rattle.tinyjson_schema.proofs.validate.uses.add_if.Goals as goal

pub returns-then-not-is_wanted : goal.returns-then-not-is_wanted
returns-then-not-is_wanted c =
    let one = use_of c.args.one ∷ [] in
    uses_as [] (cond c.args.is_wanted one []) _ _ (ap (λ b. cond b one []) (sym c.if-not-is_wanted.true)) (uses_none _)

pub returns : goal.returns
returns c =
    let one = use_of c.args.one ∷ [] in
    uses_as one (cond c.args.is_wanted one []) _ _ (ap (λ b. cond b one []) (sym c.if-not-is_wanted.false))
    (uses_pushed c.args.one _ _ c.in_ok-push.ensures.items)

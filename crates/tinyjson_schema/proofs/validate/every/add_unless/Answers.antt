use Rattle.std.proofs.Common.{◌++◌, ◌∷◌, [], cond, sym, ap, ◌∙◌, append-nil}
use Rattle.tinyjson_schema.proofs.validate.every.add_unless.Goals as goal

pub returns-then-is_met : goal.returns-then-is_met
returns-then-is_met c =
    let old = c.args.unmet.now.items in
    sym (ap (λ b. old ++ cond b [] (c.args.keyword ∷ [])) c.if-is_met.true ∙ append-nil old)

pub returns : goal.returns
returns c =
    let old = c.args.unmet.now.items in
    c.in_ok-push.ensures.items ∙ sym (ap (λ b. old ++ cond b [] (c.args.keyword ∷ [])) c.if-is_met.false)

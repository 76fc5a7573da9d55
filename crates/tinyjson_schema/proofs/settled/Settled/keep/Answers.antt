use Rattle.std.proofs.Common.{◌≡◌, true, sym, subst}
use Rattle.tinyjson_schema.specs.Settled.{all_end}
use Rattle.tinyjson_schema.proofs.Remembering.{one_more}
use Rattle.tinyjson_schema.proofs.settled.Settled.keep.Goals as goal

pub returns-in_err-insert : goal.returns-in_err-insert
returns-in_err-insert c = λ root right ends. subst (λ fs. all_end root fs ≡ true) (sym c.in_ok-push.ensures.items)
    (one_more root c.args.self.now.found.items _ ends right)

pub returns : goal.returns
returns c = λ root right ends. subst (λ fs. all_end root fs ≡ true) (sym c.in_ok-push.ensures.items)
    (one_more root c.args.self.now.found.items _ ends right)

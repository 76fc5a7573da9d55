use Rattle.std.proofs.Common.{◌<◌, vec_len, ap, sym, subst}
use Rattle.text_regexp.proofs.Callers.{ok_as}
use Rattle.text_iregexp.proofs.PatternBranches.{finished}
use Rattle.text_iregexp.proofs.branches.Branches.finish.Goals as goal

pub choice_of-requires : goal.choice_of-requires
choice_of-requires c = subst (λ v. 0 < vec_len v) (sym c.replace-parts.ensures.value) c.in_ok-end_part.ensures.some

pub returns : goal.returns
returns c =
    ok_as c.choice_of.result _ _ c.choice_of.ensures
    (λ n h. finished c.args.self.now c.end_part.new.self.parts.items n c.replace-parts.result.items
    c.in_ok-end_part.ensures.part (ap (λ v. v.items) c.replace-parts.ensures.value) h)

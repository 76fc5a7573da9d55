use Rattle.std.proofs.Common.{refl, sym, ap, ◌∙◌, subst}
use Rattle.std.specs.Prelude.{IsSome}
use Rattle.std.specs.Str.{chars}
use Rattle.tinyjson.proofs.Callers.{tree_write}
use Rattle.tinyjson.specs.Index.{with_tree_at_key}
use Rattle.tinyjson.specs.View.{view}
use Rattle.documentation_vectors.proofs.examples.access.set_member.Goals as goal

pub returns : goal.returns
returns c =
    let v = c.args.value.now in
    let w = c.replace.new.dest in
    let there = subst IsSome c.in_ok-member.ensures.value refl in
    tree_write v c.in_ok-members.members.now (c.get_mut-2.follows.lender w) c.args.key.now w c.utf8.key
    (sym c.in_ok-members.ensures.value) there ((c.get_mut-2.follows.holds w).3 there)
    ∙ ap (λ x. with_tree_at_key (view v) (chars c.args.key.now) (view x)) c.replace.ensures.after

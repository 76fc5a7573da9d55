use Rattle.std.proofs.Common.{◌≡◌, refl, sym, ap, ◌∙◌, subst, Some, option_map}
use Rattle.std.specs.HashMap.{get_by_text}
use Rattle.std.specs.Prelude.{IsSome, option_and_then}
use Rattle.std.specs.Str.{chars}
use Rattle.tinyjson.proofs.Values.Index.{is_member_at, tree_with_member}
use Rattle.tinyjson.specs.Index.{with_tree_at_key}
use Rattle.tinyjson.specs.View.{view}
use Rattle.tinyjson.proofs.value.JsonValue.replace_member.Goals as goal

pub returns-clause-old : goal.returns-clause-old
returns-clause-old c =
    let found : get_by_text c.object_mut.result.now c.args.key.now ≡ Some c.unwrap-member.result.now = sym c.get_mut.ensures.value
    ∙ ap (option_map (λ x. x.now)) c.unwrap-member.ensures in
    is_member_at c.args.self.now c.args.key.now c.replace.result c.utf8.key
    (ap (option_and_then (λ m. get_by_text m c.args.key.now)) c.object_mut.ensures.value ∙ (found ∙ ap Some (sym c.replace.ensures.value)))

pub returns-clause-tree : goal.returns-clause-tree
returns-clause-tree c =
    let v = c.args.self.now in
    let w = c.replace.new.dest in
    let found : get_by_text c.object_mut.result.now c.args.key.now ≡ Some c.unwrap-member.result.now = sym c.get_mut.ensures.value
    ∙ ap (option_map (λ x. x.now)) c.unwrap-member.ensures in
    let there = subst IsSome (sym found) refl in
    tree_with_member v c.object_mut.result.now (c.get_mut.follows.lender w) c.args.key.now w c.utf8.key c.object_mut.ensures.value there
    ((c.get_mut.follows.holds w).3 there).0
    ∙ ap (λ x. with_tree_at_key (view v) (chars c.args.key.now) (view x)) c.replace.ensures.after

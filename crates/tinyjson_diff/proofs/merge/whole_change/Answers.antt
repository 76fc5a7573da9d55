use Rattle.std.proofs.Common.{◌≡◌, ◌∙◌, Some, option_map, sym, true≢false}
use Rattle.tinyjson.specs.View.{view}
use Rattle.tinyjson_view.specs.Views.{tree_of}
use Rattle.tinyjson_diff.proofs.Unreached.{null_refused}
use Rattle.tinyjson_diff.proofs.Values.{null_tree, some_tree, whole_changed}
use Rattle.tinyjson_diff.proofs.merge.whole_change.Goals as goal

pub returns-then-is_null : goal.returns-then-is_null
returns-then-is_null c =
    let o = option_map tree_of c.args.old in
    let u = tree_of c.args.new in
    let differ : ¬ (o ≡ Some u) = λ e. true≢false (sym (c.are_equal.ensures.1 e) ∙ c.if-are_equal.false) in
    null_refused o u c.root.result (null_tree u c.if-is_null.ensures) differ c.root.ensures

pub returns : goal.returns
returns c =
    let o = option_map tree_of c.args.old in
    let u = tree_of c.args.new in
    let differ : ¬ (o ≡ Some u) = λ e. true≢false (sym (c.are_equal.ensures.1 e) ∙ c.if-are_equal.false) in
    whole_changed o u (view c.in_ok-copy_of.field-0) c.requires (some_tree u c.if-is_null.ensures) differ
    c.in_ok-copy_of.ensures

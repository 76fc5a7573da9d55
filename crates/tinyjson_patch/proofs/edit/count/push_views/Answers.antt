use Rattle.std.proofs.Common.{◌≡◌, [], length, ap, arith, refl, ◌∙◌}
use Rattle.std.proofs.lemmas.List.{nil_from_length}
use Rattle.tinyjson.specs.Index.{item_count}
use Rattle.tinyjson_grammar.specs.Tree.{array}
use Rattle.tinyjson_view.specs.Views.{trees_of}
use Rattle.tinyjson_patch.specs.Copies.{item_values}
use Rattle.tinyjson_patch.specs.declared.edit.find.Part.TheVariants as part
use Rattle.tinyjson_patch.proofs.Editing.Counting.{all_spread, length_last, one_spread, spread_begins, view_count_last, views_last}
use Rattle.tinyjson_patch.proofs.edit.count.push_views.Goals as goal

pub loop-view-init : goal.loop-view-init
loop-view-init c = spread_begins (array (trees_of c.args.views.items)) c.args.stack.now.items _ _ refl refl

pub loop-view-smaller : goal.loop-view-smaller
loop-view-smaller c =
    let n = ap length c.in-Some.ensures.items ∙ length_last c.pop.new.self.items c.in-Some.view in omega (arith, n)

pub loop-view-preserved : goal.loop-view-preserved
loop-view-preserved c =
    let l = c.loop-view in
    let front = c.pop.new.self.items in
    one_spread (array (trees_of c.args.views.items)) c.args.stack.now.items l.stack.items c.put_part.new.stack.items
    (part.Kept c.in-Some.view) _ _ _ _ l.invariant
    (ap (λ vs. item_values (trees_of vs)) c.in-Some.ensures.items ∙ views_last front c.in-Some.view)
    (ap (λ vs. item_count (trees_of vs)) c.in-Some.ensures.items ∙ view_count_last front c.in-Some.view) c.in_ok-put_part.ensures

pub returns : goal.returns
returns c =
    let l = c.loop-view in
    let none : l.views.items ≡ [] = nil_from_length l.views.items (omega (arith, l.views.ok.0, c.in_default.ensures.cases)) in
    all_spread (array (trees_of c.args.views.items)) c.args.stack.now.items l.stack.items _ _
    (ap (λ vs. item_values (trees_of vs)) none) (ap (λ vs. item_count (trees_of vs)) none) l.invariant

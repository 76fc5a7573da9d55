use Rattle.text_iregexp.proofs.PatternClasses.{items_range, items_single}
use Rattle.text_iregexp.proofs.mark.items.Goals as goal

pub loop-first-preserved-in-Some-range_behind : goal.loop-first-preserved-in-Some-range_behind
loop-first-preserved-in-Some-range_behind c =
    items_range c.args.letters.now c.loop-first.rest.now c.in-Some.after.now c.in-Some-range_behind.end.now
    c.loop-first.all.items _ c.in-Some.first.now c.in-Some-range_behind.last
    c.in_ok-add_range.ensures.0 c.loop-first.invariant c.in-Some.ensures.cases.0 c.in-Some-range_behind.ensures
    c.in_ok-add_range.ensures.1 c.in_ok-add_range.ensures.2

pub loop-first-preserved : goal.loop-first-preserved
loop-first-preserved c =
    items_single c.args.letters.now c.loop-first.rest.now c.in-Some.after.now c.loop-first.all.items _ c.in-Some.first.now
    c.loop-first.invariant c.in-Some.ensures.cases.0
    c.in_default-range_behind.ensures c.in_ok-add_to.ensures

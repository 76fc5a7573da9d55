use Rattle.std.proofs.Common.{arith, length, ap, sym, subst, ◌≡◌, []}
use Rattle.text_iregexp.specs.PatternFronts.{mark_of, names_of}
use Rattle.text_iregexp.proofs.PatternNames.{next_sound}
use Rattle.text_iregexp.proofs.Reading.{some_left, none_left}
use Rattle.text_iregexp.proofs.PatternReading.{Reading, reading_init, reading_on, reading_end, refused, says_no_mark}
use Rattle.text_iregexp.proofs.PatternReading.{says_no_take, says_no_end}
use Rattle.text_iregexp.proofs.outermost.read_pattern.Goals as goal

pub loop-rest-init : goal.loop-rest-init
loop-rest-init c =
    subst (λ names. Reading c.args.text.now c.args.text.now c.new-outermost.result names) (sym (ap names_of c.new-names.ensures.items))
    (reading_init c.args.text.now c.new-outermost.result c.new-outermost.ensures)

pub returns-in-Err : goal.returns-in-Err
returns-in-Err c =
    refused _ _ _ _ _ c.loop-rest.invariant (omega (arith, c.saturating_sub-place.ensures))
    (says_no_mark _ _ _ c.in-Err.kind _ _ c.loop-rest.invariant (some_left _ _ c.is_empty.ensures c.loop-rest-test.true) c.in-Err.ensures)

pub take_mark-requires-clause-state : goal.take_mark-requires-clause-state
take_mark-requires-clause-state c = (c.loop-rest.invariant.state, c.loop-rest.invariant.agrees)

pub finish-requires : goal.finish-requires
finish-requires c = (c.loop-rest.invariant.state, c.loop-rest.invariant.agrees)

pub take_mark-requires-clause-fit : goal.take_mark-requires-clause-fit
take_mark-requires-clause-fit c =
    (next_sound c.loop-rest.rest.now (mark_of c.in-Ok.pair.0) c.in-Ok.ensures.0 c.in-Ok.pair.1.now c.in-Ok.ensures.1).fit

pub returns-in-Err-take_mark : goal.returns-in-Err-take_mark
returns-in-Err-take_mark c =
    refused _ _ _ _ _ c.loop-rest.invariant (omega (arith, c.saturating_sub-place.ensures))
    (says_no_take _ _ _ _ _ _ c.in-Err-take_mark.kind _ _ c.loop-rest.invariant c.in-Ok.ensures c.in-Err-take_mark.ensures)

pub loop-rest-smaller : goal.loop-rest-smaller
loop-rest-smaller c = (next_sound _ _ _ _ c.in-Ok.ensures.1).shorter

pub loop-rest-preserved : goal.loop-rest-preserved
loop-rest-preserved c = reading_on _ _ _ _ _ _ _ _ c.loop-rest.invariant c.in-Ok.ensures c.in_default.ensures

pub returns-in-Ok-finish : goal.returns-in-Ok-finish
returns-in-Ok-finish c =
    reading_end _ _ _ c.in-Ok-finish.cases.items _ c.loop-rest.invariant (none_left _ _ c.is_empty.ensures c.loop-rest-test.false)
    c.in-Ok-finish.ensures

pub returns : goal.returns
returns c =
    let none : c.loop-rest.rest.now ≡ [] = none_left _ _ c.is_empty.ensures c.loop-rest-test.false in
    let zero : length c.loop-rest.rest.now ≡ 0 = ap length none in
    refused _ _ _ _ _ c.loop-rest.invariant (omega arith)
    (says_no_end _ _ _ c.in-Err-finish.kind _ c.loop-rest.invariant none c.in-Err-finish.ensures)

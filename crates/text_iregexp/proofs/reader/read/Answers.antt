use Rattle.std.proofs.Common.{arith, length, ap, refl, ◌≡◌, []}
use Rattle.text_iregexp.specs.Fronts.{token_of}
use Rattle.text_iregexp.proofs.Lexing.{front_sound}
use Rattle.text_iregexp.proofs.Reading.{reading_init, reading_on, reading_end, front_shorter, some_left, none_left, tested_as}
use Rattle.text_iregexp.proofs.Refusing.{refused, refused_memory, says_no_token, says_no_take, says_no_end}
use Rattle.text_iregexp.proofs.reader.read.Goals as goal

pub loop-rest-init : goal.loop-rest-init
loop-rest-init c =
    reading_init c.args.text.now c.new-here.result c.new-outer.result.items c.new-here.ensures.read c.new-outer.ensures.items
    c.new-here.ensures.size

pub returns-in-Err : goal.returns-in-Err
returns-in-Err c =
    refused _ _ _ _ _ c.loop-rest.invariant (omega (arith, c.saturating_sub-place.ensures))
    (λ front p. says_no_token _ _ _ _ c.in-Err.kind c.loop-rest.invariant
    (some_left _ _ c.is_empty.ensures c.loop-rest-test.true) c.in-Err.ensures front)

pub accept_token-requires : goal.accept_token-requires
accept_token-requires c = (front_sound c.loop-rest.rest.now (token_of c.in-Ok.pair.0) c.in-Ok.pair.1.now c.in-Ok.ensures).fit

pub returns-in-Err-accept_token : goal.returns-in-Err-accept_token
returns-in-Err-accept_token c =
    refused _ _ _ _ _ c.loop-rest.invariant (omega (arith, c.saturating_sub-place.ensures))
    (λ front p. says_no_take _ _ _ _ _ _ _ _ c.in-Err-accept_token.kind c.loop-rest.invariant c.in-Ok.ensures c.in-Err-accept_token.ensures front p)

pub loop-rest-smaller : goal.loop-rest-smaller
loop-rest-smaller c = front_shorter _ _ _ c.in-Ok.ensures

pub loop-rest-preserved : goal.loop-rest-preserved
loop-rest-preserved c = reading_on _ _ _ _ _ _ _ _ c.loop-rest.invariant c.in-Ok.ensures c.in_default.ensures

pub returns-then-not-is_empty : goal.returns-then-not-is_empty
returns-then-not-is_empty c =
    let none : c.loop-rest.rest.now ≡ [] = none_left _ _ c.is_empty.ensures c.loop-rest-test.false in
    let zero : length c.loop-rest.rest.now ≡ 0 = ap length none in
    refused _ _ _ _ _ c.loop-rest.invariant (omega arith)
    (λ front p. says_no_end _ _ _ _ _ c.loop-rest.invariant refl none
    (some_left _ _ (tested_as _ _ (length c.loop-rest.outer.items) c.is_empty-2.ensures
    (omega (arith, c.loop-rest.outer.ok.0))) c.if-not-is_empty.true) front)

pub returns-in-Ok-finish : goal.returns-in-Ok-finish
returns-in-Ok-finish c =
    reading_end _ _ _ _ c.in-Ok-finish.node c.loop-rest.invariant (none_left _ _ c.is_empty.ensures c.loop-rest-test.false)
    (none_left _ _ (tested_as _ _ (length c.loop-rest.outer.items) c.is_empty-2.ensures
    (omega (arith, c.loop-rest.outer.ok.0))) c.if-not-is_empty.false) c.in-Ok-finish.ensures

pub returns : goal.returns
returns c =
    let none : c.loop-rest.rest.now ≡ [] = none_left _ _ c.is_empty.ensures c.loop-rest-test.false in
    let zero : length c.loop-rest.rest.now ≡ 0 = ap length none in
    refused_memory _ _ _ _ _ c.loop-rest.invariant (omega arith) refl

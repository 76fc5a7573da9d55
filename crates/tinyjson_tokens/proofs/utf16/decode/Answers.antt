use Rattle.std.proofs.Common.{rules, ◌≡◌, ◌<◌, ◌++◌, ◌∷◌, [], ◌+◌, drop, true, false, true≢false, IfSome, ap, subst, sym, ◌∙◌}
use Rattle.std.specs.Prelude.{slice_index}
use Rattle.tinyjson_grammar.specs.Characters.{text, is_high, is_low, decode}
use Rattle.tinyjson_tokens.proofs.Units.{high_ends, low_ends, pair_goes, high_goes, plain_goes, pair_text, high_text, plain_text, not_scalar}
use Rattle.tinyjson_tokens.proofs.Units.{scalar_plain}
use Rattle.tinyjson_tokens.proofs.utf16.decode.Goals as goal
use Rattle.tinyjson_tokens.proofs.utf16.decode.Goals.{in-Some+else-not-is_low+in_ok-push-in-Some, in-None}
use Rattle.tinyjson_tokens.proofs.utf16.decode.Goals.{in-None-2+in-Some-from_u32+in_ok-push-in-None-2}

pub returns-in_default-clause-whole : goal.returns-in_default-clause-whole
returns-in_default-clause-whole c =
    let u = slice_index c.args.units.now c.loop-unit.unit-index in
    let k : u < 65536 = search rules in
    low_ends c.args.units.now c.loop-unit.unit-index c.loop-unit-test.true c.loop-unit.high c.loop-unit.invariant.paired c.in-None.is
    (not_scalar u k c.in_default.ensures.cases) (search rules)

pub returns-in_default-clause-text : goal.returns-in_default-clause-text
returns-in_default-clause-text c = λ e. absurd (true≢false (sym e))

pub returns-then-not-is_low-clause-whole : goal.returns-then-not-is_low-clause-whole
returns-then-not-is_low-clause-whole c =
    let v = c.loop-unit.invariant in
    let a = subst (λ o. IfSome o (λ h. is_high h ≡ true)) c.in-Some.is v.high in
    let b : is_low (slice_index c.args.units.now c.loop-unit.unit-index) ≡ false = search rules in
    high_ends c.args.units.now c.loop-unit.unit-index c.loop-unit-test.true c.loop-unit.high v.paired c.in-Some.first c.in-Some.is a b

pub returns-then-not-is_low-clause-text : goal.returns-then-not-is_low-clause-text
returns-then-not-is_low-clause-text c = λ e. absurd (true≢false (sym e))

pub loop-unit-preserved : goal.loop-unit-preserved
loop-unit-preserved c =
    let us = c.args.units.now in
    let i = c.loop-unit.unit-index in
    let h = c.loop-unit-test.true in
    let v = c.loop-unit.invariant in
    let u = slice_index us i in
    elim c.match-high.branch [
      | in-Some+else-not-is_low+in_ok-push-in-Some w ↦
          let a = subst (λ o. IfSome o (λ h. is_high h ≡ true)) w.in-Some.is v.high in
          let b : is_low u ≡ true = search rules in
          rw (w.high-is, w.string-is) (record {
            high = tt;
            paired = pair_goes us i h _ v.paired w.in-Some.first w.in-Some.is a b;
            text = ap (λ s. s ++ decode (drop (i + 1) us)) (w.in_ok-push-in-Some.ensures
                ∙ ap (λ x. text c.loop-unit.string ++ x ∷ []) w.pair.ensures)
                ∙ pair_text us i h c.loop-unit.high (text c.loop-unit.string)
                (text c.args.string.now) v.text w.in-Some.first w.in-Some.is a b;
          })
      | in-None w ↦
          let a : is_high u ≡ true = search rules in
          rw (w.high-is, w.string-is) (record {
            high = a;
            paired = high_goes us i h c.loop-unit.high v.paired w.in-None.is;
            text = high_text us i h c.loop-unit.high (text c.loop-unit.string) (text c.args.string.now) v.text w.in-None.is;
          })
      | in-None-2+in-Some-from_u32+in_ok-push-in-None-2 w ↦
          let a : is_high u ≡ false = search rules in
          let e : w.in-Some-from_u32.c ≡ u = search rules in
          rw (w.high-is, w.string-is, w.in-None.is) (record {
            high = tt;
            paired = plain_goes us i h c.loop-unit.high v.paired w.in-None.is (scalar_plain u w.in-Some-from_u32.ensures.cases) a;
            text = ap (λ s. s ++ decode (drop (i + 1) us)) (w.in_ok-push-in-None-2.ensures ∙ ap (λ x. text c.loop-unit.string ++ x ∷ []) e)
                ∙ plain_text us i h c.loop-unit.high (text c.loop-unit.string) (text c.args.string.now) v.text w.in-None.is a;
          })
    ]

use Rattle.std.proofs.Common.{[], ◌≡◌, ◌∙◌, ap, sym}
use Rattle.text_iregexp.specs.PatternFronts.{letter_front, letters_front}
use Rattle.text_iregexp.proofs.PatternClasses.{letters_init, letters_on, letters_end, letters_none}
use Rattle.text_iregexp.proofs.PatternLexing.{letter_shorter}
use Rattle.text_iregexp.proofs.Reading.{none_left}
use Rattle.text_iregexp.proofs.TokenFronts.{fronts_err}
use Rattle.text_iregexp.proofs.mark.letters.Goals as goal

pub loop-rest-init : goal.loop-rest-init
loop-rest-init c = letters_init c.args.text.now c.new-all.result.items c.new-all.ensures.items

pub returns-in_err-next : goal.returns-in_err-next
returns-in_err-next c = λ n h.
    fronts_err (λ v. v.items) (λ x. x) (letters_front n [] c.args.text.now) (letter_front c.loop-rest.rest.now)
    c.in_err-next.field-0.0 _ c.from_residual.ensures.1 c.in_err-next.ensures (λ l. l)
    (λ none. letters_none _ _ _ c.loop-rest.invariant none n h)

pub returns-then-ends_class : goal.returns-then-ends_class
returns-then-ends_class c = λ n h.
    letters_end _ _ _ _ c.in_ok-next.next c.loop-rest.invariant c.in_ok-next.ensures (sym c.ends_class.ensures ∙ c.if-ends_class.true) n h

pub loop-rest-smaller : goal.loop-rest-smaller
loop-rest-smaller c = letter_shorter _ c.in_ok-next.next _ c.in_ok-next.ensures

pub loop-rest-preserved : goal.loop-rest-preserved
loop-rest-preserved c =
    letters_on _ _ _ _ _ c.in_ok-next.next c.loop-rest.invariant c.in_ok-next.ensures
    (sym c.ends_class.ensures ∙ c.if-ends_class.false) c.in_ok-push.ensures.items

pub returns : goal.returns
returns c = λ n h.
    let none : c.loop-rest.rest.now ≡ [] = none_left _ _ c.is_empty.ensures c.loop-rest-test.false in
    letters_none _ _ _ c.loop-rest.invariant (ap letter_front none) n h

use Rattle.std.proofs.Common.{[], suc, length, arith, Vec, Global}
use Rattle.text_iregexp.specs.declared.letter.Letter.{Letter}
use Rattle.text_iregexp.specs.Fronts.{token_of}
use Rattle.text_iregexp.specs.PatternFronts.{class_front, letters_front}
use Rattle.text_iregexp.proofs.PatternClasses.{class_no_letters, items_err, class_no_items, class_read}
use Rattle.text_iregexp.proofs.TokenFronts.{fronts_err}
use Rattle.text_iregexp.proofs.mark.class.Goals as goal

pub returns-in_err-letters : goal.returns-in_err-letters
returns-in_err-letters c =
    let inner = c.caret-negated.result.1.now in
    fronts_err token_of (λ (v : Vec Letter Global). v.items) (class_front c.args.text.now) (letters_front (suc (length inner)) [] inner)
    c.in_err-letters.field-0.0 _ c.from_residual.ensures.1 (c.in_err-letters.ensures (suc (length inner)) (omega arith)) (λ l. l)
    (class_no_letters c.args.text.now _ inner c.caret-negated.ensures.negated c.caret-negated.ensures.rest)

pub returns-in_err-items : goal.returns-in_err-items
returns-in_err-items c =
    let inner = c.caret-negated.result.1.now in
    items_err token_of c.as_slice.result.now (class_front c.args.text.now) c.in_err-items.field-0.0 _ c.from_residual-in_err-items.ensures.1
    c.in_err-items.ensures
    (class_no_items c.args.text.now c.caret-negated.result.0 inner c.in_ok-letters.letters.items c.in_ok-letters.rest.now
    c.caret-negated.ensures.negated c.caret-negated.ensures.rest (c.in_ok-letters.ensures (suc (length inner)) (omega arith))
    c.as_slice.ensures.value)

pub returns : goal.returns
returns c =
    let inner = c.caret-negated.result.1.now in
    class_read c.args.text.now c.caret-negated.result.0 inner c.in_ok-letters.letters.items c.in_ok-letters.rest.now
    c.as_slice.result.now _ c.caret-negated.ensures.negated c.caret-negated.ensures.rest
    (c.in_ok-letters.ensures (suc (length inner)) (omega arith)) c.as_slice.ensures.value c.in_ok-items.ensures

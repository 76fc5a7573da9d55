use Rattle.std.proofs.Common.{◌≡◌, option_map, sym, ap, ◌∙◌, subst, true≢false}
use Rattle.std.specs.Prelude.{IsSome}
use Rattle.std.specs.Result.{result_ok}
use Rattle.std.specs.Str.{IsUtf8}
use Rattle.tinyjson_number.specs.Text.{decimal_text}
use Rattle.tinyjson_cells.proofs.Stored.{number_utf8, read_back}
use Rattle.tinyjson_cells.proofs.store.Store.short_number.Goals as goal

pub returns-in_err-text : goal.returns-in_err-text
returns-in_err-text c = λ d h.
    absurd (true≢false (sym (subst IsSome c.in_err-text.was (c.text.ensures.some (subst IsUtf8 (sym h.text) (number_utf8 d h.canonical))))))

pub returns-in-Ok : goal.returns-in-Ok
returns-in-Ok c = λ d h.
    let text : c.in_ok-text.text.now ≡ decimal_text d = c.in_ok-text.ensures.bytes ∙ h.text in
    ap (λ r. option_map (λ n. n.decimal) (result_ok r)) (sym c.in-Ok.is)
    ∙ read_back d c.in_ok-text.text.now c.from_text.result h.canonical text c.from_text.ensures.reads c.from_text.ensures.short h.few

pub returns-in-Err : goal.returns-in-Err
returns-in-Err c = λ d h.
    let text : c.in_ok-text.text.now ≡ decimal_text d = c.in_ok-text.ensures.bytes ∙ h.text in
    ap (λ r. option_map (λ n. n.decimal) (result_ok r)) (sym c.in-Err.is)
    ∙ read_back d c.in_ok-text.text.now c.from_text.result h.canonical text c.from_text.ensures.reads c.from_text.ensures.short h.few

use Rattle.std.proofs.Common.{◌≡◌, ◌≤◌, ◌∙◌, ◌==◌, ℕ, Bool, List, ap, sym, arith, length, take, drop}
use Rattle.std.proofs.Math.ListN.{drop_of_length-le}
use Rattle.std.proofs.lemmas.Bool.{and_left, and_right}
use Rattle.text_formats.specs.Date.{is_date, is_time_after, is_last_day}
use Rattle.text_formats.specs.Form.{two}
use Rattle.text_formats.proofs.date.is_date_time.Goals as goal

abbrev is_rest : List ℕ → List ℕ → Bool
is_rest text rest = is_time_after (two 8 (take 10 text) == 1) (is_last_day (take 10 text)) rest

pub returns-then-bytes-lt10 : goal.returns-then-bytes-lt10
returns-then-bytes-lt10 c =
    let text = c.args.text.now in
    let short : length text ≤ 10 = omega (arith, ap length c.as_bytes-bytes.ensures.value) in
    sym (and_right (is_date (take 10 text)) _ (ap (is_rest text) (drop_of_length-le text short)))

pub returns-else-is_full_date : goal.returns-else-is_full_date
returns-else-is_full_date c =
    let text = c.args.text.now in
    let front : c.split_at.result.0.now ≡ take 10 text = c.split_at.ensures.front ∙ ap (take 10) c.as_bytes-bytes.ensures.value in
    let none = sym (ap is_date front) ∙ (sym c.is_full_date.ensures ∙ c.if-is_full_date.false) in
    c.if-is_full_date.false ∙ sym (and_left (is_date (take 10 text)) (is_rest text (drop 10 text)) none)

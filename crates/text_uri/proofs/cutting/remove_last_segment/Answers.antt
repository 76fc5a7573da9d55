use Rattle.std.proofs.Common.{◌∙◌, ap, sym, arith, unwrap_or, string_bytes, ℕ, List, take}
use Rattle.std.proofs.lemmas.Str.Pattern.{rfind_char}
use Rattle.text_uri.proofs.Slashes.{removed}
use Rattle.text_uri.specs.Letters.{before_last_slash}
use Rattle.text_uri.proofs.cutting.remove_last_segment.Goals as goal

pub returns : goal.returns
returns c =
    let bs = c.as_str.result.now in
    let same = c.as_str.ensures.value in
    let found = rfind_char 47 bs c.rfind.result c.rfind.ensures.cases (omega arith) in
    c.truncate.ensures.bytes ∙ (ap (λ n. take n (string_bytes c.args.text.now)) c.unwrap_or-at.ensures
    ∙ (ap (λ (xs : List ℕ). take (unwrap_or c.rfind.result 0) xs) (sym same)
    ∙ (removed bs c.rfind.result found ∙ ap before_last_slash same)))

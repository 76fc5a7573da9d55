use Rattle.std.proofs.Common.{◌∙◌, ap, bytes_eq}
use Rattle.std.proofs.lemmas.Str.{IsUtf8-string_bytes}
use Rattle.tinyjson_normal.proofs.Comparing.{compared}
use Rattle.tinyjson_normal.proofs.normal.NormalText.is_written.Goals as goal

pub returns-in-Ok : goal.returns-in-Ok
returns-in-Ok c = λ t h.
    compared _ _ c.args.text.now _ (IsUtf8-string_bytes c.in-Ok.written) c.utf8.text
    (c.eq.ensures ∙ ap (λ z. bytes_eq z c.args.text.now) c.as_str.ensures.value) (c.in-Ok.ensures t h)

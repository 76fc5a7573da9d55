use Rattle.std.proofs.Common.{◌++◌, sym, ap, ◌∙◌}
use Rattle.std.proofs.lemmas.Str.{encodes-chars}
use Rattle.std.specs.Str.{encode_utf8_all}
use Rattle.tinyjson.proofs.Callers.{IsUtf8-string_bytes}
use Rattle.tinyjson_c.proofs.select.push_path.Goals as goal

pub returns : goal.returns
returns c =
    c.in_ok-extend_from_slice.ensures.items
    ∙ ap (λ bytes. c.args.written.now.items ++ bytes)
    (c.as_bytes.ensures.value ∙ (sym (encodes-chars _ (IsUtf8-string_bytes c.in_ok-path.path)) ∙ ap encode_utf8_all c.in_ok-path.ensures))

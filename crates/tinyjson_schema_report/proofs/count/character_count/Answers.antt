use Rattle.std.proofs.Common.{◌∙◌, chars, length, sym, ap}
use Rattle.std.proofs.lemmas.Str.{Chars-Drains, encodes-chars}
use Rattle.tinyjson_schema_report.proofs.count.character_count.Goals as goal

pub returns : goal.returns
returns c =
    let bs = c.args.text.now in
    let ran = c.count.ensures.ran in
    ran.2 ∙ ap length (Chars-Drains (chars bs) ran.0 c.chars.result (encodes-chars bs c.utf8.text ∙ sym c.chars.ensures.rest) ran.1)

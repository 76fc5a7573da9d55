use Rattle.std.proofs.Common.{None, ap, chars, length, string_bytes, subst, sym, ◌∙◌}
use Rattle.std.proofs.lemmas.Str.{IsUtf8-string_bytes, encodes-chars}
use Rattle.tinyjson_cli.specs.Texts.{Answers}
use Rattle.tinyjson_cli.specs.Values.{GivesOfText}
use Rattle.tinyjson_cli.proofs.Valuing.{no_limit}
use Rattle.tinyjson_cli.proofs.values.Values.answer_owned.Goals as goal

pub returns-clause-answer : goal.returns-clause-answer
returns-clause-answer g c =
    let text = string_bytes c.args.text in
    subst (λ limit. Answers (GivesOfText (g.T.ValueTool.gives c.args.self.now.tool) limit (chars text))
    (g.W.Write.contents c.args.output.now) (g.W.Write.contents c.answer_read.new.output) c.answer_read.result)
    (sym (no_limit c.args.self.now.depth_limit c.is_some.result c.is_some.ensures c.if-is_some.false))
    (c.answer_read.ensures None (chars text) c.of_text-read.ensures
    (c.len-len.ensures ∙ (c.args.text.bytes.ok.0 ∙ ap length (sym (encodes-chars text (IsUtf8-string_bytes c.args.text))))))

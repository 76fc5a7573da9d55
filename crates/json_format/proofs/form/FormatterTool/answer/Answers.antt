use Rattle.std.proofs.Common.{option_map, subst}
use Rattle.std.specs.Str.{chars}
use Rattle.tinyjson_cli.specs.Tools.{Answered}
use Rattle.json_format.specs.Form.{Formats}
use Rattle.json_format.proofs.form.FormatterTool.answer.Goals as goal

pub returns : goal.returns
returns g c =
    let a = c.args.self.now in
    subst (λ bs. Answered (Formats a (option_map (λ f. f.now) c.args.input.file) (chars bs)) a (g.W.Write.contents c.args.output.now)
    (g.W.Write.contents c.answer_text.new.output) c.answer_text.result) c.as_str.ensures c.answer_text.ensures

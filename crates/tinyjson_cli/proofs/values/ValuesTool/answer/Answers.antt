use Rattle.std.proofs.Common.{ap, chars, string_bytes}
use Rattle.tinyjson_cli.specs.Tools.{text_bytes}
use Rattle.tinyjson_cli.specs.Values.{GivesOfText}
use Rattle.tinyjson_cli.proofs.Valuing.{of_input}
use Rattle.tinyjson_cli.proofs.values.ValuesTool.answer.Goals as goal

pub returns-in-Owned : goal.returns-in-Owned
returns-in-Owned g c =
    of_input (GivesOfText (g.T.ValueTool.gives c.args.self.now.tool) c.args.self.now.depth_limit)
    (chars (string_bytes c.in-Owned.text)) c.args.self.now c.answer_owned.new.self c.answer_owned.ensures.same _ _
    (chars (text_bytes c.args.input.text)) c.answer_owned.result c.done.result (ap (λ x. chars (text_bytes x)) c.in-Owned.is)
    c.done.ensures (rw c.in-Owned.text-is at c.answer_owned.ensures.answer)

pub returns-in-Lent : goal.returns-in-Lent
returns-in-Lent g c =
    of_input (GivesOfText (g.T.ValueTool.gives c.args.self.now.tool) c.args.self.now.depth_limit)
    (chars c.in-Lent.text.now) c.args.self.now c.answer_lent.new.self c.answer_lent.ensures.same _ _
    (chars (text_bytes c.args.input.text)) c.answer_lent.result c.done-in-Lent.result (ap (λ x. chars (text_bytes x)) c.in-Lent.is)
    c.done-in-Lent.ensures c.answer_lent.ensures.answer

use Rattle.std.proofs.Common.{ap, chars, length, sym}
use Rattle.std.proofs.lemmas.Str.{encodes-chars}
use Rattle.tinyjson_cli.proofs.values.Values.answer_lent.Goals as goal

pub returns-in-Ok-clause-answer : goal.returns-in-Ok-clause-answer
returns-in-Ok-clause-answer g c =
    c.answer_read-answered.ensures c.args.self.now.depth_limit (chars c.args.text.now) c.read-read.ensures
    (ap length (sym (encodes-chars c.args.text.now c.utf8.text)))

pub returns-in_default-clause-answer : goal.returns-in_default-clause-answer
returns-in_default-clause-answer g c =
    c.answer_read-answered.ensures c.args.self.now.depth_limit (chars c.args.text.now) c.read-read.ensures
    (ap length (sym (encodes-chars c.args.text.now c.utf8.text)))

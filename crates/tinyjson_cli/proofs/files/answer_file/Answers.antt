use Rattle.std.proofs.Common.{option_map}
use Rattle.tinyjson_cli.proofs.Finishing.{finished}
use Rattle.tinyjson_cli.proofs.files.answer_file.Goals as goal

pub returns : goal.returns
returns g c = λ empty.
    finished g.T.Tool.gives c.args.tool.now c.answer-answered.new.self (option_map (λ s. s.now) c.args.file) _ _ _ _ _
    c.finish.ensures.kept c.answer-answered.result c.finish.result c.answer-answered.ensures c.finish.ensures.ended

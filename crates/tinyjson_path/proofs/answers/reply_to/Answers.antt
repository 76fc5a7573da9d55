use Rattle.std.proofs.Common.{◌∙◌}
use Rattle.tinyjson_path.specs.Answers.{due, reply_view}
use Rattle.tinyjson_path.specs.declared.answers.Answer.{Answer}
use Rattle.tinyjson_path.proofs.Sameness.{at_one}
use Rattle.tinyjson_path.proofs.answers.reply_to.Goals as goal

pub returns-then-is_question_same : goal.returns-then-is_question_same
returns-then-is_question_same c = λ root known.
    at_one (λ (x : Answer). reply_view x.reply) (λ (x : Answer). due root x.question) c.args.answers.now c.place-place.result
    c.index-answers-place.result known c.if-place-answers.true c.index-answers-place.is
    ∙ c.is_question_same.ensures root c.if-is_question_same.true

use Rattle.std.proofs.Common.{subst, sym}
use Rattle.tinyjson_path.specs.Answers.{AreKnown, due, reply_view}
use Rattle.tinyjson_path.specs.declared.answers.Answer.{Answer}
use Rattle.tinyjson_path.proofs.Sameness.{same_insert}
use Rattle.tinyjson_path.proofs.answers.keep.Goals as goal

pub returns : goal.returns
returns c = λ root known given.
    subst (AreKnown root) (sym c.in_ok-insert.ensures.items)
    (same_insert (λ (x : Answer). reply_view x.reply) (λ (x : Answer). due root x.question) c.args.answers.now.items
    c.place-place.result _ known given)

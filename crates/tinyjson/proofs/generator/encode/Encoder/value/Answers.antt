use Rattle.std.proofs.Common.{append-nil, reverse}
use Rattle.std.proofs.lemmas.Result.{MatchResult-from_err}
use Rattle.tinyjson_output.proofs.Callers.{sent_ends as ends}
use Rattle.tinyjson.proofs.generator.encode.Encoder.value.Goals as goal

pub returns-in_err-begin : goal.returns-in_err-begin
returns-in_err-begin g c = MatchResult-from_err _ _ _ c.from_residual.ensures.0 (λ _. c.in_err-begin.ensures.sent 0)

pub returns-in-None : goal.returns-in-None
returns-in-None g c = let done = rw c.in-None.is at (c.in_ok-begin.ensures.sent 0) in done.written

pub returns-in-Some : goal.returns-in-Some
returns-in-Some g c =
    let gs = reverse c.begin.new.self.gathered.items in
    let o = rw c.in-Some.is at (c.in_ok-begin.ensures.sent 0) in
    ends _ _ _ _ _ _ (rw c.in_ok-begin.ensures.indent at c.finish.ensures) (rw append-nil o.written)

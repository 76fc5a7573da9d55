use Rattle.std.proofs.lemmas.Result.{MatchResult-from_err}
use Rattle.tinyjson.specs.Indent.{indent_of}
use Rattle.tinyjson_grammar.specs.Text.{text}
use Rattle.tinyjson.specs.View.{view}
use Rattle.tinyjson_output.proofs.Callers.{sent_begins as begins, sent_goes as goes, sent_stops as stops, enc}
use Rattle.tinyjson.proofs.Writing.Containers.{begins_after}
use Rattle.tinyjson.proofs.generator.encode.Encoder.item.Goals as goal

pub returns-in_err-separate-clause-sent : goal.returns-in_err-separate-clause-sent
returns-in_err-separate-clause-sent g c = MatchResult-from_err _ _ _ c.from_residual.ensures.0
    (λ _. stops _ c.in_err-separate.ensures.sent begins)

pub returns-clause-sent : goal.returns-clause-sent
returns-clause-sent g c =
    let w = indent_of c.args.self.now.indent in
    let piece = enc (text w c.args.level (view c.args.value.now)) in
    begins_after w c.args.level _ _ _ _ piece _ _ _ (goes piece c.in_ok-separate.ensures.sent begins)
    (rw (c.in_ok-separate.ensures.kept.0, c.in_ok-separate.ensures.kept.1) at (c.begin.ensures.sent c.args.level))

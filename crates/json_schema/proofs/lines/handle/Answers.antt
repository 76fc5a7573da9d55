use Rattle.std.proofs.Common.{subst, sym}
use Rattle.std.specs.Result.{result_map_both}
use Rattle.tinyjson.proofs.Callers.{begins}
use Rattle.tinyjson_lines.specs.Within.{IsGiven, IsWithin}
use Rattle.json_schema.specs.Run.{Handles}
use Rattle.tinyjson_schema_report.specs.declared.verdict.Cause.TheVariants.{TooLong}
use Rattle.json_schema.proofs.Handling.{line_refused}
use Rattle.json_schema.proofs.lines.handle.Goals as goal

pub returns-in-Ok : goal.returns-in-Ok
returns-in-Ok g c = λ line given.
    let k = c.args.check in
    let is = subst (λ r. IsGiven k.max_line line (result_map_both (λ s. s.now) (λ m. m) r)) c.in-Ok.is given in
    subst (λ l. Handles k c.args.number l (g.W.Write.contents c.args.output.now) (g.W.Write.contents c.handle_line.new.output)
    (g.E.Write.contents c.args.errors.now) (g.E.Write.contents c.handle_line.new.errors) c.handle_line.result) is.0
    (c.handle_line.ensures (subst (IsWithin k.max_line) (sym is.0) is.1))

pub returns-in-Err : goal.returns-in-Err
returns-in-Err g c = λ line given.
    let k = c.args.check in
    let is = subst (λ r. IsGiven k.max_line line (result_map_both (λ s. s.now) (λ m. m) r)) c.in-Err.is given in
    line_refused k c.args.number line _ _ (TooLong c.in-Err.max) is _ _ _ c.refuse.result begins c.refuse.ensures

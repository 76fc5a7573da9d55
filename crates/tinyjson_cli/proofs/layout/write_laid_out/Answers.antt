use Rattle.std.proofs.Common.{◌≡◌, true, false, [], ◌∷◌}
use Rattle.tinyjson.proofs.Callers.{begins, ends, fails, goes}
use Rattle.tinyjson.specs.View.{view}
use Rattle.tinyjson_cli.proofs.Layouts.{is_compact, is_indented}
use Rattle.tinyjson_cli.proofs.layout.write_laid_out.Goals as goal

pub returns-then-not-is_indented : goal.returns-then-not-is_indented
returns-then-not-is_indented g c =
    let off : c.args.is_indented ≡ false = let t = c.if-not-is_indented.true in cc in
    is_compact (view c.args.value.now) _ _ c.write_line.result c.args.is_indented off c.write_line.ensures

pub returns-in_err-format_to : goal.returns-in_err-format_to
returns-in_err-format_to g c =
    let on : c.args.is_indented ≡ true = let t = c.if-not-is_indented.false in cc in
    is_indented (view c.args.value.now) _ _ c.from_residual.result c.args.is_indented on
    (fails _ (10 ∷ []) c.from_residual.ensures.0 c.in_err-format_to.ensures begins)

pub returns : goal.returns
returns g c =
    let on : c.args.is_indented ≡ true = let t = c.if-not-is_indented.false in cc in
    is_indented (view c.args.value.now) _ _ c.write_all.result c.args.is_indented on
    (ends _ _ _ _ _ c.write_all.result c.write_all.ensures (goes (10 ∷ []) c.in_ok-format_to.ensures begins))

use Rattle.std.proofs.Common.{[], ◌∷◌, subst}
use Rattle.tinyjson.proofs.Callers.{begins, ends, fails, goes}
use Rattle.tinyjson.specs.Written.{Written, WrittenPart}
use Rattle.json_schema.proofs.lines.write_content.Goals as goal

pub returns-in_err-write_all : goal.returns-in_err-write_all
returns-in_err-write_all g c =
    fails _ (10 ∷ []) c.from_residual.ensures.0
    (subst (WrittenPart (g.W.Write.contents c.args.output.now) (g.W.Write.contents c.write_all.new.out)) c.content.ensures
    c.in_err-write_all.ensures) begins

pub returns : goal.returns
returns g c =
    ends _ _ _ _ _ c.write_all-2.result c.write_all-2.ensures
    (goes (10 ∷ [])
    (subst (λ bs. Written (g.W.Write.contents c.args.output.now) (g.W.Write.contents c.write_all.new.out) bs []) c.content.ensures
    c.in_ok-write_all.ensures) begins)

use Rattle.std.proofs.Common.{[], ◌∷◌, ◌++◌, subst, sym, ◌∙◌}
use Rattle.std.proofs.lemmas.Str.{encodes-chars}
use Rattle.tinyjson.proofs.Callers.{begins, ends, fails, goes}
use Rattle.tinyjson.specs.Written.{WritesPrefix}
use Rattle.json_part.proofs.part.write_raw.Goals as goal

pub returns-in_err-write_all : goal.returns-in_err-write_all
returns-in_err-write_all g c =
    subst (λ bs. WritesPrefix (g.W.Write.contents c.args.output.now) (g.W.Write.contents c.write_all.new.out) (bs ++ 10 ∷ [])
    c.from_residual.result) (c.as_bytes.ensures.value ∙ sym (encodes-chars _ c.utf8.characters))
    (fails _ (10 ∷ []) c.from_residual.ensures.0 c.in_err-write_all.ensures begins)

pub returns : goal.returns
returns g c =
    subst (λ bs. WritesPrefix (g.W.Write.contents c.args.output.now) (g.W.Write.contents c.write_all-2.new.out) (bs ++ 10 ∷ [])
    c.write_all-2.result) (c.as_bytes.ensures.value ∙ sym (encodes-chars _ c.utf8.characters))
    (ends _ _ _ _ _ c.write_all-2.result c.write_all-2.ensures (goes (10 ∷ []) c.in_ok-write_all.ensures begins))

use Rattle.std.proofs.Common.{◌∙◌, [], ap, sym, subst, arith}
use Rattle.std.specs.Str.{encode_utf8_all}
use Rattle.tinyjson.proofs.Callers.{written_none}
use Rattle.tinyjson.specs.Text.{separator}
use Rattle.tinyjson.specs.Written.{WritesPrefix}
use Rattle.tinyjson_output.proofs.Callers.{enc_cons}
use Rattle.tinyjson_patch.proofs.edit.text.separate.Goals as goal

pub returns-then-is_first : goal.returns-then-is_first
returns-then-is_first g c = written_none _ _ _ (ap (λ b. encode_utf8_all (separator b)) c.if-is_first.true)

pub returns : goal.returns
returns g c =
    subst (λ bs. WritesPrefix (g.W.Write.contents c.args.output.now) (g.W.Write.contents c.write_all.new.out) bs c.write_all.result)
    (sym (ap (λ b. encode_utf8_all (separator b)) c.if-is_first.false ∙ enc_cons 44 [] (omega arith))) c.write_all.ensures

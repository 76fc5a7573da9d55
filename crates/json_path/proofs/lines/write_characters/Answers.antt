use Rattle.std.proofs.Common.{subst, sym, ◌∙◌}
use Rattle.std.proofs.lemmas.Str.{encodes-chars}
use Rattle.tinyjson.specs.Written.{WritesPrefix}
use Rattle.json_path.proofs.lines.write_characters.Goals as goal

pub returns : goal.returns
returns g c =
    subst (λ bs. WritesPrefix (g.W.Write.contents c.args.output.now) (g.W.Write.contents c.write_all.new.out) bs c.write_all.result)
    (c.as_bytes.ensures.value ∙ sym (encodes-chars _ c.utf8.characters)) c.write_all.ensures

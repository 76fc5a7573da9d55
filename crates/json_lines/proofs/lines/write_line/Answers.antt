use Rattle.std.proofs.Common.{◌∙◌, Err, subst}
use Rattle.std.proofs.KnownBytes.{Keeps-refl}
use Rattle.std.proofs.lemmas.Bool.{false≢true}
use Rattle.std.specs.Str.{IsUtf8, chars}
use Rattle.tinyjson.specs.Events.{TellsText}
use Rattle.tinyjson_normal.specs.Normal.{HasTree}
use Rattle.json_lines.proofs.Fates.{told_refused}
use Rattle.json_lines.specs.Lines.{content}
use Rattle.json_lines.proofs.lines.write_line.Goals as goal

pub returns-else-is_out_of_memory : goal.returns-else-is_out_of_memory
returns-else-is_out_of_memory g c =
    let u = c.in-Ok.ensures.cases in
    let limit = c.args.limit in
    let line = c.args.line.now in
    let e = c.in-Err.error in
    let told = subst (λ z. TellsText HasTree limit (chars z) (Err e)) (u.0 ∙ c.content.ensures) c.in-Err.ensures in
    let refused = told_refused HasTree limit (chars (content line)) e told (λ k. false≢true (c.if-is_out_of_memory.ensures.1 k)) in
    ((subst IsUtf8 c.content.ensures u.1, refused), Keeps-refl _)

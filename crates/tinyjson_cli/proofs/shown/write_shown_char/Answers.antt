use Rattle.std.proofs.Common.{◌≡◌, cond, [], ◌∷◌, encode_utf8_all, sym, ap, ◌∙◌}
use Rattle.tinyjson.proofs.Callers.{code_point_text}
use Rattle.tinyjson.specs.Error.{code_point}
use Rattle.tinyjson_cli.specs.Shown.{shown_char}
use Rattle.tinyjson_cli.proofs.shown.write_shown_char.Goals as goal

pub returns-then-is_hidden : goal.returns-then-is_hidden
returns-then-is_hidden g c =
    let code = c.args.c in
    let laid_out = rw c.laid_out.ensures at c.write.ensures.writes in
    let written = rw (code_point_text _ _ code c.in_radix.ensures) at laid_out in
    let is : shown_char code ≡ code_point code
    = ap (λ b. cond b (code_point code) (encode_utf8_all (code ∷ []))) (sym c.is_hidden.ensures ∙ c.if-is_hidden.true) in
    rw is written

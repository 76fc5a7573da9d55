use Rattle.std.proofs.Common.{◌≡◌, cond, [], ◌∷◌, sym, ap, ◌∙◌}
use Rattle.tinyjson_grammar.proofs.Messages.{code_point_text}
use Rattle.tinyjson_grammar.specs.Message.{shown, code_point}
use Rattle.tinyjson_grammar.proofs.error.ShownDisplay.fmt.Goals as goal

pub returns-else-is_printable-clause-writes : goal.returns-else-is_printable-clause-writes
returns-else-is_printable-clause-writes g c =
    let code = c.args.self.now.0 in
    let laid_out = rw c.laid_out.ensures at c.write-else-is_printable.ensures.writes in
    let written = rw (code_point_text _ _ code c.in_radix.ensures) at laid_out in
    let is : shown code ≡ code_point code = ap (λ b. cond b (code ∷ []) (code_point code)) (sym c.is_printable.ensures
    ∙ c.if-is_printable.false) in
    rw is written

use Rattle.std.proofs.Common.{◌∙◌, ap, append-nil}
use mathlib.Core.Logic.{∥∥₁_elim}
use Rattle.std.specs.Str.{chars}
use Rattle.tinyjson.specs.Indent.{indent_of}
use Rattle.tinyjson.proofs.Callers.{encoded_chars, text_of_scalars, written_all}
use Rattle.tinyjson_grammar.specs.Text.{text}
use Rattle.tinyjson_output.proofs.Callers.{enc}
use Rattle.tinyjson_document.specs.Document.{tree}
use Rattle.tinyjson_document.proofs.Had.{Codes_set}
use Rattle.tinyjson_document.proofs.node.Node.written.Goals as goal

pub returns-in-Ok-from_utf8 : goal.returns-in-Ok-from_utf8
returns-in-Ok-from_utf8 c =
    let w = indent_of c.args.indent in
    let t = tree c.args.self.now in
    let all = written_all _ (enc (text w 0 t)) (rw append-nil at (rw c.new-bytes.ensures.items at c.in-Ok.ensures)) in
    ap (λ v. chars v.items) c.in-Ok-from_utf8.ensures.ok ∙ ap chars all
    ∙ ∥∥₁_elim c.args.self.now.known.sound (Codes_set _ _) (λ g. encoded_chars (text w 0 t) (text_of_scalars w c.requires 0 t g))

use Rattle.std.proofs.Common.{◌∙◌, ap, append-nil}
use Rattle.std.specs.Str.{chars}
use Rattle.tinyjson.specs.Indent.{indent_of}
use Rattle.tinyjson.proofs.Callers.{encoded_chars, written_all}
use Rattle.tinyjson_grammar.specs.Text.{text}
use Rattle.tinyjson_output.proofs.Callers.{enc}
use Rattle.tinyjson_normal.proofs.Scalars.{kept_scalars}
use Rattle.tinyjson_normal.proofs.normal.NormalText.written.Goals as goal

pub returns-in-Ok-from_utf8 : goal.returns-in-Ok-from_utf8
returns-in-Ok-from_utf8 c = λ t h.
    let w = indent_of c.args.indent in
    let all = written_all _ (enc (text w 0 t)) (rw append-nil at (rw c.new-bytes.ensures.items at (c.in-Ok.ensures t h))) in
    ap (λ v. chars v.items) c.in-Ok-from_utf8.ensures.ok ∙ ap chars all
    ∙ encoded_chars (text w 0 t) (kept_scalars w c.requires c.args.self.now.content t h)

use Rattle.std.proofs.Common.{sym, ◌∙◌, ap, subst}
use Rattle.std.specs.Str.{IsUtf8, chars}
use Rattle.tinyjson.specs.Indent.{indent_of}
use Rattle.tinyjson_grammar.specs.Text.{text}
use Rattle.tinyjson.specs.View.{view}
use Rattle.tinyjson.proofs.Values.Trees.{view_IsTree}
use Rattle.tinyjson.proofs.Writing.Scalars.{text_of_scalars, encoded_utf8, encoded_chars}
use Rattle.tinyjson_output.proofs.Callers.{enc, written_all}
use Rattle.tinyjson.proofs.generator.written.Goals as goal

pub unreachable-requires : goal.unreachable-requires
unreachable-requires c =
    let w = indent_of c.args.indent in
    let t = view c.args.value.now in
    let all = written_all _ (enc (text w 0 t)) (rw c.new-bytes.ensures.items at c.in-Ok.ensures) in
    let fits = c.in-Err.ensures.succeeds (subst IsUtf8 (sym all) (encoded_utf8 (text w 0 t)
    (text_of_scalars w c.requires 0 t (view_IsTree c.args.value.now)))) in
    cc

pub returns : goal.returns
returns c =
    let w = indent_of c.args.indent in
    let t = view c.args.value.now in
    let all = written_all _ (enc (text w 0 t)) (rw c.new-bytes.ensures.items at c.in-Ok.ensures) in
    ap (λ v. chars v.items) c.in-Ok-from_utf8.ensures.ok ∙ ap chars all
    ∙ encoded_chars (text w 0 t) (text_of_scalars w c.requires 0 t (view_IsTree c.args.value.now))

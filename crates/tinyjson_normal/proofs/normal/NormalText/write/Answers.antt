use Rattle.std.proofs.Common.{◌++◌, sym, ap, subst, ◌∙◌}
use Rattle.tinyjson.specs.Indent.{indent_of}
use Rattle.tinyjson_grammar.specs.Text.{text}
use Rattle.tinyjson_output.proofs.Callers.{enc}
use Rattle.tinyjson_output.specs.Written.{WritesPrefix}
use Rattle.tinyjson_normal.specs.Normal.{IsKept}
use Rattle.tinyjson_normal.proofs.normal.NormalText.write.Goals as goal

pub returns-in-Text-None : goal.returns-in-Text-None
returns-in-Text-None g c = λ t h.
    let k = subst (λ z. IsKept z t) c.in-Text-None.is-0 h in
    subst (λ z. WritesPrefix (g.W.Write.contents c.args.out.now) (g.W.Write.contents c.write_both.new.out)
    (z ++ c.args.behind.now) c.write_both.result)
    (c.deref.ensures.value ∙ k.0 ∙ ap (λ z. enc (text (indent_of z) 0 t)) (sym c.in-Text-None.is-1)) c.write_both.ensures

pub returns-in-Text-Some : goal.returns-in-Text-Some
returns-in-Text-Some g c = λ t h.
    let k = subst (λ z. IsKept z t) c.in-Text-Some.is-0 h in
    c.write_indented.ensures t (c.deref-in-Text-Some.ensures.value ∙ k.0) k.1

pub returns-in-Arena-default : goal.returns-in-Arena-default
returns-in-Arena-default g c = λ t h. c.write_to.ensures t (subst (λ z. IsKept z t) c.in-Arena-default.is-0 h)

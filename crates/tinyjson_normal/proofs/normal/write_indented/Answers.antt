use Rattle.std.proofs.Common.{◌++◌, None, refl, subst}
use Rattle.std.specs.Str.{chars}
use Rattle.tinyjson.specs.Indent.{indent_of}
use Rattle.tinyjson_grammar.specs.Grammar.{IsText}
use Rattle.tinyjson_grammar.specs.Text.{text}
use Rattle.tinyjson_output.proofs.Callers.{enc, written_none}
use Rattle.tinyjson_output.specs.Written.{WritesPrefix}
use Rattle.tinyjson_normal.proofs.Compacting.{read_again}
use Rattle.tinyjson_normal.proofs.normal.write_indented.Goals as goal

pub returns-in-Ok-read_events : goal.returns-in-Ok-read_events
returns-in-Ok-read_events g c = λ t e k.
    let u = c.in-Ok-read_events.ensures.tells.answer in
    subst (λ z. WritesPrefix (g.W.Write.contents c.args.out.now) (g.W.Write.contents c.write_to.new.out)
    (enc (text (indent_of c.args.indent) 0 z) ++ c.args.behind.now) c.write_to.result)
    (read_again c.args.bytes.now t u.1 c.in-Ok.ensures.cases.1 e k
    (subst (λ z. IsText None (chars z) u.1) c.in-Ok.ensures.cases.0 u.2)) (c.write_to.ensures u.1 u.3.0)

pub returns-in_default : goal.returns-in_default
returns-in_default g c =
    λ t e k. record { rest = enc (text (indent_of c.args.indent) 0 t) ++ c.args.behind.now; written = written_none _ _ _ refl }

pub returns : goal.returns
returns g c = λ t e k. record { rest = enc (text (indent_of c.args.indent) 0 t) ++ c.args.behind.now; written = written_none _ _ _ refl }

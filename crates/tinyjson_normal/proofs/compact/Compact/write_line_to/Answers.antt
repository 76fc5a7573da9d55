use Rattle.std.proofs.Common.{◌++◌, ◌∷◌, [], subst}
use Rattle.tinyjson_grammar.specs.Text.{compact}
use Rattle.tinyjson_output.proofs.Callers.{enc}
use Rattle.tinyjson_output.specs.Written.{WritesPrefix}
use Rattle.tinyjson_normal.proofs.compact.Compact.write_line_to.Goals as goal

pub returns : goal.returns
returns g c = λ t h.
    subst (λ z. WritesPrefix (g.W.Write.contents c.args.out.now) (g.W.Write.contents c.write_with_line_feed.new.out)
    (z ++ 10 ∷ []) c.write_with_line_feed.result)
    (c.cut_comma.ensures (enc (compact t)) h) c.write_with_line_feed.ensures.line

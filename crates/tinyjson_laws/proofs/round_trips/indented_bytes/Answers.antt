use Rattle.std.proofs.Common.{ap, ◌∙◌}
use Rattle.tinyjson.proofs.Callers.{written_all}
use Rattle.tinyjson_laws.proofs.round_trips.indented_bytes.Goals as goal

pub returns : goal.returns
unfolding Rattle.std.specs.Str.chars
returns c =
    let start = ap (λ v. v.items) (c.indent-generator.ensures.out ∙ c.new-2.ensures.out) ∙ c.new.ensures.items in
    let all = written_all _ _ (rw start at (rw c.indent-generator.ensures.indent at c.in_ok-generate.ensures.written)) in
    ap (λ v. v.items) c.into_inner.ensures ∙ all

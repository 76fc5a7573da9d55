use Rattle.std.proofs.Common.{◌≡◌, ◌≤◌, ◌∙◌, true, string_bytes, arith, sym, subst}
use Rattle.tinyjson_schema.specs.Settled.{ends}
use Rattle.tinyjson_schema.proofs.Remembering.{ends_more, had_end}
use Rattle.tinyjson_schema.proofs.settled.Settled.knows.Goals as goal

pub returns-clause-is : goal.returns-clause-is
returns-clause-is c = λ _ root right.
    let f = c.in-Some-get.found.now in
    let l = c.in-Some-get.ensures.lookup in
    let few : f.steps ≤ c.args.steps = omega (arith, c.if-found-steps.false) in
    let same : string_bytes f.fragment ≡ c.args.fragment.now
    = sym c.as_bytes.ensures.value ∙ (c.if-not-are_equal.ensures ∙ c.as_bytes-else-found-steps.ensures.value) in
    subst (λ bs. ends root c.args.steps bs ≡ true) same (ends_more root f.steps c.args.steps (string_bytes f.fragment) few
    (had_end root c.args.self.now.found.items c.deref.result.now c.in-Some.place f c.deref.ensures.value l.3.0 l.1 right))

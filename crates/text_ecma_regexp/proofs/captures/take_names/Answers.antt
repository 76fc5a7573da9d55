use Rattle.std.proofs.Common.{◌≡◌, ◌∙◌, ◌++◌, ◌∷◌, take, length-set, ap, arith}
use Rattle.text_ecma_regexp.specs.Regex.{captures, names}
use Rattle.text_ecma_regexp.specs.Scan.{texts}
use Rattle.text_ecma_regexp.proofs.CaptureNames.{names_some, names_pushed, names_many}
use Rattle.text_ecma_regexp.proofs.captures.take_names.Goals as goal

pub returns-then-named-eq-MOST-clause-value : goal.returns-then-named-eq-MOST-clause-value
returns-then-named-eq-MOST-clause-value c =
    let i = c.loop-more.invariant in
    let first : captures c.loop-more.rest.now ≡ c.in-Some.more.now ∷ captures c.in-Some.more.now = search in
    let more = names_some c.loop-more.rest.now c.in-Some.more.now c.in-Some-capture_name.name.now first search in
    names_many c.loop-more.taken c.in-Some-capture_name.name.now (names (captures c.args.text.now)) (names (captures c.in-Some.more.now))
    (omega (arith, i.1.1)) (i.0 ∙ (ap (λ ns. texts (take c.loop-more.named c.loop-more.taken) ++ ns) more
    ∙ ap (λ n. texts (take n c.loop-more.taken) ++ (c.in-Some-capture_name.name.now ∷ names (captures c.in-Some.more.now)))
    c.if-named-eq-MOST.true))

pub loop-more-preserved-else-named-eq-MOST : goal.loop-more-preserved-else-named-eq-MOST
loop-more-preserved-else-named-eq-MOST c =
    let i = c.loop-more.invariant in
    let first : captures c.loop-more.rest.now ≡ c.in-Some.more.now ∷ captures c.in-Some.more.now = search in
    let more = names_some c.loop-more.rest.now c.in-Some.more.now c.in-Some-capture_name.name.now first search in (
      names_pushed c.loop-more.taken c.loop-more.named c.in-Some-capture_name.name (names (captures c.args.text.now))
          (names (captures c.in-Some.more.now)) (omega (arith, i.1))
          (i.0 ∙ ap (λ ns. texts (take c.loop-more.named c.loop-more.taken) ++ ns) more),
      (omega (arith, i.1), length-set c.loop-more.taken c.loop-more.named c.in-Some-capture_name.name ∙ i.1.1),
    )

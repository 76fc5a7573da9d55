use Rattle.std.proofs.Common.{◌≡◌, ◌<◌, length, ap, arith, rules, string_bytes}
use Rattle.std.proofs.lemmas.Bool.Decides.{nat_tests}
use Rattle.text_uri.proofs.Steps.{leads_first, leads_on, leads_last, step_falls}
use Rattle.text_uri.proofs.dots.without_dots.Goals as goal

pub loop-input-init : goal.loop-input-init
loop-input-init c = (c.utf8.path, leads_first c.args.path.now (string_bytes c.new-output.result) c.new-output.ensures.bytes)

pub loop-input-smaller : goal.loop-input-smaller
loop-input-smaller c =
    let some : 0 < length c.loop-input.input.now = grind (arith, nat_tests) in
    omega (arith, ap length c.in_ok-input.ensures.input, step_falls (string_bytes c.loop-input.output) c.loop-input.input.now some)

pub loop-input-preserved : goal.loop-input-preserved
loop-input-preserved c =
    let some : 0 < length c.loop-input.input.now = grind (arith, nat_tests) in
    let next = leads_on c.args.path.now (string_bytes c.loop-input.output) c.loop-input.input.now (string_bytes c.step.new.output)
    c.in_ok-input.input.now some c.in_ok-input.ensures.output c.in_ok-input.ensures.input c.loop-input.invariant.1 in
    (search rules, next)

pub returns : goal.returns
returns c =
    let none : length c.loop-input.input.now ≡ 0 = grind (arith, nat_tests) in
    leads_last c.args.path.now (string_bytes c.loop-input.output) c.loop-input.input.now none c.loop-input.invariant.1

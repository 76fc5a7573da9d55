use Rattle.std.proofs.Common.{◌∙◌, ap, arith}
use Rattle.std.specs.Option.{unwrap_or}
use Rattle.text_regexp.proofs.Automata.{step_kept}
use Rattle.text_regexp.proofs.automaton.Automaton.step.Goals as goal

pub returns-then-known-gt0-clause-next : goal.returns-then-known-gt0-clause-next
returns-then-known-gt0-clause-next c =
    let x = c.args.self.now in
    step_kept x.expression.root x.states.items x.steps.items c.deref.result.now c.args.row c.args.c c.unwrap_or-known.result x.known
    c.deref.ensures.value (omega (arith, c.if-at-ge-ASCII.false)) (omega (arith, c.if-known-gt0.true))
    (c.unwrap_or-known.ensures ∙ (ap (λ o. unwrap_or o 0) c.copied.ensures ∙ c.get.ensures.lookup.4 (omega arith) 0))

use Rattle.std.proofs.Common.{refl}
use Rattle.text_regexp.proofs.Automata.{state_had, verdict_had}
use Rattle.text_regexp.proofs.automaton.Automaton.verdict.Goals as goal

pub returns : goal.returns
returns c =
    let x = c.args.self.now in
    let s = c.in_ok-get.field-0.now in
    let place = c.in_ok-checked_sub.field-0 in
    let l = c.in_ok-get.ensures.lookup in
    verdict_had x.expression.root x.states.items c.args.row place s c.in_ok-checked_sub.ensures.0 c.in_ok-checked_sub.ensures.1
    (state_had x.states.items c.deref.result.now place s c.deref.ensures.value l.3.0 l.1) x.expression.kept x.right c.requires.plain
    s.verdict refl

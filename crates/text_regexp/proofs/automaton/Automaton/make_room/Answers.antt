use Rattle.text_regexp.proofs.Automata.{knows_room}
use Rattle.text_regexp.proofs.automaton.Automaton.make_room.Goals as goal

pub invariant_of-self : goal.invariant_of-self
invariant_of-self c =
    let x = c.args.self.now in record {
      few = x.few;
      right = x.right;
      known = knows_room _ x.expression.root x.states.items x.steps.items _ 128 x.known c.extend_from_slice.ensures.items;
    }

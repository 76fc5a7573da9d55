use Rattle.text_regexp.proofs.Automata.{knows_step}
use Rattle.text_regexp.proofs.automaton.Automaton.put.Goals as goal

pub invariant_of-self : goal.invariant_of-self
invariant_of-self c =
    let x = c.args.self.now in
    record {
      few = x.few;
      right = x.right;
      known = knows_step x.expression.root x.states.items x.steps.items c.args.row c.args.c c.args.next x.known c.requires.row c.requires.ascii
          c.requires.next.1 c.requires.reads;
    }

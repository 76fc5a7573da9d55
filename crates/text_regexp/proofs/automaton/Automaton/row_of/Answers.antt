use Rattle.text_regexp.proofs.Automata.{row_found}
use Rattle.text_regexp.proofs.automaton.Automaton.row_of.Goals as goal

pub returns-in-Some-clause-next : goal.returns-in-Some-clause-next
returns-in-Some-clause-next c =
    row_found c.args.self.now.expression.root c.args.self.now.states.items c.in-Some.place c.args.state c.in-Some.ensures

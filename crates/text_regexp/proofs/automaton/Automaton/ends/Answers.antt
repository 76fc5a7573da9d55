use Rattle.std.proofs.Common.{◌∙◌, ap, arith, length}
use Rattle.text_regexp.proofs.Automata.{ends_start}
use Rattle.text_regexp.proofs.automaton.Automaton.ends.Goals as goal

pub returns-in_default : goal.returns-in_default
returns-in_default c =
    let x = c.args.self.now in
    c.skips.ensures ∙ ends_start x.expression.root x.states.items c.args.row x.expression.kept x.expression.unmarked c.in_default.ensures

pub returns-in-None : goal.returns-in-None
returns-in-None c = absurd (omega (arith, c.in-None.ensures.lookup, ap length c.deref.ensures.value, c.in-Some.ensures, c.requires))

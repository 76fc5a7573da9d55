use Rattle.std.proofs.Common.{rules, subst, sym}
use Rattle.tinyjson.proofs.parser.events.BoxEvents.number_text.Goals as goal

pub returns : goal.returns
returns g c = λ start os n e l h.
    let put = c.number_text.ensures start.value os n e l (subst (λ b. g.E.Events.holds start.value b os) (sym c.deref_mut.ensures.value) h) in
    search rules

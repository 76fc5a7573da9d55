use Rattle.std.proofs.Common.{◌∷◌, ◌∙◌, sym, subst}
use Rattle.tinyjson_grammar.specs.Machine.{at_key}
use Rattle.tinyjson.specs.declared.parser.nest.Awaited.TheVariants.{Key}
use Rattle.tinyjson.proofs.Reading.Building.{renewed}
use Rattle.tinyjson.proofs.parser.nest.Nest.await_key.Goals as goal

pub returns : goal.returns
returns g c = λ start ms fs h.
    let w = c.set_innermost.ensures in
    renewed (g.E.Events.holds start) c.args.self.now c.set_innermost.new.self Key (at_key ms) fs
    (subst (λ b. g.E.Events.holds start b (at_key ms ∷ fs)) (sym w.events) h.0) h.1 (w.stopped ∙ h.2) w.awaited (λ os k. k)

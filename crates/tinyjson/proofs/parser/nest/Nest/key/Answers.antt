use Rattle.std.proofs.Common.{◌≡◌, ◌∷◌, ◌∙◌, List, OnOk, ap, sym, subst}
use Rattle.tinyjson_grammar.specs.Machine.{at_value}
use Rattle.std.specs.Str.{chars}
use Rattle.tinyjson.specs.declared.parser.nest.Awaited.TheVariants.{Value}
use Rattle.tinyjson.specs.private.Building.{awaited_of}
use Rattle.tinyjson.specs.declared.parser.nest.Awaited.{Awaited}
use Rattle.tinyjson.specs.declared.parser.nest.Nest.{Nest}
use Rattle.tinyjson.proofs.Reading.Building.{renewed}
use Rattle.tinyjson.proofs.parser.nest.Nest.key.Goals as goal

pub returns-clause-opens : goal.returns-clause-opens
returns-clause-opens g c = λ start ms fs h.
    let w = c.set_innermost.ensures in
    let k = chars c.args.key.now in
    let told = record c.args.self.now { events = c.key_before-told.new.self } in
    let kept = c.in_ok-keep.ensures in
    let same : Nest g.row.E.Denot g.row.E-Error.Denot → Type 0 =
    λ z. (o : Awaited) (os : List Awaited) → awaited_of z ≡ o ∷ os → awaited_of c.set_innermost.new.self ≡ Value ∷ os in
    let holds : g.E.Events.holds start told.events (at_value ms k ∷ fs) =
    subst (λ o. OnOk o (g.E.Events.holds start told.events (at_value ms k ∷ fs))) kept.0 (c.key_before-told.ensures start ms fs h.0) in
    renewed (g.E.Events.holds start) told c.set_innermost.new.self Value (at_value ms k) fs
    (subst (λ b. g.E.Events.holds start b (at_value ms k ∷ fs)) (sym (w.events ∙ ap (λ z. z.events) kept.1)) holds) h.1
    (w.stopped ∙ ap (λ z. z.stopped) kept.1 ∙ h.2) (subst same kept.1 w.awaited)
    (λ os j. j)

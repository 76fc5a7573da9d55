use Rattle.std.proofs.Common.{ap}
use Rattle.example_count.proofs.Counting.{added}
use Rattle.example_count.specs.Counts.{count}
use Rattle.tinyjson.specs.Events.{literal_tree}
use Rattle.tinyjson.specs.JsonKind.TheVariants as kind
use Rattle.example_count.proofs.counts.CountsEvents.literal.Goals as goal

pub returns-in-None : goal.returns-in-None
returns-in-None c = λ s os h. added s c.add.result c.args.self.now c.add.new.self os (literal_tree c.args.value) kind.Null
    (λ k. ap (λ v. count k (literal_tree v)) c.in-None.is) c.add.ensures h

pub returns-in-Some : goal.returns-in-Some
returns-in-Some c = λ s os h. added s c.add-in-Some.result c.args.self.now c.add-in-Some.new.self os
    (literal_tree c.args.value) kind.Boolean
    (λ k. ap (λ v. count k (literal_tree v)) c.in-Some.is) c.add-in-Some.ensures h

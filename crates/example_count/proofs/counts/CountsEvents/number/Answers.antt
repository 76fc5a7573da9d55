use Rattle.std.proofs.Common.{refl}
use Rattle.example_count.proofs.Counting.{added}
use Rattle.tinyjson.specs.Tree.{number}
use Rattle.tinyjson.specs.JsonKind.TheVariants as kind
use Rattle.example_count.proofs.counts.CountsEvents.number.Goals as goal

pub returns : goal.returns
returns c = λ s os h.
    added s c.add.result c.args.self.now c.add.new.self os (number c.args.arg2.decimal) kind.Number (λ k. refl) c.add.ensures h

use Rattle.std.proofs.Common.{refl}
use Rattle.example_count.proofs.Counting.{added}
use Rattle.std.specs.Str.{chars}
use Rattle.tinyjson.specs.Tree.{string}
use Rattle.tinyjson.specs.JsonKind.TheVariants as kind
use Rattle.example_count.proofs.counts.CountsEvents.string.Goals as goal

pub returns : goal.returns
returns c = λ s os h. added s c.add.result c.args.self.now c.add.new.self os (string (chars c.args.arg2.now)) kind.String (λ k. refl)
    c.add.ensures h

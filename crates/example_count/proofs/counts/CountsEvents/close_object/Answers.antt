use Rattle.example_count.proofs.Counting.{puts_counted}
use Rattle.tinyjson.specs.Tree.{object}
use Rattle.example_count.proofs.counts.CountsEvents.close_object.Goals as goal

pub returns : goal.returns
returns c = λ s ms os h. puts_counted s c.args.self.now os (object ms) h

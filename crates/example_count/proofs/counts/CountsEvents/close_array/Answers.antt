use Rattle.example_count.proofs.Counting.{puts_counted}
use Rattle.tinyjson.specs.Tree.{array, items_of}
use Rattle.example_count.proofs.counts.CountsEvents.close_array.Goals as goal

pub returns : goal.returns
returns c = λ s ts os h. puts_counted s c.args.self.now os (array (items_of ts)) h

use Rattle.std.proofs.Common.{None}
use Rattle.std.specs.Str.{chars}
use Rattle.example_count.proofs.Counting.{from_none}
use Rattle.example_count.proofs.counts.count_values.Goals as goal

pub returns : goal.returns
returns c = from_none c.none.result c.none.ensures None (chars c.args.text.now) c.add_values.result c.add_values.ensures

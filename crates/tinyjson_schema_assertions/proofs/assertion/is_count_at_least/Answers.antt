use Rattle.std.proofs.Common.{arith}
use Rattle.tinyjson.specs.View.{view}
use Rattle.tinyjson_schema_assertions.proofs.Counts.{counted_at_least}
use Rattle.tinyjson_schema_assertions.proofs.assertion.is_count_at_least.Goals as goal

pub returns-in-Some-count_in : goal.returns-in-Some-count_in
returns-in-Some-count_in c =
    counted_at_least c.args.found c.in-Some.found c.in-Some-count_in.limit (view c.args.limit.now) c.in-Some.is
    c.in-Some-count_in.ensures.is (omega arith) c.in-Some-count_in.ensures.range

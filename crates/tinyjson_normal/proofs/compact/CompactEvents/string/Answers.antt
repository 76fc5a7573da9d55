use Rattle.std.proofs.Common.{refl}
use Rattle.tinyjson_normal.proofs.Compacting.{puts_result}
use Rattle.tinyjson_normal.proofs.compact.CompactEvents.string.Goals as goal

pub returns : goal.returns
returns c = λ _ os h. puts_result c.push_quoted.result c.args.self.now _ os _ h refl refl refl c.push_quoted.ensures

use Rattle.std.proofs.Common.{refl}
use Rattle.tinyjson_normal.proofs.Compacting.{closes_array}
use Rattle.tinyjson_normal.proofs.compact.CompactEvents.close_array.Goals as goal

pub returns : goal.returns
returns c = λ _ ts os h.
    closes_array c.push_closing.result c.args.self.now _ ts os c.in-Some.field-0 _ h c.in-Some.ensures.items
    c.push_closing.ensures.some c.push_closing.ensures.none refl refl refl

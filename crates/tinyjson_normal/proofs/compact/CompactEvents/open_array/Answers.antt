use Rattle.std.proofs.Common.{refl, arith, []}
use Rattle.tinyjson.specs.Events.{in_array}
use Rattle.tinyjson_normal.proofs.Compacting.{opens}
use Rattle.tinyjson_normal.proofs.compact.CompactEvents.open_array.Goals as goal

pub returns : goal.returns
returns c = λ _ os h.
    let a = c.args.self.now in
    opens a (record a { text = c.push.new.self; opened = c.push-2.new.self }) os (in_array []) 91 _ h refl (refl, refl)
    c.in_ok-push-2.ensures.items refl c.in_ok-push.ensures.items (omega (arith, c.push.new.self.ok.0)) (omega (arith, a.begun.ok.0))

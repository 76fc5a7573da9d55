use Rattle.std.proofs.Common.{refl}
use Rattle.tinyjson_document.specs.Document.{tree}
use Rattle.tinyjson_normal.proofs.Compacting.{puts_written}
use Rattle.tinyjson_normal.proofs.compact.CompactNodeEvents.replay.Goals as goal

pub returns : goal.returns
returns c = λ _ os h.
    let a = c.args.self.now in
    puts_written a (record a { text = c.push.new.self }) os (tree c.args.node) c.write_to.new.out.items h refl refl refl c.in-Ok.ensures
    c.in_ok-push.ensures.items

use Rattle.std.proofs.Common.{refl}
use Rattle.tinyjson_document.proofs.Waiting.{puts_kept, puts_over}
use Rattle.tinyjson_document.proofs.arena.ArenaEvents.literal.Goals as goal

pub returns : goal.returns
returns c = λ s os h.
    puts_over s _ os _ (puts_kept c.args.self.now _ os _ _ h.0 refl (c.literal_cell.ensures _) refl refl c.in_ok-push.ensures.items) h.1

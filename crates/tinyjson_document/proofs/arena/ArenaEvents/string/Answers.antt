use Rattle.std.proofs.Common.{refl, ◌∙◌}
use Rattle.tinyjson_document.proofs.Waiting.{puts, puts_over}
use Rattle.tinyjson_document.proofs.arena.ArenaEvents.string.Goals as goal

pub returns : goal.returns
returns c = λ s os h.
    puts_over s _ os _ (puts c.args.self.now _ os _ _ h.0 c.in_ok-span.ensures.grows
    (c.in_ok-span.span, refl, c.in_ok-span.ensures.text) refl refl c.in_ok-push.ensures.items)
    (h.1 ∙ c.in_ok-span.ensures.grows.texts.source)

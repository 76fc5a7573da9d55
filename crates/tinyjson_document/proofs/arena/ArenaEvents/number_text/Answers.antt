use Rattle.std.proofs.Common.{refl, ◌∙◌}
use Rattle.tinyjson_document.proofs.Waiting.{puts, puts_over}
use Rattle.tinyjson_document.proofs.arena.ArenaEvents.number_text.Goals as goal

pub returns : goal.returns
returns c = λ s fs n text few h.
    puts_over s _ fs _ (puts c.args.self.now _ fs _ _ h.0 c.in_ok-number.ensures.grows (c.in_ok-number.ensures.number n text few) refl refl
    c.in_ok-push.ensures.items) (h.1 ∙ c.in_ok-number.ensures.grows.texts.source)

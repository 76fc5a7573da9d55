use Rattle.std.proofs.Common.{refl, ◌∙◌}
use Rattle.tinyjson_document.proofs.Waiting.{closes_array, puts_over}
use Rattle.tinyjson_document.proofs.arena.ArenaEvents.close_array.Goals as goal

pub returns : goal.returns
returns c = λ s ts fs h.
    puts_over s _ fs _ (closes_array c.args.self.now _ ts fs c.in_ok-span.span c.in-Some.place _ _ _ h.0 c.in-Some.ensures.items refl
    c.in_ok-span.ensures.rest c.in_ok-span.ensures.grows c.in_ok-span.ensures.items refl refl c.in_ok-push.ensures.items)
    (h.1 ∙ c.in_ok-span.ensures.grows.texts.source)

use Rattle.std.proofs.Common.{refl, ◌∙◌}
use Rattle.tinyjson_document.proofs.Waiting.{awaits_value}
use Rattle.tinyjson_document.proofs.arena.ArenaEvents.key_before.Goals as goal

pub returns : goal.returns
returns c = λ _ ms os h. (
  awaits_value c.args.self.now (record c.args.self.now { store = c.text_before.new.self; keys = c.push.new.self }) ms os _
      c.in_ok-span.span h.0 c.in_ok-span.ensures.grows c.in_ok-span.ensures.text refl c.in_ok-push.ensures.items refl,
  h.1
      ∙ c.in_ok-span.ensures.grows.texts.source,
)

use Rattle.std.proofs.Common.{◌∙◌}
use Rattle.tinyjson_tokens.proofs.Slices.{next_char}
use Rattle.tinyjson_tokens.proofs.text.TextBytes.first.Goals as goal

pub returns : goal.returns
returns c =
    let self = c.args.self.now in
    next_char _ self.text.now _ _ self.at c.next.result (c.chars.ensures.rest ∙ c.range_from.ensures.value) c.next.ensures.steps.0

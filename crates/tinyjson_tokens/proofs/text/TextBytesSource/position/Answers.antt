use Rattle.std.proofs.Common.{◌≡◌, ◌-◌, ap, ◌∙◌, arith}
use Rattle.std.specs.Str.{chars}
use Rattle.tinyjson_grammar.specs.Position.{advance, origin}
use Rattle.tinyjson_tokens.specs.Slice.{before}
use Rattle.tinyjson_tokens.proofs.text.TextBytesSource.position.Goals as goal

pub returns : goal.returns
returns c =
    let self = c.args.self.now in
    let n : self.at - 0 ≡ self.at = omega arith in
    c.place_after.ensures ∙ ap (advance origin) (ap chars c.range.ensures.value ∙ ap (before self.text.now) n)

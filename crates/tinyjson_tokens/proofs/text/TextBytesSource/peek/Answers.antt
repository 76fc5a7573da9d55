use Rattle.std.proofs.Common.{refl, sym, ◌∙◌}
use Rattle.std.proofs.lemmas.Str.{IsUtf8-had}
use Rattle.tinyjson_tokens.specs.Slice.{before}
use Rattle.tinyjson_tokens.proofs.Slices.{next_shown, stay_moves}
use Rattle.tinyjson_tokens.proofs.text.TextBytesSource.peek.Goals as goal

pub returns-clause-takes : goal.returns-clause-takes
returns-clause-takes c =
    let self = c.args.self.now in
    record { gives = λ zs h. (zs, refl, h); moves = stay_moves (before self.text.now self.at) }

pub returns-clause-shows : goal.returns-clause-shows
returns-clause-shows c =
    let self = c.args.self.now in
    next_shown self.text.now (IsUtf8-had self.text.now self.utf8) self.at self.boundary _ c.first.ensures

pub returns-clause-kept : goal.returns-clause-kept
returns-clause-kept c =
    let self = c.args.self.now in
    λ o s. sym (next_shown self.text.now (IsUtf8-had self.text.now self.utf8) self.at self.boundary _ c.first.ensures) ∙ s

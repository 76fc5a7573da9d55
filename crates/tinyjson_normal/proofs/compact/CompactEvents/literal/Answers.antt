use Rattle.std.proofs.Common.{refl, ap, ◌∙◌, ◌++◌}
use Rattle.tinyjson_normal.proofs.Compacting.{puts}
use Rattle.tinyjson_normal.proofs.compact.CompactEvents.literal.Goals as goal

pub returns : goal.returns
returns c = λ _ os h.
    let a = c.args.self.now in
    puts a (record a { text = c.extend_from_slice.new.self }) os _ h refl refl refl
    (c.in_ok-extend_from_slice.ensures.items ∙ ap (λ z. a.text.items ++ z) c.literal_word.ensures)

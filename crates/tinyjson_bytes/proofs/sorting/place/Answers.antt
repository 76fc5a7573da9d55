use Rattle.std.proofs.Common.{◌∙◌, sym}
use Rattle.std.proofs.lemmas.List.Sorted.{IsPermutation-trans, length_permutation}
use Rattle.tinyjson_bytes.proofs.sorting.place.Goals as goal

pub loop-start-preserved : goal.loop-start-preserved
loop-start-preserved g c =
    let same = length_permutation _ _ c.move_cycle.ensures.members in (
      c.move_cycle.ensures.words ∙ c.loop-start.invariant.0 ∙ sym same,
      same
          ∙ c.loop-start.invariant.1,
      IsPermutation-trans _ _ _ c.loop-start.invariant.2 c.move_cycle.ensures.members,
    )

use Rattle.std.proofs.Common.{◌∙◌, rules}
use Rattle.std.proofs.lemmas.List.Sorted.{IsPermutation-trans}
use Rattle.tinyjson_bytes.proofs.sorting.move_cycle.Goals as goal

pub loop-step-preserved : goal.loop-step-preserved
loop-step-preserved g c = (
  search rules,
  search rules,
  c.swap.ensures.len
      ∙ c.loop-step.invariant.2,
  IsPermutation-trans _ _ _ c.loop-step.invariant.3 c.swap.ensures.permutation,
)

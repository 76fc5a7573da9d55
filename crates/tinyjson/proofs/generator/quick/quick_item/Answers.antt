use Rattle.std.proofs.Common.{[], ◌∷◌, None, sym, append-nil}
use Rattle.tinyjson_output.specs.Buffer.{buffered}
use Rattle.tinyjson.proofs.Writing.Runs.{taken_back}
use Rattle.tinyjson.proofs.generator.quick.quick_item.Goals as goal
use Rattle.tinyjson.proofs.generator.quick.quick_item.Goals.{then-not-first, else-not-first}

pub returns : goal.returns
returns c = λ k.
    let p = buffered c.args.buffer.now in
    let same = rw c.if-quick_value.false at (c.quick_value.ensures None k) in
    elim c.if-not-first.branch [
      | then-not-first w ↦ taken_back p _ _ _ (44 ∷ []) _ c.len-len.ensures c.truncate.ensures same
          (rw w.buffer-is w.append.ensures.buffers)
      | else-not-first w ↦ taken_back p _ _ _ [] _ c.len-len.ensures c.truncate.ensures same (rw w.buffer-is (sym (append-nil p)))
    ]

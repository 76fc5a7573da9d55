use Rattle.std.proofs.Common.{[], refl}
use mathlib.Core.Logic.{∥∥₁_elim, ∥∥₁_map}
use Rattle.tinyjson_document.proofs.Callers.{node_sound}
use Rattle.tinyjson_document.specs.Document.{tree}
use Rattle.tinyjson_patch.specs.Merge.{merge_patch}
use Rattle.tinyjson_patch.proofs.Beside.{merge_sound}
use Rattle.tinyjson_patch.proofs.merge_document.merge_documents.Goals as goal

pub merge_into-requires : goal.merge_into-requires
merge_into-requires c = (c.new-arena.result, [], (c.new-arena.ensures, refl))

pub of_arena-requires : goal.of_arena-requires
of_arena-requires c =
    let t = tree c.args.target in
    let p = tree c.args.patch in (
      merge_patch t p,
      (c.in_ok-merge_into.ensures c.new-arena.result [] (c.new-arena.ensures, refl)).0,
      ∥∥₁_elim (node_sound c.args.target) squash₁ (λ a. ∥∥₁_map (node_sound c.args.patch) (λ b. merge_sound t p a b)),
    )

pub returns : goal.returns
returns c = c.of_arena.ensures (merge_patch (tree c.args.target) (tree c.args.patch))
    (c.in_ok-merge_into.ensures c.new-arena.result [] (c.new-arena.ensures, refl)).0

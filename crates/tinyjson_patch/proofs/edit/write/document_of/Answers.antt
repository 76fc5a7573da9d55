use Rattle.std.proofs.Common.{[], refl}
use Rattle.tinyjson_patch.specs.private.Edited.{tree}
use Rattle.tinyjson_patch.proofs.Editing.Trees.{tree_sound}
use Rattle.tinyjson_patch.proofs.edit.write.document_of.Goals as goal

pub pass-requires : goal.pass-requires
pass-requires c = (c.new-arena.result, [], (c.new-arena.ensures, refl))

pub of_arena-requires : goal.of_arena-requires
of_arena-requires c = (
  tree c.args.value.now,
  (c.in_ok-pass.ensures c.new-arena.result [] (c.new-arena.ensures, refl)).0,
  tree_sound c.args.value.now,
)

pub returns : goal.returns
returns c = c.of_arena.ensures (tree c.args.value.now) (c.in_ok-pass.ensures c.new-arena.result [] (c.new-arena.ensures, refl)).0

use Rattle.std.proofs.Common.{◌≡◌, length}
use Rattle.std.specs.Prelude.{All}
use Rattle.json_merge.specs.Reading.{IsOfFile}
use Rattle.json_merge.proofs.reading.read_patches.Given as goal

abbrev pub invariant-loop-file : goal.invariant-loop-file
invariant-loop-file l = (length l.patches.items ≡ l.file-index) × All IsOfFile l.patches.items

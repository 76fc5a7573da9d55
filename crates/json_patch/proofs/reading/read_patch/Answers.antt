use Rattle.std.proofs.Common.{inl}
use Rattle.std.specs.Str.{chars}
use Rattle.json_patch.proofs.reading.read_patch.Goals as goal

pub returns : goal.returns
returns c = inl (chars c.as_str.result.now, c.patch_of.ensures)

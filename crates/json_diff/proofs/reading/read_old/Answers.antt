use Rattle.std.proofs.Common.{inl}
use Rattle.std.specs.Str.{chars}
use Rattle.json_diff.proofs.reading.read_old.Goals as goal

pub returns : goal.returns
returns c = inl (chars c.as_str.result.now, c.old_of.ensures)

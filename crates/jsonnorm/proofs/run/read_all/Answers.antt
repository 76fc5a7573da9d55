use Rattle.std.proofs.Common.{◌++◌, inl, refl, take}
use Rattle.std.proofs.KnownBytes.{Consumes-trans}
use Rattle.jsonnorm.proofs.run.read_all.Goals as goal

pub returns-then-is_err : goal.returns-then-is_err
returns-then-is_err g c = record {
  read = c.loop.bytes.items ++ take c.in-Ok-read.count c.read.new.buf;
  taken = Consumes-trans _ _ _ c.loop.bytes.items (take c.in-Ok-read.count c.read.new.buf) c.loop.invariant.taken
      c.in-Ok-read.ensures.bytes.0;
  answer = inl refl;
}

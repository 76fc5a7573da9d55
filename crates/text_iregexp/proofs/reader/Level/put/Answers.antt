use Rattle.std.proofs.Common.{refl}
use Rattle.text_iregexp.proofs.Levels.{put_stands}
use Rattle.text_iregexp.proofs.reader.Level.put.Goals as goal

pub returns-clause-read : goal.returns-clause-read
returns-clause-read c = λ l a s m. put_stands c.settle.new.self _ c.args.node l a (c.in_ok-settle.ensures.read l s) m refl refl refl

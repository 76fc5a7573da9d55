use Rattle.std.specs.Str.{chars}
use Rattle.tinyjson_normal.proofs.Compacting.{told_kept}
use Rattle.tinyjson_normal.proofs.reader.NormalReader.read.Goals as goal

pub returns-in-Ok-read_into : goal.returns-in-Ok-read_into
returns-in-Ok-read_into c = told_kept _ c.args.limit (chars c.args.text.now) c.in-Ok-read_into.compact c.finish.result c.finish.ensures
    c.in-Ok-read_into.ensures

use Rattle.std.proofs.Common.{None}
use Rattle.std.specs.Str.{chars}
use Rattle.tinyjson.proofs.Callers.{told_text, told_error}
use Rattle.example_count.specs.Counts.{Adds}
use Rattle.example_count.proofs.counts.add_values.Goals as goal

pub returns-in-Ok : goal.returns-in-Ok
returns-in-Ok c =
    let counts = c.in-Ok.counts in
    told_text (Adds c.args.counts) None (chars c.args.text.now) (Adds c.args.counts) counts counts
    c.in-Ok.ensures.tells (λ t i x. i)

pub returns-in-Err : goal.returns-in-Err
returns-in-Err c =
    let error = c.from.result in
    told_error (Adds c.args.counts) None (chars c.args.text.now) (Adds c.args.counts) c.in-Err.error error c.in-Err.ensures.tells
    c.from.ensures

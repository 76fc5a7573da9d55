use Rattle.std.specs.Str.{chars}
use Rattle.tinyjson_cells.proofs.Stored.{short_at}
use Rattle.tinyjson_cells.proofs.store.Store.short_before.Goals as goal

pub returns-clause-number : goal.returns-clause-number
returns-clause-number c = λ n e few. short_at _ n (chars c.args.text.now) _ e few c.in_ok-text_before.ensures.text

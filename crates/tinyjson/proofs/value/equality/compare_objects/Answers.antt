use Rattle.std.proofs.Common.{◌∙◌, ap, rules}
use Rattle.tinyjson.proofs.Values.Comparison.{same_entries, apart_entries}
use Rattle.tinyjson.specs.private.Comparison.{has_entries}
use Rattle.tinyjson.specs.View.{members_view}
use Rattle.tinyjson.proofs.value.equality.compare_objects.Goals as goal

pub returns-then-len-clause-same : goal.returns-then-len-clause-same
returns-then-len-clause-same c = apart_entries c.args.a.now.entries c.args.b.now.entries c.len.ensures.unique c.len-2.ensures.unique
    (search rules)

pub returns-clause-same : goal.returns-clause-same
returns-clause-same c = ap (has_entries (members_view c.args.b.now.entries)) c.iter.ensures.rest
    ∙ same_entries c.args.a.now.entries c.args.b.now.entries c.iter.ensures.unique (search rules)

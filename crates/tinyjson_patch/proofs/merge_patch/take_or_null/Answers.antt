use Rattle.std.proofs.Common.{◌∙◌, ap, unwrap_or}
use Rattle.tinyjson.proofs.Callers.{view_or_null}
use Rattle.tinyjson.specs.Tree.{null}
use Rattle.tinyjson.specs.View.{view}
use Rattle.tinyjson_patch.proofs.merge_patch.take_or_null.Goals as goal

pub returns-clause-old : goal.returns-clause-old
returns-clause-old c = ap view c.unwrap_or.ensures
    ∙ (view_or_null c.remove_member.result ∙ ap (λ o. unwrap_or o null) c.remove_member.ensures.old_tree)

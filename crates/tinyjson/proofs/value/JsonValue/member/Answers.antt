use Rattle.std.proofs.Common.{rules, ap, ◌∙◌, sym, option_map}
use Rattle.tinyjson.proofs.Callers.{tree_at_key_view, view_ref}
use Rattle.tinyjson.specs.View.{view}
use Rattle.tinyjson.proofs.value.JsonValue.member.Goals as goal

pub returns-clause-value : goal.returns-clause-value
returns-clause-value c = search rules

pub returns-clause-tree : goal.returns-clause-tree
returns-clause-tree c = view_ref c.get-2.result ∙ (ap (option_map view) (returns-clause-value c)
    ∙ sym (tree_at_key_view c.args.self.now c.args.key.now c.utf8.key))

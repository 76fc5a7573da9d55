use Rattle.std.proofs.Common.{◌∙◌, None, ap, subst}
use mathlib.Core.Logic.{∥∥₁_elim}
use Rattle.std.specs.Str.{chars}
use Rattle.tinyjson.specs.Grammar.{IsText}
use Rattle.tinyjson.specs.View.{view}
use Rattle.tinyjson_grammar.proofs.Callers.{compact_text}
use Rattle.tinyjson_grammar.proofs.Callers.Laws.{only_tree}
use Rattle.tinyjson_document.specs.Document.{tree}
use Rattle.tinyjson_document.specs.Known.{Tree_set}
use Rattle.tinyjson_document.proofs.node.Node.to_value.Goals as goal

pub returns-in-Ok-from_str : goal.returns-in-Ok-from_str
returns-in-Ok-from_str c =
    let v = c.in-Ok-from_str.value in
    let t = tree c.args.self.now in
    let same = ap chars c.as_str.ensures.value ∙ c.in-Ok.ensures in
    let read = c.in-Ok-from_str.ensures.answer.1 in
    ∥∥₁_elim c.args.self.now.known.sound (Tree_set _ _)
    (λ g. only_tree None _ _ _ (subst (λ z. IsText None z (view v)) same read) (compact_text t g))

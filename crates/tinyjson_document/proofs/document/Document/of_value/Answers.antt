use Rattle.std.proofs.Common.{◌∙◌, None, ap, subst}
use Rattle.std.specs.Str.{chars}
use Rattle.tinyjson.proofs.Callers.{compact_read_back, only_tree}
use Rattle.tinyjson.specs.Grammar.{IsText}
use Rattle.tinyjson_document.proofs.document.Document.of_value.Goals as goal

pub returns-in-Ok-read : goal.returns-in-Ok-read
returns-in-Ok-read c =
    let same = ap chars c.as_str.ensures.value ∙ c.in-Ok.ensures in
    let h = c.in-Ok-read.ensures.answer in
    h.3 ∙ only_tree None _ _ _ (subst (λ z. IsText None z h.1) same h.2) (compact_read_back c.args.value.now)

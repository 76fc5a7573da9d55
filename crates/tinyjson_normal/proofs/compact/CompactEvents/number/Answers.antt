use Rattle.std.proofs.Common.{refl, ap, ◌∙◌, ◌++◌, ◌∷◌, [], append_assoc}
use Rattle.tinyjson_grammar.specs.Tree.{number}
use Rattle.tinyjson_number.specs.Text.{decimal_text}
use Rattle.tinyjson_output.proofs.Callers.{enc}
use Rattle.tinyjson_normal.proofs.Compacting.{puts}
use Rattle.tinyjson_normal.proofs.compact.CompactEvents.number.Goals as goal

pub returns : goal.returns
returns c = λ _ os h.
    let a = c.args.self.now in
    puts a (record a { text = c.push.new.self; buffer = c.push_number.new.buffer }) os (number c.args.value.decimal) h refl refl refl
    (c.in_ok-push.ensures.items ∙ ap (λ z. z ++ 44 ∷ []) c.in_ok-push_number.ensures
    ∙ append_assoc a.text.items (enc (decimal_text c.args.value.decimal)) (44 ∷ []))

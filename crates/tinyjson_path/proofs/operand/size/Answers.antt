use Rattle.std.proofs.Common.{◌∙◌, Some, chars, option_map, sym, ap, ⊎_elim}
use Rattle.tinyjson_view.specs.Views.{tree_of}
use Rattle.tinyjson_path.proofs.Comparisons.{characters_counted, array_size, object_size, no_size}
use Rattle.tinyjson_path.proofs.operand.size.Goals as goal

pub returns-in-Some : goal.returns-in-Some
returns-in-Some c =
    characters_counted (tree_of c.args.value) (chars c.in-Some.text.now) c.character_count.result
    (sym (ap (option_map (λ s. chars s.now)) c.in-Some.is) ∙ c.string.ensures) c.character_count.ensures

pub returns-in-Array : goal.returns-in-Array
returns-in-Array c =
    ap Some c.len.ensures
    ∙ ⊎_elim (λ e. array_size (tree_of c.args.value) (sym e ∙ c.kind.ensures))
    (λ e. object_size (tree_of c.args.value) (sym e ∙ c.kind.ensures)) c.in-Array.is

pub returns-in_default : goal.returns-in_default
returns-in_default c =
    no_size (tree_of c.args.value) (λ e. c.in_default.not-String (c.kind.ensures ∙ sym e))
    (λ e. c.in_default.not-Array (c.kind.ensures ∙ sym e)) (λ e. c.in_default.not-Object (c.kind.ensures ∙ sym e))

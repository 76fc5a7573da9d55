-- The texts of values that are read.
use Rattle.std.proofs.Common.{◌≡◌, ℕ, List, None, encode_utf8_all}
use Rattle.std.specs.Str.{chars}
use mathlib.Core.HLevel.{hedberg}
use mathlib.Core.List.{is_set}
use mathlib.Core.Logic.{∥∥₁_elim}
use native.Mathlib.Decide.{ℕ_discrete}
use Rattle.tinyjson.proofs.Callers.{chars_compact, encoded_chars, text_of_scalars}
use Rattle.tinyjson.specs.Text.{compact}
use Rattle.tinyjson_document.proofs.Callers.{node_sound}
use Rattle.tinyjson_document.specs.Document.{tree as node_tree}
use Rattle.tinyjson_view.specs.Views.{tree_of}
use Rattle.tinyjson_view.specs.declared.view.ValueView.{ValueView}
use Rattle.tinyjson_view.specs.declared.view.ValueView.TheVariants.{InDocument, InValue}

Codes_set : IsSet (List ℕ)
Codes_set = is_set (hedberg ℕ_discrete)

pub view_chars : (v : ValueView) → chars (encode_utf8_all (compact (tree_of v))) ≡ compact (tree_of v)
view_chars (InValue v) = chars_compact v.now
view_chars (InDocument n) = ∥∥₁_elim (node_sound n) (Codes_set _ _)
    (λ g. encoded_chars (compact (node_tree n)) (text_of_scalars None tt 0 (node_tree n) g))

-- The words of strings, counts and names.
use Rattle.std.proofs.Common.{◌≡◌, ℕ, List, [], ◌∷◌, ◌++◌, Option, Some, None, String, Global, string_bytes}
use Rattle.std.proofs.Common.{codes}
use Rattle.std.proofs.Common.{refl, sym, ap, ap₂, ◌∙◌}
use Rattle.std.specs.Prelude.{option_and_then}
use Rattle.std.specs.Option.{option_map_or}
use Rattle.tinyjson.proofs.Callers.{view_String}
use Rattle.tinyjson.specs.Tree.{Tree, string}
use Rattle.tinyjson.specs.View.{view}
use Rattle.tinyjson_document.specs.Parts.{string_in}
use Rattle.tinyjson.specs.declared.value.JsonValue.{JsonValue}
use Rattle.tinyjson.specs.declared.value.JsonValue.TheVariants as is
use Rattle.tinyjson_pointer.specs.Walk.{part_at, step}
use Rattle.tinyjson_schema_keywords.proofs.Callers.{text_bytes}
use Rattle.tinyjson_schema_keywords.specs.Applied.{items_in}
use Rattle.tinyjson_schema_report.specs.Brief.{brief}
use Rattle.tinyjson_schema_report.specs.Counts.{length_of}
use Rattle.tinyjson_schema_report.specs.Kinds.{type_name, with_article}
use Rattle.tinyjson_schema_report.specs.Missing.{missing, required_words}

-- ---- types

pub string_type : (v : JsonValue) (s : String Global) (bs : List ℕ) → v ≡ is.String s → bs ≡ string_bytes s
    → with_article bs ≡ type_name (view v)
string_type v s bs e b = ap with_article (text_bytes s bs b) ∙ ap type_name (sym (ap view e ∙ view_String s))

-- ---- counts

pub no_length : (t : Tree) → None ≡ string_in t → None ≡ length_of t
no_length (string cs) h = absurd cc
no_length _ h = refl

-- ---- names

pub none_missing : (w t : Tree) → None ≡ missing (items_in w) t → [] ≡ required_words w t
none_missing w t h = ap (λ o. option_map_or (λ k. brief k ++ codes " is required") o []) h

pub one_missing : (w t k : Tree) → Some k ≡ missing (items_in w) t → brief k ++ codes " is required" ≡ required_words w t
one_missing w t k h = ap (λ o. option_map_or (λ k. brief k ++ codes " is required") o []) h

-- ---- tokens

pub one_token : (t : Tree) (k l : List ℕ) (ks js : List (List ℕ)) → js ≡ l ∷ ks → ks ≡ [] → l ≡ k → part_at t js ≡ step t k
one_token t k l ks js e n h = ap (part_at t) (e ∙ ap₂ (λ x xs. x ∷ xs) h n) ∙ only (step t k)
  where
    only : (o : Option Tree) → option_and_then (λ u. part_at u []) o ≡ o
    only None = refl
    only (Some u) = refl

-- The marks of a schema's names.
use Rattle.std.proofs.Common.{◌≡◌, ◌==◌, ◌∷◌, ◌^◌, ◌%◌, ◌*◌, ◌<◌, ℕ, zero, suc, Bool, true, false, true≢false, cond, not, List}
use Rattle.std.proofs.Common.{Option, Some, None, is_some, option_map, String, Global, bit_and, bit_or, bytes_eq, string_bytes, w64, refl}
use Rattle.std.proofs.Common.{sym, ap, ◌∙◌, arith, ⊎_elim}
use Rattle.std.proofs.lemmas.Bool.{cases_eq, eqb-true, not-false}
use Rattle.std.proofs.lemmas.Nat.Bits.{bit_at_set_same, bit_at_set_other, bit_at-lt, bit_at_and, bit_at-zero}
use Rattle.std.proofs.lemmas.Slice.Eq.{bytes_eq-Decides}
use Rattle.std.specs.HashMap.{get_by_text}
use Rattle.std.specs.Int.{bit_at}
use Rattle.std.specs.Map.{lookup}
use Rattle.tinyjson.proofs.Callers.{view_Object, find_get_literal, no_object}
use Rattle.tinyjson.specs.Access.{JsonMap}
use Rattle.tinyjson.specs.Tree.{Tree, object, Members}
use Rattle.tinyjson.specs.View.{view}
use Rattle.tinyjson.specs.declared.value.JsonValue.{JsonValue}
use Rattle.tinyjson.specs.declared.value.JsonValue.TheVariants as is
use Rattle.tinyjson_schema_keywords.proofs.Callers.{name_ascii}
use Rattle.tinyjson_schema_keywords.specs.Applied.{schema_at}
use Rattle.tinyjson_schema_keywords.specs.Names.{name}
use Rattle.tinyjson_schema_keywords.specs.declared.keyword.Keyword.{Keyword}
use Rattle.tinyjson_schema_table.specs.Marks.{mark, HasMarks}

unset : (n i : ℕ) → (bit_at n i == 1) ≡ false → bit_at n i ≡ 0
unset n i h = by (bit_at n i) (bit_at-lt n i) h
  where
    by : (b : ℕ) → b < 2 → (b == 1) ≡ false → b ≡ 0
    by zero l e = refl
    by (suc zero) l e = absurd (true≢false e)
    by (suc (suc b)) l e = absurd (omega (arith, l))

absent_from : (o : Option Tree) → is_some o ≡ false → o ≡ None
absent_from None n = refl
absent_from (Some t) n = absurd (true≢false n)

-- a keyword whose mark is not in the set is not in the schema
pub absent : (marks : ℕ) (s : Tree) (k : Keyword) → HasMarks marks s → (bit_at marks (mark (name k)) == 1) ≡ false → schema_at s k ≡ None
absent marks s k h e = absent_from (schema_at s k) (h k (unset marks (mark (name k)) e))

-- a keyword whose mark is in a set that has nothing in common with the schema's is not in the schema
module _ (marks set : ℕ) (apart : not (bit_and marks set == 0) ≡ false) where
  unset_beside : (i : ℕ) → bit_at set i ≡ 1 → bit_at marks i ≡ 0
  unset_beside i one =
      let none : bit_at (bit_and marks set) i ≡ 0 =
      ap (λ x. bit_at x i) (eqb-true (bit_and marks set) 0 (not-false (bit_and marks set == 0) apart)) ∙ bit_at-zero i in
      omega (arith, none, bit_at_and marks set i, one)

  pub absent_beside : (s : Tree) (k : Keyword) → HasMarks marks s → bit_at set (mark (name k)) ≡ 1 → schema_at s k ≡ None
  absent_beside s k h one = absent_from (schema_at s k) (h k (unset_beside (mark (name k)) one))

-- a set with the marks of a map's names has those of the schema's keywords
pub has_marks : (marks : ℕ) (v : JsonValue) (m : JsonMap) → v ≡ is.Object m
    → ((bs : List ℕ) → bit_at marks (mark bs) ≡ 0 → get_by_text m bs ≡ None) → HasMarks marks (view v)
has_marks marks v m e h k unmarked = ap is_some (ap (λ t. schema_at t k) (ap view e ∙ view_Object m)
    ∙ (find_get_literal m (name k) (name_ascii k) ∙ ap (option_map view) (h (name k) unmarked)))

-- what has no members has no keywords
pub no_marks : (v : JsonValue) → ((m : JsonMap) → v ≡ is.Object m → ⊥) → HasMarks 0 (view v)
no_marks v other k unmarked = by (view v) (no_object v other)
  where
    by : (t : Tree) → ((ms : Members) → t ≡ object ms → ⊥) → is_some (schema_at t k) ≡ false
    by (object ms) n = absurd (n ms refl)
    by _ n = refl

-- what a look-up finds in entries, where its name's mark is not in the set after the first one's is added
pub marked_turn : {X : Type 0} (es rest : List (String Global × X)) (key : String Global) (x : X) (old m : ℕ) (found : Option X)
    → (bs : List ℕ) → es ≡ (key, x) ∷ rest → m ≡ mark (string_bytes key) → m < 64
    → (bit_at old (mark bs) ≡ 0 → lookup (λ k. bytes_eq bs (string_bytes k)) es ≡ found)
    → bit_at (bit_or old (1 * 2 ^ m % 2 ^ 64)) (mark bs) ≡ 0 → lookup (λ k. bytes_eq bs (string_bytes k)) rest ≡ found
marked_turn es rest key x old m found bs e named below before h = ⊎_elim at_mark beside (cases_eq (mark bs) m)
  where
    at_mark : mark bs ≡ m → lookup (λ k. bytes_eq bs (string_bytes k)) rest ≡ found
    at_mark same = absurd (omega (arith, sym h ∙ (ap (bit_at (bit_or old (1 * 2 ^ m % 2 ^ 64))) same ∙ bit_at_set_same w64 old m below)))

    other : (mark bs ≡ m → ⊥) → (b : Bool) → bytes_eq bs (string_bytes key) ≡ b
        → cond b (Some x) (lookup (λ k. bytes_eq bs (string_bytes k)) rest) ≡ found
        → lookup (λ k. bytes_eq bs (string_bytes k)) rest ≡ found
    other apart true q f = absurd (apart (ap mark ((bytes_eq-Decides bs (string_bytes key)).0 q) ∙ sym named))
    other apart false q f = f

    beside : (mark bs ≡ m → ⊥) → lookup (λ k. bytes_eq bs (string_bytes k)) rest ≡ found
    beside apart = other apart (bytes_eq bs (string_bytes key)) refl
        (sym (ap (lookup (λ k. bytes_eq bs (string_bytes k))) e) ∙ before (sym (bit_at_set_other w64 old m below (mark bs) apart) ∙ h))

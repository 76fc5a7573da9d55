-- The laws of schemas in memory: their trees are sound, and no array in them is too long.
use Rattle.std.proofs.Common.{◌≡◌, ℕ, Bool, true, false, List, [], cond, refl, ap, sym, subst}
use Rattle.std.specs.Prelude.{◌↔◌}
use Rattle.tinyjson.proofs.Callers.{view_IsTree}
use Rattle.tinyjson.specs.Tree.{Tree}
use Rattle.tinyjson.specs.View.{view}
use Rattle.tinyjson.specs.declared.value.JsonValue.{JsonValue}
use Rattle.tinyjson_schema_bundle.specs.Bundles.{marks_of, place_of, base_in, is_bundle}
use Rattle.tinyjson_schema_bundle.specs.Scopes.{Reached, AreCopies, letters, some_contested, with_copies, bundled}
use Rattle.tinyjson_schema.specs.Schemas.{is_schema}
use Rattle.tinyjson_schema.specs.Valid.{IsValidIn}
use Rattle.tinyjson_schema_laws.specs.Laws.{IsAlone, IsCopied, ExactRead, DecidedRead}
use Rattle.tinyjson_schema_laws.specs.Scoped.{Scoped, judged, IsValidScoped}
use Rattle.tinyjson_schema_laws.proofs.Alone.{exact_alone, decided_alone}
use Rattle.tinyjson_schema_laws.proofs.CopiedLaws.{exact_copied, decided_copied}
use Rattle.tinyjson_schema_laws.proofs.Shortness.{view_IsShort}

module _ (v : JsonValue) (copies : List Reached) (states : AreCopies (view v) copies)
    (applied : is_schema (bundled copies (view v)) true (bundled copies (view v)) ≡ true) where
  copied : is_bundle (marks_of (view v)) ≡ true → IsCopied (view v) copies
  copied e = record { sound = view_IsTree v; short = view_IsShort v; several = e; applied = applied; states = states }

  -- a document of one resource stays as it is
  same : is_bundle (marks_of (view v)) ≡ false → bundled copies (view v) ≡ view v
  same e = ap (λ x. cond x (with_copies (place_of (marks_of (view v))) (marks_of (view v)) (base_in [] (view v)) (letters (view v))
      (some_contested (marks_of (view v)) (base_in [] (view v)) (marks_of (view v))) copies (view v) copies) (view v)) e

  alone : is_bundle (marks_of (view v)) ≡ false → IsAlone (view v)
  alone e = record {
    sound = view_IsTree v;
    short = view_IsShort v;
    applied = subst (λ b. is_schema b true b ≡ true) (same e) applied;
  }

  exact : (formats : Bool) (u : Tree) → IsValidScoped (view v) formats u ↔ IsValidIn
      (record { tree = bundled copies (view v); formats = formats }) u
  exact formats u = by (is_bundle (marks_of (view v))) refl
    where
      by : (x : Bool) → is_bundle (marks_of (view v)) ≡ x → IsValidScoped (view v) formats u ↔ IsValidIn
          (record { tree = bundled copies (view v); formats = formats }) u
      by true e = exact_copied (view v) copies (copied e) formats u
      by false e = subst (λ b. IsValidScoped (view v) formats u ↔ IsValidIn (record { tree = b; formats = formats }) u) (sym (same e))
          (exact_alone (view v) (alone e) formats u)

  decided : (formats : Bool) (u : Tree) → (is : Bool) × (n : ℕ) × ((g : Scoped) → judged (view v) formats n g u ≡ is)
  decided formats u = by (is_bundle (marks_of (view v))) refl
    where
      by : (x : Bool) → is_bundle (marks_of (view v)) ≡ x
          → (is : Bool) × (n : ℕ) × ((g : Scoped) → judged (view v) formats n g u ≡ is)
      by true e = decided_copied (view v) copies (copied e) formats u
      by false e = decided_alone (view v) (alone e) formats u

pub exact_read : ExactRead
exact_read v copies states applied formats u = exact v copies states applied formats u

pub decided_read : DecidedRead
decided_read v copies states applied formats u = decided v copies states applied formats u

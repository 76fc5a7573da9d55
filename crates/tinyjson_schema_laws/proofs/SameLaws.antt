-- The laws of documents without contested names.
use Rattle.std.proofs.Common.{◌≡◌, ℕ, Bool, true, false, [], refl, sym, ap, ◌∙◌, cond, subst}
use Rattle.std.specs.Prelude.{◌↔◌}
use Rattle.tinyjson.specs.Tree.{Tree}
use Rattle.tinyjson_schema_bundle.specs.Bundles.{marks_of, base_in, place_of, pointed}
use Rattle.tinyjson_schema_bundle.specs.Scopes.{letters, some_contested, bundled, leads_of, from_root, with_copies}
use Rattle.tinyjson_schema.specs.Evaluated.{Child}
use Rattle.tinyjson_schema.specs.Schemas.{is_schema}
use Rattle.tinyjson_schema.specs.Valid.{IsValidIn, judge}
use Rattle.tinyjson_schema_laws.specs.Laws.{IsUncontested, SameResults, Exact, EachDecided, bundled_root, by_value}
use Rattle.tinyjson_schema_laws.proofs.Leading.{all_lead}
use Rattle.tinyjson_schema_laws.specs.Scoped.{Scope, judged, outer, IsValidScoped}
use Rattle.tinyjson_schema_laws.proofs.Bisimilar.{Simulates}
use Rattle.tinyjson_schema_laws.proofs.Exactly.{exactly, each_value_decided}
use Rattle.tinyjson_schema_laws.proofs.Located.{each_leads}
use Rattle.tinyjson_schema_laws.proofs.Referring.{root}
use Rattle.tinyjson_schema_laws.proofs.Simulation.{Related, simulates, begins}
use Rattle.tinyjson_schema_laws.proofs.Stepping.{simulated}

module _ (t : Tree) (is : IsUncontested t) where
  abbrev made : Tree
  made = root t is.sound (letters t) [] is.none

  made_bundled : made ≡ bundled [] t
  made_bundled = sym (ap (λ x. cond x (with_copies (place_of (marks_of t)) (marks_of t) (base_in [] t) (letters t)
      (some_contested (marks_of t) (base_in [] t) (marks_of t)) [] t []) t) is.several
      ∙ ap (λ x. pointed (leads_of (place_of (marks_of t)) (marks_of t) (base_in [] t) (letters t) x [] from_root) [] [] t) is.none)

  applied : is_schema made true made ≡ true
  applied = subst (λ b. is_schema b true b ≡ true) (sym made_bundled) is.applied

  leading : all_lead t ≡ true
  leading = each_leads (letters t) false [] t is.sound applied

  abbrev Bundled : Scope → Tree → Tree → Type 0
  Bundled = Related t is.sound (letters t) [] is.none applied leading

  same_steps : Simulates t made Bundled
  same_steps = simulates t is.sound (letters t) [] is.none applied leading

  start : Bundled (outer t) t made
  start = begins t is.sound (letters t) [] is.none applied leading

  same : (formats : Bool) (n : ℕ) (x : Tree → Bool) (y : Tree → Child → Bool) (u : Tree)
      → judged t formats n (λ c. by_value x y) u ≡ judge (bundled_root t formats) n (by_value x y) (bundled [] t) u
  same formats n x y u = (simulated t made Bundled same_steps formats n (λ c. by_value x y) (by_value x y)
      (λ c s r m v. (refl, λ d g. refl)) (outer t) t made start u).0
      ∙ ap (λ b. judge (record { tree = b; formats = formats }) n (by_value x y) b u) made_bundled

  exact : (formats : Bool) (u : Tree) → IsValidScoped t formats u ↔ IsValidIn (bundled_root t formats) u
  exact formats u = subst (λ b. IsValidScoped t formats u ↔ IsValidIn (record { tree = b; formats = formats }) u) made_bundled
      (exactly t made Bundled same_steps start formats u)

pub same_results : SameResults
same_results t is formats n x y u = same t is formats n x y u

pub same_verdict : Exact
same_verdict t is formats u = exact t is formats u

pub each_decided : EachDecided
each_decided t is formats u = each_value_decided t (made t is) (Bundled t is) (same_steps t is) (start t is) formats u

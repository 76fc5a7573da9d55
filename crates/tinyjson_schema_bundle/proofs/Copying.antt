-- Which states copies are made for, and the letters of their keys.
use Rattle.std.proofs.Common.{◌≡◌, ◌≤◌, ◌<◌, inl, inr, ℕ, zero, suc, Bool, true, false, ◌&&◌, List, [], ◌∷◌, ◌++◌, cond, length, map}
use Rattle.std.proofs.Common.{get_or, is_none, bytes_eq, refl, sym, ap, subst, arith}
use Rattle.std.proofs.lemmas.Bool.{and_parts}
use Rattle.tinyjson.specs.Tree.{Tree}
use Rattle.text_uri.specs.Resolving.{without_fragment}
use Rattle.tinyjson_schema_bundle.specs.Bundles.{Marked, marks_of, base_in}
use Rattle.tinyjson_schema_bundle.specs.Scopes.{Scope, Reached, IsOneOf, is_contested, is_entering, entered_by, entered, scope_by, scope_at}
use Rattle.tinyjson_schema_bundle.specs.Scopes.{reached, home, settled, name_in, is_between, IsScope, HaveScopes, AreCopies, reached_of}
use Rattle.tinyjson_schema_bundle.specs.Scopes.{MayAppend}
use Rattle.tinyjson_schema_bundle.specs.declared.scope.State.{State}

module _ (all : List Marked) (r : List ℕ) where
  one_more : (c : Scope) (m : Marked) → IsScope all r c → IsOneOf all m → is_contested all r m ≡ true → IsScope all r (c ++ m ∷ [])
  one_more [] m h o e = (o, e, tt)
  one_more (n ∷ c) m h o e = (h.0, h.1, one_more c m h.2 o e)

  by_marks : (ms : List Marked) (u : List ℕ) (c : Scope) → ((m : Marked) → IsOneOf ms m → IsOneOf all m) → IsScope all r c
      → IsScope all r (entered_by all r ms u c)
  by_marks [] u c f h = h
  by_marks (m ∷ ms) u c f h = by_marks ms u (cond (is_entering all r c u m) (c ++ m ∷ []) c) (λ n o. f n (inr o))
      (by (is_entering all r c u m) refl)
    where
      by : (b : Bool) → is_entering all r c u m ≡ b → IsScope all r (cond b (c ++ m ∷ []) c)
      by true e =
          let outer = and_parts (is_contested all r m && bytes_eq (without_fragment m.1) u) (is_none (settled c (name_in m))) e in
          let inside = and_parts (is_contested all r m) (bytes_eq (without_fragment m.1) u) outer.0 in
          one_more c m h (f m (inl refl)) inside.0
      by false e = h

  in_entered : (u : List ℕ) (c : Scope) → IsScope all r c → IsScope all r (entered all r u c)
  in_entered u c h = by_marks all u c (λ m o. o) h

  in_scope : (ms : List Marked) (e p : List ℕ) (c : Scope) → IsScope all r c → IsScope all r (scope_by all r ms e p c)
  in_scope [] e p c h = h
  in_scope (m ∷ ms) e p c h = in_scope ms e p (cond (is_between e p m) (entered all r m.1 c) c) (by (is_between e p m))
    where
      by : (b : Bool) → IsScope all r (cond b (entered all r m.1 c) c)
      by true = in_entered m.1 c h
      by false = h

  pub in_reached : (s : Reached) (p q : List ℕ) → IsScope all r s.0 → IsScope all r (reached all r (scope_at all r s p) q).0
  in_reached s p q h = in_entered (home all r q).0 (scope_at all r s p) (in_scope all s.1 p s.0 h)

  -- ---- lists of states

  have_more : (ss : List Reached) (s : Reached) → HaveScopes all r ss → IsScope all r s.0 → HaveScopes all r (ss ++ s ∷ [])
  have_more [] s h g = (g, tt)
  have_more (x ∷ ss) s h g = (h.0, have_more ss s h.1 g)

  pub scope_of : (ss : List State) (i : ℕ) (x : State) → i < length ss → x ≡ get_or ss i x → HaveScopes all r (map reached_of ss)
      → IsScope all r (reached_of x).0
  scope_of [] i x l e h = absurd (omega (arith, l))
  scope_of (s ∷ ss) zero x l e h = subst (λ y. IsScope all r (reached_of y).0) (sym e) h.0
  scope_of (s ∷ ss) (suc i) x l e h = scope_of ss i x (omega (arith, l)) e h.1

  length_more : (ss : List Reached) (s : Reached) → length (ss ++ s ∷ []) ≡ suc (length ss)
  length_more [] s = refl
  length_more (x ∷ ss) s = ap suc (length_more ss s)

  pub appended : (s : Reached) (old new : List Reached) → MayAppend s old new → length old < 1000 → HaveScopes all r old → IsScope all r s.0
      → (length new ≤ 1000) × HaveScopes all r new
  appended s old new m l h g = elim m [
    | inl e ↦ subst (λ ss. (length ss ≤ 1000) × HaveScopes all r ss) (sym e) (omega (arith, l), h)
    | inr e ↦
        let n = length_more old s in
        subst (λ ss. (length ss ≤ 1000) × HaveScopes all r ss) (sym e) (omega (arith, l, n), have_more old s h g)
  ]

pub are_copies : (t : Tree) (ms : List Marked) (r : List ℕ) (ss : List Reached) → ms ≡ marks_of t → r ≡ base_in [] t
    → (length ss ≤ 1000) × HaveScopes ms r ss → AreCopies t ss
are_copies t ms r ss e f h = record {
  few = h.0;
  scopes = subst (λ x. HaveScopes (marks_of t) x ss) f (subst (λ x. HaveScopes x r ss) e h.1);
}

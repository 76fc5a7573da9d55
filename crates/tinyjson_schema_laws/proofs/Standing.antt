-- What the bundled document keeps of the dynamic scope of a schema is the scope that a state has there.
use Rattle.std.proofs.Common.{◌≡◌, ◌⊎◌, inl, inr, ℕ, Bool, true, false, ◌&&◌, ◌||◌, List, [], ◌∷◌, ◌++◌}
use Rattle.std.proofs.Common.{Option, Some, None, cond, refl, sym, ap, ◌∙◌, true≢false, subst, bytes_eq}
use Rattle.std.proofs.lemmas.Bool.{and_parts}
use Rattle.std.proofs.lemmas.Slice.Eq.{bytes_eq-Decides}
use Rattle.std.specs.Option.{option_map_or}
use Rattle.std.specs.Prelude.{⊤, is_none}
use Rattle.tinyjson.specs.Access.{is_string}
use Rattle.tinyjson.specs.Tree.{Tree, string, object}
use Rattle.tinyjson_grammar.specs.Soundness.{IsTree}
use Rattle.tinyjson_schema_keywords.specs.Applied.{schema_at}
use Rattle.tinyjson_schema_keywords.specs.declared.keyword.Form.TheVariants as form
use Rattle.tinyjson_schema_keywords.specs.declared.keyword.Keyword.TheVariants as kw
use Rattle.text_uri.specs.Resolving.{without_fragment}
use Rattle.tinyjson_schema_bundle.specs.Bundles as names
use Rattle.tinyjson_schema_bundle.specs.Bundles.{Marked, is_empty, base_by, base_in, is_resource, marks_of, is_dynamic_name}
use Rattle.tinyjson_schema_bundle.specs.Scopes as bundle
use Rattle.tinyjson_schema_bundle.specs.Scopes.{Reached, from_root, is_within, is_between, name_in, settled, is_contested}
use Rattle.tinyjson_schema_bundle.specs.Scopes.{is_entering, entered_by, scope_by, scope_at, home, reached, is_same}
use Rattle.tinyjson_schema_laws.proofs.Containing.{IsShort, Chain, within_within, within_from}
use Rattle.tinyjson_schema_laws.proofs.Positions.{own, IsAt, at_root}
use Rattle.tinyjson_schema_laws.proofs.States.{along, scope_here, home_base, home_contains, scope_reached}
use Rattle.tinyjson_schema_laws.specs.Laws.{kept}
use Rattle.tinyjson_schema_laws.specs.Scoped.{Scope, base, entered}

-- ---- scopes of contested names of the document

-- the mark is among the marks
abbrev pub IsAmong : Marked → List Marked → Type 0
IsAmong m [] = ⊥
IsAmong m (n ∷ ms) = (m ≡ n) ⊎ IsAmong m ms

module _ (all : List Marked) (r : List ℕ) where
  -- each mark of the scope is a contested name among the marks
  abbrev pub IsOwned : List Marked → Type 0
  IsOwned [] = ⊤
  IsOwned (m ∷ c) = IsAmong m all × (is_contested all r m ≡ true) × IsOwned c

  owned_last : (c : List Marked) (m : Marked) → IsOwned c → IsAmong m all → is_contested all r m ≡ true → IsOwned (c ++ m ∷ [])
  owned_last [] m h a e = (a, e, tt)
  owned_last (n ∷ c) m h a e = (h.0, h.1, owned_last c m h.2 a e)

  owned_by : (u : List ℕ) (ms c : List Marked) → ((m : Marked) → IsAmong m ms → IsAmong m all) → IsOwned c
      → IsOwned (entered_by all r ms u c)
  owned_by u [] c f h = h
  owned_by u (m ∷ ms) c f h = owned_by u ms (cond (is_entering all r c u m) (c ++ m ∷ []) c) (λ n a. f n (inr a))
      (by (is_entering all r c u m) refl)
    where
      by : (b : Bool) → is_entering all r c u m ≡ b → IsOwned (cond b (c ++ m ∷ []) c)
      by true e = owned_last c m h (f m (inl refl)) (and_parts (is_contested all r m) (bytes_eq (without_fragment m.1) u)
          (and_parts (is_contested all r m && bytes_eq (without_fragment m.1) u) (is_none (settled c (name_in m))) e).0).0
      by false e = h

  pub owned_entered : (u : List ℕ) (c : List Marked) → IsOwned c → IsOwned (bundle.entered all r u c)
  owned_entered u c h = owned_by u all c (λ m a. a) h

  owned_scope_by : (ms : List Marked) (e p : List ℕ) (c : List Marked) → IsOwned c → IsOwned (scope_by all r ms e p c)
  owned_scope_by [] e p c h = h
  owned_scope_by (m ∷ ms) e p c h = owned_scope_by ms e p (cond (is_between e p m) (bundle.entered all r m.1 c) c) (by (is_between e p m))
    where
      by : (b : Bool) → IsOwned (cond b (bundle.entered all r m.1 c) c)
      by true = owned_entered m.1 c h
      by false = h

  pub owned_scope : (s : Reached) (p : List ℕ) → IsOwned s.0 → IsOwned (scope_at all r s p)
  owned_scope s p h = owned_scope_by all s.1 p s.0 h

  pub owned_reached : (c : List Marked) (q : List ℕ) → IsOwned c → IsOwned (reached all r c q).0
  owned_reached c q h = owned_entered (home all r q).0 c h

  pub owned_kept : (c : Scope) → IsOwned (kept all r c)
  owned_kept [] = tt
  owned_kept (u ∷ c) = owned_entered u (kept all r c) (owned_kept c)

  -- a place has one name by `$dynamicAnchor`
  abbrev pub OneName : Type 0
  OneName = (m n : Marked) → IsAmong m all → IsAmong n all → is_dynamic_name m.0 ≡ true → is_dynamic_name n.0 ≡ true → m.2 ≡ n.2 → m ≡ n

  pub same_scopes : OneName → (c d : List Marked) → IsOwned c → IsOwned d → is_same c d ≡ true → c ≡ d
  same_scopes one [] [] h g e = refl
  same_scopes one [] (n ∷ d) h g e = absurd (true≢false (sym e))
  same_scopes one (m ∷ c) [] h g e = absurd (true≢false (sym e))
  same_scopes one (m ∷ c) (n ∷ d) h g e =
      let both = and_parts (bytes_eq m.2 n.2) (is_same c d) e in
      let same : m ≡ n = one m n h.0 g.0 (and_parts (is_dynamic_name m.0) (is_none (names.outermost all r (name_in m) m.2)) h.1).0
      (and_parts (is_dynamic_name n.0) (is_none (names.outermost all r (name_in n) n.2)) g.1).0
      ((bytes_eq-Decides m.2 n.2).0 both.0) in
      λ i. same i ∷ same_scopes one c d h.2 g.2 both.1 i

  pub same_itself : (c : List Marked) → is_same c c ≡ true
  same_itself [] = refl
  same_itself (m ∷ c) = λ i. (bytes_eq-Decides m.2 m.2).1 refl i && same_itself c i

-- ---- the scope of a schema, and the state from which it is bundled

module _ (t : Tree) where
  abbrev all : List Marked
  all = marks_of t

  abbrev r : List ℕ
  r = base_in [] t

  -- The schema s is at the place p of the document. From the state it has the scope that the bundled document keeps
  -- of its dynamic scope c.
  pub record Stands (c : Scope) (st : Reached) (d p : List ℕ) (s : Tree) (ch : Chain) : Type 0 where
    pub at : IsAt t form.Schema d p s ch
    pub held : kept all r c ≡ scope_at all r st p
    pub inside : is_within st.1 p ≡ true
    pub based : base c ≡ base_in d s

  pub stands_root : IsTree t → IsShort t → Stands (r ∷ []) from_root [] [] t []
  stands_root h s = record {
    at = at_root t h s;
    held = by t (at_root t h s);
    inside = refl;
    based = refl;
  }
    where
      by : (w : Tree) → IsAt w form.Schema [] [] w [] → kept (marks_of w) (base_in [] w) (base_in [] w ∷ [])
          ≡ scope_at (marks_of w) (base_in [] w) from_root []
      by (object ms) at = sym (scope_here (object ms) [] [] (object ms) [] at from_root)
      by _ at = refl

  -- a subschema
  module _ (c : Scope) (st : Reached) (d p : List ℕ) (s : Tree) (ch : Chain) (stands : Stands c st d p s ch) (q : List ℕ) (w : Tree)
      (at : IsAt t form.Schema (base_in d s) q w (own d p s ch)) (below : is_within p q ≡ true) (deeper : is_empty q ≡ false) where
    abbrev is_own : Tree → Bool
    is_own v = option_map_or is_string (schema_at v kw.Id) false

    inside_there : is_within st.1 q ≡ true
    inside_there = within_within st.1 p q stands.inside below

    held_here : kept all r c ≡ along all r st.1 st.0 (own d p s ch)
    held_here = stands.held ∙ scope_here t d p s ch stands.at st

    held_along : kept all r (entered c w) ≡ along all r st.1 st.0 (own (base_in d s) q w (own d p s ch))
    held_along = by w
      where
        resource : (v : Tree) (x : Bool) → kept all r (cond x (base_in (base c) v ∷ c) c)
            ≡ along all r st.1 st.0 (cond x ((base_in (base_in d s) v, q) ∷ own d p s ch) (own d p s ch))
        resource v true =
            (λ i. bundle.entered all r (base_in (stands.based i) v) (held_here i))
            ∙ sym (ap (λ b. cond b (bundle.entered all r (base_in (base_in d s) v) (along all r st.1 st.0 (own d p s ch)))
            (along all r st.1 st.0 (own d p s ch))) inside_there)
        resource v false = held_here

        by : (v : Tree) → kept all r (entered c v) ≡ along all r st.1 st.0 (own (base_in d s) q v (own d p s ch))
        by (object ms) = resource (object ms) (is_own (object ms))
            ∙ ap (λ e. along all r st.1 st.0 (cond (e || is_own (object ms)) ((base_in (base_in d s) (object ms), q) ∷ own d p s ch)
            (own d p s ch))) (sym deeper)
        by _ = held_here

    base_there : base (entered c w) ≡ base_in (base_in d s) w
    base_there = by (schema_at w kw.Id) refl
      where
        by : (o : Option Tree) → schema_at w kw.Id ≡ o
            → base (cond (option_map_or is_string o false) (base_by (base c) o ∷ c) c) ≡ base_by (base_in d s) o
        by None e = stands.based
        by (Some (string cs)) e = ap (λ b. base_by b (Some (string cs))) stands.based
        by (Some _) e = stands.based

    pub stands_below : Stands (entered c w) st (base_in d s) q w (own d p s ch)
    stands_below = record {
      at = at;
      held = held_along ∙ sym (scope_here t (base_in d s) q w (own d p s ch) at st);
      inside = inside_there;
      based = base_there;
    }

  -- the schema at q, to which a reference leads
  module _ (c : Scope) (st : Reached) (p : List ℕ) (held : kept all r c ≡ scope_at all r st p) (d q : List ℕ) (w : Tree) (ch : Chain)
      (at : IsAt t form.Schema d q w ch) where
    held_reached : kept all r (base_in d w ∷ c) ≡ (reached all r (scope_at all r st p) q).0
    held_reached = λ i. bundle.entered all r (sym (home_base t d q w ch at) i) (held i)

    pub stands_led : Stands (base_in d w ∷ c) (reached all r (scope_at all r st p) q) d q w ch
    stands_led = record {
      at = at;
      held = held_reached ∙ sym (scope_reached t d q w ch at (scope_at all r st p));
      inside = home_contains t d q w ch at;
      based = refl;
    }

    -- in the document itself
    pub stands_main : OneName all r → IsOwned all r st.0
        → is_same (reached all r (scope_at all r st p) q).0 (scope_at all r from_root q) ≡ true
        → Stands (base_in d w ∷ c) from_root d q w ch
    stands_main one owned e = record {
      at = at;
      held = held_reached ∙ same_scopes all r one (reached all r (scope_at all r st p) q).0 (scope_at all r from_root q)
          (owned_reached all r (scope_at all r st p) q (owned_scope all r st p owned)) (owned_scope all r from_root q tt) e;
      inside = within_from [] q at.begins;
      based = refl;
    }

    -- in a copy
    pub stands_copied : OneName all r → IsOwned all r st.0 → (copy : Reached) → IsOwned all r copy.0
        → is_same copy.0 (reached all r (scope_at all r st p) q).0 ≡ true → bytes_eq copy.1 (home all r q).1 ≡ true
        → Stands (base_in d w ∷ c) copy d q w ch
    stands_copied one owned copy other e f =
        subst (λ x. Stands (base_in d w ∷ c) x d q w ch) (sym (λ i. (
          same_scopes all r one copy.0
              (reached all r (scope_at all r st p) q).0 other
              (owned_reached all r (scope_at all r st p) q (owned_scope all r st p owned)) e i,
          (bytes_eq-Decides copy.1 (home all r q).1).0 f i,
        )))
        stands_led

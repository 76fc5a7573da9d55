-- What the bundled document keeps of a dynamic scope decides as the scope does.
use Rattle.std.proofs.Common.{◌≡◌, ℕ, Bool, true, false, ◌&&◌, List, [], ◌∷◌, ◌++◌, Option, Some, None}
use Rattle.std.proofs.Common.{cond, refl, sym, ap, ◌∙◌, true≢false, bytes_eq, subst, codes, eqb-true}
use Rattle.std.proofs.lemmas.Bool.{and_parts}
use Rattle.std.proofs.lemmas.Option.{same_Some}
use Rattle.std.proofs.lemmas.Slice.Eq.{bytes_eq-Decides}
use Rattle.std.specs.Option.{option_or}
use Rattle.std.specs.Prelude.{unwrap_or, is_none}
use Rattle.text_uri.specs.Letters.{is_number_sign, before, from, after}
use Rattle.text_uri.specs.Resolving.{without_fragment, fragment_of}
use Rattle.tinyjson_schema_bundle.specs.Bundles as bundle
use Rattle.tinyjson_schema_bundle.specs.Bundles.{Marked, marks_of, base_in, with_name, is_dynamic_name, is_dynamic_at, dynamic_place}
use Rattle.tinyjson_schema_bundle.specs.Bundles.{is_named, is_only}
use Rattle.tinyjson_schema_bundle.specs.Bundles.{begins_pointer}
use Rattle.tinyjson_schema_bundle.specs.Scopes.{settled, name_in, is_contested, is_entering, entered_by}
use Rattle.tinyjson_schema_laws.specs.Laws.{ScopeDecides, AreUris, kept}
use Rattle.tinyjson_schema_laws.specs.Scoped.{Scope, outermost}
use Rattle.tinyjson_schema_laws.proofs.Dynamic.{IsBase, AreBases, cut_base, name_of, only, same_outermost}

-- ---- a URI and its fragment

-- the text before the first `#`, and the fragment
rejoined : (x f : List ℕ) → fragment_of x ≡ Some f → x ≡ without_fragment x ++ 35 ∷ f
rejoined [] f e = absurd (let none : None ≡ Some f = e in cc)
rejoined (c ∷ x) f e = by (rejoined x f) (is_number_sign c) refl e
  where
    by : (fragment_of x ≡ Some f → x ≡ without_fragment x ++ 35 ∷ f) → (b : Bool) → is_number_sign c ≡ b
        → after (codes "#") (cond b (c ∷ x) (from is_number_sign x)) ≡ Some f
        → c ∷ x ≡ cond b [] (c ∷ before is_number_sign x) ++ 35 ∷ f
    by later true g h =
        let same : x ≡ f = same_Some x f (sym (ap (λ b. cond b (Some x) None) g) ∙ h) in
        λ i. eqb-true c 35 g i ∷ same i
    by later false g h = ap (λ y. c ∷ y) (later h)

some_fragment : (x n : List ℕ) → begins_pointer n ≡ false → unwrap_or (fragment_of x) [] ≡ n → fragment_of x ≡ Some n
some_fragment x n h e = by (fragment_of x) e
  where
    by : (o : Option (List ℕ)) → unwrap_or o [] ≡ n → o ≡ Some n
    by None g = absurd (true≢false (ap begins_pointer g ∙ h))
    by (Some f) g = ap Some g

named_uri : (x u n : List ℕ) → begins_pointer n ≡ false → unwrap_or (fragment_of x) [] ≡ n → without_fragment x ≡ u → x ≡ with_name u n
named_uri x u n h e f = rejoined x n (some_fragment x n h e) ∙ ap (λ y. with_name y n) f

pub cut_name : (u n : List ℕ) → without_fragment (without_fragment u ++ 35 ∷ n) ≡ without_fragment u
cut_name [] n = refl
cut_name (c ∷ u) n = by (cut_name u n) (is_number_sign c) refl
  where
    by : without_fragment (without_fragment u ++ 35 ∷ n) ≡ without_fragment u → (b : Bool) → is_number_sign c ≡ b
        → without_fragment (cond b [] (c ∷ before is_number_sign u) ++ 35 ∷ n) ≡ cond b [] (c ∷ before is_number_sign u)
    by later true g = refl
    by later false g = ap (λ b. cond b [] (c ∷ before is_number_sign (before is_number_sign u ++ 35 ∷ n))) g ∙ ap (λ y. c ∷ y) later

-- ---- what a scope settles

or_none : (o : Option (List ℕ)) → option_or o None ≡ o
or_none None = refl
or_none (Some p) = refl

or_or : (x y z : Option (List ℕ)) → option_or (option_or x y) z ≡ option_or x (option_or y z)
or_or None y z = refl
or_or (Some p) y z = refl

settled_last : (c : List Marked) (m : Marked) (n : List ℕ) → settled (c ++ m ∷ []) n
    ≡ option_or (settled c n) (cond (is_named m n) (Some m.2) None)
settled_last [] m n = refl
settled_last (l ∷ c) m n = by (settled_last c m n) (is_named l n)
  where
    by : settled (c ++ m ∷ []) n ≡ option_or (settled c n) (cond (is_named m n) (Some m.2) None) → (b : Bool)
        → cond b (Some l.2) (settled (c ++ m ∷ []) n) ≡ option_or (cond b (Some l.2) (settled c n)) (cond (is_named m n) (Some m.2) None)
    by later true = refl
    by later false = later

module _ (all : List Marked) (r n : List ℕ) (is_name : begins_pointer n ≡ false) (q : List ℕ)
    (contested : is_none (bundle.outermost all r n q) ≡ true) (v : List ℕ) (base : IsBase v) (at : dynamic_place all (with_name v n)
    ≡ Some q) where
  none_here : dynamic_place all (with_name r n) ≡ None
  none_here = by (dynamic_place all (with_name r n)) contested
    where
      by : (o : Option (List ℕ)) → is_none (option_or o (cond (is_only all n q) (Some q) None)) ≡ true → o ≡ None
      by None h = refl
      by (Some p) h = absurd (true≢false (sym h))

  not_only : is_only all n q ≡ false
  not_only = by (is_only all n q) (sym (ap (λ o. is_none (option_or o (cond (is_only all n q) (Some q) None))) none_here) ∙ contested)
    where
      by : (b : Bool) → is_none (cond b (Some q) None) ≡ true → b ≡ false
      by true h = absurd (true≢false (sym h))
      by false h = refl

  -- each schema with the name is contested
  all_contested : (m : Marked) → is_dynamic_name m.0 ≡ true → name_in m ≡ n → is_contested all r m ≡ true
  all_contested m d e = λ i. d i && (ap (λ x. is_none (bundle.outermost all r x m.2)) e
      ∙ (ap (λ o. is_none (option_or o (cond (is_only all n m.2) (Some m.2) None))) none_here ∙ by (is_only all n m.2) refl)) i
    where
      by : (b : Bool) → is_only all n m.2 ≡ b → is_none (cond b (Some m.2) None) ≡ true
      by true f = absurd (true≢false (sym (ap (λ x. is_only all n x) (only all r n all v q m.2 base f at) ∙ f) ∙ not_only))
      by false f = refl

  module _ (u : List ℕ) (cut : without_fragment u ≡ u) where
    -- one more mark
    one_more : (c : List Marked) (m : Marked) (o : Option (List ℕ))
        → option_or (settled (cond (is_entering all r c u m) (c ++ m ∷ []) c) n) o
        ≡ option_or (settled c n) (cond (is_dynamic_at m (with_name u n)) (Some m.2) o)
    one_more c m o = by (is_dynamic_at m (with_name u n)) refl
      where
        kept_on : (x : Bool) (p : Option (List ℕ)) → settled c n ≡ p → is_contested all r m ≡ true
            → bytes_eq (without_fragment m.1) u ≡ true
            → name_in m ≡ n → is_named m n ≡ true
            → option_or (settled (cond (is_entering all r c u m) (c ++ m ∷ []) c) n) o
            ≡ option_or p (Some m.2)
        kept_on x None e f g h k =
            ap (λ b. option_or (settled (cond b (c ++ m ∷ []) c) n) o) (λ i. (f i && g i) && is_none ((ap (settled c) h ∙ e) i))
            ∙ ap (λ y. option_or y o) (settled_last c m n ∙ (λ i. option_or (e i) (cond (k i) (Some m.2) None)))
        kept_on x (Some p) e f g h k =
            ap (λ b. option_or (settled (cond b (c ++ m ∷ []) c) n) o) (λ i. (f i && g i) && is_none ((ap (settled c) h ∙ e) i))
            ∙ ap (λ y. option_or y o) e

        passed : (b : Bool) → is_entering all r c u m ≡ b → is_dynamic_at m (with_name u n) ≡ false
            → option_or (settled (cond b (c ++ m ∷ []) c) n) o ≡ option_or (settled c n) o
        passed false e f = refl
        passed true e f = ap (λ y. option_or y o) (settled_last c m n ∙ (ap (λ b. option_or (settled c n) (cond b (Some m.2) None))
            (unnamed (is_named m n) refl) ∙ or_none (settled c n)))
          where
            unnamed : (b : Bool) → is_named m n ≡ b → b ≡ false
            unnamed false g = refl
            unnamed true g =
                let named = and_parts (is_dynamic_name m.0) (bytes_eq (unwrap_or (fragment_of m.1) []) n) g in
                let entering = and_parts (is_contested all r m && bytes_eq (without_fragment m.1) u) (is_none (settled c (name_in m))) e in
                let inside = and_parts (is_contested all r m) (bytes_eq (without_fragment m.1) u) entering.0 in
                let uri : m.1 ≡ with_name u n = named_uri m.1 u n is_name ((bytes_eq-Decides (unwrap_or (fragment_of m.1) []) n).0 named.1)
                ((bytes_eq-Decides (without_fragment m.1) u).0 inside.1) in
                let there : is_dynamic_at m (with_name u n) ≡ true = (λ i. named.0 i && (bytes_eq-Decides m.1 (with_name u n)).1 uri i) in
                absurd (true≢false (sym there ∙ f))

        by : (b : Bool) → is_dynamic_at m (with_name u n) ≡ b
            → option_or (settled (cond (is_entering all r c u m) (c ++ m ∷ []) c) n) o ≡ option_or (settled c n) (cond b (Some m.2) o)
        by true e =
            let both = and_parts (is_dynamic_name m.0) (bytes_eq m.1 (with_name u n)) e in
            let uri : m.1 ≡ with_name u n = (bytes_eq-Decides m.1 (with_name u n)).0 both.1 in
            let name : name_in m ≡ n = ap (λ x. unwrap_or (fragment_of x) []) uri ∙ name_of u n (subst IsBase cut (cut_base u)) in
            let resource : without_fragment m.1 ≡ u = ap without_fragment uri ∙ (sym (ap (λ y. without_fragment (with_name y n)) cut)
            ∙ (cut_name u n ∙ cut)) in
            kept_on true (settled c n) refl (all_contested m both.0 name) ((bytes_eq-Decides (without_fragment m.1) u).1 resource) name
            (λ i. both.0 i && (bytes_eq-Decides (name_in m) n).1 name i)
        by false e = passed (is_entering all r c u m) refl e

    entered_settles : (ms : List Marked) (c : List Marked)
        → settled (entered_by all r ms u c) n ≡ option_or (settled c n) (dynamic_place ms (with_name u n))
    entered_settles [] c = sym (or_none (settled c n))
    entered_settles (m ∷ ms) c = entered_settles ms (cond (is_entering all r c u m) (c ++ m ∷ []) c)
        ∙ one_more c m (dynamic_place ms (with_name u n))

  kept_settles : (c : Scope) → AreUris c → settled (kept all r c) n ≡ outermost all c n
  kept_settles [] h = refl
  kept_settles (u ∷ c) h = entered_settles u h.0 all (kept all r c)
      ∙ ap (λ o. option_or o (dynamic_place all (with_name u n))) (kept_settles c h.1)

uris_bases : (c : Scope) → AreUris c → AreBases c
uris_bases [] h = tt
uris_bases (u ∷ c) h = (subst IsBase h.0 (cut_base u), uris_bases c h.1)

pub scope_decides : ScopeDecides
scope_decides t c ends uris u n q cut is_name e = by (is_none (bundle.outermost (marks_of t) (base_in [] t) n q)) refl
  where
    by : (b : Bool) → is_none (bundle.outermost (marks_of t) (base_in [] t) n q) ≡ b
        → unwrap_or (option_or (bundle.outermost (marks_of t) (base_in [] t) n q) (settled (kept (marks_of t) (base_in [] t) c) n)) q
        ≡ unwrap_or (outermost (marks_of t) c n) q
    by true f = (λ i. unwrap_or (option_or (nothing (bundle.outermost (marks_of t) (base_in [] t) n q) f i)
        (kept_settles (marks_of t) (base_in [] t) n is_name q f u (subst IsBase cut (cut_base u)) e c uris i)) q)
      where
        nothing : (o : Option (List ℕ)) → is_none o ≡ true → o ≡ None
        nothing None g = refl
        nothing (Some p) g = absurd (true≢false (sym g))
    by false f = same_outermost (marks_of t) (base_in [] t) n c q (settled (kept (marks_of t) (base_in [] t) c) n) ends
        (uris_bases c uris) f

-- The assertions of a schema, in a list.
use Rattle.std.proofs.Common.{◌≡◌, ◌++◌, ℕ, zero, suc, ◌<◌, Bool, true, false, true≢false, ◌&&◌, List, [], ◌∷◌, Option, Some}
use Rattle.std.proofs.Common.{None, length, get_or, drop, ◌+◌}
use Rattle.std.proofs.Common.{refl, sym, ap, ◌∙◌, arith}
use Rattle.std.proofs.lemmas.Bool.{and_parts, and_from}
use Rattle.std.proofs.lemmas.List.{get_or_default}
use Rattle.tinyjson_schema_keywords.proofs.Callers.{drop_item}
use Rattle.std.specs.Option.{option_map_or}
use Rattle.tinyjson.specs.Equality.{tree_eq_Decides}
use Rattle.tinyjson.specs.Tree.{Tree}
use Rattle.tinyjson.specs.View.{view}
use Rattle.tinyjson_schema_assertions.specs.Assertions.{accepts, meets, meets_all}
use Rattle.tinyjson_schema_keywords.specs.Applied.{schema_at}
use Rattle.tinyjson_schema_keywords.specs.declared.keyword.Keyword.{Keyword}
use Rattle.tinyjson_schema_table.specs.Givens.{is_at, are_had, meets_given, AddsGiven}
use Rattle.tinyjson_schema_table.specs.declared.given.Given.{Given}

pub is_at_some : (o : Option Tree) (t : Tree) → o ≡ Some t → is_at o t ≡ true
is_at_some None t h = cc
is_at_some (Some u) t h = let same : u ≡ t = cc in (tree_eq_Decides u t).1 same

pub at_is : (o : Option Tree) (t : Tree) → is_at o t ≡ true → o ≡ Some t
at_is None t h = absurd (true≢false (sym h))
at_is (Some u) t h = ap (λ (x : Tree). Some x) ((tree_eq_Decides u t).0 h)

-- ---- one more

had_more : (s : Tree) (gs : List Given) (g : Given) → is_at (schema_at s g.keyword) (view g.operand.now) ≡ true
    → are_had s gs ≡ true → are_had s (gs ++ (g ∷ [])) ≡ true
had_more s [] g h all = and_from _ true h refl
had_more s (f ∷ gs) g h all =
    let both = and_parts (is_at (schema_at s f.keyword) (view f.operand.now)) (are_had s gs) all in
    and_from _ _ both.0 (had_more s gs g h both.1)

and_true : (b : Bool) → (b && true) ≡ b
and_true true = refl
and_true false = refl

and_assoc : (a b c : Bool) → (a && (b && c)) ≡ ((a && b) && c)
and_assoc true b c = refl
and_assoc false b c = refl

met_more : (gs : List Given) (g : Given) (t : Tree)
    → meets_given (gs ++ (g ∷ [])) t ≡ (meets_given gs t && accepts g.keyword (view g.operand.now) t)
met_more [] g t = and_true (accepts g.keyword (view g.operand.now) t)
met_more (f ∷ gs) g t = ap (λ b. accepts f.keyword (view f.operand.now) t && b) (met_more gs g t)
    ∙ and_assoc (accepts f.keyword (view f.operand.now) t) (meets_given gs t) (accepts g.keyword (view g.operand.now) t)

-- an assertion that the schema has is added
pub given_added : (s : Tree) (gs new : List Given) (g : Given) → Some (view g.operand.now) ≡ schema_at s g.keyword
    → new ≡ gs ++ (g ∷ []) → AddsGiven s g.keyword gs new
given_added s gs new g h e = record {
  had = λ all. ap (are_had s) e ∙ had_more s gs g (is_at_some _ _ (sym h)) all;
  all = λ t. ap (λ xs. meets_given xs t) e ∙ (met_more gs g t
      ∙ ap (λ o. meets_given gs t && option_map_or (λ w. accepts g.keyword w t) o true) h);
}

-- one that it does not have is not
pub given_kept : (s : Tree) (gs : List Given) (k : Keyword) → None ≡ schema_at s k → AddsGiven s k gs gs
given_kept s gs k h = record {
  had = λ all. all;
  all = λ t. sym (ap (λ o. meets_given gs t && option_map_or (λ w. accepts k w t) o true) (sym h) ∙ and_true (meets_given gs t));
}

-- ---- a turn of the loop over keywords

pub keyword_turn : (s t : Tree) (k : Keyword) (ks all : List Keyword) (old new : List Given) → AddsGiven s k old new
    → (meets_given old t && meets_all (k ∷ ks) s t) ≡ meets_all all s t → (meets_given new t && meets_all ks s t) ≡ meets_all all s t
keyword_turn s t k ks all old new a left =
    ap (λ b. b && meets_all ks s t) (a.all t) ∙ (sym (and_assoc (meets_given old t) (meets k s t) (meets_all ks s t)) ∙ left)

pub keyword_next : (s t : Tree) (d : Keyword) (all : List Keyword) (i : ℕ) (old new : List Given) → i < length all
    → AddsGiven s (get_or all i d) old new → (meets_given old t && meets_all (drop i all) s t) ≡ meets_all all s t
    → (meets_given new t && meets_all (drop (i + 1) all) s t) ≡ meets_all all s t
keyword_next s t d all i old new h a left =
    let k = get_or all i d in
    keyword_turn s t k (drop (i + 1) all) all old new a (sym (ap (λ xs. meets_given old t && meets_all xs s t)
    (drop_item all i k h (get_or_default all i d k h))) ∙ left)

pub keywords_end : (s t : Tree) (all : List Keyword) (gs : List Given)
    → (meets_given gs t && true) ≡ meets_all all s t → meets_given gs t ≡ meets_all all s t
keywords_end s t all gs left = sym (and_true (meets_given gs t)) ∙ left

-- ---- an assertion of the list that is not met

pub had_unmet : (s t : Tree) (gs : List Given) (i : ℕ) (g : Given) → i < length gs → g ≡ get_or gs i g → are_had s gs ≡ true
    → accepts g.keyword (view g.operand.now) t ≡ false → meets g.keyword s t ≡ false
had_unmet s t [] i g h e all unmet = absurd (omega (arith, h))
had_unmet s t (f ∷ gs) zero g h e all unmet =
    let one : is_at (schema_at s f.keyword) (view f.operand.now) ≡ true = (and_parts _ (are_had s gs) all).0 in
    ap (λ (x : Given). option_map_or (λ w. accepts x.keyword w t) (schema_at s x.keyword) true) e
    ∙ (ap (λ o. option_map_or (λ w. accepts f.keyword w t) o true) (at_is _ _ one)
    ∙ (ap (λ (x : Given). accepts x.keyword (view x.operand.now) t) (sym e) ∙ unmet))
had_unmet s t (f ∷ gs) (suc i) g h e all unmet =
    had_unmet s t gs i g (omega (arith, h)) e (and_parts (is_at (schema_at s f.keyword) (view f.operand.now)) (are_had s gs) all).1 unmet

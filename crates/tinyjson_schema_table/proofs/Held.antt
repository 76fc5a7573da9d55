-- The values of a schema's keywords, by their places.
use Rattle.std.proofs.Common.{◌≡◌, ℕ, zero, suc, Bool, true, false, true≢false, ◌&&◌, List, [], ◌∷◌, Option, Some, None, option_map, map}
use Rattle.std.proofs.Common.{refl, sym, ap, ◌∙◌, subst}
use Rattle.std.proofs.lemmas.Bool.{and_parts, and_from}
use Rattle.std.specs.Prelude.{slice_get}
use Rattle.tinyjson.specs.Equality.{tree_eq, tree_eq_Decides}
use Rattle.tinyjson.specs.Tree.{Tree}
use Rattle.tinyjson_schema_keywords.specs.declared.keyword.Keyword.{Keyword}
use Rattle.tinyjson_schema_table.specs.Held.{is_value, are_values}

some_apart : {A : Type 0} {x : A} {R : Type 0} → None ≡ Some x → R
some_apart h = cc

some_is : {A : Type 0} (a b : A) → Some a ≡ Some b → a ≡ b
some_is a b h = cc

-- two keywords at one place
pub one_there : (k l : Keyword) → Some k ≡ Some l → k ≡ l
one_there k l h = some_is k l h

-- ---- the values are those

itself : (o : Option Tree) → is_value o o ≡ true
itself None = refl
itself (Some t) = (tree_eq_Decides t t).1 refl

all_itself : (os : List (Option Tree)) → are_values os os ≡ true
all_itself [] = refl
all_itself (o ∷ os) = and_from _ _ (itself o) (all_itself os)

pub values_same : (os ps : List (Option Tree)) → os ≡ ps → are_values os ps ≡ true
values_same os ps e = subst (λ xs. are_values os xs ≡ true) e (all_itself os)

-- ---- the value at a place

value_is : (o p : Option Tree) → is_value o p ≡ true → o ≡ p
value_is None None h = refl
value_is None (Some u) h = absurd (true≢false (sym h))
value_is (Some t) None h = absurd (true≢false (sym h))
value_is (Some t) (Some u) h = ap Some ((tree_eq_Decides t u).0 h)

both_at : (os ps : List (Option Tree)) (i : ℕ) (o p : Option Tree) → are_values os ps ≡ true → slice_get os i ≡ Some o
    → slice_get ps i ≡ Some p → o ≡ p
both_at [] ps i o p h a b = some_apart a
both_at (x ∷ os) [] i o p h a b = some_apart b
both_at (x ∷ os) (y ∷ ps) zero o p h a b =
    sym (some_is x o a) ∙ (value_is x y (and_parts (is_value x y) (are_values os ps) h).0 ∙ some_is y p b)
both_at (x ∷ os) (y ∷ ps) (suc i) o p h a b = both_at os ps i o p (and_parts (is_value x y) (are_values os ps) h).1 a b

got_mapped : {A B : Type 0} (f : A → B) (xs : List A) (i : ℕ) (x : A) → slice_get xs i ≡ Some x → slice_get (map f xs) i ≡ Some (f x)
got_mapped f [] i x h = some_apart h
got_mapped f (y ∷ xs) zero x h = ap (λ z. Some (f z)) (some_is y x h)
got_mapped f (y ∷ xs) (suc i) x h = got_mapped f xs i x h

-- two lists with the same images, at one place
pub same_at : {A B : Type 0} (f : A → Option Tree) (g : B → Option Tree) (xs : List A) (ys : List B) (i : ℕ) (x : A) (y : B)
    → are_values (map f xs) (map g ys) ≡ true → slice_get xs i ≡ Some x → slice_get ys i ≡ Some y → f x ≡ g y
same_at f g xs ys i x y e h k = both_at (map f xs) (map g ys) i (f x) (g y) e (got_mapped f xs i x h) (got_mapped g ys i y k)

-- Queries that select the same, and what is kept of the elements of a list.
use Rattle.std.proofs.Common.{◌≡◌, ℕ, zero, suc, ◌<◌, List, [], ◌∷◌, map, length, get_or, insert, Option, None, Some}
use Rattle.std.proofs.Common.{refl, sym, ap, ap₂, ◌∙◌, rules, arith, option_and_then}
use Rattle.tinyjson.specs.Tree.{Tree}
use Rattle.tinyjson_path.specs.Comparing.{origin_tree, one_child, one_at, one_tree}
use Rattle.tinyjson_path.specs.Queries.{comparable_value}
use Rattle.tinyjson_path_query.specs.declared.query.Comparable.{Comparable, the_lemmas}
use Rattle.tinyjson_path_query.specs.declared.query.Comparable.TheVariants as comparable
use Rattle.tinyjson_path_query.specs.declared.query.SingularQuery.{SingularQuery}
use Rattle.tinyjson_path_query.specs.declared.query.SingularSegment.{SingularSegment}

by_points : {A B C : Type 0} (f g : A → B → C) → ((a : A) (b : B) → f a b ≡ g a b) → f ≡ g
by_points f g h = λ i a b. h a b i

-- ---- singular queries

abbrev chain : List (Tree → Option Tree) → Tree → Option Tree
chain [] t = Some t
chain (f ∷ fs) t = option_and_then (chain fs) (f t)

after_same : (f g : Tree → Option Tree) → ((t : Tree) → f t ≡ g t) → (o : Option Tree) → option_and_then f o ≡ option_and_then g o
after_same f g h None = refl
after_same f g h (Some t) = h t

chained : (ss : List SingularSegment) (t : Tree) → one_at ss t ≡ chain (map one_child ss) t
chained [] t = refl
chained (s ∷ ss) t = after_same (one_at ss) (chain (map one_child ss)) (λ u. chained ss u) (one_child s t)

pub singular_query_same : (q r : SingularQuery) → q.origin ≡ r.origin → map one_child q.segments.items ≡ map one_child r.segments.items
    → one_tree q ≡ one_tree r
singular_query_same q r e h =
    by_points (one_tree q) (one_tree r)
    (λ root here. chained q.segments.items (origin_tree q.origin root here)
    ∙ (ap₂ (λ o fs. chain fs (origin_tree o root here)) e h ∙ sym (chained r.segments.items (origin_tree r.origin root here))))

singular : (x : Comparable) (q : SingularQuery) → x ≡ comparable.SingularQuery q → (root here : Tree)
    → comparable_value x root here ≡ one_tree q root here
singular x q e root here = ap (λ z. comparable_value z root here) e ∙ search (rules, the_lemmas)

pub singular_same : (x y : Comparable) (q r : SingularQuery) → x ≡ comparable.SingularQuery q → y ≡ comparable.SingularQuery r
    → one_tree q ≡ one_tree r → comparable_value x ≡ comparable_value y
singular_same x y q r e g h =
    by_points (comparable_value x) (comparable_value y)
    (λ root here. singular x q e root here ∙ (ap (λ f. f root here) h ∙ sym (singular y r g root here)))

-- ---- what is kept of the elements of a list

pub at_one : {A B : Type 0} (f g : A → B) (xs : List A) (i : ℕ) (x : A) → map f xs ≡ map g xs → i < length xs → x ≡ get_or xs i x
    → f x ≡ g x
at_one f g [] i x e l h = absurd (omega arith)
at_one f g (y ∷ ys) zero x e l h = let first : f y ≡ g y = cc in ap f h ∙ (first ∙ sym (ap g h))
at_one f g (y ∷ ys) (suc i) x e l h = let rest : map f ys ≡ map g ys = cc in at_one f g ys i x rest (omega arith) h

-- of elements that are the same to both, with one more
pub same_insert : {A B : Type 0} (f g : A → B) (xs : List A) (i : ℕ) (x : A) → map f xs ≡ map g xs → f x ≡ g x
    → map f (insert xs i x) ≡ map g (insert xs i x)
same_insert f g [] zero x e h = ap (λ z. z ∷ []) h
same_insert f g [] (suc i) x e h = ap (λ z. z ∷ []) h
same_insert f g (y ∷ ys) zero x e h = ap₂ (λ z zs. z ∷ zs) h e
same_insert f g (y ∷ ys) (suc i) x e h =
    let first : f y ≡ g y = cc in let rest : map f ys ≡ map g ys = cc in ap₂ (λ z zs. z ∷ zs) first (same_insert f g ys i x rest h)

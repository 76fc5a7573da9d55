-- Lists of texts that are within others, and errors that come from one of the texts.
use Rattle.std.proofs.Common.{◌≡◌, ℕ, zero, suc, ◌<◌, List, [], ◌∷◌, ◌++◌, map, length, get_or, Result, Ok, Err, sym, subst, arith}
use Rattle.std.proofs.Common.{⊎_elim, ap, ap₂, refl, ◌∙◌, Option, Some, true, ◌&&◌, bytes_eq}
use Rattle.std.proofs.lemmas.Bool.{and_parts}
use Rattle.std.proofs.lemmas.List.Folds.{list_any_at}
use Rattle.std.proofs.lemmas.Map.Views.{Contains-from_any}
use Rattle.std.proofs.lemmas.Slice.Eq.{bytes_eq-Decides}
use Rattle.std.specs.List.{list_any}
use Rattle.std.proofs.lemmas.List.Elements.{Contains-append_left, Contains-append_right, Contains-append_cases}
use Rattle.std.specs.Prelude.{Contains, flat_map, IsErrAnd, IfErr}
use Rattle.tinyjson.specs.Tree.{Tree, null, boolean, number, string, array, object}
use Rattle.tinyjson_document.specs.Parts.{string_in}
use Rattle.tinyjson_view.specs.Views.{tree_of}
use Rattle.tinyjson_path.specs.Seen.{value_tree}
use Rattle.tinyjson_path.specs.Strings.{Texts, strings_in, strings_at, are_among, IsFrom}
pub use Rattle.tinyjson_path.specs.Strings.{Within}
use Rattle.tinyjson_path.specs.declared.patterns.FindError.{FindError}
use Rattle.tinyjson_path.specs.declared.patterns.FindError.TheVariants.{Pattern, OutOfMemory}
use Rattle.tinyjson_view.specs.declared.view.ValueView.{ValueView}

pub within_self : (xs : Texts) → Within xs xs
within_self xs x c = c

pub within_same : (xs ys : Texts) → xs ≡ ys → Within xs ys
within_same xs ys e = subst (λ zs. Within xs zs) e (within_self xs)

pub within_trans : (xs ys zs : Texts) → Within xs ys → Within ys zs → Within xs zs
within_trans xs ys zs a b x c = b x (a x c)

pub within_none : (ys : Texts) → Within [] ys
within_none ys x c = let no : c.0 < 0 = c.1 in absurd (omega arith)

pub within_left : (xs ys : Texts) → Within xs (xs ++ ys)
within_left xs ys x c = Contains-append_left xs ys x c

pub within_right : (xs ys : Texts) → Within ys (xs ++ ys)
within_right xs ys x c = Contains-append_right xs ys x c

pub within_both : (xs ys zs : Texts) → Within xs zs → Within ys zs → Within (xs ++ ys) zs
within_both xs ys zs a b x c = ⊎_elim (a x) (b x) (Contains-append_cases xs ys x c)

-- what one of a list has
pub within_each : {A B : Type 0} (g : B → Texts) (h : A → B) (xs : List A) (i : ℕ) (x : A) → i < length xs → x ≡ get_or xs i x
    → Within (g (h x)) (flat_map g (map h xs))
within_each g h [] i x l e = absurd (omega arith)
within_each g h (y ∷ ys) zero x l e = subst (λ z. Within (g (h z)) (g (h y) ++ flat_map g (map h ys))) (sym e) (within_left (g (h y)) _)
within_each g h (y ∷ ys) (suc i) x l e =
    within_trans (g (h x)) (flat_map g (map h ys)) (g (h y) ++ flat_map g (map h ys)) (within_each g h ys i x (omega arith) e)
    (within_right (g (h y)) (flat_map g (map h ys)))

-- ---- as a test

pub among : (xs ys : Texts) → Within xs ys → are_among xs ys ≡ true
among [] ys w = refl
among (x ∷ xs) ys w =
    let c : Contains ys x = w x (within_left (x ∷ []) xs x (0, omega arith, refl)) in
    ap₂ (λ a b. a && b) (list_any_at (bytes_eq x) ys c.0 x c.1 ((bytes_eq-Decides x _).1 (sym c.2)))
    (among xs ys (within_trans xs (x ∷ xs) ys (within_right (x ∷ []) xs) w))

within_at : (x : List ℕ) (ys : Texts) → Contains ys x → (z : List ℕ) (i : ℕ) → i < 1 → get_or (x ∷ []) i z ≡ z → Contains ys z
within_at x ys c z zero l e = subst (Contains ys) e c
within_at x ys c z (suc i) l e = absurd (omega arith)

within_one : (x : List ℕ) (ys : Texts) → Contains ys x → Within (x ∷ []) ys
within_one x ys c z k = within_at x ys c z k.0 k.1 k.2

pub within_among : (xs ys : Texts) → are_among xs ys ≡ true → Within xs ys
within_among [] ys e = within_none ys
within_among (x ∷ xs) ys e =
    let h = and_parts (list_any (bytes_eq x) ys) (are_among xs ys) e in
    within_both (x ∷ []) xs ys (within_one x ys (Contains-from_any (λ a b k. (bytes_eq-Decides a b).0 k) x ys h.0))
    (within_among xs ys h.1)

-- ---- errors

pub from_within : (xs ys : Texts) (e : FindError) → Within xs ys → IsFrom xs e → IsFrom ys e
from_within xs ys (Pattern l) w h = let c = w h.1 (h.0, h.2, h.3) in (c.0, h.1, c.1, c.2, h.4)
from_within xs ys OutOfMemory w h = tt

pub from_none : {T : Type 0} (xs : Texts) (x : T) (r : Result T FindError) → r ≡ Ok x → IfErr r (IsFrom xs)
from_none xs x r e = subst (λ r. IfErr r (IsFrom xs)) (sym e) tt

pub from_error : {T : Type 0} (xs ys : Texts) (d : FindError) (r : Result T FindError) → IsErrAnd r (λ e. e ≡ d) → Within xs ys
    → IsFrom xs d → IfErr r (IsFrom ys)
from_error xs ys d (Ok x) h w k = absurd h
from_error xs ys d (Err e) h w k = subst (IsFrom ys) (sym h) (from_within xs ys d w k)

pub from_result : {T : Type 0} (xs ys : Texts) (r : Result T FindError) → Within xs ys → IfErr r (IsFrom xs) → IfErr r (IsFrom ys)
from_result xs ys (Ok x) w h = tt
from_result xs ys (Err e) w h = from_within xs ys e w h

pub from_same : {T : Type 0} (xs : Texts) (d : FindError) (r : Result T FindError) → IsErrAnd r (λ e. e ≡ d) → IsFrom xs d
    → IfErr r (IsFrom xs)
from_same xs d r h k = from_error xs xs d r h (within_self xs) k

pub from_memory : {T : Type 0} (xs : Texts) (r : Result T FindError) → IfErr r (λ e. e ≡ OutOfMemory) → IfErr r (IsFrom xs)
from_memory xs (Ok x) h = tt
from_memory xs (Err e) h = subst (IsFrom xs) (sym h) tt

-- ---- of the query, the root and what is looked at

module _ (query here : Texts) (root : Tree) where
  abbrev pub all_texts : Texts
  all_texts = query ++ (strings_in root ++ here)

  pub of_query : Within query all_texts
  of_query = within_left query (strings_in root ++ here)

  pub of_root : Within (strings_in root) all_texts
  of_root =
      within_trans (strings_in root) (strings_in root ++ here) all_texts (within_left (strings_in root) here)
      (within_right query (strings_in root ++ here))

  pub of_here : Within here all_texts
  of_here =
      within_trans here (strings_in root ++ here) all_texts (within_right (strings_in root) here)
      (within_right query (strings_in root ++ here))

  module _ (part below : Texts) (q : Within part all_texts) (h : Within below all_texts) where
    pub of_all : Within (part ++ (strings_in root ++ below)) all_texts
    of_all =
        within_both part (strings_in root ++ below) all_texts q (within_both (strings_in root) below all_texts of_root h)

-- ---- of a value

-- the characters of a string
pub text_within : (t : Tree) (cs : List ℕ) → Some cs ≡ string_in t → Within (cs ∷ []) (strings_in t)
text_within (string ds) cs e = within_same (cs ∷ []) (ds ∷ []) (let same : cs ≡ ds = cc in ap (λ x. x ∷ []) same)
text_within _ cs e = absurd cc

-- a value that there is
pub value_within : (o : Option ValueView) (t : Option Tree) (v : ValueView) → value_tree o ≡ t → o ≡ Some v
    → Within (strings_in (tree_of v)) (strings_at t)
value_within o t v h e = within_same (strings_in (tree_of v)) (strings_at t) (ap strings_at (sym (ap value_tree e) ∙ h))

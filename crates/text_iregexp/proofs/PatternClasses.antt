-- The letters and the items of a class, as the code reads them.
use Rattle.std.proofs.Common.{◌≡◌, inl, inr, ℕ, zero, suc, ◌<◌, Bool, true, false, cond, List, [], ◌∷◌, ◌++◌, length, Option, Some, None}
use Rattle.std.proofs.Common.{option_map, refl, sym}
use Rattle.std.proofs.Common.{subst, ap, ◌∙◌, arith, append_assoc, append-nil}
use Rattle.std.proofs.lemmas.Bool.{cond-true, cond-false}
use Rattle.std.specs.Prelude.{option_and_then}
use Rattle.text_regexp.specs.declared.class.Item.{Item}
use Rattle.text_iregexp.specs.declared.letter.Letter.{Letter}
use Rattle.text_iregexp.specs.Patterns.{letter_items, ends_class, is_dash, range_of, class_items}
use Rattle.std.proofs.Common.{Result, Ok, Err, Bor}
use Rattle.std.specs.Result.{IsErrAnd}
use Rattle.text_iregexp.specs.declared.error.IRegexpErrorKind.{IRegexpErrorKind}
use Rattle.text_iregexp.specs.declared.error.IRegexpErrorKind.TheVariants.{Invalid, TooDeep, TooLarge, OutOfMemory}
use Rattle.text_iregexp.specs.Fronts.{Fronts}
use Rattle.text_iregexp.specs.Grammar.{Token, characters}
use Rattle.text_iregexp.specs.PatternFronts.{letter_front, letters_step, letters_front, range_behind, caret_front, class_of, class_from}
use Rattle.text_iregexp.specs.PatternFronts.{class_front}
use Rattle.text_iregexp.specs.PatternFronts.{ReadsItems}
use Rattle.text_iregexp.proofs.Lexing.{cond_cases, none_some, some_same}
use Rattle.text_iregexp.proofs.PatternLexing.{letter_shorter}

-- The loop over the letters: so much of the text is left, and this is still what is sought.
abbrev pub GoesLetters : List ℕ → List Letter → List ℕ → Type 0
GoesLetters text xs cs = (n : ℕ) → length text < n → (m : ℕ) × (length cs < m) × (letters_front n [] text ≡ letters_front m xs cs)

pub letters_init : (text : List ℕ) (xs : List Letter) → xs ≡ [] → GoesLetters text xs text
letters_init text xs e = λ n h. (n, h, ap (λ ys. letters_front n ys text) (sym e))

pub letters_on : (text : List ℕ) (xs xs' : List Letter) (cs ys : List ℕ) (x : Letter) → GoesLetters text xs cs
    → letter_front cs ≡ Some (x, ys) → ends_class x ≡ false → xs' ≡ xs ++ x ∷ [] → GoesLetters text xs' ys
letters_on text xs xs' cs ys x goes e f p = λ n l. by n (goes n l).0 (goes n l).1 (goes n l).2
  where
    by : (n m : ℕ) → length cs < m → letters_front n [] text ≡ letters_front m xs cs
        → (k : ℕ) × (length ys < k) × (letters_front n [] text ≡ letters_front k xs' ys)
    by n zero l s = absurd (omega arith)
    by n (suc m) l s =
        let fewer = letter_shorter cs x ys e in (
          m,
          omega arith,
          s ∙ (ap (option_and_then (letters_step (letters_front m) xs)) e
              ∙ (cond-false (ends_class x) _ _ f ∙ ap (λ zs. letters_front m zs ys) (sym p))),
        )

pub letters_end : (text : List ℕ) (xs : List Letter) (cs ys : List ℕ) (x : Letter) → GoesLetters text xs cs
    → letter_front cs ≡ Some (x, ys) → ends_class x ≡ true → (n : ℕ) → length text < n → letters_front n [] text ≡ Some (xs, ys)
letters_end text xs cs ys x goes e f n l = (goes n l).2 ∙ by (goes n l).0 (goes n l).1
  where
    by : (m : ℕ) → length cs < m → letters_front m xs cs ≡ Some (xs, ys)
    by zero l = absurd (omega arith)
    by (suc m) l = ap (option_and_then (letters_step (letters_front m) xs)) e ∙ cond-true (ends_class x) _ _ f

pub letters_none : (text : List ℕ) (xs : List Letter) (cs : List ℕ) → GoesLetters text xs cs → letter_front cs ≡ None → (n : ℕ)
    → length text < n → letters_front n [] text ≡ None
letters_none text xs cs goes e n l = (goes n l).2 ∙ by (goes n l).0
  where
    by : (m : ℕ) → letters_front m xs cs ≡ None
    by zero = refl
    by (suc m) = ap (option_and_then (letters_step (letters_front m) xs)) e

-- ---- items

pub class_range : (x z : Letter) (xs ys : List Letter) → range_behind xs ≡ Some (z, ys)
    → class_items (x ∷ xs) ≡ option_and_then (λ is. option_map (λ js. is ++ js) (class_items ys)) (range_of x z)
class_range x z [] ys e = none_some e
class_range x z (y ∷ []) ys e = none_some e
class_range x z (y ∷ w ∷ ws) ys e =
    elim (cond_cases (is_dash y) _ _ (z, ys) e) [
      | inl a ↦
          let same = some_same a.1 in
          cond-true (is_dash y) _ _ a.0
          ∙ ap (λ p. option_and_then (λ is. option_map (λ js. is ++ js) (class_items p.1)) (range_of x p.0)) same
      | inr b ↦ none_some b.1
    ]

pub class_single : (x : Letter) (xs : List Letter) → range_behind xs ≡ None
    → class_items (x ∷ xs) ≡ option_map (λ is. letter_items x ++ is) (class_items xs)
class_single x [] e = ap Some (sym (append-nil (letter_items x)))
class_single x (y ∷ []) e = refl
class_single x (y ∷ z ∷ xs) e = by (is_dash y) refl e
  where
    by : (b : Bool) → is_dash y ≡ b → cond {A = Option (Letter × List Letter)} b (Some (z, xs)) None ≡ None
        → class_items (x ∷ y ∷ z ∷ xs) ≡ option_map (λ is. letter_items x ++ is) (class_items (y ∷ z ∷ xs))
    by true h f = none_some (sym f)
    by false h f = cond-false (is_dash y) _ _ h

more_items : (all is : List Item) (o : Option (List Item))
    → option_map (λ js. all ++ js) (option_map (λ js. is ++ js) o) ≡ option_map (λ js. (all ++ is) ++ js) o
more_items all is None = refl
more_items all is (Some js) = ap Some (sym (append_assoc all is js))

pub items_init : (xs : List Letter) (all : List Item) → all ≡ [] → class_items xs ≡ option_map (λ is. all ++ is) (class_items xs)
items_init xs all e = by (class_items xs) ∙ ap (λ js. option_map (λ is. js ++ is) (class_items xs)) (sym e)
  where
    by : (o : Option (List Item)) → o ≡ option_map (λ is. [] ++ is) o
    by None = refl
    by (Some is) = refl

pub items_range : (xs rest after end : List Letter) (all all' : List Item) (x z : Letter) (added : List Item)
    → class_items xs ≡ option_map (λ is. all ++ is) (class_items rest) → rest ≡ x ∷ after → range_behind after ≡ Some (z, end)
    → range_of x z ≡ Some added → all' ≡ all ++ added → class_items xs ≡ option_map (λ is. all' ++ is) (class_items end)
items_range xs rest after end all all' x z added e f g h k =
    e
    ∙ (ap (λ ys. option_map (λ is. all ++ is) (class_items ys)) f
    ∙ (ap (option_map (λ is. all ++ is)) (class_range x z after end g
    ∙ ap (option_and_then (λ js. option_map (λ is. js ++ is) (class_items end))) h)
    ∙ (more_items all added (class_items end) ∙ ap (λ js. option_map (λ is. js ++ is) (class_items end)) (sym k))))

pub items_no_range : (xs rest after end : List Letter) (all : List Item) (x z : Letter)
    → class_items xs ≡ option_map (λ is. all ++ is) (class_items rest) → rest ≡ x ∷ after → range_behind after ≡ Some (z, end)
    → range_of x z ≡ None → class_items xs ≡ None
items_no_range xs rest after end all x z e f g h =
    e
    ∙ (ap (λ ys. option_map (λ is. all ++ is) (class_items ys)) f
    ∙ ap (option_map (λ is. all ++ is)) (class_range x z after end g
    ∙ ap (option_and_then (λ js. option_map (λ is. js ++ is) (class_items end))) h))

pub items_single : (xs rest after : List Letter) (all all' : List Item) (x : Letter)
    → class_items xs ≡ option_map (λ is. all ++ is) (class_items rest) → rest ≡ x ∷ after → range_behind after ≡ None
    → all' ≡ all ++ letter_items x → class_items xs ≡ option_map (λ is. all' ++ is) (class_items after)
items_single xs rest after all all' x e f g k =
    e
    ∙ (ap (λ ys. option_map (λ is. all ++ is) (class_items ys)) f
    ∙ (ap (option_map (λ is. all ++ is)) (class_single x after g)
    ∙ (more_items all (letter_items x) (class_items after) ∙ ap (λ js. option_map (λ is. js ++ is) (class_items after)) (sym k))))

pub items_end : (xs rest : List Letter) (all : List Item) → class_items xs ≡ option_map (λ is. all ++ is) (class_items rest)
    → length rest ≡ 0 → class_items xs ≡ Some all
items_end xs [] all e h = e ∙ ap Some (append-nil all)
items_end xs (x ∷ rest) all e h = absurd (omega arith)

-- ---- the class

pair_same : (p : Bool × List ℕ) (b : Bool) (ys : List ℕ) → b ≡ p.0 → ys ≡ p.1 → p ≡ (b, ys)
pair_same p b ys e f = ap (λ x. let q : Bool × List ℕ = (x, p.1) in q) (sym e) ∙ ap (λ y. let q : Bool × List ℕ = (b, y) in q) (sym f)

pub class_no_letters : (xs : List ℕ) (b : Bool) (ys : List ℕ) → b ≡ (caret_front xs).0 → ys ≡ (caret_front xs).1
    → letters_front (suc (length ys)) [] ys ≡ None → class_front xs ≡ None
class_no_letters xs b ys e f h = ap class_from (pair_same (caret_front xs) b ys e f) ∙ ap (option_and_then (class_of b)) h

pub class_letters : (xs : List ℕ) (b : Bool) (ys : List ℕ) (ls : List Letter) (zs : List ℕ) → b ≡ (caret_front xs).0
    → ys ≡ (caret_front xs).1 → letters_front (suc (length ys)) [] ys ≡ Some (ls, zs) → class_front xs ≡ class_of b (ls, zs)
class_letters xs b ys ls zs e f h = ap class_from (pair_same (caret_front xs) b ys e f) ∙ ap (option_and_then (class_of b)) h

pub class_no_items : {ks : List Letter} (xs : List ℕ) (b : Bool) (ys : List ℕ) (ls : List Letter) (zs : List ℕ) → b ≡ (caret_front xs).0
    → ys ≡ (caret_front xs).1 → letters_front (suc (length ys)) [] ys ≡ Some (ls, zs) → ks ≡ ls
    → class_items ks ≡ None → class_front xs ≡ None
class_no_items xs b ys ls zs e f h g k =
    class_letters xs b ys ls zs e f h
    ∙ ap (option_map (λ is. let p : Token × List ℕ = (characters b is, zs) in p)) (ap class_items (sym g) ∙ k)

pub class_read : (xs : List ℕ) (b : Bool) (ys : List ℕ) (ls : List Letter) (zs : List ℕ) (ks : List Letter) (is : List Item)
    → b ≡ (caret_front xs).0 → ys ≡ (caret_front xs).1 → letters_front (suc (length ys)) [] ys ≡ Some (ls, zs) → ks ≡ ls
    → class_items ks ≡ Some is → class_front xs ≡ Some (characters b is, zs)
class_read xs b ys ls zs ks is e f h g k =
    class_letters xs b ys ls zs e f h
    ∙ ap (option_map (λ is. let p : Token × List ℕ = (characters b is, zs) in p)) (ap class_items (sym g) ∙ k)

pub items_err : {U : Type 0} (view : U → Token) (ls : List Letter) (o : Option (Token × List ℕ)) (e : IRegexpErrorKind)
    (r : Result (U × Bor (List ℕ)) IRegexpErrorKind) → IsErrAnd r (λ d. d ≡ e) → ReadsItems ls (Err e)
    → (class_items ls ≡ None → o ≡ None) → Fronts ⊥ view o r
items_err view ls o e (Ok x) h k f = absurd h
items_err view ls o Invalid (Err d) h k f = subst (λ x. Fronts ⊥ view o (Err x)) (sym h) (f k)
items_err view ls o TooDeep (Err d) h k f = absurd k
items_err view ls o TooLarge (Err d) h k f = absurd k
items_err view ls o OutOfMemory (Err d) h k f = subst (λ x. Fronts ⊥ view o (Err x)) (sym h) tt

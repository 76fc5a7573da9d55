-- The fronts of texts.
use Rattle.std.proofs.Common.{◌≡◌, ◌≢◌, ℕ, zero, suc, ◌<◌, ◌≤◌, Bool, true, false, ◌==◌, nat_le, cond, List, [], ◌∷◌, ◌++◌, length, Option}
use Rattle.std.proofs.Common.{Some, None, option_map, option_and_then, Result, Ok, Err, Bor, refl, sym, ap, ◌∙◌, subst, arith}
use Rattle.std.proofs.lemmas.Bool.{ne_eqb, cond-true, cond-false}
use Rattle.std.specs.Result.{IsErrAnd}
use Rattle.text_iregexp.specs.declared.error.IRegexpErrorKind.{IRegexpErrorKind}
use Rattle.text_iregexp.specs.declared.error.IRegexpErrorKind.TheVariants.{Invalid, TooDeep, TooLarge, OutOfMemory}
use Rattle.text_categories.specs.Categories.{named}
use Rattle.text_categories.specs.declared.Category.{Category}
use Rattle.text_regexp.specs.declared.class.Item.{Item}
use Rattle.text_regexp.specs.declared.class.Item.TheVariants.{Range, In, NotIn}
use Rattle.text_iregexp.specs.Grammar.{Token, characters, is_plain, escape_of}
use Rattle.text_iregexp.specs.Fronts.{Fronts, escape_front, member_front, up_to, range_end, range_front, item_front, closing, tail_step}
use Rattle.text_iregexp.specs.Fronts.{tail_front, class_front, first_front, bracket_front, characters_front, named_front, second_front}
use Rattle.text_iregexp.specs.Fronts.{name_front, signed_front, category_front, begins_category, behind}

-- ---- what is left is shorter

abbrev Shorter : {V : Type 0} → Option (V × List ℕ) → List ℕ → Type 0
Shorter {V} o xs = (p : V × List ℕ) → o ≡ Some p → length p.1 < length xs

no_some : {A : Type 0} {P : Type 0} (x : A) → None ≡ Some x → P
no_some x e = cc

escape_shorter : (xs : List ℕ) → Shorter (escape_front xs) xs
escape_shorter [] p e = no_some p e
escape_shorter (l ∷ cs) p e = by (escape_of l) e
  where
    by : (o : Option ℕ) → option_map (λ c. (c, cs)) o ≡ Some p → length p.1 < length (l ∷ cs)
    by None e = no_some p e
    by (Some c) e = let same : (c, cs) ≡ p = cc in let len : length cs ≡ length p.1 = ap (λ q. length q.1) same in omega arith

member_shorter : (xs : List ℕ) → Shorter (member_front xs) xs
member_shorter [] p e = no_some p e
member_shorter (c ∷ cs) p e = by (c == 92) (is_plain c) e
  where
    by : (a b : Bool) → cond a (escape_front cs) (cond b (Some (c, cs)) None) ≡ Some p → length p.1 < length (c ∷ cs)
    by true b e = let h = escape_shorter cs p e in omega arith
    by false true e = let same : (c, cs) ≡ p = cc in let len : length cs ≡ length p.1 = ap (λ q. length q.1) same in omega arith
    by false false e = no_some p e

range_end_shorter : (c : ℕ) (ys zs : List ℕ) (p : Item × List ℕ) → length zs ≤ length ys → range_end c ys zs ≡ Some p
    → length p.1 ≤ length ys
range_end_shorter c ys [] p l e = no_some p e
range_end_shorter c ys (d ∷ zs) p l e = by (d == 93) (member_front (d ∷ zs)) (member_shorter (d ∷ zs)) e
  where
    by : (a : Bool) (o : Option (ℕ × List ℕ)) → Shorter o (d ∷ zs) → cond a (Some (Range c c, ys)) (option_and_then (up_to c) o) ≡ Some p
        → length p.1 ≤ length ys
    by true o s e = let same : (Range c c, ys) ≡ p = cc in let len : length ys ≡ length p.1 = ap (λ q. length q.1) same in omega arith
    by false None s e = no_some p e
    by false (Some q) s e = let h = s q refl in upto (nat_le c q.0) e h
      where
        upto : (b : Bool) → cond b (Some (Range c q.0, q.1)) None ≡ Some p → length q.1 < length (d ∷ zs) → length p.1 ≤ length ys
        upto true e h = let same : (Range c q.0, q.1) ≡ p = cc in
            let len : length q.1 ≡ length p.1 = ap (λ q. length q.1) same in omega arith
        upto false e h = no_some p e

range_front_shorter : (c : ℕ) (ys : List ℕ) (p : Item × List ℕ) → range_front c ys ≡ Some p → length p.1 ≤ length ys
range_front_shorter c [] p e =
    let same : (Range c c, []) ≡ p = cc in
    let len : length {A = ℕ} [] ≡ length p.1 = ap (λ q. length q.1) same in
    omega arith
range_front_shorter c (d ∷ ys) p e = by (d == 45) e
  where
    by : (a : Bool) → cond a (range_end c (d ∷ ys) ys) (Some (Range c c, d ∷ ys)) ≡ Some p → length p.1 ≤ length (d ∷ ys)
    by true e = range_end_shorter c (d ∷ ys) ys p (omega arith) e
    by false e = let same : (Range c c, d ∷ ys) ≡ p = cc in
        let len : length (d ∷ ys) ≡ length p.1 = ap (λ q. length q.1) same in omega arith

characters_shorter : (xs : List ℕ) (r : Item) (ys : List ℕ) → characters_front xs ≡ Some (r, ys) → length ys < length xs
characters_shorter xs r ys e = by (member_front xs) (member_shorter xs) e
  where
    by : (o : Option (ℕ × List ℕ)) → Shorter o xs → option_and_then (λ p. range_front p.0 p.1) o ≡ Some (r, ys) → length ys < length xs
    by None s e = no_some (r, ys) e
    by (Some q) s e = let h = s q refl in let k = range_front_shorter q.0 q.1 (r, ys) e in omega arith

name_shorter : (xs : List ℕ) → Shorter (name_front xs) xs
name_shorter [] p e = no_some p e
name_shorter (b ∷ []) p e = no_some p e
name_shorter (b ∷ g ∷ []) p e = no_some p e
name_shorter (b ∷ g ∷ l ∷ cs) p e = by (b == 123) (l == 125) cs e
  where
    named_shorter : (o : Option Category) (ys : List ℕ) → length ys ≤ length cs → option_map (λ k. (k, ys)) o ≡ Some p
        → length p.1 < length (b ∷ g ∷ l ∷ cs)
    named_shorter None ys m f = no_some p f
    named_shorter (Some k) ys m f =
        let same : (k, ys) ≡ p = cc in
        let len : length ys ≡ length p.1 = ap (λ q. length q.1) same in
        omega arith

    second : (ys : List ℕ) → length ys ≤ length cs → second_front g l ys ≡ Some p → length p.1 < length (b ∷ g ∷ l ∷ cs)
    second [] m f = no_some p f
    second (d ∷ ys) m f = closed (d == 125) f
      where
        closed : (a : Bool) → cond a (named_front g (Some l) ys) None ≡ Some p → length p.1 < length (b ∷ g ∷ l ∷ cs)
        closed true f = named_shorter (named g (Some l)) ys (omega arith) f
        closed false f = no_some p f

    by : (a c : Bool) (ys : List ℕ) → cond a (cond c (named_front g None cs) (second_front g l cs)) None ≡ Some p
        → length p.1 < length (b ∷ g ∷ l ∷ cs)
    by true true ys f = named_shorter (named g None) cs (omega arith) f
    by true false ys f = second cs (omega arith) f
    by false c ys f = no_some p f

category_shorter : (xs : List ℕ) (r : Item) (ys : List ℕ) → category_front (behind xs) ≡ Some (r, ys) → length ys < length xs
category_shorter [] r ys e = no_some (r, ys) e
category_shorter (c ∷ []) r ys e = no_some (r, ys) e
category_shorter (c ∷ p ∷ cs) r ys e = by (name_front cs) (name_shorter cs) e
  where
    by : (o : Option (Category × List ℕ)) → Shorter o cs → option_and_then (signed_front p) o ≡ Some (r, ys)
        → length ys < length (c ∷ p ∷ cs)
    by None s f = no_some (r, ys) f
    by (Some q) s f = signed (p == 112) (p == 80) f (s q refl)
      where
        signed : (a b : Bool)
            → cond {A = Option (Item × List ℕ)} a (Some (In q.0, q.1)) (cond {A = Option (Item × List ℕ)} b (Some (NotIn q.0, q.1)) None)
            ≡ Some (r, ys) → length q.1 < length cs → length ys < length (c ∷ p ∷ cs)
        signed true b g h =
            let same : ◌≡◌ {A = Item × List ℕ} (In q.0, q.1) (r, ys) = cc in
            let len : length q.1 ≡ length ys = ap (λ x. length x.1) same in
            omega arith
        signed false true g h =
            let same : ◌≡◌ {A = Item × List ℕ} (NotIn q.0, q.1) (r, ys) = cc in
            let len : length q.1 ≡ length ys = ap (λ x. length x.1) same in
            omega arith
        signed false false g h = no_some (r, ys) g

pub item_shorter : (xs : List ℕ) (r : Item) (ys : List ℕ) → item_front xs ≡ Some (r, ys) → length ys < length xs
item_shorter xs r ys e = by (begins_category xs) e
  where
    by : (b : Bool) → cond b (category_front (behind xs)) (characters_front xs) ≡ Some (r, ys) → length ys < length xs
    by true f = category_shorter xs r ys f
    by false f = characters_shorter xs r ys f

pub item_category : (xs cs : List ℕ) (c : ℕ) → xs ≡ c ∷ cs → begins_category xs ≡ true → item_front xs ≡ category_front cs
item_category xs cs c e h = cond-true (begins_category xs) _ _ h ∙ ap (λ zs. category_front (behind zs)) e

pub item_characters : (xs : List ℕ) → begins_category xs ≡ false → item_front xs ≡ characters_front xs
item_characters xs h = cond-false (begins_category xs) _ _ h

pub item_nothing : (xs : List ℕ) → length xs ≡ 0 → item_front xs ≡ None
item_nothing [] e = refl
item_nothing (x ∷ xs) e = absurd (omega arith)

-- ---- the items of a class

pub tail_nothing : (m : ℕ) (rs : List Item) (xs : List ℕ) → length xs ≡ 0 → tail_front m rs xs ≡ None
tail_nothing zero rs xs e = refl
tail_nothing (suc m) rs [] e = refl
tail_nothing (suc m) rs (c ∷ cs) e = absurd (omega arith)

pub tail_closed : (m : ℕ) (rs : List Item) (xs cs : List ℕ) (c : ℕ) → length xs < m → xs ≡ c ∷ cs → c ≡ 93
    → tail_front m rs xs ≡ Some (rs, cs)
tail_closed zero rs xs cs c l e f = absurd (omega arith)
tail_closed (suc m) rs xs cs c l e f = ap (tail_step (tail_front m) rs) (e ∙ ap (λ d. d ∷ cs) f)

pub tail_dash : (m : ℕ) (rs : List Item) (xs cs : List ℕ) (c : ℕ) → length xs < m → xs ≡ c ∷ cs → c ≡ 45
    → tail_front m rs xs ≡ closing rs cs
tail_dash zero rs xs cs c l e f = absurd (omega arith)
tail_dash (suc m) rs xs cs c l e f = ap (tail_step (tail_front m) rs) (e ∙ ap (λ d. d ∷ cs) f)

pub closing_nothing : (rs : List Item) (cs : List ℕ) → length cs ≡ 0 → closing rs cs ≡ None
closing_nothing rs [] e = refl
closing_nothing rs (c ∷ cs) e = absurd (omega arith)

pub closing_closed : (rs : List Item) (xs cs : List ℕ) (c : ℕ) → xs ≡ c ∷ cs → c ≡ 93 → closing rs xs ≡ Some (rs ++ Range 45 45 ∷ [], cs)
closing_closed rs xs cs c e f = ap (closing rs) (e ∙ ap (λ d. d ∷ cs) f)

pub closing_other : (rs : List Item) (xs cs : List ℕ) (c : ℕ) → xs ≡ c ∷ cs → c ≢ 93 → closing rs xs ≡ None
closing_other rs xs cs c e f = ap (closing rs) e ∙ ap (λ b. cond b (Some (rs ++ Range 45 45 ∷ [], cs)) None) (ne_eqb c 93 f)

abbrev pub then_more : ℕ → List Item → Item × List ℕ → Option (List Item × List ℕ)
then_more m rs p = tail_front m (rs ++ p.0 ∷ []) p.1

pub tail_item : (m : ℕ) (rs : List Item) (xs cs : List ℕ) (c : ℕ) → xs ≡ c ∷ cs → c ≢ 93 → c ≢ 45
    → tail_front (suc m) rs xs ≡ option_and_then (then_more m rs) (item_front xs)
tail_item m rs xs cs c e f g =
    ap (tail_step (tail_front m) rs) e
    ∙ (ap (λ b. cond b (Some (rs, cs)) (cond (c == 45) (closing rs cs) (option_and_then (then_more m rs) (item_front (c ∷ cs)))))
    (ne_eqb c 93 f)
    ∙ (ap (λ b. cond b (closing rs cs) (option_and_then (then_more m rs) (item_front (c ∷ cs)))) (ne_eqb c 45 g)
    ∙ ap (λ ys. option_and_then (then_more m rs) (item_front ys)) (sym e)))

pub tail_no_item : (m : ℕ) (rs : List Item) (xs cs : List ℕ) (c : ℕ) → length xs < m → xs ≡ c ∷ cs → c ≢ 93 → c ≢ 45
    → item_front xs ≡ None → tail_front m rs xs ≡ None
tail_no_item zero rs xs cs c l e f g h = refl
tail_no_item (suc m) rs xs cs c l e f g h = tail_item m rs xs cs c e f g ∙ ap (option_and_then (then_more m rs)) h

-- The loop over the items: so much of the text is left, and this is still what is sought.
abbrev pub Goes : List Item → List ℕ → List Item → List ℕ → Type 0
Goes first text rs xs = (n : ℕ) → length text < n → (m : ℕ) × (length xs < m) × (tail_front n first text ≡ tail_front m rs xs)

pub goes_init : (first rs : List Item) (text : List ℕ) → first ≡ rs → Goes first text rs text
goes_init first rs text e = λ n h. (n, h, ap (λ r. tail_front n r text) e)

pub goes_item : (first rs rs' : List Item) (text xs cs ys : List ℕ) (c : ℕ) (r : Item) → Goes first text rs xs → xs ≡ c ∷ cs → c ≢ 93
    → c ≢ 45 → item_front xs ≡ Some (r, ys) → rs' ≡ rs ++ r ∷ [] → Goes first text rs' ys
goes_item first rs rs' text xs cs ys c r goes e f g h p = λ n l. by n (goes n l).0 (goes n l).1 (goes n l).2
  where
    by : (n m : ℕ) → length xs < m → tail_front n first text ≡ tail_front m rs xs
        → (k : ℕ) × (length ys < k) × (tail_front n first text ≡ tail_front k rs' ys)
    by n zero l s = absurd (omega arith)
    by n (suc m) l s =
        let fewer = item_shorter xs r ys h in (
          m,
          omega arith,
          s ∙ (tail_item m rs xs cs c e f g
              ∙ (ap (option_and_then (then_more m rs)) h ∙ ap (λ q. tail_front m q ys) (sym p))),
        )

pub goes_to : (first rs : List Item) (text xs : List ℕ) (o : Option (List Item × List ℕ)) → Goes first text rs xs
    → ((m : ℕ) → length xs < m → tail_front m rs xs ≡ o) → (n : ℕ) → length text < n → tail_front n first text ≡ o
goes_to first rs text xs o goes h n l = let g = goes n l in g.2 ∙ h g.0 g.1

abbrev pub class_of : Bool → Option (List Item × List ℕ) → Option (Token × List ℕ)
class_of negated o = option_map (λ q. (characters negated q.0, q.1)) o

-- ---- errors

pub fronts_err : {U V U' V' L L' : Type 0} (view : U → V) (view' : U' → V') (o : Option (V × List ℕ)) (o' : Option (V' × List ℕ))
    (e : IRegexpErrorKind) (r : Result (U × Bor (List ℕ)) IRegexpErrorKind) → IsErrAnd r (λ d. d ≡ e) → Fronts L' view' o' (Err e)
    → (L' → L) → (o' ≡ None → o ≡ None) → Fronts L view o r
fronts_err view view' o o' e (Ok x) h k l f = absurd h
fronts_err {L = L} view view' o o' Invalid (Err d) h k l f = subst (λ x. Fronts L view o (Err x)) (sym h) (f k)
fronts_err view view' o o' TooDeep (Err d) h k l f = absurd k
fronts_err {L = L} view view' o o' TooLarge (Err d) h k l f = subst (λ x. Fronts L view o (Err x)) (sym h) (l k)
fronts_err {L = L} view view' o o' OutOfMemory (Err d) h k l f = subst (λ x. Fronts L view o (Err x)) (sym h) tt

pub fronts_as : {U V L L' : Type 0} (view : U → V) (o o' : Option (V × List ℕ)) (r : Result (U × Bor (List ℕ)) IRegexpErrorKind) → (L' → L)
    → o ≡ o' → Fronts L' view o' r → Fronts L view o r
fronts_as view o o' (Ok x) l e h = e ∙ h
fronts_as view o o' (Err Invalid) l e h = e ∙ h
fronts_as view o o' (Err TooDeep) l e h = h
fronts_as view o o' (Err TooLarge) l e h = l h
fronts_as view o o' (Err OutOfMemory) l e h = tt

-- ---- the beginning of a class

pub first_dash : (n : ℕ) (negated : Bool) (xs cs : List ℕ) (c : ℕ) → xs ≡ c ∷ cs → c ≡ 45
    → first_front n negated xs ≡ class_front n negated (Range 45 45, cs)
first_dash n negated xs cs c e f = ap (first_front n negated) (e ∙ ap (λ d. d ∷ cs) f)

pub first_item : (n : ℕ) (negated : Bool) (xs cs : List ℕ) (c : ℕ) → xs ≡ c ∷ cs → c ≢ 45
    → first_front n negated xs ≡ option_and_then (class_front n negated) (item_front xs)
first_item n negated xs cs c e f =
    ap (first_front n negated) e
    ∙ (ap (λ b. cond b (class_front n negated (Range 45 45, cs)) (option_and_then (class_front n negated) (item_front (c ∷ cs))))
    (ne_eqb c 45 f)
    ∙ ap (λ ys. option_and_then (class_front n negated) (item_front ys)) (sym e))

pub bracket_caret : (xs cs : List ℕ) (c : ℕ) → xs ≡ c ∷ cs → c ≡ 94 → bracket_front xs ≡ first_front (length cs) true cs
bracket_caret xs cs c e f = ap bracket_front (e ∙ ap (λ d. d ∷ cs) f)

pub bracket_other : (xs cs : List ℕ) (c : ℕ) → xs ≡ c ∷ cs → c ≢ 94 → bracket_front xs ≡ first_front (length xs) false xs
bracket_other xs cs c e f =
    ap bracket_front e
    ∙ (ap (λ b. cond b (first_front (length cs) true cs) (first_front (suc (length cs)) false (c ∷ cs))) (ne_eqb c 94 f)
    ∙ ap (λ ys. first_front (length ys) false ys) (sym e))

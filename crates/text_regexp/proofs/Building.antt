-- Expressions that are built, and what they match.
use Rattle.std.proofs.Common.{Result, Ok, Err, IfOk, None, Some, ◌≡◌, ◌≤◌, ◌+◌, ◌-◌, ℕ, zero, suc, true, false, List, [], ◌∷◌, ◌++◌, length}
use Rattle.std.proofs.Common.{◌⊎◌, inl, inr, refl, sym, ap, ◌∙◌, subst, arith, append_assoc, append-nil, length-append, Option, true≢false}
use Rattle.text_regexp.specs.Forms.{Form, empty, concat, alternation, repetition, next_of, last_of, MatchesIn, Parts, AtMost}
use Rattle.text_regexp.specs.Building.{Same, Means, form_of, AllMean, sequence, choice, choice_from, TakesSequence, TakesChoice}
use Rattle.text_regexp.specs.Marked.{is_empty, tree_form}
use Rattle.text_regexp.specs.declared.expression.Expression.{Expression}
use Rattle.text_regexp.specs.declared.marked.Node.{Node}
use Rattle.text_regexp.specs.declared.marked.Node.TheVariants.{Empty, Class, Assert, Concat', Alternation', Star', UpTo}

-- ---- results

pub ok_as : {T E : Type 0} (r : Result T E) (P Q : T → Type 0) → IfOk r P → ((x : T) → P x → Q x) → IfOk r Q
ok_as (Ok x) P Q h k = k x h
ok_as (Err e) P Q h k = tt

-- ---- two regular expressions that match the same

pub means_as : (n : Expression) (f g : Form) → Means n f → Same f g → Means n g
means_as n f g m s = record {
  sound = λ b cs a h. s.to b cs a (m.sound b cs a h);
  complete = λ b cs a h. m.complete b cs a (s.from b cs a h);
}

-- ---- parts between their neighbours

-- what is so of a part between its neighbours
abbrev Between : Type 1
Between = Option ℕ → List ℕ → Option ℕ → Type 0

next_append : (xs ys : List ℕ) (a : Option ℕ) → next_of (xs ++ ys) a ≡ next_of xs (next_of ys a)
next_append [] ys a = refl
next_append (x ∷ xs) ys a = refl

last_append : (b : Option ℕ) (xs ys : List ℕ) → last_of b (xs ++ ys) ≡ last_of (last_of b xs) ys
last_append b [] ys = refl
last_append b (x ∷ xs) ys = last_append (Some x) xs ys

-- a part with nothing behind it, or before it, is the whole
front_whole : (P : Between) (b : Option ℕ) (cs xs ys : List ℕ) (a : Option ℕ) → cs ≡ xs ++ ys → ys ≡ [] → P b xs (next_of ys a) → P b cs a
front_whole P b cs xs ys a e none h =
    subst (λ zs. P b zs a) (sym (e ∙ (ap (λ zs. xs ++ zs) none ∙ append-nil xs))) (subst (λ zs. P b xs (next_of zs a)) none h)

back_whole : (P : Between) (b : Option ℕ) (cs xs ys : List ℕ) (a : Option ℕ) → cs ≡ xs ++ ys → xs ≡ [] → P (last_of b xs) ys a → P b cs a
back_whole P b cs xs ys a e none h =
    subst (λ zs. P b zs a) (sym (e ∙ ap (λ zs. zs ++ ys) none)) (subst (λ zs. P (last_of b zs) ys a) none h)

-- a part in two, one after the other
abbrev Two : Between → Between → Between
Two P Q b cs a = (xs : List ℕ) × (ys : List ℕ) × (cs ≡ xs ++ ys) × P b xs (next_of ys a) × Q (last_of b xs) ys a

-- three in a row, by the first or by the last
to_right : (P Q R : Between) (b : Option ℕ) (cs us vs ys zs : List ℕ) (a : Option ℕ) → cs ≡ ys ++ zs → ys ≡ us ++ vs
    → P b us (next_of vs (next_of zs a)) → Q (last_of b us) vs (next_of zs a) → R (last_of b ys) zs a
    → (cs ≡ us ++ (vs ++ zs)) × P b us (next_of (vs ++ zs) a) × Q (last_of b us) vs (next_of zs a) × R (last_of (last_of b us) vs) zs a
to_right P Q R b cs us vs ys zs a e d p q r = (
  e ∙ (ap (λ xs. xs ++ zs) d ∙ append_assoc us vs zs),
  subst (P b us) (sym (next_append vs zs a)) p,
  q,
  subst (λ k. R k zs a) (ap (last_of b) d ∙ last_append b us vs) r,
)

to_left : (P Q R : Between) (b : Option ℕ) (cs us vs ys zs : List ℕ) (a : Option ℕ) → cs ≡ us ++ ys → ys ≡ vs ++ zs
    → P b us (next_of ys a) → Q (last_of b us) vs (next_of zs a) → R (last_of (last_of b us) vs) zs a
    → (cs ≡ (us ++ vs) ++ zs) × P b us (next_of vs (next_of zs a)) × Q (last_of b us) vs (next_of zs a) × R (last_of b (us ++ vs)) zs a
to_left P Q R b cs us vs ys zs a e d p q r = (
  e ∙ (ap (λ xs. us ++ xs) d ∙ sym (append_assoc us vs zs)),
  subst (P b us) (ap (λ xs. next_of xs a) d ∙ next_append vs zs a) p,
  q,
  subst (λ k. R k zs a) (sym (last_append b us vs)) r,
)

-- ---- repetitions

pub parts_map : (P Q : Between) → ((b : Option ℕ) (cs : List ℕ) (a : Option ℕ) → P b cs a → Q b cs a)
    → (n : ℕ) (b : Option ℕ) (cs : List ℕ) (a : Option ℕ) → Parts P n b cs a → Parts Q n b cs a
parts_map P Q h zero b cs a s = s
parts_map P Q h (suc n) b cs a s =
    (s.0, s.1, s.2, h b s.0 (next_of s.1 a) s.3, parts_map P Q h n (last_of b s.0) s.1 a s.4)

pub repetition_same : (f g : Form) (least : ℕ) (most : Option ℕ) → Same f g → Same (repetition f least most) (repetition g least most)
repetition_same f g least most s = record {
  to = λ b cs a h. (h.0, h.1, h.2, parts_map (MatchesIn f) (MatchesIn g) s.to h.0 b cs a h.3);
  from = λ b cs a h. (h.0, h.1, h.2, parts_map (MatchesIn g) (MatchesIn f) s.from h.0 b cs a h.3);
}

pub means_same : (n : Expression) (f : Form) → Means n f → Same (form_of n) f
means_same n f m = record { to = m.sound; from = m.complete }

pub means_itself : (n : Expression) (f : Form) → form_of n ≡ f → Means n f
means_itself n f e = record {
  sound = λ b cs a h. subst (λ g. MatchesIn g b cs a) e h;
  complete = λ b cs a h. subst (λ g. MatchesIn g b cs a) (sym e) h;
}

pub means_up_to : (n : Expression) (f g : Form) (most : ℕ) → Same f g → form_of n ≡ repetition f 0 (Some most)
    → Means n (repetition g 0 (Some most))
means_up_to n f g most same e =
    means_as n (repetition f 0 (Some most)) _ (means_itself n _ e) (repetition_same f g 0 (Some most) same)

pub means_star : (b n : Expression) (f : Form) → Means b f → form_of n ≡ repetition (form_of b) 0 None → Means n (repetition f 0 None)
means_star b n f m e =
    means_as n (repetition (form_of b) 0 None) _ (means_itself n _ e) (repetition_same (form_of b) f 0 None (means_same b f m))

optional_to : (f : Form) (b : Option ℕ) (cs : List ℕ) (a : Option ℕ) → MatchesIn (alternation empty f) b cs a
    → MatchesIn (repetition f 0 (Some 1)) b cs a
optional_to f b cs a h =
    elim h [
      | inl x ↦ (0, omega arith, omega arith, x)
      | inr y ↦ (1, omega arith, omega arith, (cs, [], sym (append-nil cs), y, refl))
    ]

optional_parts : (f : Form) (n : ℕ) (b : Option ℕ) (cs : List ℕ) (a : Option ℕ) → n ≤ 1 → Parts (MatchesIn f) n b cs a
    → MatchesIn (alternation empty f) b cs a
optional_parts f zero b cs a l h = inl h
optional_parts f (suc zero) b cs a l h = inr (front_whole (MatchesIn f) b cs h.0 h.1 a h.2 h.4 h.3)
optional_parts f (suc (suc n)) b cs a l h = absurd (omega arith)

pub optional_same : (f : Form) → Same (alternation empty f) (repetition f 0 (Some 1))
optional_same f = record { to = optional_to f; from = λ b cs a h. optional_parts f h.0 b cs a h.2 h.3 }

-- ---- one after the other

concat_nothing : (f : Form) → Same f (concat f empty)
concat_nothing f = record {
  to = λ b cs a h. (cs, [], sym (append-nil cs), h, refl);
  from = λ b cs a h. front_whole (MatchesIn f) b cs h.0 h.1 a h.2 h.4 h.3;
}

nothing_concat : (f : Form) → Same f (concat empty f)
nothing_concat f = record {
  to = λ b cs a h. ([], cs, refl, refl, h);
  from = λ b cs a h. back_whole (MatchesIn f) b cs h.0 h.1 a h.2 h.3 h.4;
}

concat_sames : (f g f' g' : Form) → Same f f' → Same g g' → Same (concat f g) (concat f' g')
concat_sames f g f' g' s t = record {
  to = λ b cs a h. (h.0, h.1, h.2, s.to b h.0 (next_of h.1 a) h.3, t.to (last_of b h.0) h.1 a h.4);
  from = λ b cs a h. (h.0, h.1, h.2, s.from b h.0 (next_of h.1 a) h.3, t.from (last_of b h.0) h.1 a h.4);
}

same_itself : (f g : Form) → f ≡ g → Same f g
same_itself f g e = record {
  to = λ b cs a h. subst (λ x. MatchesIn x b cs a) e h;
  from = λ b cs a h. subst (λ x. MatchesIn x b cs a) (sym e) h;
}

same_through : (f g h : Form) → Same f g → Same g h → Same f h
same_through f g h s t = record {
  to = λ b cs a x. t.to b cs a (s.to b cs a x);
  from = λ b cs a x. s.from b cs a (t.from b cs a x);
}

pub empty_form : (n : Node) → is_empty n ≡ true → tree_form n ≡ empty
empty_form Empty h = refl
empty_form (Class cl mark) h = absurd (true≢false (sym h))
empty_form (Assert kind held) h = absurd (true≢false (sym h))
empty_form (Concat' p l q r le re ends lm rm) h = absurd (true≢false (sym h))
empty_form (Alternation' p l q r lm rm) h = absurd (true≢false (sym h))
empty_form (Star' p d ends) h = absurd (true≢false (sym h))
empty_form (UpTo cl most left) h = absurd (true≢false (sym h))

-- what is built of two
pub means_right : (l r : Expression) (f g : Form) → form_of l ≡ empty → Means l f → Means r g → Means r (concat f g)
means_right l r f g e m k =
    means_as r g (concat f g) k (same_through g (concat empty g) (concat f g) (nothing_concat g)
    (concat_sames empty g f g (same_through empty (form_of l) f (same_itself empty (form_of l) (sym e)) (means_same l f m))
    (same_itself g g refl)))

pub means_left : (l r : Expression) (f g : Form) → form_of r ≡ empty → Means l f → Means r g → Means l (concat f g)
means_left l r f g e m k =
    means_as l f (concat f g) m (same_through f (concat f empty) (concat f g) (concat_nothing f)
    (concat_sames f empty f g (same_itself f f refl) (same_through empty (form_of r) g (same_itself empty (form_of r) (sym e))
    (means_same r g k))))

pub means_concat : (l r n : Expression) (f g : Form) → form_of n ≡ concat (form_of l) (form_of r) → Means l f → Means r g
    → Means n (concat f g)
means_concat l r n f g e m k =
    means_as n _ (concat f g) (means_itself n _ e) (concat_sames (form_of l) (form_of r) f g (means_same l f m) (means_same r g k))

pub means_alternation : (l r n : Expression) (f g : Form) → form_of n ≡ alternation (form_of l) (form_of r) → Means l f → Means r g
    → Means n (alternation f g)
means_alternation l r n f g e m k =
    means_as n (alternation (form_of l) (form_of r)) (alternation f g) (means_itself n _ e) (record {
      to = λ b cs a h. elim h [ inl x ↦ inl (m.sound b cs a x) | inr y ↦ inr (k.sound b cs a y) ];
      from = λ b cs a h. elim h [ inl x ↦ inl (m.complete b cs a x) | inr y ↦ inr (k.complete b cs a y) ];
    })

pub sequence_to : (fs gs : List Form) (b : Option ℕ) (cs xs ys : List ℕ) (a : Option ℕ) → cs ≡ xs ++ ys
    → MatchesIn (sequence fs) b xs (next_of ys a) → MatchesIn (sequence gs) (last_of b xs) ys a → MatchesIn (sequence (fs ++ gs)) b cs a
sequence_to [] gs b cs xs ys a e h k = back_whole (MatchesIn (sequence gs)) b cs xs ys a e h k
sequence_to (f ∷ fs) gs b cs xs ys a e h k =
    let t = to_right (MatchesIn f) (MatchesIn (sequence fs)) (MatchesIn (sequence gs)) b cs h.0 h.1 xs ys a e h.2 h.3 h.4 k in
    (h.0, h.1 ++ ys, t.0, t.1, sequence_to fs gs (last_of b h.0) (h.1 ++ ys) h.1 ys a refl t.2 t.3)

pub sequence_from : (fs gs : List Form) (b : Option ℕ) (cs : List ℕ) (a : Option ℕ) → MatchesIn (sequence (fs ++ gs)) b cs a
    → Two (MatchesIn (sequence fs)) (MatchesIn (sequence gs)) b cs a
sequence_from [] gs b cs a h = ([], cs, refl, refl, h)
sequence_from (f ∷ fs) gs b cs a h =
    let r = sequence_from fs gs (last_of b h.0) h.1 a h.4 in
    let t = to_left (MatchesIn f) (MatchesIn (sequence fs)) (MatchesIn (sequence gs)) b cs h.0 r.0 h.1 r.1 a h.2 r.2 h.3 r.3 r.4 in
    (h.0 ++ r.0, r.1, t.0, (h.0, r.0, refl, t.1, t.2), t.3)

sequence_same : (fs gs : List Form) → Same (concat (sequence fs) (sequence gs)) (sequence (fs ++ gs))
sequence_same fs gs = record {
  to = λ b cs a h. sequence_to fs gs b cs h.0 h.1 a h.2 h.3 h.4;
  from = sequence_from fs gs;
}

-- the forms of two lists of nodes, one after the other
pub record Parted (ns ms : List Expression) (hs : List Form) : Type 0 where
  pub fs : List Form
  pub gs : List Form
  pub split : hs ≡ fs ++ gs
  pub front : AllMean ns fs
  pub back : AllMean ms gs

pub all_mean_parted : (ns ms : List Expression) (hs : List Form) → AllMean (ns ++ ms) hs → Parted ns ms hs
all_mean_parted [] ms hs a = record { fs = []; gs = hs; split = refl; front = tt; back = a }
all_mean_parted (n ∷ ns) ms [] a = absurd a
all_mean_parted (n ∷ ns) ms (h ∷ hs) a =
    let r = all_mean_parted ns ms hs a.1 in
    record { fs = h ∷ r.fs; gs = r.gs; split = ap (λ xs. h ∷ xs) r.split; front = (a.0, r.front); back = r.back }

pub all_mean_joined : (ns ms : List Expression) (fs gs : List Form) → AllMean ns fs → AllMean ms gs → AllMean (ns ++ ms) (fs ++ gs)
all_mean_joined [] ms [] gs a b = b
all_mean_joined [] ms (f ∷ fs) gs a b = absurd a
all_mean_joined (n ∷ ns) ms [] gs a b = absurd a
all_mean_joined (n ∷ ns) ms (f ∷ fs) gs a b = (a.0, all_mean_joined ns ms fs gs a.1 b)

nothing_means : (n : Expression) → Means n empty → (fs : List Form) → AllMean [] fs → Means n (sequence fs)
nothing_means n m [] a = m
nothing_means n m (f ∷ fs) a = absurd a

one_means : (n : Expression) (fs : List Form) → AllMean (n ∷ []) fs → Means n (sequence fs)
one_means n [] a = absurd a
one_means n (f ∷ []) a = means_as n f (concat f empty) a.0 (concat_nothing f)
one_means n (f ∷ g ∷ fs) a = absurd a.1

pub takes_nothing : (ns : List Expression) (count : ℕ) (n : Expression) → count ≡ 0 → Means n empty → TakesSequence ns count ns n
takes_nothing ns count n e m = record { taken = []; split = sym (append-nil ns); counted = sym e; means = nothing_means n m }

pub takes_one : (old new : List Expression) (n : Expression) (count : ℕ) → count ≡ 1 → old ≡ new ++ n ∷ [] → TakesSequence old count new n
takes_one old new n count c e = record { taken = n ∷ []; split = e; counted = sym c; means = one_means n }

abbrev pub Joins : (Form → Form → Form) → Expression → Expression → Expression → Type 0
Joins join left right n = (f g : Form) → Means left f → Means right g → Means n (join f g)

pub takes_joined : (old mid new : List Expression) (a b count : ℕ) (right left n : Expression) → TakesSequence old a mid right
    → TakesSequence mid b new left → Joins concat left right n → b + a ≡ count → TakesSequence old count new n
takes_joined old mid new a b count right left n r l j e = record {
  taken = l.taken ++ r.taken;
  split = r.split ∙ (ap (λ ns. ns ++ r.taken) l.split ∙ append_assoc new l.taken r.taken);
  counted = length-append l.taken r.taken ∙ omega (arith, r.counted, l.counted, e);
  means = λ hs all.
      let p = all_mean_parted l.taken r.taken hs all in
      subst (λ gs. Means n (sequence gs)) (sym p.split)
      (means_as n _ _ (j (sequence p.fs) (sequence p.gs) (l.means p.fs p.front) (r.means p.gs p.back)) (sequence_same p.fs p.gs));
}

-- ---- one of several

abbrev AnyOf : List Form → Between
AnyOf [] b cs a = ⊥
AnyOf (f ∷ fs) b cs a = MatchesIn f b cs a ⊎ AnyOf fs b cs a

choice_from_to : (f : Form) (fs : List Form) (b : Option ℕ) (cs : List ℕ) (a : Option ℕ) → MatchesIn (choice_from f fs) b cs a
    → AnyOf (f ∷ fs) b cs a
choice_from_to f [] b cs a h = inl h
choice_from_to f (g ∷ fs) b cs a h = elim h [ inl x ↦ inl x | inr y ↦ inr (choice_from_to g fs b cs a y) ]

choice_from_from : (f : Form) (fs : List Form) (b : Option ℕ) (cs : List ℕ) (a : Option ℕ) → AnyOf (f ∷ fs) b cs a
    → MatchesIn (choice_from f fs) b cs a
choice_from_from f [] b cs a h = elim h [ inl x ↦ x | inr y ↦ absurd y ]
choice_from_from f (g ∷ fs) b cs a h = elim h [ inl x ↦ inl x | inr y ↦ inr (choice_from_from g fs b cs a y) ]

choice_to : (fs : List Form) (b : Option ℕ) (cs : List ℕ) (a : Option ℕ) → MatchesIn (choice fs) b cs a → AnyOf fs b cs a
choice_to [] b cs a h = let e : false ≡ true = h.2 in cc
choice_to (f ∷ fs) b cs a h = choice_from_to f fs b cs a h

choice_back : (fs : List Form) (b : Option ℕ) (cs : List ℕ) (a : Option ℕ) → AnyOf fs b cs a → MatchesIn (choice fs) b cs a
choice_back [] b cs a h = absurd h
choice_back (f ∷ fs) b cs a h = choice_from_from f fs b cs a h

any_left : (fs gs : List Form) (b : Option ℕ) (cs : List ℕ) (a : Option ℕ) → AnyOf fs b cs a → AnyOf (fs ++ gs) b cs a
any_left [] gs b cs a h = absurd h
any_left (f ∷ fs) gs b cs a h = elim h [ inl x ↦ inl x | inr y ↦ inr (any_left fs gs b cs a y) ]

any_right : (fs gs : List Form) (b : Option ℕ) (cs : List ℕ) (a : Option ℕ) → AnyOf gs b cs a → AnyOf (fs ++ gs) b cs a
any_right [] gs b cs a h = h
any_right (f ∷ fs) gs b cs a h = inr (any_right fs gs b cs a h)

any_parted : (fs gs : List Form) (b : Option ℕ) (cs : List ℕ) (a : Option ℕ) → AnyOf (fs ++ gs) b cs a
    → AnyOf fs b cs a ⊎ AnyOf gs b cs a
any_parted [] gs b cs a h = inr h
any_parted (f ∷ fs) gs b cs a h =
    elim h [ inl x ↦ inl (inl x) | inr y ↦ elim (any_parted fs gs b cs a y) [ inl z ↦ inl (inr z) | inr z ↦ inr z ] ]

choice_same : (fs gs : List Form) → Same (alternation (choice fs) (choice gs)) (choice (fs ++ gs))
choice_same fs gs = record {
  to = λ b cs a h. choice_back (fs ++ gs) b cs a
      (elim h [ inl x ↦ any_left fs gs b cs a (choice_to fs b cs a x) | inr y ↦ any_right fs gs b cs a (choice_to gs b cs a y) ]);
  from = λ b cs a h. elim (any_parted fs gs b cs a (choice_to (fs ++ gs) b cs a h)) [
    | inl x ↦ inl (choice_back fs b cs a x)
    | inr y ↦ inr (choice_back gs b cs a y)
  ];
}

one_chosen : (n : Expression) (fs : List Form) → AllMean (n ∷ []) fs → Means n (choice fs)
one_chosen n [] a = absurd a
one_chosen n (f ∷ []) a = a.0
one_chosen n (f ∷ g ∷ fs) a = absurd a.1

pub chooses_one : (old new : List Expression) (n : Expression) (count : ℕ) → count ≡ 1 → old ≡ new ++ n ∷ [] → TakesChoice old count new n
chooses_one old new n count c e = record { taken = n ∷ []; split = e; counted = sym c; means = one_chosen n }

pub chooses_joined : (old mid new : List Expression) (a b count : ℕ) (right left n : Expression) → TakesChoice old a mid right
    → TakesChoice mid b new left → Joins alternation left right n → b + a ≡ count → TakesChoice old count new n
chooses_joined old mid new a b count right left n r l j e = record {
  taken = l.taken ++ r.taken;
  split = r.split ∙ (ap (λ ns. ns ++ r.taken) l.split ∙ append_assoc new l.taken r.taken);
  counted = length-append l.taken r.taken ∙ omega (arith, r.counted, l.counted, e);
  means = λ hs all.
      let p = all_mean_parted l.taken r.taken hs all in
      subst (λ gs. Means n (choice gs)) (sym p.split)
      (means_as n _ _ (j (choice p.fs) (choice p.gs) (l.means p.fs p.front) (r.means p.gs p.back)) (choice_same p.fs p.gs));
}

-- ---- copies

pub copy_means : (n m : Expression) (f : Form) → form_of m ≡ form_of n → Means n f → Means m f
copy_means n m f e h = means_as m (form_of n) f (means_itself m (form_of n) e) (means_same n f h)

-- so many of a regular expression, and then others
abbrev pub times : ℕ → Form → List Form → List Form
times zero f gs = gs
times (suc n) f gs = f ∷ times n f gs

pub times_more : (n : ℕ) (f : Form) (gs : List Form) → times n f [] ++ gs ≡ times n f gs
times_more zero f gs = refl
times_more (suc n) f gs = ap (λ fs. f ∷ fs) (times_more n f gs)

pub times_push : (n : ℕ) (f : Form) → times n f [] ++ f ∷ [] ≡ times (suc n) f []
times_push zero f = refl
times_push (suc n) f = ap (λ fs. f ∷ fs) (times_push n f)

-- so many parts, and then others
parts_append : (P : Between) (m n : ℕ) (b : Option ℕ) (cs xs ys : List ℕ) (a : Option ℕ) → cs ≡ xs ++ ys → Parts P m b xs (next_of ys a)
    → Parts P n (last_of b xs) ys a → Parts P (m + n) b cs a
parts_append P zero n b cs xs ys a e h k =
    let sum : n ≡ zero + n = omega arith in
    subst (λ i. Parts P i b cs a) sum (back_whole (Parts P n) b cs xs ys a e h k)
parts_append P (suc m) n b cs xs ys a e h k =
    let t = to_right P (Parts P m) (Parts P n) b cs h.0 h.1 xs ys a e h.2 h.3 h.4 k in
    let all : Parts P (suc (m + n)) b cs a =
    (h.0, h.1 ++ ys, t.0, t.1, parts_append P m n (last_of b h.0) (h.1 ++ ys) h.1 ys a refl t.2 t.3) in
    let sum : suc (m + n) ≡ suc m + n = omega arith in
    subst (λ i. Parts P i b cs a) sum all

parts_split : (P : Between) (m n : ℕ) (b : Option ℕ) (cs : List ℕ) (a : Option ℕ) → Parts P (m + n) b cs a
    → Two (Parts P m) (Parts P n) b cs a
parts_split P zero n b cs a h =
    let sum : zero + n ≡ n = omega arith in
    ([], cs, refl, refl, subst (λ i. Parts P i b cs a) sum h)
parts_split P (suc m) n b cs a h =
    let sum : suc m + n ≡ suc (m + n) = omega arith in
    let all : Parts P (suc (m + n)) b cs a = subst (λ i. Parts P i b cs a) sum h in
    let r = parts_split P m n (last_of b all.0) all.1 a all.4 in
    let t = to_left P (Parts P m) (Parts P n) b cs all.0 r.0 all.1 r.1 a all.2 r.2 all.3 r.3 r.4 in
    (all.0 ++ r.0, r.1, t.0, (all.0, r.0, refl, t.1, t.2), t.3)

times_to : (n : ℕ) (f : Form) (gs : List Form) (b : Option ℕ) (cs : List ℕ) (a : Option ℕ) → MatchesIn (sequence (times n f gs)) b cs a
    → Two (Parts (MatchesIn f) n) (MatchesIn (sequence gs)) b cs a
times_to zero f gs b cs a h = ([], cs, refl, refl, h)
times_to (suc n) f gs b cs a h =
    let r = times_to n f gs (last_of b h.0) h.1 a h.4 in
    let t = to_left (MatchesIn f) (Parts (MatchesIn f) n) (MatchesIn (sequence gs)) b cs h.0 r.0 h.1 r.1 a h.2 r.2 h.3 r.3 r.4 in
    (h.0 ++ r.0, r.1, t.0, (h.0, r.0, refl, t.1, t.2), t.3)

times_from : (n : ℕ) (f : Form) (gs : List Form) (b : Option ℕ) (cs xs ys : List ℕ) (a : Option ℕ) → cs ≡ xs ++ ys
    → Parts (MatchesIn f) n b xs (next_of ys a) → MatchesIn (sequence gs) (last_of b xs) ys a → MatchesIn (sequence (times n f gs)) b cs a
times_from zero f gs b cs xs ys a e h k = back_whole (MatchesIn (sequence gs)) b cs xs ys a e h k
times_from (suc n) f gs b cs xs ys a e h k =
    let t = to_right (MatchesIn f) (Parts (MatchesIn f) n) (MatchesIn (sequence gs)) b cs h.0 h.1 xs ys a e h.2 h.3 h.4 k in
    (h.0, h.1 ++ ys, t.0, t.1, times_from n f gs (last_of b h.0) (h.1 ++ ys) h.1 ys a refl t.2 t.3)

-- the last form of a sequence
last_one : (f : Form) (b : Option ℕ) (cs : List ℕ) (a : Option ℕ) → MatchesIn f b cs a → MatchesIn (sequence (f ∷ [])) b cs a
last_one f b cs a h = (concat_nothing f).to b cs a h

one_last : (f : Form) (b : Option ℕ) (cs : List ℕ) (a : Option ℕ) → MatchesIn (sequence (f ∷ [])) b cs a → MatchesIn f b cs a
one_last f b cs a h = (concat_nothing f).from b cs a h

-- at least so many
pub at_least_same : (least : ℕ) (f : Form) → Same (sequence (times least f (repetition f 0 None ∷ []))) (repetition f least None)
at_least_same least f = record {
  to = λ b cs a h.
      let r = times_to least f (repetition f 0 None ∷ []) b cs a h in
      let s = one_last (repetition f 0 None) (last_of b r.0) r.1 a r.4 in
      (least + s.0, omega arith, tt, parts_append (MatchesIn f) least s.0 b cs r.0 r.1 a r.2 r.3 s.3);
  from = λ b cs a h.
      let n = h.0 in
      let bound : least ≤ n = h.1 in
      let sum : n ≡ least + (n - least) = omega arith in
      let r = parts_split (MatchesIn f) least (n - least) b cs a (subst (λ i. Parts (MatchesIn f) i b cs a) sum h.3) in
      times_from least f (repetition f 0 None ∷ []) b cs r.0 r.1 a r.2 r.3
      (last_one (repetition f 0 None) (last_of b r.0) r.1 a (n - least, omega arith, tt, r.4));
}

-- up to so many, each of which may be left out
options_to : (k : ℕ) (f : Form) (b : Option ℕ) (cs : List ℕ) (a : Option ℕ)
    → MatchesIn (sequence (times k (repetition f 0 (Some 1)) [])) b cs a → (n : ℕ) × (n ≤ k) × Parts (MatchesIn f) n b cs a
options_to zero f b cs a h = (0, omega arith, h)
options_to (suc k) f b cs a h =
    let r = options_to k f (last_of b h.0) h.1 a h.4 in
    let few : r.0 ≤ k = r.1 in
    let one : h.3.0 ≤ 1 = h.3.2 in
    (h.3.0 + r.0, omega arith, parts_append (MatchesIn f) h.3.0 r.0 b cs h.0 h.1 a h.2 h.3.3 r.2)

options_from : (k n : ℕ) (f : Form) (b : Option ℕ) (cs : List ℕ) (a : Option ℕ) → n ≤ k → Parts (MatchesIn f) n b cs a
    → MatchesIn (sequence (times k (repetition f 0 (Some 1)) [])) b cs a
options_from zero zero f b cs a l h = h
options_from zero (suc n) f b cs a l h = absurd (omega arith)
options_from (suc k) zero f b cs a l h =
    ([], cs, refl, (0, omega arith, omega arith, refl), options_from k zero f b cs a (omega arith) h)
options_from (suc k) (suc n) f b cs a l h = (
  h.0,
  h.1,
  h.2,
  (1, omega arith, omega arith, (h.0, [], sym (append-nil h.0), h.3, refl)),
  options_from k n f (last_of b h.0) h.1 a (omega arith) h.4,
)

-- at least and at most so many
pub between_same : (least most : ℕ) (f : Form) → least ≤ most
    → Same (sequence (times least f (times (most - least) (repetition f 0 (Some 1)) []))) (repetition f least (Some most))
between_same least most f l = record {
  to = λ b cs a h.
      let r = times_to least f (times (most - least) (repetition f 0 (Some 1)) []) b cs a h in
      let s = options_to (most - least) f (last_of b r.0) r.1 a r.4 in
      let few : s.0 ≤ most - least = s.1 in
      (least + s.0, omega arith, omega arith, parts_append (MatchesIn f) least s.0 b cs r.0 r.1 a r.2 r.3 s.2);
  from = λ b cs a h.
      let n = h.0 in
      let low : least ≤ n = h.1 in
      let high : n ≤ most = h.2 in
      let sum : n ≡ least + (n - least) = omega arith in
      let r = parts_split (MatchesIn f) least (n - least) b cs a (subst (λ i. Parts (MatchesIn f) i b cs a) sum h.3) in
      times_from least f (times (most - least) (repetition f 0 (Some 1)) []) b cs r.0 r.1 a r.2 r.3
      (options_from (most - least) (n - least) f (last_of b r.0) r.1 a (omega arith) r.4);
}

-- so many, and then up to so many more
pub then_up_to_same : (least most : ℕ) (f : Form) → least ≤ most
    → Same (sequence (times least f (repetition f 0 (Some (most - least)) ∷ []))) (repetition f least (Some most))
then_up_to_same least most f l = record {
  to = λ b cs a h.
      let r = times_to least f (repetition f 0 (Some (most - least)) ∷ []) b cs a h in
      let s = one_last (repetition f 0 (Some (most - least))) (last_of b r.0) r.1 a r.4 in
      let few : s.0 ≤ most - least = s.2 in
      (least + s.0, omega arith, omega arith, parts_append (MatchesIn f) least s.0 b cs r.0 r.1 a r.2 r.3 s.3);
  from = λ b cs a h.
      let n = h.0 in
      let low : least ≤ n = h.1 in
      let high : n ≤ most = h.2 in
      let sum : n ≡ least + (n - least) = omega arith in
      let r = parts_split (MatchesIn f) least (n - least) b cs a (subst (λ i. Parts (MatchesIn f) i b cs a) sum h.3) in
      times_from least f (repetition f 0 (Some (most - least)) ∷ []) b cs r.0 r.1 a r.2 r.3
      (last_one (repetition f 0 (Some (most - least))) (last_of b r.0) r.1 a (n - least, omega arith, omega arith, r.4));
}

-- ---- all of a list

nothing_left : (ns taken new : List Expression) → ns ≡ new ++ taken → length taken ≡ length ns → ns ≡ taken
nothing_left ns taken [] e c = e
nothing_left ns taken (n ∷ new) e c =
    let more : length ns ≡ length (n ∷ (new ++ taken)) = ap length e in
    let sum = length-append new taken in
    absurd (omega arith)

pub all_taken : (ns new : List Expression) (count : ℕ) (n : Expression) → count ≡ length ns → TakesSequence ns count new n
    → (fs : List Form)
    → AllMean ns fs → Means n (sequence fs)
all_taken ns new count n e t fs all = t.means fs (subst (λ ms. AllMean ms fs) (nothing_left ns t.taken new t.split (t.counted ∙ e)) all)

pub all_chosen : (ns new : List Expression) (count : ℕ) (n : Expression) → count ≡ length ns → TakesChoice ns count new n → (fs : List Form)
    → AllMean ns fs → Means n (choice fs)
all_chosen ns new count n e t fs all = t.means fs (subst (λ ms. AllMean ms fs) (nothing_left ns t.taken new t.split (t.counted ∙ e)) all)

pub all_mean_push : (ns ms : List Expression) (n : Expression) (fs : List Form) (f : Form) → ms ≡ ns ++ n ∷ [] → AllMean ns fs → Means n f
    → AllMean ms (fs ++ f ∷ [])
all_mean_push ns ms n fs f e a m = subst (λ xs. AllMean xs (fs ++ f ∷ [])) (sym e) (all_mean_joined ns (n ∷ []) fs (f ∷ []) a (m, tt))

pub times_end : (n : ℕ) (f : Form) → times n f [] ++ f ∷ [] ≡ times (n + 1) f []
times_end n f = let e : suc n ≡ n + 1 = omega arith in times_push n f ∙ ap (λ i. times i f []) e

pub repeat_least : (n : Expression) (i least : ℕ) (most : Option ℕ) (f : Form) → i ≡ least → most ≡ None
    → Means n (sequence (times i f [] ++ repetition f 0 None ∷ [])) → Means n (repetition f least most)
repeat_least n i least most f e none m =
    let all : Means n (sequence (times i f (repetition f 0 None ∷ []))) = subst (λ gs. Means n (sequence gs))
    (times_more i f (repetition f 0 None ∷ [])) m in
    let counted : Means n (sequence (times least f (repetition f 0 None ∷ []))) = subst
    (λ j. Means n (sequence (times j f (repetition f 0 None ∷ [])))) e all in
    subst (λ o. Means n (repetition f least o)) (sym none) (means_as n _ _ counted (at_least_same least f))

pub repeat_up_to : (n : Expression) (i k least top : ℕ) (most : Option ℕ) (f : Form) → i ≡ least → k ≡ top - least → most ≡ Some top
    → AtMost least most → Means n (sequence (times i f [] ++ repetition f 0 (Some k) ∷ [])) → Means n (repetition f least most)
repeat_up_to n i k least top most f ei ek some l m =
    let all : Means n (sequence (times i f (repetition f 0 (Some k) ∷ []))) = subst (λ gs. Means n (sequence gs))
    (times_more i f (repetition f 0 (Some k) ∷ [])) m in
    let counted : Means n (sequence (times least f (repetition f 0 (Some k) ∷ []))) = subst
    (λ j. Means n (sequence (times j f (repetition f 0 (Some k) ∷ [])))) ei all in
    let fits : Means n (sequence (times least f (repetition f 0 (Some (top - least)) ∷ []))) = subst
    (λ j. Means n (sequence (times least f (repetition f 0 (Some j) ∷ [])))) ek counted in
    let low : least ≤ top = subst (AtMost least) some l in
    subst (λ o. Means n (repetition f least o)) (sym some) (means_as n _ _ fits (then_up_to_same least top f low))

pub repeat_between : (n : Expression) (k least top : ℕ) (most : Option ℕ) (f : Form) → k ≡ top - least → most ≡ Some top → AtMost least most
    → Means n (sequence (times least f [] ++ times k (repetition f 0 (Some 1)) [])) → Means n (repetition f least most)
repeat_between n k least top most f e some l m =
    let all : Means n (sequence (times least f (times k (repetition f 0 (Some 1)) []))) = subst (λ gs. Means n (sequence gs))
    (times_more least f (times k (repetition f 0 (Some 1)) [])) m in
    let counted : Means n (sequence (times least f (times (top - least) (repetition f 0 (Some 1)) []))) = subst
    (λ j. Means n (sequence (times least f (times j (repetition f 0 (Some 1)) [])))) e all in
    let low : least ≤ top = subst (AtMost least) some l in
    subst (λ o. Means n (repetition f least o)) (sym some) (means_as n _ _ counted (between_same least top f low))

-- The links between the subschemas of a table.
use Rattle.std.proofs.Common.{◌≡◌, ◌++◌, ℕ, zero, suc, ◌<◌, Bool, true, false, true≢false, ◌&&◌, List, [], ◌∷◌, Option, Some, None}
use Rattle.std.proofs.Common.{Vec, Global, length, get_or, option_map, refl, sym, ap, ◌∙◌, arith}
use Rattle.std.proofs.lemmas.Bool.{and_parts, and_from}
use Rattle.std.specs.Prelude.{slice_get}
use Rattle.tinyjson.specs.Equality.{tree_eq, tree_eq_Decides}
use Rattle.tinyjson.specs.Tree.{Tree}
use Rattle.tinyjson.specs.View.{view}
use Rattle.tinyjson_schema_table.specs.Givens.{is_at}
use Rattle.tinyjson_schema_table.specs.Links.{led_by, tree_in, are_same, is_link, are_links, fit, AreLinked, Keeps, AddsLinks, AddsNext}
use Rattle.tinyjson_schema_table.specs.Places.{tree_of, LeadsTo, IsIn, is_of}
use Rattle.tinyjson_schema_table.specs.declared.table.Known.{Known}
use Rattle.tinyjson_schema_table.specs.declared.link.Link.{Link}
use Rattle.tinyjson_schema_table.specs.declared.shape.Shape.{Shape}
use Rattle.tinyjson_schema_table.specs.declared.link.Way.{Way}
use Rattle.tinyjson_schema_table.proofs.Givens.{is_at_some, at_is}

some_apart : {A : Type 0} {x : A} {R : Type 0} → None ≡ Some x → R
some_apart h = cc

some_is : (a b : Tree) → Some a ≡ Some b → a ≡ b
some_is a b h = cc

same_some : (o p : Option Tree) (t : Tree) → o ≡ Some t → p ≡ Some t → are_same o p ≡ true
same_some o None t h e = some_apart e
same_some o (Some u) t h e = is_at_some o u (h ∙ sym e)

some_same : (o p : Option Tree) (t : Tree) → are_same o p ≡ true → p ≡ Some t → o ≡ Some t
some_same o None t h e = some_apart e
some_same o (Some u) t h e = at_is o u h ∙ e

-- ---- one more

got_before : {X : Type 0} (xs : List X) (y x : X) (i : ℕ) → slice_get xs i ≡ Some x → slice_get (xs ++ (y ∷ [])) i ≡ Some x
got_before [] y x i h = some_apart h
got_before (z ∷ xs) y x zero h = h
got_before (z ∷ xs) y x (suc i) h = got_before xs y x i h

got_last : {X : Type 0} (xs : List X) (y : X) → slice_get (xs ++ (y ∷ [])) (length xs) ≡ Some y
got_last [] y = refl
got_last (z ∷ xs) y = got_last xs y

tree_before : (xs : List Shape) (y : Shape) (i : ℕ) (t : Tree) → tree_in xs i ≡ Some t → tree_in (xs ++ (y ∷ [])) i ≡ Some t
tree_before [] y i t h = some_apart h
tree_before (z ∷ xs) y zero t h = h
tree_before (z ∷ xs) y (suc i) t h = tree_before xs y i t h

tree_last : (xs : List Shape) (y : Shape) → tree_in (xs ++ (y ∷ [])) (length xs) ≡ Some (view y.schema.now)
tree_last xs y = ap (option_map (λ x. view x.schema.now)) (got_last xs y)

-- ---- links stay where schemas keep their places

kept_link : (xs ys : List Shape) (s : Tree) (l : Link) → Keeps xs ys → is_link xs s l ≡ true → is_link ys s l ≡ true
kept_link xs ys s l keeps h = by (tree_in xs l.at) refl h
  where
    by : (o : Option Tree) → tree_in xs l.at ≡ o → are_same (led_by s l.way) o ≡ true → are_same (led_by s l.way) (tree_in ys l.at) ≡ true
    by None e g = absurd (true≢false (sym g))
    by (Some t) e g = same_some (led_by s l.way) (tree_in ys l.at) t (at_is _ t g) (keeps l.at t e)

pub kept_links : (xs ys : List Shape) (s : Tree) (ls : List Link) → Keeps xs ys → are_links xs s ls ≡ true → are_links ys s ls ≡ true
kept_links xs ys s [] keeps h = refl
kept_links xs ys s (l ∷ ls) keeps h =
    let both = and_parts (is_link xs s l) (are_links xs s ls) h in
    and_from _ _ (kept_link xs ys s l keeps both.0) (kept_links xs ys s ls keeps both.1)

more_links : (xs : List Shape) (s : Tree) (ls : List Link) (l : Link) → is_link xs s l ≡ true → are_links xs s ls ≡ true
    → are_links xs s (ls ++ (l ∷ [])) ≡ true
more_links xs s [] l g h = and_from _ true g refl
more_links xs s (m ∷ ls) l g h =
    let both = and_parts (is_link xs s m) (are_links xs s ls) h in
    and_from _ _ both.0 (more_links xs s ls l g both.1)

pub nothing_added : (s : Tree) (xs : List Shape) (ls : List Link) → AddsLinks s xs xs ls ls
nothing_added s xs ls = record { keeps = λ i t h. h; links = λ h. h }

pub both_added : (s : Tree) (xs ys zs : List Shape) (ls ms ns : List Link) → AddsLinks s xs ys ls ms → AddsLinks s ys zs ms ns
    → AddsLinks s xs zs ls ns
both_added s xs ys zs ls ms ns a b = record {
  keeps = λ i t h. b.keeps i t (a.keeps i t h);
  links = λ h. b.links (a.links h);
}

-- a link to a shape that is added is added
pub link_added : (s : Tree) (xs ys : List Shape) (y : Shape) (ls ms : List Link) (l : Link) → l.at ≡ length xs
    → led_by s l.way ≡ Some (view y.schema.now) → ms ≡ ls ++ (l ∷ []) → ys ≡ xs ++ (y ∷ []) → AddsLinks s xs ys ls ms
link_added s xs ys y ls ms l at leads e f = record {
  keeps = keeps;
  links = λ h. ap (are_links ys s) e ∙ more_links ys s ls l there (kept_links xs ys s ls keeps h);
}
  where
    keeps : Keeps xs ys
    keeps i t h = ap (λ zs. tree_in zs i) f ∙ tree_before xs y i t h

    there : is_link ys s l ≡ true
    there = same_some (led_by s l.way) (tree_in ys l.at) (view y.schema.now) leads
        (ap (λ zs. tree_in zs l.at) f ∙ (ap (tree_in (xs ++ (y ∷ []))) at ∙ tree_last xs y))

-- ---- the links of the next schema

fit_none : (xs : List Shape) (o : Option (Vec Link Global)) → fit xs None o ≡ true
fit_none xs None = refl
fit_none xs (Some ls) = refl

fit_without : (xs : List Shape) (o : Option Tree) → fit xs o None ≡ true
fit_without xs None = refl
fit_without xs (Some s) = refl

module _ (xs ys : List Shape) (keeps : Keeps xs ys) where
  -- up to the end of the links before, and at it
  pub fit_next : (zs : List Shape) (os : List (Vec Link Global)) (ms : Vec Link Global) (s : Tree) → Some s ≡ tree_in zs (length os)
      → are_links ys s ms.items ≡ true → (ws : List Shape) → Keeps zs ws
      → ((i : ℕ) → fit xs (tree_in zs i) (slice_get os i) ≡ true)
      → (i : ℕ) → fit ys (tree_in ws i) (slice_get (os ++ (ms ∷ [])) i) ≡ true
  fit_next zs [] ms s at good ws kept before zero =
      ap (λ o. fit ys o (Some ms)) (kept 0 s (sym at)) ∙ good
  fit_next zs [] ms s at good ws kept before (suc i) = fit_without ys (tree_in ws (suc i))
  fit_next [] (o ∷ os) ms s at good ws kept before i = some_apart (sym at)
  fit_next (z ∷ zs) (o ∷ os) ms s at good [] kept before i = some_apart (kept 0 (view z.schema.now) refl)
  fit_next (z ∷ zs) (o ∷ os) ms s at good (w ∷ ws) kept before zero =
      let e : view w.schema.now ≡ view z.schema.now = some_is _ _ (kept 0 (view z.schema.now) refl) in
      ap (λ x. are_links ys x o.items) e ∙ kept_links xs ys (view z.schema.now) o.items keeps (before 0)
  fit_next (z ∷ zs) (o ∷ os) ms s at good (w ∷ ws) kept before (suc i) =
      fit_next zs os ms s at good ws (λ j t h. kept (suc j) t h) (λ j. before (suc j)) i

pub next_added : (xs ys : List Shape) (lss mss : List (Vec Link Global)) (ms : Vec Link Global) (s : Tree) → Some s ≡ tree_in xs
    (length lss)
    → AddsLinks s xs ys [] ms.items → mss ≡ lss ++ (ms ∷ []) → AddsNext xs ys lss mss
next_added xs ys lss mss ms s at a e = record {
  keeps = a.keeps;
  linked = λ old i. ap (λ zs. fit ys (tree_in ys i) (slice_get zs i)) e
      ∙ fit_next xs ys a.keeps xs lss ms s at (a.links refl) ys a.keeps old i;
}

pub none_added : (xs : List Shape) (lss : List (Vec Link Global)) → AddsNext xs xs lss lss
none_added xs lss = record { keeps = λ i t h. h; linked = λ h. h }

-- ---- what a link leads to

link_of : (xs : List Shape) (s : Tree) (ls : List Link) (i : ℕ) (l : Link) → are_links xs s ls ≡ true → slice_get ls i ≡ Some l
    → is_link xs s l ≡ true
link_of xs s [] i l h e = some_apart e
link_of xs s (m ∷ ls) zero l h e =
    let same : m ≡ l = cc in
    ap (is_link xs s) (sym same) ∙ (and_parts (is_link xs s m) (are_links xs s ls) h).0
link_of xs s (m ∷ ls) (suc i) l h e = link_of xs s ls i l (and_parts (is_link xs s m) (are_links xs s ls) h).1 e

-- what is at the place of a link of the schema at a place
pub linked_to : (xs : List Shape) (lss : List (Vec Link Global)) (at : ℕ) (s : Tree) (ls : Vec Link Global) (i : ℕ) (l : Link)
    (n : Option Known)
    → AreLinked xs lss → is_at (tree_in xs at) s ≡ true → slice_get lss at ≡ Some ls → slice_get ls.items i ≡ Some l
    → IsIn xs l.at n → LeadsTo (led_by s l.way) n
linked_to xs lss at s ls i l None linked is there link found = tt
linked_to xs lss at s ls i l (Some n) linked is there link found =
    let fits : fit xs (Some s) (Some ls) ≡ true
    = sym (ap (λ o. fit xs o (Some ls)) (at_is _ s is)) ∙ (sym (ap (fit xs (tree_in xs at)) there) ∙ linked at) in
    some_same (led_by s l.way) (tree_in xs l.at) (tree_of n) (link_of xs s ls.items i l fits link) found

-- ---- what is known

pub known_same : (n : Known) (s : Tree) → is_of (Some n) s ≡ true → tree_of n ≡ s
known_same n s h = (tree_eq_Decides (tree_of n) s).0 h

pub same_known : (o : Option Tree) (n : Option Known) (s : Tree) → LeadsTo o n → o ≡ Some s → is_of n s ≡ true
same_known o None s h e = refl
same_known o (Some n) s h e =
    let same : tree_of n ≡ s = some_is _ _ (sym h ∙ e) in
    (tree_eq_Decides (tree_of n) s).1 same

-- ---- the whole table

pub root_kept : (xs ys : List Shape) (s : Tree) → Keeps xs ys → is_at (tree_in xs 0) s ≡ true → is_at (tree_in ys 0) s ≡ true
root_kept xs ys s keeps h = is_at_some (tree_in ys 0) s (keeps 0 s (at_is (tree_in xs 0) s h))

pub none_linked : (xs : List Shape) → AreLinked xs []
none_linked xs i = fit_without xs (tree_in xs i)

-- what is got at a place
pub placed_at : (xs : List Shape) (i : ℕ) (x : Shape) → Some x ≡ slice_get xs i → is_at (tree_in xs i) (view x.schema.now) ≡ true
placed_at xs i x h = is_at_some (tree_in xs i) (view x.schema.now) (sym (ap (option_map (λ y. view y.schema.now)) h))

pub tree_got : (xs : List Shape) (i : ℕ) (x : Shape) → Some x ≡ slice_get xs i → Some (view x.schema.now) ≡ tree_in xs i
tree_got xs i x h = ap (option_map (λ y. view y.schema.now)) h

pub self_known : (n : Known) → is_of (Some n) (tree_of n) ≡ true
self_known n = (tree_eq_Decides (tree_of n) (tree_of n)).1 refl

pub known_as : (a s : Tree) (n : Option Known) → LeadsTo (Some a) n → tree_eq a s ≡ true → is_of n s ≡ true
known_as a s n h e = same_known (Some a) n s h (ap (λ (x : Tree). Some x) ((tree_eq_Decides a s).0 e))

pub got_at : {X : Type 0} (xs : List X) (i : ℕ) (d : X) → i < length xs → slice_get xs i ≡ Some (get_or xs i d)
got_at [] i d h = absurd (omega (arith, h))
got_at (y ∷ xs) zero d h = refl
got_at (y ∷ xs) (suc i) d h = got_at xs i d (omega (arith, h))

-- What is written of a tree without some places.
use Rattle.std.proofs.Common.{◌≡◌, ℕ, ◌+◌, ◌<◌, Bool, true, false, cond, List, [], ◌∷◌, ◌++◌, length, ◌≤◌, Option, None}
use Rattle.std.proofs.Common.{Some, Result, Ok, Err}
use Rattle.std.proofs.Common.{refl, sym, ap, ap₂, ◌∙◌, subst, arith, append_assoc, append-nil, length-append}
use Rattle.std.proofs.Common.{◌||◌, String, string_bytes, Global, nat_lt, chars}
use Rattle.std.proofs.lemmas.Bool.Decides.{nat_tests}
use Rattle.std.proofs.lemmas.Result.{MatchResult-from_err}
use Rattle.std.proofs.lemmas.Slice.Eq.{bytes_eq-Decides}
use Rattle.std.specs.HashSet.{contains_text}
use Rattle.std.specs.Str.{bytes_eq}
use Rattle.std.specs.String.{string_len}
use Rattle.std.specs.Result.{IsErr}
use Rattle.std.specs.Result.{OnOk}
use Rattle.tinyjson.proofs.Callers.{begins, goes, stop, stops, stops_then, written_then, written_none, IsUtf8-string_bytes}
use Rattle.tinyjson.specs.Access.{is_array, is_object}
use Rattle.tinyjson.specs.Text.{text, items_text, members_text, compact, before, closing, quoted, separator, has_no_items, has_no_members}
use Rattle.tinyjson.specs.Tree.{Tree, null, boolean, number, string, array, object, Items, no_items, item, Members, no_members, member}
use Rattle.tinyjson.specs.Written.{Written, WrittenPart, WritesPrefix}
use Rattle.tinyjson_document.specs.Comparing.{weight, items_weight, members_weight}
use Rattle.tinyjson_document.specs.Parts.{items_in, members_in}
use Rattle.std.proofs.lemmas.Str.{encode_ascii, encodes-append, encodes-chars}
use Rattle.std.specs.Str.{encode_utf8_all}
use Rattle.tinyjson_path.specs.Nodes.{Step, at_index, at_key}
use Rattle.json_path.specs.Left.{Goes, items_bytes, members_bytes, left_bytes, left_weight, stack_bytes, stack_weight}
use Rattle.json_path.specs.Places.{has_path, IsBounded}
use Rattle.json_path.specs.declared.places.Places.{Places}
use Rattle.tinyjson_path.specs.Paths.{path_text, steps_text, step_text, escape}
use Rattle.std.specs.Fmt.{decimal}
use Rattle.std.specs.Prelude.{codes}
use Rattle.json_path.specs.Without.{path_bytes, without, items_without, members_without}
use Rattle.json_path.specs.declared.rest.Left.{Left}

-- ---- bytes

abbrev pub enc : List ℕ → List ℕ
enc = encode_utf8_all

pub enc_cons : (c : ℕ) (cs : List ℕ) → c < 128 → enc (c ∷ cs) ≡ c ∷ enc cs
enc_cons c cs h = ap (λ w. w ++ enc cs) (encode_ascii c h)

three : (a b c : List ℕ) → enc (a ++ (b ++ c)) ≡ enc a ++ (enc b ++ enc c)
three a b c = encodes-append a (b ++ c) ∙ ap (λ w. enc a ++ w) (encodes-append b c)

closed : (cs : List ℕ) (b : ℕ) → b < 128 → enc (cs ++ b ∷ []) ≡ enc cs ++ b ∷ []
closed cs b h = encodes-append cs (b ∷ []) ∙ ap (λ w. enc cs ++ w) (enc_cons b [] h)

-- ---- the level of a compact text does not matter

mutual
  pub one_level : (j k : ℕ) (t : Tree) → text None j t ≡ text None k t
  one_level j k null = refl
  one_level j k (boolean b) = refl
  one_level j k (number d) = refl
  one_level j k (string cs) = refl
  one_level j k (array ts) = ap (λ z. 91 ∷ (z ++ closing None k (has_no_items ts) 93)) (one_items (j + 1) (k + 1) true ts)
  one_level j k (object ms) = ap (λ z. 123 ∷ (z ++ closing None k (has_no_members ms) 125)) (one_members (j + 1) (k + 1) true ms)

  one_items : (j k : ℕ) (first : Bool) (ts : Items) → items_text None j first ts ≡ items_text None k first ts
  one_items j k first no_items = refl
  one_items j k first (item t ts) = ap₂ (λ a b. before None k first ++ (a ++ b)) (one_level j k t) (one_items j k false ts)

  one_members : (j k : ℕ) (first : Bool) (ms : Members) → members_text None j first ms ≡ members_text None k first ms
  one_members j k first no_members = refl
  one_members j k first (member key t ms) =
      ap₂ (λ a b. before None k first ++ ((quoted key ++ (58 ∷ a)) ++ b)) (one_level j k t) (one_members j k false ms)

closes : (b : Bool) (c : ℕ) → closing None 0 b c ≡ c ∷ []
closes true c = refl
closes false c = refl

-- ---- a value that is opened

module _ (gone : List Step → Bool) (path : List Step) where
  pub array_opens : (t : Tree) → is_array t ≡ true → enc (compact (without gone path t)) ≡ 91 ∷ items_bytes gone path 0 true (items_in t)
  array_opens (array ts) h =
      let us = items_without gone path 0 ts in
      ap (λ z. enc (91 ∷ (items_text None 1 true us ++ z))) (closes (has_no_items us) 93)
      ∙ enc_cons 91 (items_text None 1 true us ++ 93 ∷ []) (omega arith)
  array_opens null h = cc
  array_opens (boolean b) h = cc
  array_opens (number d) h = cc
  array_opens (string cs) h = cc
  array_opens (object ms) h = cc

  pub object_opens : (t : Tree) → is_object t ≡ true
      → enc (compact (without gone path t)) ≡ 123 ∷ members_bytes gone path true (members_in t)
  object_opens (object ms) h =
      let us = members_without gone path ms in
      ap (λ z. enc (123 ∷ (members_text None 1 true us ++ z))) (closes (has_no_members us) 125)
      ∙ enc_cons 123 (members_text None 1 true us ++ 125 ∷ []) (omega arith)
  object_opens null h = cc
  object_opens (boolean b) h = cc
  object_opens (number d) h = cc
  object_opens (string cs) h = cc
  object_opens (array ts) h = cc

  pub scalar_stays : (t : Tree) → is_array t ≡ false → is_object t ≡ false → without gone path t ≡ t
  scalar_stays null h k = refl
  scalar_stays (boolean b) h k = refl
  scalar_stays (number d) h k = refl
  scalar_stays (string cs) h k = refl
  scalar_stays (array ts) h k = cc
  scalar_stays (object ms) h k = cc

  -- ---- what comes next of an array

  pub items_end : (i : ℕ) (first : Bool) (ts : Items) → ts ≡ no_items → items_bytes gone path i first ts ≡ 93 ∷ []
  items_end i first ts e = ap (items_bytes gone path i first) e ∙ enc_cons 93 [] (omega arith)

  pub item_gone : (i j : ℕ) (here : List Step) (first : Bool) (t : Tree) (ts all : Items) → all ≡ item t ts → j ≡ i + 1
      → here ≡ path ++ at_index i ∷ [] → gone here ≡ true → items_bytes gone path i first all ≡ items_bytes gone path j first ts
  item_gone i j here first t ts all e n p g =
      ap (items_bytes gone path i first) e
      ∙ ap (λ b. enc (items_text None 1 first (cond b (items_without gone path (i + 1) ts)
      (item (without gone (path ++ at_index i ∷ []) t) (items_without gone path (i + 1) ts))) ++ 93 ∷ [])) (ap gone (sym p) ∙ g)
      ∙ ap (λ k. items_bytes gone path k first ts) (sym n)

  pub item_kept : (i j : ℕ) (here : List Step) (first : Bool) (t : Tree) (ts all : Items) → all ≡ item t ts → j ≡ i + 1
      → here ≡ path ++ at_index i ∷ [] → gone here ≡ false
      → items_bytes gone path i first all
      ≡ enc (separator first) ++ (enc (compact (without gone here t)) ++ items_bytes gone path j false ts)
  item_kept i j here first t ts all e n p g =
      let us = items_without gone path (i + 1) ts in
      let u = without gone (path ++ at_index i ∷ []) t in
      ap (items_bytes gone path i first) e
      ∙ ap (λ b. enc (items_text None 1 first (cond b us (item u us)) ++ 93 ∷ [])) (ap gone (sym p) ∙ g)
      ∙ ap enc (next_item (separator first) (text None 1 u) (items_text None 1 false us))
      ∙ three (separator first) (text None 1 u) (items_text None 1 false us ++ 93 ∷ [])
      ∙ ap (λ z. enc (separator first) ++ (enc z ++ items_bytes gone path (i + 1) false ts)) (one_level 1 0 u)
      ∙ ap (λ h. enc (separator first) ++ (enc (compact (without gone h t)) ++ items_bytes gone path (i + 1) false ts)) (sym p)
      ∙ ap (λ k. enc (separator first) ++ (enc (compact (without gone here t)) ++ items_bytes gone path k false ts)) (sym n)
    where
      next_item : (a b c : List ℕ) → ((a ++ []) ++ (b ++ c)) ++ 93 ∷ [] ≡ a ++ (b ++ (c ++ 93 ∷ []))
      next_item a b c = simp (append_assoc, append-nil)

  -- ---- what comes next of an object

  pub members_end : (first : Bool) (ms : Members) → ms ≡ no_members → members_bytes gone path first ms ≡ 125 ∷ []
  members_end first ms e = ap (members_bytes gone path first) e ∙ enc_cons 125 [] (omega arith)

  pub member_gone : (here : List Step) (first : Bool) (k : List ℕ) (t : Tree) (ms all : Members) → all ≡ member k t ms
      → here ≡ path ++ at_key k ∷ [] → gone here ≡ true → members_bytes gone path first all ≡ members_bytes gone path first ms
  member_gone here first k t ms all e p g =
      ap (members_bytes gone path first) e
      ∙ ap (λ b. enc (members_text None 1 first (cond b (members_without gone path ms)
      (member k (without gone (path ++ at_key k ∷ []) t) (members_without gone path ms))) ++ 125 ∷ [])) (ap gone (sym p) ∙ g)

  pub member_kept : (here : List Step) (first : Bool) (k : List ℕ) (t : Tree) (ms all : Members) → all ≡ member k t ms
      → here ≡ path ++ at_key k ∷ [] → gone here ≡ false
      → members_bytes gone path first all
      ≡ enc (separator first) ++ ((enc (quoted k) ++ 58 ∷ []) ++ (enc (compact (without gone here t)) ++ members_bytes gone path false ms))
  member_kept here first k t ms all e p g =
      let us = members_without gone path ms in
      let u = without gone (path ++ at_key k ∷ []) t in
      ap (members_bytes gone path first) e
      ∙ ap (λ b. enc (members_text None 1 first (cond b us (member k u us)) ++ 125 ∷ [])) (ap gone (sym p) ∙ g)
      ∙ ap enc (next_member (separator first) (quoted k) (text None 1 u) (members_text None 1 false us))
      ∙ three (separator first) (quoted k ++ 58 ∷ []) (text None 1 u ++ (members_text None 1 false us ++ 125 ∷ []))
      ∙ ap₂ (λ a b. enc (separator first) ++ (a ++ b)) (closed (quoted k) 58 (omega arith))
      (encodes-append (text None 1 u) (members_text None 1 false us ++ 125 ∷ []))
      ∙ ap (λ z. enc (separator first) ++ ((enc (quoted k) ++ 58 ∷ []) ++ (enc z ++ members_bytes gone path false ms))) (one_level 1 0 u)
      ∙ ap (λ h. enc (separator first) ++ ((enc (quoted k) ++ 58 ∷ []) ++ (enc (compact (without gone h t))
      ++ members_bytes gone path false ms))) (sym p)
    where
      next_member : (a q b c : List ℕ)
          → ((a ++ []) ++ ((q ++ (58 ∷ b)) ++ c)) ++ 125 ∷ [] ≡ a ++ ((q ++ 58 ∷ []) ++ (b ++ (c ++ 125 ∷ [])))
      next_member a q b c = simp (append_assoc, append-nil)

-- ---- the stack

pub stack_last : (gone : List Step → Bool) (ls all : List Left) (l : Left) → all ≡ ls ++ l ∷ []
    → stack_bytes gone all ≡ left_bytes gone l ++ stack_bytes gone ls
stack_last gone ls all l e = ap (stack_bytes gone) e ∙ by ls
  where
    by : (ls : List Left) → stack_bytes gone (ls ++ l ∷ []) ≡ left_bytes gone l ++ stack_bytes gone ls
    by [] = sym (append-nil (left_bytes gone l))
    by (k ∷ ls) = ap (λ z. z ++ left_bytes gone k) (by ls) ∙ append_assoc (left_bytes gone l) (stack_bytes gone ls) (left_bytes gone k)

pub weight_last : (ls all : List Left) (l : Left) → all ≡ ls ++ l ∷ [] → stack_weight all ≡ left_weight l + stack_weight ls
weight_last ls all l e = ap stack_weight e ∙ by ls
  where
    by : (ls : List Left) → stack_weight (ls ++ l ∷ []) ≡ left_weight l + stack_weight ls
    by [] = refl
    by (k ∷ ls) = let h = by ls in omega (arith, h)

pub array_weight : (t : Tree) → is_array t ≡ true → weight t ≡ 2 + items_weight (items_in t)
array_weight (array ts) h = refl
array_weight null h = cc
array_weight (boolean b) h = cc
array_weight (number d) h = cc
array_weight (string cs) h = cc
array_weight (object ms) h = cc

pub object_weight : (t : Tree) → is_object t ≡ true → weight t ≡ 2 + members_weight (members_in t)
object_weight (object ms) h = refl
object_weight null h = cc
object_weight (boolean b) h = cc
object_weight (number d) h = cc
object_weight (string cs) h = cc
object_weight (array ts) h = cc

pub some_weight : (t : Tree) → 0 < weight t
some_weight null = omega arith
some_weight (boolean b) = omega arith
some_weight (number d) = omega arith
some_weight (string cs) = omega arith
some_weight (array ts) = omega arith
some_weight (object ms) = omega arith

-- ---- one write after another

pub last_piece : {T E : Type 0} (old mid new : Option (List ℕ)) (bytes piece rest : List ℕ) (r : Result T E) → WritesPrefix mid new piece r
    → Written old mid bytes (piece ++ rest) → Goes old new bytes rest r
last_piece old mid new bytes piece rest (Ok x) k h = goes rest k h
last_piece old mid new bytes piece rest (Err e) k h = stops rest k h

pub then_goes : {T E : Type 0} (old mid new : Option (List ℕ)) (bytes piece rest : List ℕ) (r : Result T E) → Goes mid new piece rest r
    → Written old mid bytes piece → Goes old new bytes rest r
then_goes old mid new bytes piece rest (Ok x) k h = written_then piece rest h k
then_goes old mid new bytes piece rest (Err e) k h = stops_then piece h k

-- ---- where no place is below

steps_join : (ss rs : List Step) → steps_text (ss ++ rs) ≡ steps_text ss ++ steps_text rs
steps_join [] rs = refl
steps_join (s ∷ ss) rs = ap (λ z. step_text s ++ z) (steps_join ss rs) ∙ sym (append_assoc (step_text s) (steps_text ss) (steps_text rs))

some_length : (s : Step) (more : List ℕ) → 0 < length (enc (step_text s ++ more))
some_length (at_key k) more =
    let e = ap length (enc_cons 91 (39 ∷ ((escape k ++ codes "']") ++ more)) (omega arith)) in omega (arith, e)
some_length (at_index i) more =
    let e = ap length (enc_cons 91 ((decimal i ++ codes "]") ++ more) (omega arith)) in omega (arith, e)

-- the path of a place below is longer
pub below_longer : (path : List Step) (s : Step) (ss : List Step) → length (path_bytes path) < length (path_bytes (path ++ s ∷ ss))
below_longer path s ss =
    let e : path_bytes (path ++ s ∷ ss) ≡ path_bytes path ++ enc (step_text s ++ steps_text ss)
    = ap (λ z. enc (36 ∷ z)) (steps_join path (s ∷ ss)) ∙ encodes-append (36 ∷ steps_text path) (step_text s ++ steps_text ss) in
    let n = ap length e ∙ length-append (path_bytes path) (enc (step_text s ++ steps_text ss)) in
    omega (arith, n, some_length s (steps_text ss))

module _ (gone : List Step → Bool) where
  abbrev pub NoneBelow : List Step → Type 0
  NoneBelow path = (s : Step) (ss : List Step) → gone (path ++ s ∷ ss) ≡ false

  none_deeper : (path : List Step) (s : Step) → NoneBelow path → NoneBelow (path ++ s ∷ [])
  none_deeper path s h r rs = ap gone (append_assoc path (s ∷ []) (r ∷ rs)) ∙ h s (r ∷ rs)

  mutual
    pub all_stays : (path : List Step) → NoneBelow path → (t : Tree) → without gone path t ≡ t
    all_stays path h null = refl
    all_stays path h (boolean b) = refl
    all_stays path h (number d) = refl
    all_stays path h (string cs) = refl
    all_stays path h (array ts) = ap array (items_stay path h 0 ts)
    all_stays path h (object ms) = ap object (members_stay path h ms)

    items_stay : (path : List Step) → NoneBelow path → (i : ℕ) (ts : Items) → items_without gone path i ts ≡ ts
    items_stay path h i no_items = refl
    items_stay path h i (item t ts) =
        ap (λ b. cond b (items_without gone path (i + 1) ts) (item (without gone (path ++ at_index i ∷ []) t)
        (items_without gone path (i + 1) ts))) (h (at_index i) [])
        ∙ ap₂ item (all_stays (path ++ at_index i ∷ []) (none_deeper path (at_index i) h) t) (items_stay path h (i + 1) ts)

    members_stay : (path : List Step) → NoneBelow path → (ms : Members) → members_without gone path ms ≡ ms
    members_stay path h no_members = refl
    members_stay path h (member k t ms) =
        ap (λ b. cond b (members_without gone path ms) (member k (without gone (path ++ at_key k ∷ []) t)
        (members_without gone path ms))) (h (at_key k) [])
        ∙ ap₂ (member k) (all_stays (path ++ at_key k ∷ []) (none_deeper path (at_key k) h) t) (members_stay path h ms)

-- no path that is longer than the bound is one of the set's
pub none_longer : (p : Places) → IsBounded p → (path : List Step) → p.longest ≤ length (path_bytes path) → NoneBelow (has_path p) path
none_longer p h path l s ss = by (has_path p (path ++ s ∷ ss)) refl
  where
    by : (b : Bool) → has_path p (path ++ s ∷ ss) ≡ b → b ≡ false
    by false e = refl
    by true e = let n = h (path_bytes (path ++ s ∷ ss)) e in let m = below_longer path s ss in absurd (omega (arith, n, m, l))

-- ---- a path that is looked for

pub path_is : (s : String Global) (path : List Step) → chars (string_bytes s) ≡ path_text path → string_bytes s ≡ path_bytes path
path_is s path h = sym (encodes-chars (string_bytes s) (IsUtf8-string_bytes s)) ∙ ap enc h

pub found_at : (p : Places) (s : String Global) (q : List ℕ) (path : List Step) (b c : Bool) → chars (string_bytes s) ≡ path_text path
    → q ≡ string_bytes s → b ≡ contains_text p.paths q → b ≡ c → has_path p path ≡ c
found_at p s q path b c h e f g = ap (contains_text p.paths) (sym (e ∙ path_is s path h)) ∙ sym f ∙ g

pub beyond : (p : Places) (s : String Global) (path : List Step) (n : ℕ) (b : Bool) → IsBounded p → chars (string_bytes s) ≡ path_text path
    → n ≡ string_len s → b ≡ nat_lt n p.longest → b ≡ false → NoneBelow (has_path p) path
beyond p s path n b k h e f g =
    let longest : p.longest ≤ n = grind (arith, nat_tests, sym f ∙ g) in
    let count : n ≡ length (string_bytes s) = omega (arith, s.bytes.ok.0, e) in
    let same = count ∙ ap length (path_is s path h) in
    none_longer p k path (omega (arith, longest, same))

-- ---- pieces

pub nothing_yet : {T E : Type 0} (old : Option (List ℕ)) (bytes rest : List ℕ) (r : Result T E) → IsErr r → Goes old old bytes rest r
nothing_yet old bytes rest r e = MatchResult-from_err r _ _ e (λ _. stop begins)

pub ok_always : {T E A : Type 0} (r : Result T E) → A → OnOk r A
ok_always (Ok x) a = a
ok_always (Err e) a = tt

pub ok_map : {T E A B : Type 0} (r : Result T E) → (A → B) → OnOk r A → OnOk r B
ok_map (Ok x) f a = f a
ok_map (Err e) f a = tt

pub regrouped_one : (a b c s : List ℕ) → (a ++ (b ++ c)) ++ s ≡ a ++ (b ++ (c ++ s))
regrouped_one a b c s = simp append_assoc

pub regrouped_two : (a b c d s : List ℕ) → (a ++ (b ++ (c ++ d))) ++ s ≡ a ++ (b ++ (c ++ (d ++ s)))
regrouped_two a b c d s =
    append_assoc a (b ++ (c ++ d)) s ∙ ap (λ z. a ++ z) (append_assoc b (c ++ d) s ∙ ap (λ z. b ++ z) (append_assoc c d s))

pub or_moves : (e o r a : Bool) → (o || (e || r)) ≡ a → (cond e true o || r) ≡ a
or_moves true true r a h = h
or_moves true false r a h = h
or_moves false o r a h = h

pub stays_bounded : (k bs : List ℕ) (old now : Bool) (longest more : ℕ) → now ≡ cond (bytes_eq k bs) true old
    → (old ≡ true → length bs ≤ longest) → longest ≤ more → length k ≤ more → now ≡ true → length bs ≤ more
stays_bounded k bs old now longest more e h l m n = by (bytes_eq k bs) refl
  where
    by : (b : Bool) → bytes_eq k bs ≡ b → length bs ≤ more
    by true f = let same = ap length ((bytes_eq-Decides k bs).0 f) in omega (arith, same, m)
    by false f = let o = h (sym (e ∙ ap (λ b. cond b true old) f) ∙ n) in omega (arith, o, l)

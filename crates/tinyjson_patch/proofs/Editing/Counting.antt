-- Values that are counted: how many are nested in what is put on the stack.
use Rattle.std.proofs.Common.{◌≡◌, ◌≤◌, ◌<◌, ◌+◌, ℕ, suc, List, [], ◌∷◌, ◌++◌, Option, Some, None, length, option_map, unwrap_or}
use Rattle.std.proofs.Common.{refl, sym, ap, ◌∙◌, subst, arith, length-append}
use Rattle.std.specs.List.Sorted.{IsStrictlySortedBy}
use Rattle.std.specs.Map.{keys_of}
use Rattle.std.specs.String.{string_cmp}
use Rattle.tinyjson.specs.Index.{item_count}
use Rattle.tinyjson_document.specs.Parts.{size, member_count, items_in, members_in}
use Rattle.tinyjson_grammar.specs.Tree.{Tree, null, boolean, number, string, array, object}
use Rattle.tinyjson_grammar.specs.Tree.{Items, no_items, item, Members, no_members, member}
use Rattle.tinyjson_view.specs.Views.{tree_of, trees_of, members_of}
use Rattle.tinyjson_view.specs.declared.view.MemberView.{MemberView}
use Rattle.tinyjson_view.specs.declared.view.ValueView.{ValueView}
use Rattle.tinyjson_patch.specs.Copies.{value_count, item_values, member_values}
use Rattle.tinyjson_patch.specs.private.Counting.{inner, inside, Takes, IsPut, Spreads}
use Rattle.tinyjson_patch.specs.private.Edited.{Item, items_tree, members_tree, part_tree}
use Rattle.tinyjson_patch.specs.private.Writing.{listed}
use Rattle.tinyjson_patch.proofs.Editing.Listed.{Entry, members_are_listed}
use Rattle.tinyjson_patch.specs.declared.edit.find.Part.{Part}

pub with_itself : (t : Tree) → value_count t ≡ 1 + inner t
with_itself null = refl
with_itself (boolean b) = refl
with_itself (number n) = refl
with_itself (string s) = refl
with_itself (array ts) = refl
with_itself (object ms) = refl

items_within : (ts : Items) → item_count ts ≤ item_values ts
items_within no_items = omega arith
items_within (item t ts) = omega (arith, with_itself t, items_within ts)

members_within : (ms : Members) → member_count ms ≤ member_values ms
members_within no_members = omega arith
members_within (member k t ms) = omega (arith, with_itself t, members_within ms)

pub parts_within : (t : Tree) → size t ≤ inner t
parts_within null = omega arith
parts_within (boolean b) = omega arith
parts_within (number n) = omega arith
parts_within (string s) = omega arith
parts_within (array ts) = items_within ts
parts_within (object ms) = members_within ms

no_item_values : (ts : Items) → item_count ts ≡ 0 → item_values ts ≡ 0
no_item_values no_items e = refl
no_item_values (item t ts) e = absurd (omega (arith, e))

no_member_values : (ms : Members) → member_count ms ≡ 0 → member_values ms ≡ 0
no_member_values no_members e = refl
no_member_values (member k t ms) e = absurd (omega (arith, e))

nothing_inside : (t : Tree) → size t ≡ 0 → inner t ≡ 0
nothing_inside null e = refl
nothing_inside (boolean b) e = refl
nothing_inside (number n) e = refl
nothing_inside (string s) e = refl
nothing_inside (array ts) e = no_item_values ts e
nothing_inside (object ms) e = no_member_values ms e

-- the items and the entries of a container that is taken apart
pub item_total : (bs : List Item) → item_count (items_tree bs) ≡ length bs
item_total [] = refl
item_total (b ∷ bs) = ap suc (item_total bs)

listed_total : (es : List Entry) → member_count (listed es) ≡ length es
listed_total [] = refl
listed_total (e ∷ es) = ap suc (listed_total es)

pub entry_count : (es : List Entry) → IsStrictlySortedBy string_cmp (keys_of es) → member_count (members_tree es) ≡ length es
entry_count es s = ap member_count (members_are_listed es s) ∙ listed_total es

-- ---- one part more, at the end

pub inside_last : (ps : List Part) (p : Part) → inside (ps ++ p ∷ []) ≡ inner (part_tree p) + inside ps
inside_last [] p = refl
inside_last (q ∷ ps) p = omega (arith, inside_last ps p)

pub length_last : {A : Type 0} (xs : List A) (x : A) → length (xs ++ x ∷ []) ≡ 1 + length xs
length_last [] x = refl
length_last (y ∷ xs) x = omega (arith, length_last xs x)

pub views_last : (vs : List ValueView) (v : ValueView)
    → item_values (trees_of (vs ++ v ∷ [])) ≡ value_count (tree_of v) + item_values (trees_of vs)
views_last [] v = refl
views_last (w ∷ vs) v = omega (arith, views_last vs v)

pub view_count_last : (vs : List ValueView) (v : ValueView) → item_count (trees_of (vs ++ v ∷ [])) ≡ 1 + item_count (trees_of vs)
view_count_last [] v = refl
view_count_last (w ∷ vs) v = omega (arith, view_count_last vs v)

pub named_last : (vs : List MemberView) (v : MemberView)
    → member_values (members_of (vs ++ v ∷ [])) ≡ value_count (tree_of v.value) + member_values (members_of vs)
named_last [] v = refl
named_last (w ∷ vs) v = omega (arith, named_last vs v)

pub named_count_last : (vs : List MemberView) (v : MemberView)
    → member_count (members_of (vs ++ v ∷ [])) ≡ 1 + member_count (members_of vs)
named_count_last [] v = refl
named_count_last (w ∷ vs) v = omega (arith, named_count_last vs v)

-- ---- a part that is put on the stack, and parts in turn

pub none_put : (p : Part) (ps : List Part) → size (part_tree p) ≡ 0 → IsPut p ps ps
none_put p ps e = (omega (arith, nothing_inside (part_tree p) e), omega arith)

pub last_put : (p : Part) (ps new : List Part) → new ≡ ps ++ p ∷ [] → IsPut p ps new
last_put p ps new e =
    subst (λ qs. IsPut p ps qs) (sym e) (inside_last ps p, omega (arith, length_last ps p))

-- Some are put on the stack; the m others have n values.
abbrev pub IsSpreading : Tree → List Part → List Part → ℕ → ℕ → Type 0
IsSpreading t old new n m = (inside new + size t + n ≡ inner t + inside old + m) × (length new + m ≤ size t + length old)

pub spread_begins : (t : Tree) (old : List Part) (n m : ℕ) → n ≡ inner t → m ≡ size t → IsSpreading t old old n m
spread_begins t old n m e f = (omega (arith, e, f), omega (arith, f))

pub one_spread : (t : Tree) (old new new' : List Part) (p : Part) (n m n' m' : ℕ) → IsSpreading t old new n m
    → n ≡ value_count (part_tree p) + n' → m ≡ 1 + m' → IsPut p new new' → IsSpreading t old new' n' m'
one_spread t old new new' p n m n' m' h e f put =
    let w = with_itself (part_tree p) in (omega (arith, h.0, e, f, w, put.0), omega (arith, h.1, f, put.1))

pub all_spread : (t : Tree) (old new : List Part) (n m : ℕ) → n ≡ 0 → m ≡ 0 → IsSpreading t old new n m → Spreads t old new
all_spread t old new n m e f h = (omega (arith, h.0, e, f), omega (arith, h.1, f))

-- a value as it was has items, members or neither
size_split : (t : Tree) → size t ≡ item_count (items_in t) + member_count (members_in t)
size_split null = refl
size_split (boolean b) = refl
size_split (number n) = refl
size_split (string s) = refl
size_split (array ts) = omega arith
size_split (object ms) = omega arith

inner_split : (t : Tree) → inner t ≡ item_values (items_in t) + member_values (members_in t)
inner_split null = refl
inner_split (boolean b) = refl
inner_split (number n) = refl
inner_split (string s) = refl
inner_split (array ts) = omega arith
inner_split (object ms) = omega arith

pub both_spread : (t : Tree) (old mid new : List Part) (ts : Items) (ms : Members) → ts ≡ items_in t → ms ≡ members_in t
    → Spreads (array ts) old mid → Spreads (object ms) mid new → Spreads t old new
both_spread t old mid new ts ms e f h k =
    let s : size t ≡ item_count ts + member_count ms = size_split t ∙ ap (λ x. item_count x + member_count (members_in t)) (sym e)
    ∙ ap (λ x. item_count ts + member_count x) (sym f) in
    let i : inner t ≡ item_values ts + member_values ms = inner_split t ∙ ap (λ x. item_values x + member_values (members_in t)) (sym e)
    ∙ ap (λ x. item_values ts + member_values x) (sym f) in
    (omega (arith, s, i, h.0, k.0), omega (arith, s, h.1, k.1))

-- ---- what is taken for a part

-- The part is counted but for what is on the stack.
abbrev pub IsCounting : ℕ → ℕ → Tree → List Part → Type 0
IsCounting left rest t ps = left + inside ps ≡ rest + value_count t

pub counting_begins : (left rest : ℕ) (p : Part) (ps : List Part) → left ≡ rest + 1 → ps ≡ [] ++ p ∷ [] → IsCounting left rest (part_tree p) ps
counting_begins left rest p ps e f =
    let w = with_itself (part_tree p) in
    let i : inside ps ≡ inner (part_tree p) + 0 = ap inside f in omega (arith, e, i, w)

module _ (left rest : ℕ) (t : Tree) (ps front : List Part) (p : Part) (split : ps ≡ front ++ p ∷ []) (so_far : IsCounting left rest t ps) where
  popped : inside ps ≡ inner (part_tree p) + inside front
  popped = ap inside split ∙ inside_last front p

  pub counts_on : (rest' : ℕ) (new : List Part) → rest ≡ rest' + size (part_tree p) → Spreads (part_tree p) front new
      → IsCounting left rest' t new
  counts_on rest' new e h = omega (arith, so_far, popped, e, h.0)

  pub counts_less : (new : List Part) → Spreads (part_tree p) front new → inside new + length new < inside ps + length ps
  counts_less new h =
      let n : length ps ≡ 1 + length front = ap length split ∙ length_last front p in omega (arith, popped, n, h.0, h.1)

  pub exceeded : rest < size (part_tree p) → left < value_count t
  exceeded h = omega (arith, so_far, popped, h, parts_within (part_tree p))

pub counted : (left rest : ℕ) (t : Tree) (ps : List Part) → ps ≡ [] → IsCounting left rest t ps → left ≡ rest + value_count t
counted left rest t ps none h = let i : inside ps ≡ 0 = ap inside none in omega (arith, h, i)

pub none_left : (t : Tree) (left : ℕ) → left < 1 → left < value_count t
none_left t left h = omega (arith, h, with_itself t)

-- what a copy copies, where its source is found or is not
pub copy_found : (o : Option Tree) (t : Tree) (left : ℕ) (r : Option ℕ) → Some t ≡ o → Takes left (value_count t) r
    → Takes left (unwrap_or (option_map value_count o) 0) r
copy_found o t left r e h = subst (λ x. Takes left (unwrap_or (option_map value_count x) 0) r) e h

pub copy_missing : (o : Option Tree) (left : ℕ) → None ≡ o → Takes left (unwrap_or (option_map value_count o) 0) (Some left)
copy_missing o left e = subst (λ x. Takes left (unwrap_or (option_map value_count x) 0) (Some left)) e (omega arith)

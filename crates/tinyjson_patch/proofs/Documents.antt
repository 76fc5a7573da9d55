-- Which trees are those of operations, and why others are not.
use Rattle.std.proofs.Common.{◌≡◌, ⊎_elim, ◌<◌, ◌≤◌, ◌+◌, ℕ, zero, suc, Bool, true, false, ◌||◌}
use Rattle.std.proofs.Common.{List, [], ◌∷◌, ◌++◌, Option, Some, None, Result, Ok, Err}
use Rattle.std.proofs.Common.{String, Vec, Bor, Global, bytes_eq, codes, string_bytes, length, map, get_or}
use Rattle.std.proofs.Common.{refl, sym, ap, ◌∙◌, subst, arith, option_map, true≢false}
use Rattle.std.proofs.lemmas.List.{map-append}
use Rattle.std.proofs.lemmas.Slice.Eq.{bytes_eq-Decides}
use Rattle.std.specs.HashMap.{get_by_text}
use Rattle.std.specs.Prelude.{slice_get}
use Rattle.std.specs.Result.{IsErrAnd}
use Rattle.std.specs.Str.{IsUtf8, chars}
use Rattle.tinyjson.proofs.Callers.{chars_literal, is_key, are_ascii, nth_items_view, item_count_view, view_Array, view_Object}
use Rattle.tinyjson.proofs.Callers.{view_ref, no_array, find_get_literal}
use Rattle.tinyjson.specs.Access.{JsonMap, is_array, is_object, is_string}
use Rattle.tinyjson.specs.Index.{tree_at_key, nth, item_count}
use Rattle.tinyjson.specs.Tree.{Tree, string, array, object, Items, no_items, item}
use Rattle.tinyjson.specs.View.{view, text, items_view}
use Rattle.tinyjson.specs.declared.value.JsonValue.{JsonValue}
use Rattle.tinyjson.specs.declared.value.JsonValue.TheVariants as is
use Rattle.tinyjson_pointer.specs.Reading.{IsNoPointer, Reads}
use Rattle.tinyjson_pointer.specs.Text.{pointer_text}
use Rattle.tinyjson_pointer.specs.Tokens.{tokens_of}
use Rattle.tinyjson_pointer.specs.declared.pointer.Pointer.{Pointer}
use Rattle.tinyjson_pointer.specs.declared.pointer.PointerError.{PointerError}
use Rattle.tinyjson_pointer.specs.declared.pointer.PointerError.TheVariants as pointer
use Rattle.tinyjson_patch.specs.Document.{key, is_name, token_limit, HasName, HasString, HasPointer, HasValue}
use Rattle.tinyjson_patch.specs.Document.{IsOperation, AreOperations}
use Rattle.tinyjson_patch.specs.Document.{NeedsPointer, NeedsString, Needs, HasFault, HasFaultAt, ReadsPatch}
use Rattle.tinyjson_patch.specs.Operation.{Action, add, remove, replace, move, copy, test, action_of}
use Rattle.tinyjson_patch.specs.Patch.{actions_of}
use Rattle.tinyjson_patch.specs.Reading.{IsNoOperation, Refused}
use Rattle.tinyjson_patch.specs.declared.document.ReadError.TheVariants.{Malformed}
use Rattle.tinyjson_patch.specs.declared.fault.Fault.{Fault}
use Rattle.tinyjson_patch.specs.declared.fault.Fault.TheVariants as fault
use Rattle.tinyjson_patch.specs.declared.fault.Member.{Member}
use Rattle.tinyjson_patch.specs.declared.fault.Member.TheVariants.{Op, Path, From, Value}
use Rattle.tinyjson_patch.specs.declared.fault.PatchError.TheVariants as document
use Rattle.tinyjson_patch.specs.declared.operation.Operation.{Operation}
use Rattle.tinyjson_patch.specs.declared.patch.Patch.{Patch}

-- ---- names

pub is_named : (bs name : List ℕ) → are_ascii name ≡ true → true ≡ bytes_eq bs name → chars bs ≡ name
is_named bs name a h = ap chars ((bytes_eq-Decides bs name).0 (sym h)) ∙ chars_literal name a

pub no_name : (bs : List ℕ) → IsUtf8 bs
    → false ≡ bytes_eq bs (codes "add") → false ≡ bytes_eq bs (codes "remove") → false ≡ bytes_eq bs (codes "replace")
    → false ≡ bytes_eq bs (codes "move") → false ≡ bytes_eq bs (codes "copy") → false ≡ bytes_eq bs (codes "test")
    → is_name (chars bs) ≡ false
no_name bs u a r p m c t =
    λ i. not_so (codes "add") refl a i || not_so (codes "remove") refl r i || not_so (codes "replace") refl p i
    || not_so (codes "move") refl m i || not_so (codes "copy") refl c i || not_so (codes "test") refl t i
  where
    not_so : (n : List ℕ) → are_ascii n ≡ true → false ≡ bytes_eq bs n → bytes_eq (chars bs) n ≡ false
    not_so n k e = sym (e ∙ is_key bs n u k)

-- ---- what the object of an operation has

-- one member has one text
one_text : (t : Tree) (m : Member) (cs ds : List ℕ) → HasString t m cs → HasString t m ds → cs ≡ ds
one_text t m cs ds h g = ap at (sym h ∙ g)
  where
    at : Option Tree → List ℕ
    at (Some (string cs)) = cs
    at _ = []

apart : (t : Tree) (cs ds : List ℕ) → bytes_eq cs ds ≡ false → HasName t cs → HasName t ds → ⊥
apart t cs ds differ h g = true≢false (sym ((bytes_eq-Decides cs ds).1 (one_text t Op cs ds h g)) ∙ differ)

pub named_so : (t : Tree) (a : Action) → IsOperation t a → (cs : List ℕ) × HasName t cs × (is_name cs ≡ true)
named_so t (add p u) h = (codes "add", h.0, refl)
named_so t (remove p) h = (codes "remove", h.0, refl)
named_so t (replace p u) h = (codes "replace", h.0, refl)
named_so t (move f p) h = (codes "move", h.0, refl)
named_so t (copy f p) h = (codes "copy", h.0, refl)
named_so t (test p u) h = (codes "test", h.0, refl)

pointer_there : (t : Tree) (m : Member) (a : Action) → NeedsPointer t m → IsOperation t a → (ks : List (List ℕ)) × HasPointer t m ks
pointer_there t Op a n h = absurd n
pointer_there t Value a n h = absurd n
pointer_there t Path (add p u) n h = (p, h.1)
pointer_there t Path (remove p) n h = (p, h.1)
pointer_there t Path (replace p u) n h = (p, h.1)
pointer_there t Path (move f p) n h = (p, h.1)
pointer_there t Path (copy f p) n h = (p, h.1)
pointer_there t Path (test p u) n h = (p, h.1)
pointer_there t From (move f p) n h = (f, h.2)
pointer_there t From (copy f p) n h = (f, h.2)
pointer_there t From (add p u) n h =
    absurd (⊎_elim (apart t (codes "move") (codes "add") refl) (apart t (codes "copy") (codes "add") refl) n h.0)
pointer_there t From (remove p) n h =
    absurd (⊎_elim (apart t (codes "move") (codes "remove") refl) (apart t (codes "copy") (codes "remove") refl) n h.0)
pointer_there t From (replace p u) n h =
    absurd (⊎_elim (apart t (codes "move") (codes "replace") refl) (apart t (codes "copy") (codes "replace") refl) n h.0)
pointer_there t From (test p u) n h =
    absurd (⊎_elim (apart t (codes "move") (codes "test") refl) (apart t (codes "copy") (codes "test") refl) n h.0)

no_value : (t : Tree) (cs : List ℕ) → bytes_eq (codes "add") cs ≡ false → bytes_eq (codes "replace") cs ≡ false
    → bytes_eq (codes "test") cs ≡ false → Needs t Value → HasName t cs → ⊥
no_value t cs a r e n h = ⊎_elim (λ k. apart t (codes "add") cs a k h)
    (⊎_elim (λ k. apart t (codes "replace") cs r k h) (λ k. apart t (codes "test") cs e k h)) n

value_there : (t : Tree) (a : Action) → Needs t Value → IsOperation t a → (u : Tree) × HasValue t u
value_there t (add p u) n h = (u, h.2)
value_there t (replace p u) n h = (u, h.2)
value_there t (test p u) n h = (u, h.2)
value_there t (remove p) n h = absurd (no_value t (codes "remove") refl refl refl n h.0)
value_there t (move f p) n h = absurd (no_value t (codes "move") refl refl refl n h.0)
value_there t (copy f p) n h = absurd (no_value t (codes "copy") refl refl refl n h.0)

string_there : (t : Tree) (m : Member) (a : Action) → NeedsString t m → IsOperation t a → (cs : List ℕ) × HasString t m cs
string_there t Op a n h = let k = named_so t a h in (k.0, k.1)
string_there t Path a n h = let k = pointer_there t Path a n h in (pointer_text k.0, k.1.0)
string_there t From a n h = let k = pointer_there t From a n h in (pointer_text k.0, k.1.0)
string_there t Value a n h = absurd n

-- ---- what is refused

missing_not : (o : Option Tree) (u : Tree) → o ≡ None → o ≡ Some u → ⊥
missing_not o u h g = cc

string_needed : (t : Tree) (m : Member) → NeedsString t m → Needs t m
string_needed t Op n = n
string_needed t Path n = n
string_needed t From n = n
string_needed t Value n = absurd n

pointer_string : (t : Tree) (m : Member) → NeedsPointer t m → NeedsString t m
pointer_string t Op n = absurd n
pointer_string t Path n = n
pointer_string t From n = n
pointer_string t Value n = absurd n

pub no_object : (t : Tree) → is_object t ≡ false → Refused t (Malformed fault.NoObject)
no_object t h = (h, λ a k. let s = named_so t a k in by t h (string s.0) s.1)
  where
    by : (x : Tree) → is_object x ≡ false → (u : Tree) → tree_at_key x (key Op) ≡ Some u → ⊥
    by (object ms) e u g = cc
    by _ e u g = cc

pub string_missing : (t : Tree) (m : Member) → tree_at_key t (key m) ≡ None → NeedsString t m → Refused t (Malformed (fault.Missing m))
string_missing t m h n =
    ((string_needed t m n, h), λ a k. let s = string_there t m a n k in missing_not (tree_at_key t (key m)) (string s.0) h s.1)

pub value_missing : (t : Tree) → tree_at_key t (key Value) ≡ None → Needs t Value → Refused t (Malformed (fault.Missing Value))
value_missing t h n = ((n, h), λ a k. let s = value_there t a n k in missing_not (tree_at_key t (key Value)) s.0 h s.1)

other_not : (o : Option Tree) (u : Tree) (cs : List ℕ) → is_string u ≡ false → o ≡ Some u → o ≡ Some (string cs) → ⊥
other_not o u cs h g k = by (Some u) (Some (string cs)) (sym g ∙ k) h refl
  where
    test_of : Option Tree → Bool
    test_of (Some x) = is_string x
    test_of None = false

    by : (x y : Option Tree) → x ≡ y → test_of x ≡ false → test_of y ≡ true → ⊥
    by x y e f t = true≢false (sym t ∙ (sym (ap test_of e) ∙ f))

pub no_string : (t : Tree) (m : Member) (u : Tree) → tree_at_key t (key m) ≡ Some u → is_string u ≡ false → NeedsString t m
    → Refused t (Malformed (fault.NoString m))
no_string t m u g h n =
    ((n, u, g, h), λ a k. let s = string_there t m a n k in other_not (tree_at_key t (key m)) u s.0 h g s.1)

pub no_operation : (t : Tree) (cs : List ℕ) → HasString t Op cs → is_name cs ≡ false → Refused t (Malformed fault.NoOperation)
no_operation t cs g h = (
  (cs, g, h),
  λ a k. let s = named_so t a k in true≢false (sym s.2 ∙ (ap is_name (one_text t Op s.0 cs s.1 g) ∙ h)),
)

pub no_pointer : (t : Tree) (m : Member) (cs : List ℕ) → HasString t m cs → IsNoPointer cs → NeedsPointer t m
    → Refused t (Malformed (fault.NoPointer m))
no_pointer t m cs g h n =
    ((n, cs, g, h), λ a k. let s = pointer_there t m a n k in h s.0 (one_text t m cs (pointer_text s.0) g s.1.0))

-- the tokens of a text are determined
pub long_pointer : (t : Tree) (m : Member) (ks : List (List ℕ)) → HasString t m (pointer_text ks)
    → ((ls : List (List ℕ)) → pointer_text ks ≡ pointer_text ls → ls ≡ ks) → token_limit < length ks → NeedsPointer t m
    → Refused t (Malformed (fault.LongPointer m))
long_pointer t m ks g one h n = (
  (n, ks, g, h),
  λ a k.
      let s = pointer_there t m a n k in
      let same = one s.0 (one_text t m (pointer_text ks) (pointer_text s.0) g s.1.0) in
      let short = subst (λ x. length x ≤ token_limit) same s.1.1 in
      absurd (omega (arith, short, h)),
)

-- ---- the items in turn

-- the first so many items are those of the operations
abbrev pub AreFirst : Items → ℕ → List Action → Type 0
AreFirst ts zero [] = Unit {0}
AreFirst (item t ts) (suc n) (a ∷ rest) = IsOperation t a × AreFirst ts n rest
AreFirst _ _ _ = ⊥

one_tree : (x y : Tree) → Some x ≡ Some y → x ≡ y
one_tree x y e = cc

first_more : (ts : Items) (n : ℕ) (actions : List Action) (t : Tree) (a : Action) → AreFirst ts n actions → nth ts n ≡ Some t
    → IsOperation t a → AreFirst ts (suc n) (actions ++ a ∷ [])
first_more no_items zero [] t a f at is = absurd (missing_not (nth no_items zero) t refl at)
first_more (item u ts) zero [] t a f at is = (subst (λ x. IsOperation x a) (sym (one_tree u t at)) is, tt)
first_more (item u ts) (suc n) (b ∷ rest) t a f at is = (f.0, first_more ts n rest t a f.1 at is)
first_more no_items zero (b ∷ rest) t a f at is = absurd f
first_more (item u ts) zero (b ∷ rest) t a f at is = absurd f
first_more no_items (suc n) actions t a f at is = absurd (missing_not (nth no_items (suc n)) t refl at)
first_more (item u ts) (suc n) [] t a f at is = absurd f

first_all : (ts : Items) (n : ℕ) (actions : List Action) → AreFirst ts n actions → item_count ts ≤ n → AreOperations ts actions
first_all no_items zero [] f past = tt
first_all no_items zero (b ∷ rest) f past = absurd f
first_all no_items (suc n) [] f past = absurd f
first_all no_items (suc n) (b ∷ rest) f past = absurd f
first_all (item t ts) zero actions f past = absurd (omega (arith, past))
first_all (item t ts) (suc n) [] f past = absurd f
first_all (item t ts) (suc n) (a ∷ rest) f past = (f.0, first_all ts n rest f.1 (omega (arith, past)))

fault_there : (ts : Items) (n : ℕ) (actions : List Action) (t : Tree) (f : Fault) → AreFirst ts n actions → nth ts n ≡ Some t
    → HasFault t f → HasFaultAt ts n f
fault_there no_items n actions t f first at has = absurd (missing_not (nth no_items n) t refl at)
fault_there (item u ts) zero actions t f first at has = subst (λ x. HasFault x f) (sym (one_tree u t at)) has
fault_there (item u ts) (suc n) [] t f first at has = absurd first
fault_there (item u ts) (suc n) (a ∷ rest) t f first at has = ((a, first.0), fault_there ts n rest t f first.1 at has)

no_operations : (ts : Items) (n : ℕ) (t : Tree) (actions : List Action) → nth ts n ≡ Some t → IsNoOperation t → AreOperations ts actions → ⊥
no_operations no_items n t actions at none h = missing_not (nth no_items n) t refl at
no_operations (item u ts) zero t [] at none h = h
no_operations (item u ts) zero t (a ∷ rest) at none h = none a (subst (λ x. IsOperation x a) (one_tree u t at) h.0)
no_operations (item u ts) (suc n) t [] at none h = h
no_operations (item u ts) (suc n) t (a ∷ rest) at none h = no_operations ts n t rest at none h.1

-- ---- the same of a value

pub at_index : (vs : List JsonValue) (i : ℕ) (x : JsonValue) → i < length vs → x ≡ get_or vs i x → slice_get vs i ≡ Some x
at_index [] i x h e = absurd (omega (arith, h))
at_index (v ∷ vs) zero x h e = ap Some (sym e)
at_index (v ∷ vs) (suc i) x h e = at_index vs i x (omega (arith, h)) e

item_there : (vs : List JsonValue) (n : ℕ) (x : JsonValue) → slice_get vs n ≡ Some x → nth (items_view vs) n ≡ Some (view x)
item_there vs n x h = nth_items_view vs n ∙ ap (option_map view) h

array_view : (v : JsonValue) (l : Vec JsonValue Global) (vs : List JsonValue) → v ≡ is.Array l → vs ≡ l.items
    → view v ≡ array (items_view vs)
array_view v l vs e same = ap view e ∙ (view_Array l ∙ ap (λ xs. array (items_view xs)) (sym same))

pub no_items_read : (v : JsonValue) → ((l : Vec JsonValue Global) → v ≡ is.Array l → ⊥) → is_array (view v) ≡ false
no_items_read v other = by (view v) (no_array v other)
  where
    by : (t : Tree) → ((ts : Items) → t ≡ array ts → ⊥) → is_array t ≡ false
    by (array ts) n = absurd (n ts refl)
    by _ n = refl

pub one_more : (vs : List JsonValue) (n : ℕ) (os ps : List Operation) (x : JsonValue) (o : Operation)
    → AreFirst (items_view vs) n (map action_of os) → slice_get vs n ≡ Some x → ps ≡ os ++ o ∷ [] → IsOperation (view x) (action_of o)
    → AreFirst (items_view vs) (n + 1) (map action_of ps)
one_more vs n os ps x o f at e is =
    subst (λ k. AreFirst (items_view vs) k (map action_of ps)) {x = suc n} {y = n + 1} (omega arith)
    (subst (AreFirst (items_view vs) (suc n)) (sym (ap (map action_of) e ∙ map-append action_of os (o ∷ [])))
    (first_more (items_view vs) n (map action_of os) (view x) (action_of o) f (item_there vs n x at) is))

pub all_read : (v : JsonValue) (l : Vec JsonValue Global) (vs : List JsonValue) (n : ℕ) (p : Patch) → v ≡ is.Array l → vs ≡ l.items
    → AreFirst (items_view vs) n (actions_of p) → length vs ≤ n → ReadsPatch (view v) (Ok p)
all_read v l vs n p e same f past =
    subst (λ t. ReadsPatch t (Ok p)) (sym (array_view v l vs e same))
    (first_all (items_view vs) n (actions_of p) f (subst (λ k. k ≤ n) (sym (item_count_view vs)) past))

pub one_malformed : (v : JsonValue) (l : Vec JsonValue Global) (vs : List JsonValue) (n : ℕ) (os : List Operation) (x : JsonValue)
    (f : Fault)
    → v ≡ is.Array l → vs ≡ l.items → AreFirst (items_view vs) n (map action_of os) → slice_get vs n ≡ Some x
    → Refused (view x) (Malformed f) → ReadsPatch (view v) (Err (document.Malformed n f))
one_malformed v l vs n os x f e same first at r =
    subst (λ t. ReadsPatch t (Err (document.Malformed n f))) (sym (array_view v l vs e same)) (
      fault_there (items_view vs) n (map action_of os) (view x) f first (item_there vs n x at) r.0,
      λ actions. no_operations (items_view vs) n (view x) actions (item_there vs n x at) r.1,
    )

-- ---- the members of a value

key_ascii : (m : Member) → are_ascii (key m) ≡ true
key_ascii Op = refl
key_ascii Path = refl
key_ascii From = refl
key_ascii Value = refl

pub member_found : (v : JsonValue) (m : JsonMap) (k : Member) (bs : List ℕ) (r : Option (Bor JsonValue)) → v ≡ is.Object m → bs ≡ key k
    → option_map (λ x. x.now) r ≡ get_by_text m bs → option_map (λ x. view x.now) r ≡ tree_at_key (view v) (key k)
member_found v m k bs r e b g =
    view_ref r ∙ (ap (option_map view) (g ∙ ap (get_by_text m) b)
    ∙ (sym (find_get_literal m (key k) (key_ascii k)) ∙ ap (λ t. tree_at_key t (key k)) (sym (ap view e ∙ view_Object m))))

-- what a pointer's reader says of the member's text
pub pointer_read : (t : Tree) (m : Member) (s : String Global) (bs : List ℕ) (p : Pointer) → HasString t m (text s) → bs ≡ string_bytes s
    → Reads (chars bs) (Ok p) → length (tokens_of p) ≤ token_limit → HasPointer t m (tokens_of p)
pointer_read t m s bs p h e r short =
    (h ∙ ap (λ x. Some (string x)) (sym (ap chars e) ∙ (r (tokens_of p)).1 refl), short)

pub pointer_long : (t : Tree) (m : Member) (s : String Global) (bs : List ℕ) (p : Pointer) → HasString t m (text s) → bs ≡ string_bytes s
    → Reads (chars bs) (Ok p) → token_limit < length (tokens_of p) → NeedsPointer t m → Refused t (Malformed (fault.LongPointer m))
pointer_long t m s bs p h e r long n =
    let is : chars bs ≡ pointer_text (tokens_of p) = (r (tokens_of p)).1 refl in
    long_pointer t m (tokens_of p) (h ∙ ap (λ x. Some (string x)) (sym (ap chars e) ∙ is)) (λ ls same. (r ls).0 (is ∙ same)) long n

pub pointer_refused : (t : Tree) (m : Member) (s : String Global) (bs : List ℕ) (e : PointerError) → HasString t m (text s)
    → bs ≡ string_bytes s → Reads (chars bs) (Err e) → ¬ (e ≡ pointer.OutOfMemory) → NeedsPointer t m
    → Refused t (Malformed (fault.NoPointer m))
pointer_refused t m s bs e h same r some n =
    no_pointer t m (text s) h (subst IsNoPointer (ap chars same) (by e r some)) n
  where
    by : (d : PointerError) → Reads (chars bs) (Err d) → ¬ (d ≡ pointer.OutOfMemory) → IsNoPointer (chars bs)
    by pointer.NoSlash k x = k.1
    by pointer.BadEscape k x = k.2
    by pointer.OutOfMemory k x = absurd (x refl)

pub error_back : {T E : Type 0} (P : Result T E → Type 0) (r : Result T E) (e : E) → IsErrAnd r (λ d. d ≡ e) → P (Err e) → P r
error_back P (Ok x) e h k = absurd h
error_back P (Err d) e h k = subst (λ x. P (Err x)) (sym h) k

-- Fragments that are known to come to an end.
use Rattle.std.proofs.Common.{◌≡◌, ◌<◌, ◌≤◌, ◌++◌, ℕ, zero, suc, Bool, true, false, ◌&&◌, List, [], ◌∷◌, Option, Some, None}
use Rattle.std.proofs.Common.{length, get_or, String, Global, option_map, string_bytes, refl, sym, ap, ◌∙◌, subst, arith, true≢false}
use Rattle.std.proofs.lemmas.Bool.{and_parts, and_from}
use Rattle.std.specs.Option.{option_map_or}
use Rattle.std.specs.Prelude.{option_and_then}
use Rattle.tinyjson.proofs.Callers.{view_String}
use Rattle.tinyjson.specs.Tree.{Tree, string, Items, no_items, item, Members, no_members, member}
use Rattle.tinyjson.specs.View.{view}
use Rattle.tinyjson.specs.declared.value.JsonValue.{JsonValue}
use Rattle.tinyjson.specs.declared.value.JsonValue.TheVariants as is
use Rattle.tinyjson_schema_keywords.specs.Applied.{schema_at, schemas_at, schema_map_at}
use Rattle.tinyjson_schema_keywords.proofs.Callers.{text_bytes}
use Rattle.tinyjson_schema_keywords.specs.References.{referenced, reference_bytes, at_fragment, target}
use Rattle.tinyjson_schema_keywords.specs.declared.keyword.Keyword.{Keyword}
use Rattle.tinyjson_schema_keywords.specs.declared.keyword.Keyword.TheVariants as kw
use Rattle.tinyjson_schema_keywords.specs.declared.walk.Walk.{Walk}
use Rattle.tinyjson_schema.specs.Circles.{in_lists, in_place, all_pass, map_passes, lists_pass, singles_pass, reference_passes, settles}
use Rattle.tinyjson_schema.specs.Settled.{fragment_of, ends, all_end, IsRight, IsRightIn}
use Rattle.tinyjson_schema.specs.declared.settled.Found.{Found}
use Rattle.tinyjson_schema.specs.declared.settled.Settled.{Settled}

-- ---- what passes a test passes a wider one

abbrev Widens : (Tree → Bool) → (Tree → Bool) → Type 0
Widens p q = (s : Tree) → p s ≡ true → q s ≡ true

all_wider : (p q : Tree → Bool) → Widens p q → (ts : Items) → all_pass p ts ≡ true → all_pass q ts ≡ true
all_wider p q w no_items h = refl
all_wider p q w (item t ts) h =
    let both = and_parts (p t) (all_pass p ts) h in
    and_from (q t) (all_pass q ts) (w t both.0) (all_wider p q w ts both.1)

map_wider : (p q : Tree → Bool) → Widens p q → (ms : Members) → map_passes p ms ≡ true → map_passes q ms ≡ true
map_wider p q w no_members h = refl
map_wider p q w (member k t ms) h =
    let both = and_parts (p t) (map_passes p ms) h in
    and_from (q t) (map_passes q ms) (w t both.0) (map_wider p q w ms both.1)

option_wider : (p q : Tree → Bool) → Widens p q → (b : Bool) (o : Option Tree) → option_map_or p o b ≡ true
    → option_map_or q o b ≡ true
option_wider p q w b None h = h
option_wider p q w b (Some t) h = w t h

lists_wider : (p q : Tree → Bool) → Widens p q → (ks : List Keyword) (s : Tree) → lists_pass p ks s ≡ true → lists_pass q ks s ≡ true
lists_wider p q w [] s h = refl
lists_wider p q w (k ∷ ks) s h =
    let both = and_parts (all_pass p (schemas_at s k)) (lists_pass p ks s) h in
    and_from (all_pass q (schemas_at s k)) (lists_pass q ks s) (all_wider p q w (schemas_at s k) both.0) (lists_wider p q w ks s both.1)

singles_wider : (p q : Tree → Bool) → Widens p q → (ks : List Keyword) (s : Tree) → singles_pass p ks s ≡ true
    → singles_pass q ks s ≡ true
singles_wider p q w [] s h = refl
singles_wider p q w (k ∷ ks) s h =
    let both = and_parts (option_map_or p (schema_at s k) true) (singles_pass p ks s) h in
    and_from (option_map_or q (schema_at s k) true) (singles_pass q ks s) (option_wider p q w true (schema_at s k) both.0)
    (singles_wider p q w ks s both.1)

reference_wider : (root : Tree) (p q : Tree → Bool) → Widens p q → (s : Tree) → reference_passes root p s ≡ true
    → reference_passes root q s ≡ true
reference_wider root p q w s h =
    let both = and_parts (option_map_or p (referenced root kw.Ref s) true) (option_map_or p (referenced root kw.DynamicRef s) true) h in
    and_from (option_map_or q (referenced root kw.Ref s) true) (option_map_or q (referenced root kw.DynamicRef s) true)
    (option_wider p q w true (referenced root kw.Ref s) both.0) (option_wider p q w true (referenced root kw.DynamicRef s) both.1)

-- ---- with more steps it comes to an end too

pub settles_more : (root : Tree) (n m : ℕ) → n ≤ m → (s : Tree) → settles root n s ≡ true → settles root m s ≡ true
settles_more root zero m h s e = absurd (true≢false (sym e))
settles_more root (suc n) zero h s e = absurd (omega (arith, h))
settles_more root (suc n) (suc m) h s e =
    let p = settles root n in
    let q = settles root m in
    let fewer : n ≤ m = omega (arith, h) in
    let w : Widens p q = settles_more root n m fewer in
    let ds = schema_map_at s kw.DependentSchemas in
    let rest = map_passes p ds && reference_passes root p s in
    let a = and_parts (lists_pass p in_lists s) (singles_pass p in_place s && rest) e in
    let b = and_parts (singles_pass p in_place s) rest a.1 in
    let c = and_parts (map_passes p ds) (reference_passes root p s) b.1 in
    let last = and_from (map_passes q ds) (reference_passes root q s) (map_wider p q w ds c.0) (reference_wider root p q w s c.1) in
    let more = and_from (singles_pass q in_place s) (map_passes q ds && reference_passes root q s)
    (singles_wider p q w in_place s b.0) last in
    and_from (lists_pass q in_lists s) (singles_pass q in_place s && (map_passes q ds && reference_passes root q s))
    (lists_wider p q w in_lists s a.0) more

pub ends_more : (root : Tree) (n m : ℕ) (bs : List ℕ) → n ≤ m → ends root n bs ≡ true → ends root m bs ≡ true
ends_more root n m bs h e = option_wider (settles root n) (settles root m) (settles_more root n m h) false (at_fragment root bs) e

-- ---- the fragments that are known

pub one_ends : (root : Tree) (fs : List Found) (i : ℕ) (f : Found) → i < length fs → all_end root fs ≡ true
    → ends root (get_or fs i f).steps (string_bytes (get_or fs i f).fragment) ≡ true
one_ends root [] i f h e = absurd (omega (arith, h))
one_ends root (g ∷ gs) zero f h e = (and_parts (ends root g.steps (string_bytes g.fragment)) (all_end root gs) e).0
one_ends root (g ∷ gs) (suc i) f h e =
    let fewer : i < length gs = omega (arith, h) in
    one_ends root gs i f fewer (and_parts (ends root g.steps (string_bytes g.fragment)) (all_end root gs) e).1

pub had_end : (root : Tree) (fs items : List Found) (i : ℕ) (f : Found) → items ≡ fs → i < length items → f ≡ get_or items i f
    → all_end root fs ≡ true → ends root f.steps (string_bytes f.fragment) ≡ true
had_end root fs items i f same within is e = subst (λ g. ends root g.steps (string_bytes g.fragment) ≡ true) (sym is)
    (one_ends root items i f within (ap (all_end root) same ∙ e))

pub one_more : (root : Tree) (fs : List Found) (f : Found) → ends root f.steps (string_bytes f.fragment) ≡ true → all_end root fs ≡ true
    → all_end root (fs ++ (f ∷ [])) ≡ true
one_more root [] f g h = and_from (ends root f.steps (string_bytes f.fragment)) true g refl
one_more root (x ∷ fs) f g h =
    let both = and_parts (ends root x.steps (string_bytes x.fragment)) (all_end root fs) h in
    and_from (ends root x.steps (string_bytes x.fragment)) (all_end root (fs ++ (f ∷ []))) both.0 (one_more root fs f g both.1)

-- a fragment that is known leads to a schema that comes to an end
pub known_end : (root : Tree) (n : ℕ) (bs : List ℕ) → ends root n bs ≡ true
    → Some true ≡ option_map (settles root n) (at_fragment root bs)
known_end root n bs e = by (at_fragment root bs) e
  where
    by : (o : Option Tree) → option_map_or (settles root n) o false ≡ true → Some true ≡ option_map (settles root n) o
    by None h = absurd (true≢false (sym h))
    by (Some t) h = ap (λ (b : Bool). Some b) (sym h)

-- ---- what is right stays right, in a walk with fewer steps and where nothing is kept

pub stays : (root : Tree) (a b : Settled) → b.found ≡ a.found → IsRight root a → IsRight root b
stays root a b e h = ap (λ fs. all_end root fs.items) e ∙ h

pub moved : (w inner : Walk) (a b : Settled) → inner.whole ≡ w.whole → b.found ≡ a.found → IsRightIn w a → IsRightIn inner b
moved w inner a b d e h = (λ i. all_end (view (d i).now.root.now) (e i).items) ∙ h

pub back : (w inner : Walk) (a : Settled) → inner.whole ≡ w.whole → IsRightIn inner a → IsRightIn w a
back w inner a d h = (λ i. all_end (view (sym d i).now.root.now) a.found.items) ∙ h

-- ---- where a reference leads, by its fragment

pub target_by : (root t : Tree) → target root t ≡ option_and_then (at_fragment root) (fragment_of t)
target_by root (string cs) = refl
target_by root _ = refl

pub fragment_by : (v : JsonValue) (s : String Global) (bs : List ℕ) → v ≡ is.String s → bs ≡ string_bytes s
    → fragment_of (view v) ≡ reference_bytes bs
fragment_by v s bs e h = ap fragment_of (ap view e ∙ view_String s) ∙ ap reference_bytes (sym (text_bytes s bs h))

pub no_fragment : (root t : Tree) (f : Tree → Bool) → None ≡ fragment_of t → None ≡ option_map f (target root t)
no_fragment root t f e = ap (λ o. option_map f (option_and_then (at_fragment root) o)) e ∙ ap (option_map f) (sym (target_by root t))

pub at_its_fragment : (root t : Tree) (bs : List ℕ) → Some bs ≡ fragment_of t → target root t ≡ at_fragment root bs
at_its_fragment root t bs e = target_by root t ∙ ap (option_and_then (at_fragment root)) (sym e)

pub ends_at : (root : Tree) (n : ℕ) (bs : List ℕ) (s : Tree) → at_fragment root bs ≡ Some s → settles root n s ≡ true
    → ends root n bs ≡ true
ends_at root n bs s e h = ap (λ o. option_map_or (settles root n) o false) e ∙ h

pub some_or : (f : Tree → Bool) (o : Option Tree) (b d : Bool) → Some b ≡ option_map f o → b ≡ option_map_or f o d
some_or f None b d e = cc
some_or f (Some t) b d e = cc

pub none_or : (f : Tree → Bool) (o : Option Tree) (d : Bool) → None ≡ option_map f o → d ≡ option_map_or f o d
none_or f None d e = refl
none_or f (Some t) d e = cc

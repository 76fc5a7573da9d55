-- Places of what can't be applied.
use Rattle.std.proofs.Common.{◌≡◌, ◌∷◌, [], ℕ, suc, ◌<◌, Bool, true, false, ◌&&◌, List, Option, Some, None, Result, Ok, Err, String, Global}
use Rattle.std.proofs.Common.{length, get_or, encode_utf8_all, refl, sym, ap, ◌∙◌, subst}
use Rattle.std.specs.declared.alloc.AllocError.{AllocError}
use Rattle.text_iregexp.specs.PatternDeciding.{is_pattern}
use Rattle.tinyjson.proofs.Callers.{string_from_tree, no_object}
use Rattle.tinyjson.specs.Access.{JsonMap, is_object}
use Rattle.tinyjson.specs.Access.Laws.{put_of_string}
use Rattle.tinyjson.specs.Soundness.{IsSorted}
use Rattle.tinyjson.specs.Tree.{Tree, boolean, string, array, object, Items, no_items, item, Members, no_members, member}
use Rattle.tinyjson.specs.View.{view, text, members_listed}
use Rattle.tinyjson.specs.declared.value.JsonValue.{JsonValue}
use Rattle.tinyjson.specs.declared.value.JsonValue.TheVariants as is
use Rattle.tinyjson_pointer.specs.Tokens.{tokens_of}
use Rattle.tinyjson_pointer.specs.Walk.{step}
use Rattle.tinyjson_schema_keywords.specs.Forms.{form_at, is_some_item}
use Rattle.tinyjson_schema_keywords.specs.References.{form_in}
use Rattle.tinyjson_schema_keywords.specs.declared.keyword.Form.{Form}
use Rattle.tinyjson_schema_keywords.specs.declared.keyword.Form.TheVariants as form
use Rattle.tinyjson_schema_keywords.specs.Subschemas.{Way, by_key, by_index, InForm, way_of, all_parts, parts_of, keyword_parts}
use Rattle.tinyjson_schema_keywords.specs.Subschemas.{item_parts, entry_parts}
use Rattle.tinyjson_schema_keywords.specs.declared.subschemas.Part.{Part}
use Rattle.tinyjson_schema_keywords.proofs.Callers.{Listed, listed_found, IsWay, part_step}
use Rattle.tinyjson_schema_assertions.specs.Operands.{is_pattern_text, are_patterns, has_patterns}
use Rattle.tinyjson_schema.specs.Refused.{IsRefusedAt, IsReason, IsTextReason, IsWhole, Refuses, RefusesWhole, has_own_form}
use Rattle.tinyjson_schema.specs.Refused.{has_shape, is_applied, IsBefore, whole_for}
use Rattle.tinyjson_schema.specs.Refused.IsRefusedAt.{itself, no_pattern, inside}
use Rattle.tinyjson_schema.specs.Refused.IsAboveAt.{value, key, within}
use Rattle.tinyjson_schema.specs.Schemas.{fits, is_schema, keywords_fit, are_schemas, have_schemas}
use Rattle.tinyjson_schema.specs.declared.refused.Reason.{Reason}
use Rattle.tinyjson_schema.specs.declared.refused.Reason.TheVariants.{Misfit, PatternLimit}
use Rattle.tinyjson_schema.specs.declared.refused.RefusedPlace.{RefusedPlace}

-- the place of the whole value, where that lacks its form
pub own_place : (root : Tree) (whole : Bool) (f : Form) (w : Tree) (is : Bool) (p : RefusedPlace) → IsWhole Misfit p → is ≡ false
    → has_own_form root whole f w ≡ false → Refuses is root whole f w (Ok (Some p))
own_place root whole f w is p h e o = subst (λ x. IsReason is root whole f w x (tokens_of p.pointer)) (sym h.0)
    (e, subst (IsRefusedAt root whole f w) (sym h.1) (itself o))

at_itself : (root : Tree) (whole : Bool) (f : Form) (w : Tree) (is : Bool) (r : Result (Option RefusedPlace) AllocError)
    → is ≡ has_own_form root whole f w → RefusesWhole is r → Refuses is root whole f w r
at_itself root whole f w is (Ok None) e h = h
at_itself root whole f w is (Ok (Some p)) e h = own_place root whole f w is p h.1 h.0 (sym e ∙ h.0)
at_itself root whole f w is (Err x) e h = tt

-- the same of a value of which only its own form is looked at
pub own_misfit : (root : Tree) (whole : Bool) (f g : Form) (w : Tree) (b : Bool) (r : Result (Option RefusedPlace) AllocError) → f ≡ g
    → has_shape root whole g w ≡ b → has_own_form root whole g w ≡ b → RefusesWhole b r
    → Refuses (has_shape root whole f w) root whole f w r
own_misfit root whole f g w b r e h o refuses =
    subst (λ x. Refuses (has_shape root whole x w) root whole x w r) (sym e)
    (at_itself root whole g w (has_shape root whole g w) r (h ∙ sym o) (subst (λ x. RefusesWhole x r) (sym h) refuses))

no_object_tree : (t : Tree) → ((ms : Members) → t ≡ object ms → ⊥) → is_object t ≡ false
no_object_tree (object ms) n = absurd (n ms refl)
no_object_tree _ n = refl

pub no_patterns : (root : Tree) (whole : Bool) (v : JsonValue) (p : RefusedPlace) → ((m : JsonMap) → v ≡ is.Object m → ⊥) → IsWhole Misfit p
    → Refuses (has_patterns (view v)) root whole form.PatternMap (view v) (Ok (Some p))
no_patterns root whole v p other h =
    own_place root whole form.PatternMap (view v) _ p h (by (view v) (no_object v other)) (no_object_tree (view v) (no_object v other))
  where
    by : (t : Tree) → ((ms : Members) → t ≡ object ms → ⊥) → has_patterns t ≡ false
    by (object ms) n = absurd (n ms refl)
    by _ n = refl

no_string : (v : JsonValue) → ((s : String Global) → v ≡ is.String s → ⊥) → (cs : List ℕ) → view v ≡ string cs → ⊥
no_string v other cs h = let f = string_from_tree v cs h in other f.0 (sym (put_of_string v f.0 f.1))

pub no_text : (root : Tree) (whole : Bool) (v : JsonValue) (p : RefusedPlace) → ((s : String Global) → v ≡ is.String s → ⊥)
    → IsWhole Misfit p → Refuses (is_pattern_text (view v)) root whole form.Pattern (view v) (Ok (Some p))
no_text root whole v p other h =
    let none = by (view v) (no_string v other) in
    own_place root whole form.Pattern (view v) _ p h none none
  where
    by : (t : Tree) → ((cs : List ℕ) → t ≡ string cs → ⊥) → is_pattern_text t ≡ false
    by (string cs) n = absurd (n cs refl)
    by _ n = refl

-- why a text is not applied as a pattern is why its value is not
text_place : (root : Tree) (whole : Bool) (cs : List ℕ) (x : Reason) → IsTextReason cs (Some x)
    → IsReason (is_pattern cs) root whole form.Pattern (string cs) x []
text_place root whole cs Misfit h = (h, itself h)
text_place root whole cs PatternLimit h = value h

pub at_text : (root : Tree) (whole : Bool) (v : JsonValue) (cs : List ℕ) (x : Reason) (p : RefusedPlace) → string cs ≡ view v
    → IsTextReason cs (Some x) → IsWhole x p → Refuses (is_pattern_text (view v)) root whole form.Pattern (view v) (Ok (Some p))
at_text root whole v cs x p e h at = subst (λ t. IsReason (is_pattern_text t) root whole form.Pattern t p.reason (tokens_of p.pointer)) e
    (subst (λ y. IsReason (is_pattern cs) root whole form.Pattern (string cs) y (tokens_of p.pointer)) (sym at.0)
    (subst (IsReason (is_pattern cs) root whole form.Pattern (string cs) x) (sym at.1) (text_place root whole cs x h)))

-- a key that is no pattern, or is one above the limits
pub at_key : (root : Tree) (whole : Bool) (ps : List Listed) (i : ℕ) (p : Listed) (x : Reason) (js : List (List ℕ))
    → IsSorted (members_listed ps) → i < length ps → p ≡ get_or ps i p → IsTextReason (text p.0.now) (Some x)
    → (is_pattern (text p.0.now) ≡ false → are_patterns (members_listed ps) ≡ false) → js ≡ text p.0.now ∷ []
    → IsReason (are_patterns (members_listed ps)) root whole form.PatternMap (object (members_listed ps)) x js
at_key root whole ps i p x js s h g why none joined =
    subst (IsReason (are_patterns (members_listed ps)) root whole form.PatternMap (object (members_listed ps)) x) (sym joined) (by x why)
  where
    by : (y : Reason) → IsTextReason (text p.0.now) (Some y)
        → IsReason (are_patterns (members_listed ps)) root whole form.PatternMap (object (members_listed ps)) y (text p.0.now ∷ [])
    by Misfit e = (none e, no_pattern (listed_found ps i p s h g) e)
    by PatternLimit e = key (listed_found ps i p s h g) e

-- What is refused in a part is refused in the whole.
enter : (root w v : Tree) (is all whole : Bool) (f : Form) (k : List ℕ) (x : Reason) (ks : List (List ℕ)) → step w k ≡ Some v
    → (is ≡ false → all ≡ false) → IsReason is root (whole_for whole (form_in f k)) (form_in f k) v x ks
    → IsReason all root whole f w x (k ∷ ks)
enter root w v is all whole f k Misfit ks e none at = (none at.0, inside e at.1)
enter root w v is all whole f k PatternLimit ks e none at = within e at

-- a place in a part
pub in_part : (root : Tree) (is all whole : Bool) (f : Form) (v : JsonValue) (ps : List Part) (i : ℕ) (p : Part) (x : Reason)
    (ks js : List (List ℕ)) → all_parts ps ≡ parts_of f (view v) → i < length ps → p ≡ get_or ps i p
    → IsBefore (way_of p.token) ks js → (is ≡ false → all ≡ false)
    → IsReason is root (whole_for whole p.form) p.form (view p.value.now) x ks → IsReason all root whole f (view v) x js
in_part root is all whole f v ps i p x ks js h l e before none at = by (way_of p.token) (part_step f v ps i p h l e) before
  where
    entered : (k : List ℕ) → (step (view v) k ≡ Some (view p.value.now)) × (form_in f k ≡ p.form)
        → IsReason all root whole f (view v) x (k ∷ ks)
    entered k s = enter root (view v) (view p.value.now) is all whole f k x ks s.0 none
        (subst (λ g. IsReason is root (whole_for whole g) g (view p.value.now) x ks) (sym s.1) at)

    by : (y : Way) → ((k : List ℕ) → IsWay y k → (step (view v) k ≡ Some (view p.value.now)) × (form_in f k ≡ p.form))
        → IsBefore y ks js → IsReason all root whole f (view v) x js
    by (by_key k) s joined = subst (IsReason all root whole f (view v) x) (sym joined) (entered k (s k refl))
    by (by_index n) s b = subst (IsReason all root whole f (view v) x) (sym b.joined) (entered b.token (s b.token b.named))

-- what is refused of the value alone is refused of it with its parts
pub refuses_more : (root w : Tree) (is all whole : Bool) (f : Form) (x : Reason) (ks : List (List ℕ)) → (is ≡ false → all ≡ false)
    → IsReason is root whole f w x ks → IsReason all root whole f w x ks
refuses_more root w is all whole f Misfit ks none h = (none h.0, h.1)
refuses_more root w is all whole f PatternLimit ks none h = h

-- ---- a value and its parts

abbrev pub parts_applied : Tree → Bool → List InForm → Bool
parts_applied root whole [] = true
parts_applied root whole (x ∷ xs) = is_applied root (whole_for whole x.2) x.2 x.3 && parts_applied root whole xs

of_keyword : (root : Tree) (whole : Bool) (f : Form) (w : Tree) → fits root whole f w ≡ is_applied root (whole_for whole f) f w
of_keyword root whole form.Schema w = refl
of_keyword root whole form.Base w = refl
of_keyword root whole _ w = refl

keywords_applied : (root : Tree) (whole : Bool) (ms : Members) → keywords_fit root whole ms ≡ parts_applied root whole (keyword_parts ms)
keywords_applied root whole no_members = refl
keywords_applied root whole (member k w ms) =
    let f = form_at (encode_utf8_all k) in
    ap (λ b. b && keywords_fit root whole ms) (of_keyword root whole f w)
    ∙ ap (λ b. is_applied root (whole_for whole f) f w && b) (keywords_applied root whole ms)

items_applied : (root : Tree) (whole : Bool) (i : ℕ) (ts : Items) → are_schemas root ts ≡ parts_applied root whole (item_parts i ts)
items_applied root whole i no_items = refl
items_applied root whole i (item t ts) = ap (λ b. is_schema root false t && b) (items_applied root whole (suc i) ts)

entries_applied : (root : Tree) (whole : Bool) (ms : Members) → have_schemas root ms ≡ parts_applied root whole (entry_parts ms)
entries_applied root whole no_members = refl
entries_applied root whole (member k t ms) = ap (λ b. is_schema root false t && b) (entries_applied root whole ms)

and_true : (b : Bool) → b ≡ (b && true)
and_true true = refl
and_true false = refl

and_false : (b : Bool) → (b && false) ≡ false
and_false true = refl
and_false false = refl

splits : (root : Tree) (whole : Bool) (f : Form) (w : Tree)
    → is_applied root whole f w ≡ (has_shape root whole f w && parts_applied root whole (parts_of f w))
splits root whole form.Schema (boolean b) = refl
splits root whole form.Schema (object ms) = keywords_applied root whole ms
splits root whole form.Schema _ = refl
splits root whole form.Schemas (array ts) = ap (λ b. is_some_item ts && b) (items_applied root whole 0 ts)
splits root whole form.Schemas _ = refl
splits root whole form.SchemaMap (object ms) = entries_applied root whole ms
splits root whole form.SchemaMap _ = refl
splits root whole form.PatternMap (object ms) = ap (λ b. has_patterns (object ms) && b) (entries_applied root whole ms)
splits root whole form.PatternMap _ = refl
splits root whole _ w = and_true _

pub not_shaped : (root : Tree) (whole : Bool) (f : Form) (w : Tree) → has_shape root whole f w ≡ false → is_applied root whole f w ≡ false
not_shaped root whole f w e = splits root whole f w ∙ ap (λ b. b && parts_applied root whole (parts_of f w)) e

pub not_in_parts : (root : Tree) (whole : Bool) (f : Form) (w : Tree) (ps : List Part) → all_parts ps ≡ parts_of f w
    → parts_applied root whole (all_parts ps) ≡ false → is_applied root whole f w ≡ false
not_in_parts root whole f w ps h e = splits root whole f w
    ∙ (ap (λ xs. has_shape root whole f w && parts_applied root whole xs) (sym h) ∙ (ap (λ b. has_shape root whole f w && b) e
    ∙ and_false (has_shape root whole f w)))

pub all_applied : (root : Tree) (whole : Bool) (f : Form) (w : Tree) (ps : List Part) → all_parts ps ≡ parts_of f w
    → has_shape root whole f w ≡ true → parts_applied root whole (all_parts ps) ≡ true → is_applied root whole f w ≡ true
all_applied root whole f w ps h shape e = splits root whole f w
    ∙ (ap (λ b. b && parts_applied root whole (parts_of f w)) shape ∙ (ap (parts_applied root whole) (sym h) ∙ e))

-- What keywords say of a tree by its kind, its number or its string.
use Rattle.std.proofs.Common.{◌≡◌, ◌≢◌, ℕ, suc, Bool, true, false, not, List, Some, None, refl, sym, ap, ◌∙◌}
use Rattle.tinyjson.specs.Kind.{kind_of}
use Rattle.tinyjson.specs.JsonKind.TheVariants as kind
use Rattle.tinyjson.specs.Tree.{Tree, boolean, number, string, array, object, Members, no_members, member}
use Rattle.tinyjson_schema_assertions.specs.Distinct.{are_distinct}
use Rattle.tinyjson_document.specs.Parts as part
use Rattle.tinyjson_document.specs.Parts.{number_in, string_in, size}
use Rattle.tinyjson_schema_assertions.specs.Assertions.{is_whole, are_ordered, are_apart, are_multiple, has_pattern, has_format, has_keys}
use Rattle.tinyjson_schema_assertions.specs.Assertions.{member_count, length_of, items_count_of, members_count_of, are_unique}
use Rattle.tinyjson_schema_assertions.specs.Assertions.{has_required, has_dependent_required, has_dependents}

-- ---- counts

same_count : (ms : Members) → part.member_count ms ≡ member_count ms
same_count no_members = refl
same_count (member k t ms) = ap suc (same_count ms)

pub items_counted : (t : Tree) → kind.Array ≡ kind_of t → Some (size t) ≡ items_count_of t
items_counted (array ts) k = refl
items_counted _ k = absurd cc

pub no_items_counted : (t : Tree) → kind.Array ≢ kind_of t → None ≡ items_count_of t
no_items_counted (array ts) n = absurd (n refl)
no_items_counted _ n = refl

pub members_counted : (t : Tree) → kind.Object ≡ kind_of t → Some (size t) ≡ members_count_of t
members_counted (object ms) k = ap Some (same_count ms)
members_counted _ k = absurd cc

pub no_members_counted : (t : Tree) → kind.Object ≢ kind_of t → None ≡ members_count_of t
no_members_counted (object ms) n = absurd (n refl)
no_members_counted _ n = refl

pub no_length : (t : Tree) → None ≡ string_in t → None ≡ length_of t
no_length (string cs) h = absurd cc
no_length _ h = refl

-- ---- numbers

pub no_whole : (t : Tree) → None ≡ number_in t → false ≡ is_whole t
no_whole (number d) h = absurd cc
no_whole _ h = refl

pub unordered_first : (t u : Tree) → None ≡ number_in t → true ≡ are_ordered t u
unordered_first (number d) u h = absurd cc
unordered_first _ u h = refl

pub unordered_second : (t u : Tree) → None ≡ number_in u → true ≡ are_ordered t u
unordered_second (number d) (number e) h = absurd cc
unordered_second (number d) _ h = refl
unordered_second _ u h = refl

pub unapart_first : (t u : Tree) → None ≡ number_in t → true ≡ are_apart t u
unapart_first (number d) u h = absurd cc
unapart_first _ u h = refl

pub unapart_second : (t u : Tree) → None ≡ number_in u → true ≡ are_apart t u
unapart_second (number d) (number e) h = absurd cc
unapart_second (number d) _ h = refl
unapart_second _ u h = refl

pub no_multiple : (t u : Tree) → None ≡ number_in t → true ≡ are_multiple t u
no_multiple (number d) u h = absurd cc
no_multiple _ u h = refl

-- ---- strings

pub no_pattern : (w t : Tree) → None ≡ string_in t → true ≡ has_pattern w t
no_pattern (string ps) (string cs) h = absurd cc
no_pattern (string ps) _ h = refl
no_pattern _ t h = refl

pub no_format : (w t : Tree) → None ≡ string_in t → true ≡ has_format w t
no_format (string ps) (string cs) h = absurd cc
no_format (string ps) _ h = refl
no_format _ t h = refl

-- ---- arrays and objects

pub unique_items : (t : Tree) → are_distinct (part.items_in t) ≡ are_unique (boolean true) t
unique_items (array ts) = refl
unique_items _ = refl

pub keys_required : (w t : Tree) → kind.Object ≡ kind_of t → has_keys w (part.members_in t) ≡ has_required w t
keys_required w (object ms) k = refl
keys_required w _ k = absurd cc

pub none_required : (w t : Tree) → kind.Object ≢ kind_of t → true ≡ has_required w t
none_required w (object ms) n = absurd (n refl)
none_required w _ n = refl

pub dependents_required : (more : Members) (t : Tree) → kind.Object ≡ kind_of t
    → has_dependents more (part.members_in t) ≡ has_dependent_required (object more) t
dependents_required more (object ms) k = refl
dependents_required more _ k = absurd cc

pub no_dependents : (w t : Tree) → kind.Object ≢ kind_of t → true ≡ has_dependent_required w t
no_dependents (object more) (object ms) n = absurd (n refl)
no_dependents (object more) _ n = refl
no_dependents _ t n = refl

-- The schema of a list to which a value comes nearest, by the assertions that it does not meet.
use Rattle.std.specs.Option.{option_map_or}
use Rattle.std.specs.Prelude.{◌≡◌, ℕ, zero, suc, Bool, true, false, ◌⊎◌, nat_le, List, [], ◌∷◌, ◌++◌, Option, Some, None, cond, codes}
use Rattle.std.specs.Prelude.{◌==◌, length, option_map, option_and_then, string_bytes}
use Rattle.tinyjson.specs.Index.{tree_at_key}
use Rattle.tinyjson.specs.Tree.{Tree, string, Items, no_items, item, Members, no_members, member}
use Rattle.tinyjson_document.specs.Parts.{members_in}
use Rattle.tinyjson_pointer.specs.Text.{pointer_text}
use Rattle.tinyjson_pointer.specs.Tokens.{tokens_of}
use Rattle.tinyjson_pointer.specs.Walk.{part_at}
use Rattle.tinyjson_schema_assertions.specs.Assertions.{accepts}
use Rattle.tinyjson_schema_keywords.specs.Applied.{schema_at, items_in}
use Rattle.tinyjson_schema_keywords.specs.References.{referenced}
use Rattle.tinyjson_schema_keywords.specs.declared.keyword.Keyword.{Keyword}
use Rattle.tinyjson_schema_keywords.specs.declared.keyword.Keyword.TheVariants as kw
use Rattle.tinyjson_schema_report.specs.Brief.{brief}
use Rattle.tinyjson_schema_report.specs.Ends.{At, ends_from}
use Rattle.tinyjson_schema_report.specs.Words.{keyword_words, words}
use Rattle.tinyjson_schema_report.specs.declared.nearest.Lack.{Lack}

-- the assertions that show of which kind a value is
abbrev pub kinds : List Keyword
kinds = kw.Type ∷ kw.Enum ∷ kw.Const ∷ []

-- those by which a member shows of which kind its object is
abbrev pub tags : List Keyword
tags = kw.Enum ∷ kw.Const ∷ []

abbrev pub others : List Keyword
others = kw.MultipleOf ∷ kw.Maximum ∷ kw.ExclusiveMaximum ∷ kw.Minimum ∷ kw.ExclusiveMinimum ∷ kw.MaxLength ∷ kw.MinLength
    ∷ kw.Pattern ∷ kw.MaxItems ∷ kw.MinItems ∷ kw.UniqueItems ∷ kw.MaxProperties ∷ kw.MinProperties ∷ kw.Required
    ∷ kw.DependentRequired ∷ []

-- how far a value comes in a schema; the place of what it lacks; and what it lacks, in words
abbrev pub Gap : Type 0
Gap = ℕ × (List (List ℕ) × List ℕ)

abbrev pub gap_of : Lack → Gap
gap_of l = (l.rank, (tokens_of l.place, string_bytes l.words))

abbrev pub or_else : {X : Type 0} → Option X → Option X → Option X
or_else (Some x) o = Some x
or_else None o = o

-- what t lacks that does not meet the keyword of s
abbrev pub unmet_at : Keyword → Tree → Tree → Option (List ℕ)
unmet_at k s t = option_and_then (λ w. cond (accepts k w t) None (Some (keyword_words k w t))) (schema_at s k)

abbrev pub unmet_words : List Keyword → Tree → Tree → Option (List ℕ)
unmet_words [] s t = None
unmet_words (k ∷ ks) s t = or_else (unmet_at k s t) (unmet_words ks s t)

abbrev pub own_gap : ℕ → List Keyword → Tree → Tree → Option Gap
own_gap n ks s t = option_map (λ w. (n, ([], w))) (unmet_words ks s t)

-- the schema to which `$ref` leads, or s itself
abbrev pub led : Tree → Tree → Tree
led root s = option_map_or (λ r. r) (referenced root kw.Ref s) s

abbrev pub property : Tree → List ℕ → Option Tree
property s k = option_and_then (λ p. tree_at_key p k) (schema_at s kw.Properties)

abbrev pub within : ℕ → List ℕ → Gap → Gap
within n k g = (n, (k ∷ g.1.0, g.1.1))

-- what f has for the schema of `properties` and the member
abbrev pub gap_at : ℕ → (Tree → Tree → Option Gap) → Tree → List ℕ → Tree → Option Gap
gap_at n f s k u = option_and_then (λ r. option_map (within n k) (f r u)) (property s k)

-- what f has for the first such member
abbrev pub member_gap : ℕ → (Tree → Tree → Option Gap) → Tree → Members → Option Gap
member_gap n f s no_members = None
member_gap n f s (member k u ms) = or_else (gap_at n f s k u) (member_gap n f s ms)

abbrev pub tag_gap : Tree → Tree → Tree → Option Gap
tag_gap root r u = own_gap 1 tags (led root r) u

-- The first that t lacks of s: its kind (0), the kind that a member shows (1), another assertion (2), or what f has for a member (3).
abbrev pub gap_by : Tree → (Tree → Tree → Option Gap) → Tree → Tree → Option Gap
gap_by root f s t = or_else (own_gap 0 kinds s t) (or_else (member_gap 1 (tag_gap root) s (members_in t))
    (or_else (own_gap 2 others s t) (member_gap 3 f s (members_in t))))

-- the same, for members of members down to this depth
abbrev pub gap : Tree → ℕ → Tree → Tree → Option Gap
gap root zero s t = None
gap root (suc n) s t = gap_by root (gap root n) (led root s) t

-- the one of the schema in which the value comes further, or else the first
abbrev pub further : Gap → Gap → Gap
further a b = cond (nat_le b.0 a.0) a b

abbrev pub nearest_after : (Tree → Option Gap) → Gap → Items → Option Gap
nearest_after f a no_items = Some a
nearest_after f a (item r rs) = option_and_then (λ b. nearest_after f (further a b) rs) (f r)

-- what the value lacks of the schema in which it comes furthest; none if it is not seen to lack something of each
abbrev pub nearest : (Tree → Option Gap) → Items → Option Gap
nearest f no_items = None
nearest f (item r rs) = option_and_then (λ a. nearest_after f a rs) (f r)

abbrev pub brief_place : List (List ℕ) → List ℕ
brief_place ks = brief (string (pointer_text ks))

abbrev pub place_words : List (List ℕ) → List ℕ
place_words ks = cond (length ks == 0) [] (brief_place ks ++ codes " ")

-- `; nearest: "/n" must be a number, is a string`
abbrev pub gap_words : Gap → List ℕ
gap_words g = codes "; nearest: " ++ (place_words g.1.0 ++ g.1.1)

-- one of the schemas of the keyword has to accept the value
abbrev pub is_choice : Keyword → Bool
is_choice kw.AnyOf = true
is_choice kw.OneOf = true
is_choice _ = false

-- what t lacks of the nearest schema of the keyword's list w, to the depth of 8 members
abbrev pub nearest_words : Tree → Keyword → Tree → Tree → List ℕ
nearest_words root k w t =
    cond (is_choice k) (option_map_or gap_words (nearest (λ r. gap root 8 r t) (items_in w)) []) []

abbrev pub nearest_of : Tree → Option At → Option Tree → List ℕ
nearest_of root (Some (Some k, w)) (Some t) = nearest_words root k w t
nearest_of root _ _ = []

-- The words for the places ks and js; and, unless it takes too many steps, the nearest schema of a list.
abbrev pub IsWords : Tree → Tree → List (List ℕ) → List (List ℕ) → List ℕ → Type 0
IsWords s t ks js bs = (bs ≡ words s t ks js) ⊎ (bs ≡ words s t ks js ++ nearest_of s (ends_from s ks) (part_at t js))

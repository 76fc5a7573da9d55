-- Where the part that a pointer names begins in a text, or the key of a member.
use Rattle.std.specs.Prelude.{◌≡◌, ℕ, List, [], ◌∷◌, ◌++◌, length, take, Option, Some, None, option_map, option_and_then}
use Rattle.std.specs.Prelude.{encode_utf8_all, Result, Ok, Err, MatchOption}
use Rattle.tinyjson.specs.Error.{error_kind}
use Rattle.tinyjson.specs.Parser.{ChecksText}
use Rattle.tinyjson.specs.declared.parser.error.JsonParseError.{JsonParseError}
use Rattle.tinyjson_grammar.specs.Characters.{begin_array, begin_object, end_array, end_object}
use Rattle.tinyjson_grammar.specs.Grammar.{IsLoose, IsAccepted}
use Rattle.tinyjson_grammar.specs.Position.{position_at, origin, advance}
use Rattle.tinyjson_grammar.specs.Syntax.{Syntax, array, object, text, AreWhite, IsSpelled, IsStrict, tree_of}
use Rattle.tinyjson_grammar.specs.Tree.{Members, find, string as string_tree, object as object_tree}
use Rattle.tinyjson_grammar.specs.declared.error.JsonParseErrorKind.TheVariants as kind
use Rattle.tinyjson_pointer.specs.Index.{index_of}
use Rattle.tinyjson_pointer.specs.Siblings.{container_at, child_name}
use Rattle.tinyjson_pointer.specs.Walk.{part_at}
use Rattle.tinyjson_pointer.specs.Spots.{Spot, spot, within, item_spot, last_member, MemberSpot, value_spot, from_key}
use Rattle.tinyjson_pointer.specs.declared.place.Place.{Place}

-- the part that one token names, as `step` names one of a tree
abbrev pub child : Syntax → List ℕ → Option Spot
child (array es) k = option_map (within (begin_array ∷ []) (end_array ∷ [])) (item_spot es (index_of k))
child (object ps) k = option_map (within (begin_object ∷ []) (end_object ∷ [])) (last_member k ps)
child _ k = None

-- the part that the tokens name
abbrev pub named : Syntax → List (List ℕ) → Option Spot
named s [] = Some (spot [] s [])
named s (k ∷ ks) = option_and_then (λ p. option_map (within p.before p.behind) (named p.part ks)) (child s k)

-- The place is where the spot begins in the text xs, whose value is spelled as l says.
pub record IsPlaceOf (xs : List ℕ) (l : IsLoose None xs) (ks : List (List ℕ)) (place : Place) (p : Spot) : Type 0 where
  pub named : named l.value ks ≡ Some p
  pub whole : xs ≡ (l.before ++ p.before) ++ (text p.part ++ (p.behind ++ l.after))
  pub tree : part_at (tree_of l.value) ks ≡ Some (tree_of p.part)
  -- the bytes before it
  pub offset : place.offset ≡ length (encode_utf8_all (l.before ++ p.before))
  -- the position of a parser that has consumed its first character
  pub position : position_at place.line place.column ≡ advance origin ((l.before ++ p.before) ++ take 1 (text p.part))

-- No part has that name.
abbrev pub HasNone : (xs : List ℕ) → IsLoose None xs → List (List ℕ) → Type 0
HasNone xs l ks = (named l.value ks ≡ None) × (part_at (tree_of l.value) ks ≡ None)

-- What `place_of` returns for a text of these characters and these tokens.
abbrev pub Locates : List ℕ → List (List ℕ) → Result (Option Place) JsonParseError → Type 0
Locates xs ks (Ok o) = IsAccepted None xs × ((l : IsLoose None xs) → IsStrict l.value →
    MatchOption o (HasNone xs l ks) (λ place. (p : Spot) × IsPlaceOf xs l ks place p))
Locates xs ks (Err e) = ¬ (error_kind e ≡ kind.OutOfMemory) → ChecksText None xs (Err e)

-- The place is where the key of the member m begins in the text xs, whose value is spelled as l says.
pub record IsKeyPlaceOf (xs : List ℕ) (l : IsLoose None xs) (ks : List (List ℕ)) (place : Place) (m : MemberSpot) : Type 0 where
  -- the tokens name its value; the last one is its key
  pub named : named l.value ks ≡ Some (value_spot m)
  pub tree : part_at (tree_of l.value) ks ≡ Some (tree_of m.value)
  pub key : tree_of m.key ≡ string_tree (child_name ks)
  pub spelled : IsSpelled m.key
  pub white : AreWhite m.before_colon × AreWhite m.before_value
  pub whole : xs ≡ (l.before ++ m.before) ++ from_key l.after m
  pub offset : place.offset ≡ length (encode_utf8_all (l.before ++ m.before))
  pub position : position_at place.line place.column ≡ advance origin ((l.before ++ m.before) ++ take 1 (text m.key))

-- The container is no object with that key.
abbrev pub HasNoMember : (xs : List ℕ) → IsLoose None xs → List (List ℕ) → Type 0
HasNoMember xs l ks = (ms : Members) → container_at (tree_of l.value) ks ≡ Some (object_tree ms)
    → find (child_name ks) ms ≡ None

-- What `key_place_of` returns for a text of these characters and these tokens.
abbrev pub LocatesKey : List ℕ → List (List ℕ) → Result (Option Place) JsonParseError → Type 0
LocatesKey xs ks (Ok o) = IsAccepted None xs × ((l : IsLoose None xs) → IsStrict l.value →
    MatchOption o (HasNoMember xs l ks) (λ place. (m : MemberSpot) × IsKeyPlaceOf xs l ks place m))
LocatesKey xs ks (Err e) = ¬ (error_kind e ≡ kind.OutOfMemory) → ChecksText None xs (Err e)

-- What a query selects in a text (RFC 9535).
use Rattle.std.specs.Prelude.{◌≡◌, ◌⊎◌, ℕ, ◌≤◌, Bool, true, false, List, []}
use Rattle.std.specs.Prelude.{◌∷◌, ◌++◌, Option, Result, Ok, Err, Any, length, encode_utf8_all}
use Rattle.std.specs.Str.{IsUtf8, chars}
use Rattle.std.specs.Str.Lossy.{utf8_valid_len}
use Rattle.tinyjson.specs.Text.{compact}
use Rattle.tinyjson_c.specs.Place.{length_place}
use Rattle.tinyjson_c.specs.Stop.{IsStopped, IsTextOf, stop_place, stop_status}
use Rattle.tinyjson_c.specs.declared.place.TinyjsonPlace.{TinyjsonPlace}
use Rattle.tinyjson_c.specs.declared.select.Unselected.{Unselected}
use Rattle.tinyjson_c.specs.declared.select.Unselected.TheVariants as un
use Rattle.tinyjson_c.specs.declared.status.TheConstants.{BAD_QUERY, PATTERN_LIMIT}
use Rattle.tinyjson_c.specs.declared.stop.Stop.TheVariants as stop
use Rattle.tinyjson_grammar.specs.Characters.{line_feed}
use Rattle.tinyjson_grammar.specs.Tree.{Tree}
use Rattle.tinyjson_path.specs.Forms.{QuerySegment, nesting_limit}
use Rattle.tinyjson_path.specs.Grammar.{QueryText}
use Rattle.tinyjson_path.specs.Nodes.{Part}
use Rattle.tinyjson_path.specs.Paths.{path_text}
use Rattle.tinyjson_path.specs.Patterns.{Judge, IsRight, judged}
use Rattle.tinyjson_path.specs.Queries.{query_parts}
use Rattle.tinyjson_path.specs.Query.{Query}
use Rattle.tinyjson_path.specs.Reading.{Reads}
use Rattle.tinyjson_path.specs.declared.patterns.PatternLimit.{PatternLimit}
use Rattle.tinyjson_path.specs.Strings.{Exceeds, query_strings, strings_in}

-- the bytes are the text of this query
abbrev pub IsQueryOf : List ℕ → Query → Type 0
IsQueryOf bytes q = IsUtf8 bytes × Reads (chars bytes) (Ok q)

-- The query selects these parts in the text's tree, in order; regular expressions are judged rightly.
pub record Selects (limit : Option ℕ) (text query : List ℕ) (parts : List Part) : Type 0 where
  pub judge : Judge
  pub is_right : IsRight judge
  pub asked : Query
  pub tree : Tree
  pub is_query : IsQueryOf query asked
  pub is_text : IsTextOf limit text tree
  pub are_parts : parts ≡ query_parts judge asked tree

-- The normalized path of a part, or the normal text of its tree, and a line feed.
abbrev pub part_line : Bool → Part → List ℕ
part_line true p = encode_utf8_all (path_text p.path) ++ line_feed ∷ []
part_line false p = encode_utf8_all (compact p.tree) ++ line_feed ∷ []

abbrev pub part_lines : Bool → List Part → List ℕ
part_lines paths [] = []
part_lines paths (p ∷ ps) = part_line paths p ++ part_lines paths ps

-- the bytes are no query; this many characters precede the fault, or bytes if they are not UTF-8
abbrev pub IsBadQuery : List ℕ → ℕ → Type 0
IsBadQuery bytes n =
    (¬ IsUtf8 bytes × (n ≡ utf8_valid_len bytes))
    ⊎ (IsUtf8 bytes × ((ss : List QuerySegment) → ¬ QueryText nesting_limit (chars bytes) ss) × (n ≤ length (chars bytes)))

-- A string of the query or of the text's tree exceeds a limit of regular expressions.
abbrev pub ExceedsLimit : Query → Tree → Type 0
ExceedsLimit q t = (l : PatternLimit) × Any (Exceeds l) (query_strings q ++ strings_in t)

-- The same for the bytes of both.
abbrev pub HasLargePattern : Option ℕ → List ℕ → List ℕ → Type 0
HasLargePattern limit text query = (q : Query) × IsQueryOf query q × (t : Tree) × IsTextOf limit text t × ExceedsLimit q t

-- ---- for private contracts

-- why nothing is selected in a text, given the query
abbrev pub IsNotFound : Option ℕ → Query → List ℕ → Unselected → Type 0
IsNotFound limit q text (un.Text s) = IsStopped limit text s
IsNotFound limit q text (un.BadQuery n) = ⊥
IsNotFound limit q text un.PatternLimit = (t : Tree) × IsTextOf limit text t × ExceedsLimit q t

-- the same, given the bytes of the query; memory may also run out before the text is read
abbrev pub IsUnselected : Option ℕ → List ℕ → List ℕ → Unselected → Type 0
IsUnselected limit text query (un.Text stop.OutOfMemory) = Unit {0}
IsUnselected limit text query (un.Text s) = (q : Query) × IsQueryOf query q × IsStopped limit text s
IsUnselected limit text query (un.BadQuery n) = IsBadQuery query n
IsUnselected limit text query un.PatternLimit = HasLargePattern limit text query

-- the query of some bytes, or why there is none
abbrev pub IsReadQuery : List ℕ → Result Query Unselected → Type 0
IsReadQuery bytes (Ok q) = IsQueryOf bytes q
IsReadQuery bytes (Err (un.Text s)) = s ≡ stop.OutOfMemory
IsReadQuery bytes (Err (un.BadQuery n)) = IsBadQuery bytes n
IsReadQuery bytes (Err un.PatternLimit) = ⊥

-- the lines of what a query selects in a tree are appended, or why not
abbrev pub FindsIn : Query → Tree → Bool → List ℕ → List ℕ → Result (Unit {0}) Unselected → Type 0
FindsIn q t paths old new (Ok _) = new ≡ old ++ part_lines paths (query_parts judged q t)
FindsIn q t paths old new (Err (un.Text s)) = s ≡ stop.OutOfMemory
FindsIn q t paths old new (Err (un.BadQuery n)) = ⊥
FindsIn q t paths old new (Err un.PatternLimit) = ExceedsLimit q t

-- the same for the tree of a text
abbrev pub FindsInText : Option ℕ → Query → List ℕ → Bool → List ℕ → List ℕ → Result (Unit {0}) Unselected → Type 0
FindsInText limit q text paths old new (Ok _) =
    (t : Tree) × IsTextOf limit text t × (new ≡ old ++ part_lines paths (query_parts judged q t))
FindsInText limit q text paths old new (Err e) = IsNotFound limit q text e

abbrev pub unselected_status : Unselected → ℕ
unselected_status (un.Text s) = stop_status s
unselected_status (un.BadQuery n) = BAD_QUERY
unselected_status un.PatternLimit = PATTERN_LIMIT

abbrev pub unselected_place : ℕ → Unselected → TinyjsonPlace
unselected_place text (un.Text s) = stop_place text s
unselected_place text (un.BadQuery n) = length_place 1 n
unselected_place text un.PatternLimit = length_place text 0

-- What private contracts say of members and their keys.
use Rattle.std.specs.Prelude.{◌≡◌, ℕ, List, [], ◌∷◌, ◌++◌, Option, None, option_map, option_and_then, Result, Ok, Err}
use Rattle.std.specs.Str.{chars}
use denote.Ref.{Bor}
use Rattle.tinyjson.specs.declared.parser.error.JsonParseError.{JsonParseError}
use Rattle.tinyjson_grammar.specs.Characters.{begin_object, end_object, value_separator}
use Rattle.tinyjson_grammar.specs.Syntax.{Syntax, object, Pairs, last_pair, pair, text, pairs_text}
use Rattle.tinyjson_pointer.specs.Change.{all_but_last, last_of}
use Rattle.tinyjson_pointer.specs.Places.{named}
use Rattle.tinyjson_pointer.specs.Spots.{key_front, or_else, if_key, MemberSpot, member_spot, from_key}
use Rattle.tinyjson_pointer.specs.private.Parts.{IsExhausted}
use Rattle.tinyjson_pointer.specs.private.Scan.{without_white}
use Rattle.tinyjson_pointer.specs.declared.place.member.Member.{Member}

abbrev pub further_member : List ℕ → MemberSpot → MemberSpot
further_member b m = member_spot (b ++ m.before) m.key m.before_colon m.before_value m.value m.behind

abbrev pub within_member : List ℕ → List ℕ → MemberSpot → MemberSpot
within_member b a m = member_spot (b ++ m.before) m.key m.before_colon m.before_value m.value (m.behind ++ a)

-- the last member with the key
abbrev pub last_with : List ℕ → Pairs → Option MemberSpot
last_with key (last_pair a k b c s d) = if_key key k (member_spot a k b c s d)
last_with key (pair a k b c s d ps) = or_else
    (option_map (further_member (key_front a k b c ++ (text s ++ (d ++ value_separator ∷ [])))) (last_with key ps))
    (if_key key k (member_spot a k b c s (d ++ value_separator ∷ pairs_text ps)))

-- the member that one token names
abbrev pub child_member : Syntax → List ℕ → Option MemberSpot
child_member (object ps) k = option_map (within_member (begin_object ∷ []) (end_object ∷ [])) (last_with k ps)
child_member _ k = None

-- the member that the tokens name
abbrev pub named_member : Syntax → List (List ℕ) → Option MemberSpot
named_member s [] = None
named_member s (k ∷ ks) = option_and_then
    (λ p. option_map (within_member p.before p.behind) (child_member p.part (last_of k ks)))
    (named s (all_but_last k ks))

-- what begins with a member's key, and what begins with its value
pub record Begun : Type 0 where
  pub key : List ℕ
  pub value : List ℕ

abbrev pub both : List ℕ → List ℕ → Begun
both xs ys = record { key = xs; value = ys }

-- of a member behind which is r
abbrev pub begun_member : List ℕ → MemberSpot → Begun
begun_member r m = both (from_key r m) (text m.value ++ (m.behind ++ r))

-- of what begins with a member, and what follows its colon
abbrev pub without_whites : List ℕ → List ℕ → Begun
without_whites xs ys = both (without_white xs) (without_white ys)

abbrev pub member_chars : Member → Begun
member_chars m = both (chars m.key.now) (chars m.value.now)

-- What begins with the member's key and with its value, if there is one; or memory ran out.
abbrev pub FindsMember : List ℕ → Option MemberSpot → Result (Option Member) JsonParseError → Type 0
FindsMember r o (Ok found) = option_map member_chars found ≡ option_map (begun_member r) o
FindsMember r o (Err e) = IsExhausted e

-- What begins with the member's key, if there is one; or memory ran out.
abbrev pub FindsKey : List ℕ → Option MemberSpot → Result (Option (Bor (List ℕ))) JsonParseError → Type 0
FindsKey r o (Ok found) = option_map (λ s. chars s.now) found ≡ option_map (from_key r) o
FindsKey r o (Err e) = IsExhausted e

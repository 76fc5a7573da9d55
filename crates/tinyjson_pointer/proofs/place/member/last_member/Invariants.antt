use Rattle.std.proofs.Common.{◌≡◌, ◌∷◌, ◌++◌, ℕ, List, length, option_map}
use denote.Text.{Utf8}
use denote.Shadow.{shadow}
use Rattle.std.specs.Str.{chars}
use Rattle.tinyjson_grammar.specs.Syntax.{Pairs, pairs_text, ArePairs, PairsAreStrict}
use Rattle.tinyjson_pointer.specs.private.Keys.{member_chars}
use Rattle.tinyjson_pointer.proofs.Locating.Members.{Left}
use Rattle.tinyjson_pointer.proofs.place.member.last_member.Given as goal

abbrev pub invariant-loop-name : goal.invariant-loop-name
invariant-loop-name l = shadow (Utf8 l.members)
    × ((ps : Pairs) (r : List ℕ) → ArePairs ps → PairsAreStrict ps → chars l.fn.inside ≡ pairs_text ps ++ 125 ∷ r
    → Left (chars l.fn.key) r ps (option_map member_chars l.found) (chars l.members))

abbrev pub decreases-loop-name : goal.decreases-loop-name
decreases-loop-name l = length (chars l.members)

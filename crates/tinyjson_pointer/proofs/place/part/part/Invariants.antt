use Rattle.std.proofs.Common.{◌≡◌, ◌++◌, ℕ, List, length, map, option_map}
use Rattle.std.specs.Str.{chars}
use Rattle.tinyjson.specs.View.{text}
use Rattle.tinyjson_grammar.specs.Syntax.{Syntax, text as spelled, IsSpelled, IsStrict}
use Rattle.tinyjson_pointer.proofs.Locating.Walking.{Onward}
use Rattle.tinyjson_pointer.proofs.place.part.part.Given as goal

abbrev pub invariant-loop-token : goal.invariant-loop-token
invariant-loop-token l = (s : Syntax) (r : List ℕ) → IsSpelled s → IsStrict s → chars l.fn.value ≡ spelled s ++ r
    → Onward s r (map text l.fn.tokens) (map text l.left) (option_map (λ x. chars x.now) l.here)

abbrev pub decreases-loop-token : goal.decreases-loop-token
decreases-loop-token l = length l.left

use Rattle.std.proofs.Common.{◌≡◌, ◌-◌, ◌++◌, List, ℕ, length}
use Rattle.tinyjson_grammar.specs.Characters.{text}
use Rattle.tinyjson_tokens.specs.Escape.{Spells}
use Rattle.tinyjson_tokens.proofs.escape.escapes.Given as goal

abbrev pub invariant-loop-c : goal.invariant-loop-c
invariant-loop-c l = record { spelled : (ds : List ℕ) × Spells l.fn.bytes l.fn.at ds l.end × (text l.string ≡ text l.fn.string ++ ds) }

abbrev pub decreases-loop-c : goal.decreases-loop-c
decreases-loop-c l = length l.fn.bytes - l.end

use Rattle.std.proofs.Common.{ℕ, Option, length}
use Rattle.std.specs.List.{All}
use Rattle.std.specs.Str.{chars}
use Rattle.tinyjson.specs.Tree.{Tree}
use Rattle.tinyjson_grammar.specs.Grammar.{IsText}
use Rattle.tinyjson_schema_report.specs.Every.{IsAtPart}
use Rattle.tinyjson_schema_report.specs.Located.{IsLocated}
use Rattle.tinyjson_schema_report.specs.declared.located.Located.{Located}
use Rattle.tinyjson_schema_report.proofs.Callers.{IsGathering}
use Rattle.tinyjson_schema_report.proofs.located.locate_every.Given as goal

abbrev pub invariant-loop-finding : goal.invariant-loop-finding
invariant-loop-finding l =
    IsGathering (λ (x : Located). x.finding) (IsLocated (chars l.text)) l.fn.found.items l.rest.items l.located.items
    × (limit : Option ℕ) × (t : Tree) × IsText limit (chars l.text) t × All (IsAtPart t) l.rest.items

abbrev pub decreases-loop-finding : goal.decreases-loop-finding
decreases-loop-finding l = length l.rest.items

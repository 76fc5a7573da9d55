use Rattle.std.proofs.Common.{◌≡◌, drop}
use Rattle.std.specs.Str.{chars}
use Rattle.tinyjson.specs.Tree.{Tree}
use Rattle.tinyjson_schema.specs.Evaluated.{Answers, member_at}
use Rattle.tinyjson_schema.specs.Sources.{sources_evaluate}
use Rattle.tinyjson_schema.proofs.validate.unevaluated.is_member_evaluated.Given as goal

abbrev pub invariant-loop-source : goal.invariant-loop-source
invariant-loop-source l = (g : Answers) (u : Tree) →
    sources_evaluate g (drop l.source-index l.sources) (member_at (chars l.key) u)
    ≡ sources_evaluate g l.sources (member_at (chars l.key) u)

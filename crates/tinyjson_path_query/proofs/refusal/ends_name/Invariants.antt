use Rattle.std.proofs.Common.{◌≡◌, length}
use Rattle.tinyjson_path_query.specs.Refusing.{ends_name}
use Rattle.tinyjson_path_query.proofs.refusal.ends_name.Given as goal

abbrev pub invariant-loop-first : goal.invariant-loop-first
invariant-loop-first l = ends_name l.fn.text ≡ ends_name l.rest

abbrev pub decreases-loop-first : goal.decreases-loop-first
decreases-loop-first l = length l.rest

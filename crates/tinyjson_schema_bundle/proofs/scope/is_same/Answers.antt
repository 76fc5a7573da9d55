use Rattle.std.proofs.Common.{sym}
use Rattle.tinyjson_schema_bundle.proofs.Scoping.{unequal}
use Rattle.tinyjson_schema_bundle.proofs.scope.is_same.Goals as goal

pub returns-then-scope-other : goal.returns-then-scope-other
returns-then-scope-other c = sym (unequal c.args.scope.now c.args.other.now c.if-scope-other.true)

use Rattle.std.proofs.Common.{◌≡◌, drop}
use Rattle.tinyjson.specs.View.{members_listed}
use Rattle.tinyjson_schema_bundle.specs.Scopes.{longest}
use Rattle.tinyjson_schema_bundle.proofs.copies.longest_key.Given as goal

abbrev pub invariant-loop-member : goal.invariant-loop-member
invariant-loop-member l = longest (members_listed (drop l.member-index l.members)) l.most ≡ longest (members_listed l.members) 0

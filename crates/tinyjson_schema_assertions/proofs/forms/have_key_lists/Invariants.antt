use Rattle.std.proofs.Common.{◌≡◌, drop}
use Rattle.tinyjson.specs.View.{members_listed}
use Rattle.tinyjson_schema_assertions.specs.Operands.{have_key_lists}
use Rattle.tinyjson_schema_assertions.proofs.forms.have_key_lists.Given as goal

abbrev pub invariant-loop-keys : goal.invariant-loop-keys
invariant-loop-keys l = have_key_lists (members_listed (drop l.keys-index l.lists)) ≡ have_key_lists (members_listed l.lists)

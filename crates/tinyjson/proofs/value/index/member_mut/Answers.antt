use Rattle.std.proofs.Common.{rules}
use Rattle.tinyjson.proofs.value.index.member_mut.Goals as goal

pub returns : goal.returns
returns c = search rules

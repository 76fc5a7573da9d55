use Rattle.std.proofs.Common.{rules}
use Rattle.tinyjson.proofs.Values.Index.{is_member_at}
use Rattle.tinyjson.proofs.value.index.JsonValueIndexRefStr.index.Goals as goal

pub returns : goal.returns
returns c = is_member_at c.args.self.now c.args.key.now c.unwrap.result.now c.utf8.key (search rules)

use Rattle.std.proofs.Common.{rules}
use Rattle.tinyjson.proofs.Callers.{text_push}
use Rattle.tinyjson_path.proofs.path.push.Goals as goal

pub returns : goal.returns
returns c = search (rules, text_push)

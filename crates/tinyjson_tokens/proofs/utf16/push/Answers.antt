use Rattle.tinyjson_tokens.proofs.Units.{text_push}
use Rattle.std.proofs.Common.{rules}
use Rattle.tinyjson_tokens.proofs.utf16.push.Goals as goal

pub returns : goal.returns
returns c = search (rules, text_push)

use Rattle.tinyjson_path.proofs.Values.{words_pushed}
use Rattle.tinyjson_path.proofs.path.push_words.Goals as goal

pub returns : goal.returns
returns c = words_pushed c.push_str.result c.push_str.new.self c.args.path.now c.args.words.now c.push_str.ensures.bytes

use Rattle.tinyjson_laws.proofs.WritingLaws.{texts_are_utf8}
use Rattle.tinyjson_laws.proofs.writing.texts_are_utf8.Goals as goal

pub returns : goal.returns
returns c = texts_are_utf8

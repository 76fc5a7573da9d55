use Rattle.tinyjson_laws.proofs.ReadingLaws.{texts_are_sound}
use Rattle.tinyjson_laws.proofs.reading.texts_are_sound.Goals as goal

pub returns : goal.returns
returns c = texts_are_sound

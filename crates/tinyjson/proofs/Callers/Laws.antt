-- For proofs that go on from these: the characters of a text in parts and what a written text is made of.
pub use Rattle.tinyjson.proofs.Reading.Parse.{all_front, all_rest}
pub use Rattle.tinyjson.proofs.Writing.Scalars.{AreScalars, scalars_append, before_scalars, closing_scalars, colon_scalars, two_spaces}

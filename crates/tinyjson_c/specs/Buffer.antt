-- What a call writes into the caller's buffer.
use Rattle.std.specs.Prelude.{◌≡◌, ℕ, ◌<◌, ◌≤◌, List, ◌++◌, length, drop}
use Rattle.tinyjson_c.specs.Place.{length_place}
use Rattle.tinyjson_c.specs.declared.place.TinyjsonPlace.{TinyjsonPlace}

-- The bytes are at the front of the buffer; after them it is unchanged.
pub record Fills (bytes old new : List ℕ) : Type 0 where
  pub fits : length bytes ≤ length old
  pub written : new ≡ bytes ++ drop (length bytes) old

-- the bytes are written, and the place has their length
abbrev pub HasWritten : List ℕ → List ℕ → List ℕ → TinyjsonPlace → Type 0
HasWritten bytes old new place = Fills bytes old new × (place ≡ length_place 0 (length bytes))

-- the bytes do not fit the buffer, and the place has their length
abbrev pub LacksRoom : List ℕ → List ℕ → TinyjsonPlace → Type 0
LacksRoom bytes old place = (length old < length bytes) × (place ≡ length_place 0 (length bytes))

-- What is buffered, after what a writer holds. For private contracts.
use Rattle.std.specs.Prelude.{◌≡◌, ℕ, List, [], ◌++◌, take, Option, Result, MatchResult, encode_utf8_all}
use Rattle.tinyjson_output.specs.Written.{Written, WrittenPart}
use Rattle.tinyjson_output.specs.declared.buffer.Buffer.{Buffer}

-- the bytes that are buffered
abbrev pub buffered : Buffer → List ℕ
buffered r = take r.len r.bytes

-- what a writer holds, where its contract says that, and what is buffered
abbrev pub Output : Type 0
Output = Option (List ℕ) × List ℕ

-- all but the rest of the bytes follows what was buffered; of both a part is now written, and the others are buffered
pub record Sent (old new : Output) (bytes rest : List ℕ) : Type 0 where
  pub done : List ℕ
  pub split : bytes ≡ done ++ rest
  pub written : Written old.0 new.0 (old.1 ++ done) new.1

-- all but the rest of the bytes is buffered after what was, and none is written
abbrev pub Buffers : List ℕ → List ℕ → List ℕ → List ℕ → Type 0
Buffers old new bytes rest = (held : Option (List ℕ)) → Sent (held, old) (held, new) bytes rest

-- a prefix of what was buffered and of the bytes is written
pub record SentPart (old new : Output) (bytes : List ℕ) : Type 0 where
  pub part : WrittenPart old.0 new.0 (old.1 ++ bytes)

-- on `Ok` the bytes follow what was buffered, and on `Err` a prefix of both is written
abbrev pub SendsFrom : {T E : Type 0} → Output → Output → List ℕ → Result T E → Type 0
SendsFrom old new bytes result = MatchResult result (λ _. Sent old new bytes []) (λ _. SentPart old new bytes)

-- by a writer, which holds `contents`, and a buffer before it: both as they were, and as they are now
abbrev pub Sends : {W T E : Type 0} → (W → Option (List ℕ)) → W → W → Buffer → Buffer → List ℕ → Result T E → Type 0
Sends contents w v old new bytes result = SendsFrom (contents w, buffered old) (contents v, buffered new) bytes result

-- a text likewise, in UTF-8
abbrev pub SendsText : {W T E : Type 0} → (W → Option (List ℕ)) → W → W → Buffer → Buffer → List ℕ → Result T E → Type 0
SendsText contents w v old new text result = Sends contents w v old new (encode_utf8_all text) result

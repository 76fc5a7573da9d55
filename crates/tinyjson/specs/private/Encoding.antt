-- What an encoder sends, and what its open containers have still to write. For private contracts.
use Rattle.std.specs.Prelude.{◌≡◌, ℕ, ◌+◌, ◌-◌, ◌<◌, true, List, [], ◌∷◌, ◌++◌, Option, Result, MatchResult, MatchOption}
use Rattle.std.specs.Prelude.{length, take, drop, reverse, encode_utf8_all}
use Rattle.std.specs.Borrow.{Bor}
use Rattle.std.specs.Str.{chars}
use Rattle.tinyjson_grammar.specs.Characters.{end_array, end_object}
use Rattle.tinyjson_grammar.specs.Tree.{member, no_members}
use Rattle.tinyjson.specs.View.{view, items_view}
use Rattle.tinyjson_grammar.specs.Text.{items_text, members_text, newline}
use Rattle.tinyjson.specs.private.Sorted.{sorted_view}
use Rattle.tinyjson_output.specs.Buffer.{buffered, Output, Sent, SentPart}
use Rattle.tinyjson.specs.declared.value.JsonValue.{JsonValue}
use Rattle.tinyjson.specs.declared.generator.frames.Frame.{Frame}
use Rattle.tinyjson.specs.declared.generator.frames.Frame.TheVariants.{Items, Member, Members}
use Rattle.tinyjson.specs.declared.generator.frames.Stack.{Stack}
use Rattle.tinyjson.specs.declared.generator.encode.Encoder.{Encoder}
use Rattle.tinyjson.specs.Indent.{indent_of}

-- the frames that don't fit in place are in the vector
pub record IsStack (s : Stack) : Type 0 where
  pub near : length s.near ≡ 64
  pub far : length s.far.items ≡ s.depth - 64

-- the frames, the innermost first
abbrev pub frames : Stack → List Frame
frames s = reverse s.far.items ++ reverse (take s.depth s.near)

-- a gathered member
abbrev pub Gathered : Type 0
Gathered = Bor (List ℕ) × Bor JsonValue

-- the gathered members of the containers around it
abbrev pub others : Frame → List Gathered → List Gathered
others (Items rest first) gs = gs
others (Member key value) gs = gs
others (Members left first) gs = drop left gs

module _ (w : Option (List ℕ)) where
  -- what is left of a container at the level k: the items or members that are left, and its closing bracket.
  -- Its members are the first of those gathered.
  abbrev pub frame_text : ℕ → Frame → List Gathered → List ℕ
  frame_text k (Items rest first) gs = items_text w (k + 1) first (items_view rest.now) ++ (newline w k ++ end_array ∷ [])
  frame_text k (Member key value) gs = members_text w (k + 1) true (member (chars key.now) (view value.now) no_members)
      ++ (newline w k ++ end_object ∷ [])
  frame_text k (Members left first) gs = members_text w (k + 1) first (sorted_view (take left gs)) ++ (newline w k ++ end_object ∷ [])

  -- what is left of all open containers, the innermost first
  abbrev pub unwritten : List Frame → List Gathered → List ℕ
  unwritten [] gs = []
  unwritten (f ∷ fs) gs = frame_text (length fs) f gs ++ unwritten fs (others f gs)

-- a container is begun: its bracket and what comes before it are sent, and the frame is what is left of it
pub record Opened (w : Option (List ℕ)) (k : ℕ) (old new : Output) (bytes : List ℕ) (gs : List Gathered) (f : Frame)
    (hs : List Gathered) : Type 0 where
  pub written : Sent old new bytes (encode_utf8_all (frame_text w k f hs))
  pub outside : others f hs ≡ gs
  pub less : length (encode_utf8_all (frame_text w k f hs)) < length bytes

-- a value with no container that is left open is sent
pub record Finished (old new : Output) (bytes : List ℕ) (gs hs : List Gathered) : Type 0 where
  pub written : Sent old new bytes []
  pub outside : hs ≡ gs

-- of the bytes all is sent but what is left of the frame at the level k, where there is one; or, on an error, a prefix
abbrev pub BeginsFrom : {E : Type 0} → Option (List ℕ) → ℕ → Output → Output → List ℕ → List Gathered →
    Result (Option Frame) E → List Gathered → Type 0
BeginsFrom w k old new bytes gs result hs = MatchResult result
    (λ o. MatchOption o (Finished old new bytes gs hs) (λ f. Opened w k old new bytes gs f hs))
    (λ _. SentPart old new bytes)

-- of what was left of the frames all is sent but what is left of the stack now, which is less
pub record Advanced (w : Option (List ℕ)) (old new : Output) (fs : List Frame) (gs : List Gathered) (s : Stack)
    (hs : List Gathered) : Type 0 where
  pub stack : IsStack s
  pub written : Sent old new (encode_utf8_all (unwritten w fs gs)) (encode_utf8_all (unwritten w (frames s) hs))
  pub less : length (encode_utf8_all (unwritten w (frames s) hs)) < length (encode_utf8_all (unwritten w fs gs))

abbrev pub AdvancesFrom : {T E : Type 0} → Option (List ℕ) → Output → Output → List Frame → List Gathered → Result T E →
    Stack → List Gathered → Type 0
AdvancesFrom w old new fs gs result s hs = MatchResult result (λ _. Advanced w old new fs gs s hs)
    (λ _. SentPart old new (encode_utf8_all (unwritten w fs gs)))

-- the gathered members of an encoder, the next one first
abbrev pub gathered_in : Encoder → List Gathered
gathered_in e = reverse e.gathered.items

-- nothing of an encoder changes but its buffer
abbrev pub OnlyBuffers : Encoder → Encoder → Type 0
OnlyBuffers old new = (new.indent ≡ old.indent) × (new.gathered ≡ old.gathered)

-- by a writer, which holds `contents`, and the encoder before it: both as they were, and as they are now
abbrev pub Begins : {W E : Type 0} → ℕ → (W → Option (List ℕ)) → W → W → Encoder → Encoder → List ℕ
    → Result (Option Frame) E → Type 0
Begins k contents p q old new bytes result =
    BeginsFrom (indent_of old.indent) k (contents p, buffered old.buffer) (contents q, buffered new.buffer) bytes
    (gathered_in old) result (gathered_in new)

abbrev pub Advances : {W T E : Type 0} → (W → Option (List ℕ)) → W → W → Encoder → Encoder → List Frame
    → Result T E → Stack → Type 0
Advances contents p q old new fs result s =
    AdvancesFrom (indent_of old.indent) (contents p, buffered old.buffer) (contents q, buffered new.buffer) fs
    (gathered_in old) result s (gathered_in new)

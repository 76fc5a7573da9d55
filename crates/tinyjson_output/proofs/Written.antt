-- How writes follow one another.
use Rattle.std.proofs.Common.{◌≡◌, ℕ, Option, Some, Result, Ok, Err, List, [], ◌++◌, take, drop, refl, sym, ◌∙◌, ap, append_assoc}
use Rattle.std.proofs.Common.{append-nil, take-append-drop}
use Rattle.std.proofs.KnownBytes.{Appends-kept, Appends-nil, Appends-trans}
use Rattle.std.specs.Result.{IsErr}
use Rattle.std.proofs.lemmas.Result.{MatchResult-from_err}
use Rattle.std.specs.Io.KnownBytes.{Appends, Keeps}
use Rattle.tinyjson_output.specs.Written.{Written, WrittenPart, WritesPrefix}

-- before the first write
pub written_none : (old : Option (List ℕ)) (bytes rest : List ℕ) → bytes ≡ rest → Written old old bytes rest
written_none old bytes rest e = record { done = []; split = e; appended = Appends-nil old }

-- a piece is written, or the part of it before `left`
pub written_more : {old mid new : Option (List ℕ)} {bytes piece left : List ℕ} (rest : List ℕ) → Written old mid bytes (piece ++ rest)
    → Written mid new piece left → Written old new bytes (left ++ rest)
written_more {old} {mid} {new} {bytes} {piece} {left} rest h k = record {
  done = h.done ++ k.done;
  split = h.split ∙ ap (λ w. h.done ++ (w ++ rest)) k.split ∙ ap (λ w. h.done ++ w) (append_assoc k.done left rest)
      ∙ sym (append_assoc h.done k.done (left ++ rest));
  appended = Appends-trans old mid new h.done k.done h.appended k.appended;
}

-- one call of `write` took n bytes
pub written_take : {old mid new : Option (List ℕ)} {bytes rest : List ℕ} (n : ℕ) → Written old mid bytes rest
    → Appends mid new (take n rest) → Written old new bytes (drop n rest)
written_take {old} {mid} {new} {bytes} {rest} n h k = record {
  done = h.done ++ take n rest;
  split = h.split ∙ ap (λ w. h.done ++ w) (sym (take-append-drop n rest)) ∙ sym (append_assoc h.done (take n rest) (drop n rest));
  appended = Appends-trans old mid new h.done (take n rest) h.appended k;
}

-- a call of `write` failed
pub written_same : {old mid new : Option (List ℕ)} {bytes rest : List ℕ} → Written old mid bytes rest → Keeps mid new
    → Written old new bytes rest
written_same {old} {mid} {new} {bytes} {rest} h k = record {
  done = h.done;
  split = h.split;
  appended = Appends-kept old mid new h.done h.appended k;
}

-- a piece is written
pub goes : {old mid new : Option (List ℕ)} {bytes piece : List ℕ} (rest : List ℕ) → Written mid new piece []
    → Written old mid bytes (piece ++ rest) → Written old new bytes rest
goes rest k h = written_more rest h k

-- a part of a piece is written
pub stops : {old mid new : Option (List ℕ)} {bytes piece : List ℕ} (rest : List ℕ) → WrittenPart mid new piece
    → Written old mid bytes (piece ++ rest) → WrittenPart old new bytes
stops rest k h = record { rest = k.rest ++ rest; written = written_more rest h k.written }

-- what was still to be written is written but for a rest
pub written_then : {old mid new : Option (List ℕ)} {bytes : List ℕ} (rest left : List ℕ) → Written old mid bytes rest
    → Written mid new rest left → Written old new bytes left
written_then {old} {mid} {new} {bytes} rest left h k =
    let whole : Written old mid bytes (rest ++ []) = rw append-nil h in
    let all : Written old new bytes (left ++ []) = written_more {old = old} {mid = mid} {new = new} {bytes = bytes} {piece = rest} {left =
    left} [] whole k in
    rw append-nil at all

-- or a part of it
pub stops_then : {old mid new : Option (List ℕ)} {bytes : List ℕ} (rest : List ℕ) → Written old mid bytes rest → WrittenPart mid new rest
    → WrittenPart old new bytes
stops_then {old} {mid} {new} {bytes} rest h k =
    let whole : Written old mid bytes (rest ++ []) = rw append-nil h in
    stops {old = old} {mid = mid} {new = new} {bytes = bytes} {piece = rest} [] k whole

-- the last piece
pub ends : {T E : Type 0} (old mid new : Option (List ℕ)) (bytes piece : List ℕ) (r : Result T E) → WritesPrefix mid new piece r
    → Written old mid bytes piece → WritesPrefix old new bytes r
ends old mid new bytes piece (Ok x) k h = goes {piece = piece} [] k (rw append-nil h)
ends old mid new bytes piece (Err e) k h = stops {piece = piece} [] k (rw append-nil h)

-- the exit of a `?` on the call that writes a piece
pub fails : {T E : Type 0} {old mid new : Option (List ℕ)} {bytes piece : List ℕ} (r : Result T E) (rest : List ℕ) → IsErr r
    → WrittenPart mid new piece → Written old mid bytes (piece ++ rest) → WritesPrefix old new bytes r
fails r rest e k h = MatchResult-from_err r _ _ e (λ _. stops rest k h)

-- before the first write
pub begins : {old : Option (List ℕ)} {bytes : List ℕ} → Written old old bytes bytes
begins {old} {bytes} = written_none old bytes bytes refl

-- where an error comes before a write
pub stop : {old new : Option (List ℕ)} {bytes rest : List ℕ} → Written old new bytes rest → WrittenPart old new bytes
stop {old} {new} {bytes} {rest} h = record { rest = rest; written = h }

-- what is written to an empty list
pub written_all : (new bytes : List ℕ) → Written (Some []) (Some new) bytes [] → new ≡ bytes
written_all new bytes h = h.appended ∙ sym (append-nil h.done) ∙ sym h.split

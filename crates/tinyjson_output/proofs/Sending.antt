-- How pieces follow one another that are written or wait.
use Rattle.std.proofs.Common.{◌≡◌, ℕ, Option, Result, Ok, Err, List, [], ◌++◌, length, take, refl, sym, ◌∙◌, ap, subst, append_assoc}
use Rattle.std.proofs.Common.{append-nil}
use Rattle.std.specs.Result.{IsErr}
use Rattle.std.proofs.lemmas.Result.{MatchResult-from_err}
use Rattle.std.proofs.lemmas.List.{take_at}
use Rattle.tinyjson_output.specs.Written.{Written, WrittenPart, WritesPrefix}
use Rattle.tinyjson_output.specs.Buffer.{Output, Sent, SentPart, SendsFrom}
use Rattle.tinyjson_output.proofs.Written.{written_then as written_on, stops_then as part_on, written_none as written_now, stop as part_of}

-- more stands after
with_more : {old new : Option (List ℕ)} {bytes rest : List ℕ} (more : List ℕ) → Written old new bytes rest
    → Written old new (bytes ++ more) (rest ++ more)
with_more {old} {new} {bytes} {rest} more h = record {
  done = h.done;
  split = ap (λ w. w ++ more) h.split
      ∙ append_assoc h.done rest more;
  appended = h.appended;
}

moved : {a b c : Option (List ℕ)} {q r : List ℕ} (p x y : List ℕ) → Written a b (p ++ x) q → Written b c (q ++ y) r
    → Written a c (p ++ (x ++ y)) r
moved {a} {b} {c} {q} {r} p x y h k =
    let both : Written a c ((p ++ x) ++ y) r = written_on {old = a} {mid = b} {new = c} {bytes = (p ++ x) ++ y} (q ++ y) r
    (with_more y h) k in
    subst (λ w. Written a c w r) (append_assoc p x y) both

-- before the first piece
pub written_none : (old : Output) (bytes rest : List ℕ) → bytes ≡ rest → Sent old old bytes rest
written_none old bytes rest e = record { done = []; split = e; written = written_now old.0 (old.1 ++ []) old.1 (append-nil old.1) }

-- a piece is sent, or the part of it before `left`
pub written_more : {old mid new : Output} {bytes piece left : List ℕ} (rest : List ℕ) → Sent old mid bytes (piece ++ rest)
    → Sent mid new piece left → Sent old new bytes (left ++ rest)
written_more {old} {mid} {new} {bytes} {piece} {left} rest h k = record {
  done = h.done ++ k.done;
  split = h.split ∙ ap (λ w. h.done ++ (w ++ rest)) k.split ∙ ap (λ w. h.done ++ w) (append_assoc k.done left rest)
      ∙ sym (append_assoc h.done k.done (left ++ rest));
  written = moved old.1 h.done k.done h.written k.written;
}

pub goes : {old mid new : Output} {bytes piece : List ℕ} (rest : List ℕ) → Sent mid new piece [] → Sent old mid bytes (piece ++ rest)
    → Sent old new bytes rest
goes rest k h = written_more rest h k

pub stops : {old mid new : Output} {bytes piece : List ℕ} (rest : List ℕ) → SentPart mid new piece → Sent old mid bytes (piece ++ rest)
    → SentPart old new bytes
stops {old} {mid} {new} {bytes} {piece} rest k h =
    let all : Written old.0 new.0 ((old.1 ++ (h.done ++ piece)) ++ rest) (k.part.rest ++ rest) =
    with_more rest (moved old.1 h.done piece h.written k.part.written) in
    let e : (old.1 ++ (h.done ++ piece)) ++ rest ≡ old.1 ++ bytes = append_assoc old.1 (h.done ++ piece) rest
    ∙ ap (λ w. old.1 ++ w) (append_assoc h.done piece rest ∙ sym h.split) in
    record { part = record { rest = k.part.rest ++ rest; written = subst (λ w. Written old.0 new.0 w (k.part.rest ++ rest)) e all } }

-- what was still to be sent is sent but for a rest
pub written_then : {old mid new : Output} {bytes : List ℕ} (rest left : List ℕ) → Sent old mid bytes rest → Sent mid new rest left
    → Sent old new bytes left
written_then {old} {mid} {new} {bytes} rest left h k =
    let whole : Sent old mid bytes (rest ++ []) = rw append-nil h in
    let all : Sent old new bytes (left ++ []) = written_more {old = old} {mid = mid} {new = new} {bytes = bytes} {piece = rest} {left =
    left} [] whole k in
    rw append-nil at all

-- or a part of it
pub stops_then : {old mid new : Output} {bytes : List ℕ} (rest : List ℕ) → Sent old mid bytes rest → SentPart mid new rest
    → SentPart old new bytes
stops_then {old} {mid} {new} {bytes} rest h k =
    let whole : Sent old mid bytes (rest ++ []) = rw append-nil h in
    stops {old = old} {mid = mid} {new = new} {bytes = bytes} {piece = rest} [] k whole

-- the last piece
pub ends : {T E : Type 0} (old mid new : Output) (bytes piece : List ℕ) (r : Result T E) → SendsFrom mid new piece r
    → Sent old mid bytes piece → SendsFrom old new bytes r
ends old mid new bytes piece (Ok x) k h = goes {piece = piece} [] k (rw append-nil h)
ends old mid new bytes piece (Err e) k h = stops {piece = piece} [] k (rw append-nil h)

-- the exit of a `?` on the call that sends a piece
pub fails : {T E : Type 0} {old mid new : Output} {bytes piece : List ℕ} (r : Result T E) (rest : List ℕ) → IsErr r → SentPart mid new piece
    → Sent old mid bytes (piece ++ rest) → SendsFrom old new bytes r
fails r rest e k h = MatchResult-from_err r _ _ e (λ _. stops rest k h)

pub begins : {old : Output} {bytes : List ℕ} → Sent old old bytes bytes
begins {old} {bytes} = written_none old bytes bytes refl

-- where an error comes before a write
pub stop : {old new : Output} {bytes rest : List ℕ} → Sent old new bytes rest → SentPart old new bytes
stop {old} {new} {bytes} {rest} h =
    let all : Written old.0 new.0 ((old.1 ++ h.done) ++ rest) (new.1 ++ rest) = with_more rest h.written in
    let e : (old.1 ++ h.done) ++ rest ≡ old.1 ++ bytes = append_assoc old.1 h.done rest ∙ ap (λ w. old.1 ++ w) (sym h.split) in
    record { part = part_of {bytes = old.1 ++ bytes} (subst (λ w. Written old.0 new.0 w (new.1 ++ rest)) e all) }

-- ---- into the buffer, or past it

-- what is buffered is written, or a part of it
pub flush_fails : {a b : Option (List ℕ)} {p q : List ℕ} (bytes : List ℕ) → WrittenPart a b p → SentPart (a, p) (b, q) bytes
flush_fails bytes h = record { part = record { rest = h.rest ++ bytes; written = with_more bytes h.written } }

-- the bytes wait after what waited
pub now_buffered : (a : Option (List ℕ)) (p q bytes : List ℕ) → q ≡ p ++ bytes → Sent (a, p) (a, q) bytes []
now_buffered a p q bytes e = record { done = bytes; split = sym (append-nil bytes); written = written_now a (p ++ bytes) q (sym e) }

pub in_front : (one over bytes : List ℕ) → one ≡ bytes → take (length bytes) (one ++ over) ≡ bytes
in_front one over bytes e = ap (λ w. take (length bytes) (w ++ over)) e ∙ take_at bytes over (length bytes) refl

-- a part of the bytes does
pub buffered_part : (a : Option (List ℕ)) (p q bytes done rest : List ℕ) → bytes ≡ done ++ rest → q ≡ p ++ done
    → Sent (a, p) (a, q) bytes rest
buffered_part a p q bytes done rest e h = record { done = done; split = e; written = written_now a (p ++ done) q (sym h) }

-- what waited is written, and the bytes wait
pub waits_alone : {a b : Option (List ℕ)} {p : List ℕ} (q bytes : List ℕ) → Written a b p [] → q ≡ bytes → Sent (a, p) (b, q) bytes []
waits_alone {a} {b} {p} q bytes h e = record {
  done = bytes;
  split = sym (append-nil bytes);
  written = subst (λ w. Written a b (p ++ bytes) w) (sym e) (with_more bytes h);
}

-- both are written
pub far : {T E : Type 0} (a b c : Option (List ℕ)) (p q bytes : List ℕ) (r : Result T E) → Written a b p [] → q ≡ []
    → WritesPrefix b c bytes r → SendsFrom (a, p) (c, q) bytes r
far a b c p q bytes (Ok x) h e k = record {
  done = bytes;
  split = sym (append-nil bytes);
  written = subst (λ w. Written a c (p ++ bytes) w) (sym e) (written_on bytes [] (with_more bytes h) k);
}
far a b c p q bytes (Err x) h e k = record { part = part_on bytes (with_more bytes h) k }

-- all that was sent is written in the end, or a part of it
pub flushes : {T E : Type 0} (a b c : Option (List ℕ)) (q bytes : List ℕ) (r : Result T E) → Sent (a, []) (b, q) bytes []
    → WritesPrefix b c q r → WritesPrefix a c bytes r
flushes a b c q bytes (Ok x) h k = written_on q [] (subst (λ w. Written a b w q) (sym (h.split ∙ append-nil h.done)) h.written) k
flushes a b c q bytes (Err x) h k = part_on q (subst (λ w. Written a b w q) (sym (h.split ∙ append-nil h.done)) h.written) k

-- the same bytes
pub sends_same : {T E : Type 0} (old new : Output) (bs cs : List ℕ) (r : Result T E) → bs ≡ cs → SendsFrom old new cs r
    → SendsFrom old new bs r
sends_same old new bs cs r e h = subst (λ b. SendsFrom old new b r) (sym e) h

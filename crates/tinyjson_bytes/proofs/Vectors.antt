-- Bytes that are put by one vector or by two.
use Rattle.std.proofs.Common.{◌≡◌, ℕ, ◌+◌, ◌-◌, ◌≤◌, List, ◌++◌, length, take, drop, sym, ◌∙◌, ap, append_assoc, take-append-drop}
use Rattle.std.proofs.Common.{length-drop, arith}
use Rattle.std.proofs.Math.Seq.{take-append-add}
use Rattle.std.proofs.lemmas.List.{take_all, take-take, length-take-le}
use Rattle.std.proofs.lemmas.Simd.{take_more_put_chunk, length-chunk, length-put_chunk}
use Rattle.std.specs.Simd.Lanes.{chunk, put_chunk}

-- of what was put at the place only a prefix stays
pub front_stays : (old new run : List ℕ) (at k n : ℕ) → n ≤ k → at ≤ length old → take (at + k) new ≡ take at old ++ take k run
    → take (at + n) new ≡ take at old ++ take n run
front_stays old new run at k n le within e =
    let long = length-take-le at old within in
    sym (take-take (at + n) (at + k) new (omega arith)) ∙ ap (take (at + n)) e
    ∙ ap (λ j. take (j + n) (take at old ++ take k run)) (sym long)
    ∙ take-append-add (take at old) (take k run) n ∙ ap (λ x. take at old ++ x) (take-take n k run le)

-- a prefix of the chunk that was put
pub put_front : (size at : ℕ) (old bytes : List ℕ) → size ≤ length bytes → at + size ≤ length old → (n : ℕ) → n ≤ size
    → take (at + n) (put_chunk at old (chunk 0 size bytes)) ≡ take at old ++ take n bytes
put_front size at old bytes some room n le =
    let first = chunk 0 size bytes in
    let a : length first ≡ size = length-chunk 0 size bytes (omega arith) in
    front_stays old (put_chunk at old first) bytes at size n le (omega arith)
    (take_more_put_chunk at old first (at + size) (omega arith) (omega arith))

-- the first n bytes and the last n bytes are all
pub both_ends : (n at : ℕ) (old bytes : List ℕ) → n ≤ length bytes → length bytes ≤ n + n → at + length bytes ≤ length old
    → take (at + length bytes) (put_chunk (at + (length bytes - n)) (put_chunk at old (chunk 0 n bytes)) (chunk (length bytes - n) n bytes))
    ≡ take at old ++ bytes
both_ends n at old bytes low high buffer =
    let k = length bytes - n in
    let first = chunk 0 n bytes in
    let last = chunk k n bytes in
    let one = put_chunk at old first in
    let a : length first ≡ n = length-chunk 0 n bytes (omega arith) in
    let b : length last ≡ n = length-chunk k n bytes (omega arith) in
    let c = length-put_chunk at old first in
    take_more_put_chunk (at + k) one last (at + length bytes) (omega arith) (omega arith)
    ∙ ap (λ z. z ++ last) (front_stays old one bytes at n k (omega arith) (omega arith)
    (take_more_put_chunk at old first (at + n) (omega arith) (omega arith)))
    ∙ append_assoc (take at old) (take k bytes) last
    ∙ ap (λ z. take at old ++ (take k bytes ++ z)) (take_all n (drop k bytes) (omega (arith, length-drop k bytes)))
    ∙ ap (λ z. take at old ++ z) (take-append-drop k bytes)

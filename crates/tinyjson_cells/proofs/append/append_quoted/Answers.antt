use Rattle.std.proofs.Common.{◌++◌, ◌∷◌, [], ◌+◌, length, take, drop, ◌∙◌, ap, arith, List, ℕ}
use Rattle.tinyjson_cells.proofs.Appending.{front_stays, grows_by_a_mark}
use Rattle.tinyjson_cells.proofs.append.append_quoted.Goals as goal

pub returns : goal.returns
returns c =
    let old = c.args.text.now.items in
    let bytes = c.args.bytes.now in
    let inside = c.len-inside.result + 1 in
    let n = length bytes in
    let last = 34 ∷ c.args.behind ∷ [] in
    let l = c.extend_from_slice-2.new.self.len in
    let room = c.in_ok-extend_from_slice-2.ensures.len in
    let mid = c.extend_from_slice-2.new.self.items in
    let one = c.copy.new.target in
    let new : List ℕ = take l (one ++ drop (length one) mid) in
    let grown = grows_by_a_mark old mid _ c.len-inside.result (omega (arith, c.args.text.now.ok.0))
    c.in_ok-extend_from_slice-2.ensures.items in
    c.truncate.ensures.items ∙ front_stays c.copy-2.new.target new (inside + n + 2) l
    (c.copy-2.ensures.len ∙ c.as_mut_slice-2.ensures.len) (omega (arith, room, c.if-bytes-gt-SHORT.false))
    ∙ c.copy-2.ensures.copied
    ∙ ap (λ z. take (inside + n) z ++ last) c.as_mut_slice-2.ensures.value
    ∙ ap (λ z. z ++ last) (front_stays one mid (inside + n) l (c.copy.ensures.len ∙ c.as_mut_slice.ensures.len)
    (omega (arith, room, c.if-bytes-gt-SHORT.false))
    ∙ c.copy.ensures.copied ∙ ap (λ z. take inside z ++ bytes) c.as_mut_slice.ensures.value ∙ ap (λ z. z ++ bytes) grown)

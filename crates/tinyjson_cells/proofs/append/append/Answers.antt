use Rattle.std.proofs.Common.{◌++◌, ◌+◌, length, take, ◌∙◌, ap, arith}
use Rattle.std.proofs.lemmas.List.{take_at}
use Rattle.tinyjson_cells.proofs.Appending.{front_stays}
use Rattle.tinyjson_cells.proofs.append.append.Goals as goal

pub returns : goal.returns
returns c =
    let b = c.args.bytes.now in
    let at = c.len-at.result in
    c.truncate.ensures.items ∙ front_stays c.copy.new.target c.extend_from_slice-2.new.self.items (at + length b)
    c.extend_from_slice-2.new.self.len (c.copy.ensures.len ∙ c.as_mut_slice.ensures.len)
    (omega (arith, c.len-at.ensures, c.in_ok-extend_from_slice.ensures.len, c.if-bytes-gt-ROOM.false))
    ∙ c.copy.ensures.copied
    ∙ ap (λ z. take at z ++ b) (c.as_mut_slice.ensures.value ∙ c.in_ok-extend_from_slice.ensures.items)
    ∙ ap (λ z. z ++ b) (take_at c.args.text.now.items _ at (omega (arith, c.args.text.now.ok.0)))

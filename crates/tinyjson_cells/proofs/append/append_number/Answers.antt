use Rattle.std.proofs.Common.{◌≡◌, ◌++◌, ◌+◌, ◌-◌, ◌≤◌, length, take, drop, length-drop, sym, ◌∙◌, ap, ap₂, arith}
use Rattle.std.proofs.lemmas.List.{take_all, take_at}
use Rattle.std.proofs.lemmas.Str.{encodes-IsAscii}
use Rattle.tinyjson_number.specs.Text.{decimal_text}
use Rattle.tinyjson_number.proofs.Callers.{decimal_ascii}
use Rattle.tinyjson_cells.proofs.Appending.{part_stays}
use Rattle.tinyjson_cells.proofs.append.append_number.Goals as goal

pub returns-in-Some : goal.returns-in-Some
returns-in-Some c =
    let old = c.args.text.now.items in
    let at = c.len-at.result in
    let d = c.args.number.now in
    let mid = c.deref_mut.result.now in
    let new = c.write_short.new.buffer in
    let l = c.extend_from_slice.new.self.len in
    let room = c.in_ok-extend_from_slice.ensures.len in
    let here : length old ≡ at = omega (arith, c.args.text.now.ok.0) in
    let front : take at mid ≡ old = ap (take at) (c.deref_mut.ensures.value ∙ c.in_ok-extend_from_slice.ensures.items)
    ∙ take_at old _ at here in
    let size : length new ≡ length mid - at =
    c.write_short.ensures.len ∙ ap length (take_all (length mid - at) (drop at mid) (omega (arith, length-drop at mid)))
    ∙ length-drop at mid in
    let within : at + c.in-Some.count ≤ l = omega (arith, size, c.in-Some.ensures.text.0, c.deref_mut.ensures.len, room) in
    c.truncate.ensures.items
    ∙ part_stays (take at mid) new _ _ at c.in-Some.count l (ap length front ∙ here) c.in-Some.ensures.text.0 within
    ∙ ap₂ (λ x y. x ++ y) front
    (c.in-Some.ensures.text.1 ∙ sym (encodes-IsAscii (decimal_text d.decimal) (decimal_ascii d.decimal d.canonical)))

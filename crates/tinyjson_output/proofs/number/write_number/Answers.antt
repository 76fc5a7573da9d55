use Rattle.std.proofs.Common.{◌≡◌, ℕ, rules, List, [], ◌++◌, sym, ◌∙◌}
use Rattle.std.proofs.lemmas.Str.{encodes-IsAscii}
use Rattle.std.proofs.lemmas.Int.{to_z-of_z}
use Rattle.std.specs.Int.{w128}
use mir.Val.{SFits}
use Rattle.tinyjson_number.specs.Layout.{power_text, layout_text}
use Rattle.tinyjson_number.specs.Number.{Canonical}
use Rattle.tinyjson_number.specs.Text.{decimal_text}
use Rattle.tinyjson_number.specs.declared.text.Layout.{Layout}
use Rattle.tinyjson_number.proofs.Callers.{decimal_ascii}
use Rattle.tinyjson_output.specs.Buffer.{Output, Sent}
use Rattle.tinyjson_output.proofs.Sending.{goes, ends, fails, written_none}
use Rattle.tinyjson_output.proofs.Bytes.{enc}
use Rattle.tinyjson_output.proofs.number.write_number.Goals as goal

module _ (n : Canonical) (l : Layout) (is : layout_text l ≡ decimal_text n.decimal) where
  abbrev bytes : List ℕ
  bytes = enc (decimal_text n.decimal)

  at_sign : (old : Output) → Sent old old bytes (layout_text l)
  at_sign old = written_none old bytes (layout_text l) (encodes-IsAscii (decimal_text n.decimal) (decimal_ascii n.decimal n.canonical)
      ∙ sym is)

  at_front : {old s1 : Output} → Sent old s1 l.sign.now [] → Sent old s1 bytes
      (l.front.now ++ (l.middle.now ++ (l.back.now ++ power_text l.exponent)))
  at_front {old} sign = goes (l.front.now ++ (l.middle.now ++ (l.back.now ++ power_text l.exponent))) sign (at_sign old)

  at_middle : {old s1 s2 : Output} → Sent old s1 l.sign.now [] → Sent s1 s2 l.front.now []
      → Sent old s2 bytes (l.middle.now ++ (l.back.now ++ power_text l.exponent))
  at_middle sign front = goes (l.middle.now ++ (l.back.now ++ power_text l.exponent)) front (at_front sign)

  at_back : {old s1 s2 s3 : Output} → Sent old s1 l.sign.now [] → Sent s1 s2 l.front.now [] → Sent s2 s3 l.middle.now []
      → Sent old s3 bytes (l.back.now ++ power_text l.exponent)
  at_back sign front middle = goes (l.back.now ++ power_text l.exponent) middle (at_middle sign front)

  at_power : {old s1 s2 s3 s4 : Output} → Sent old s1 l.sign.now [] → Sent s1 s2 l.front.now [] → Sent s2 s3 l.middle.now []
      → Sent s3 s4 l.back.now [] → Sent old s4 bytes (power_text l.exponent)
  at_power sign front middle back = goes (power_text l.exponent) back (at_back sign front middle)

pub returns-in_err-write_bytes : goal.returns-in_err-write_bytes
returns-in_err-write_bytes g c =
    fails _ _ c.from_residual.ensures.0 c.in_err-write_bytes.ensures (at_sign c.args.number.now c.layout-layout.result
    c.layout-layout.ensures _)

pub returns-in_err-write_bytes-2 : goal.returns-in_err-write_bytes-2
returns-in_err-write_bytes-2 g c = fails _ _ c.from_residual-in_err-write_bytes-2.ensures.0 c.in_err-write_bytes-2.ensures
    (at_front c.args.number.now c.layout-layout.result c.layout-layout.ensures c.in_ok-write_bytes.ensures)

pub returns-in_err-write_bytes-3 : goal.returns-in_err-write_bytes-3
returns-in_err-write_bytes-3 g c = fails _ _ c.from_residual-in_err-write_bytes-3.ensures.0 c.in_err-write_bytes-3.ensures
    (at_middle c.args.number.now c.layout-layout.result c.layout-layout.ensures c.in_ok-write_bytes.ensures c.in_ok-write_bytes-2.ensures)

pub returns-in_err-write_bytes-4 : goal.returns-in_err-write_bytes-4
returns-in_err-write_bytes-4 g c = fails _ _ c.from_residual-in_err-write_bytes-4.ensures.0 c.in_err-write_bytes-4.ensures
    (at_back c.args.number.now c.layout-layout.result c.layout-layout.ensures c.in_ok-write_bytes.ensures c.in_ok-write_bytes-2.ensures
    c.in_ok-write_bytes-3.ensures)

pub returns-in-None : goal.returns-in-None
returns-in-None g c =
    let all = at_power c.args.number.now c.layout-layout.result c.layout-layout.ensures c.in_ok-write_bytes.ensures
    c.in_ok-write_bytes-2.ensures c.in_ok-write_bytes-3.ensures c.in_ok-write_bytes-4.ensures in
    rw c.in-None.is at all

pub returns-in-Some : goal.returns-in-Some
returns-in-Some g c =
    let all = at_power c.args.number.now c.layout-layout.result c.layout-layout.ensures c.in_ok-write_bytes.ensures
    c.in_ok-write_bytes-2.ensures c.in_ok-write_bytes-3.ensures c.in_ok-write_bytes-4.ensures in
    let fits : SFits w128 c.in-Some.exponent = search rules in
    ends _ _ _ _ _ _ c.write_exponent.ensures (rw (to_z-of_z w128 c.in-Some.exponent fits) (rw c.in-Some.is at all))

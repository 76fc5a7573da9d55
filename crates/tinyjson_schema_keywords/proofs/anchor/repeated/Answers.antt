use Rattle.std.proofs.Common.{◌≡◌, ◌≤◌, ◌-◌, ◌∙◌, true, false, Some, length, string_bytes, sym, ap, arith}
use Rattle.std.specs.BTreeSet as sorted
use Rattle.tinyjson_schema_keywords.specs.declared.anchor.Anchor.{Anchor}
use Rattle.tinyjson_schema_keywords.proofs.Naming.{kept_back, found_back, put_back, later_back}
use Rattle.tinyjson_schema_keywords.proofs.anchor.repeated.Goals as goal

pub loop-left-preserved-then-contains : goal.loop-left-preserved-then-contains
loop-left-preserved-then-contains c =
    let xs = c.args.anchors.now in
    let n = c.loop-left.left in
    let a = c.index-anchors-left.result in
    let s = c.loop-left.names in
    let before : n - 1 ≤ length xs = omega (arith, c.loop-left.invariant.0) in
    let there : sorted.contains_text s (string_bytes a.name.now) ≡ true =
    ap (λ (x : Anchor). sorted.contains_text s (string_bytes x.name.now)) c.index-anchors-left.is
    ∙ (ap (sorted.contains_text s) (sym c.as_str.ensures.value) ∙ sym c.contains.ensures ∙ c.if-contains.true) in (
      before,
      kept_back xs n a c.loop-left-test.true c.loop-left.invariant.0 c.index-anchors-left.is s c.loop-left.invariant.1 there,
      ap (λ (x : Anchor). Some (string_bytes x.name.now)) (sym c.index-anchors-left.is)
          ∙ found_back xs n a c.loop-left-test.true c.loop-left.invariant.0 c.index-anchors-left.is s c.loop-left.invariant.1 there,
    )

pub loop-left-preserved : goal.loop-left-preserved
loop-left-preserved c =
    let xs = c.args.anchors.now in
    let n = c.loop-left.left in
    let a = c.index-anchors-left.result in
    let s = c.loop-left.names in
    let before : n - 1 ≤ length xs = omega (arith, c.loop-left.invariant.0) in
    let new : sorted.contains_text s (string_bytes a.name.now) ≡ false =
    ap (λ (x : Anchor). sorted.contains_text s (string_bytes x.name.now)) c.index-anchors-left.is
    ∙ (ap (sorted.contains_text s) (sym c.as_str.ensures.value) ∙ sym c.contains.ensures ∙ c.if-contains.false) in (
      before,
      put_back xs n a c.loop-left-test.true c.loop-left.invariant.0 c.index-anchors-left.is s c.loop-left.invariant.1
          c.in_ok-word.word c.insert.new.self (c.in_ok-word.ensures.ok ∙ (c.as_str-else-contains.ensures.value
          ∙ sym (ap (λ (x : Anchor). string_bytes x.name.now) c.index-anchors-left.is))) c.in-Ok.ensures.updates,
      later_back xs n a c.loop-left-test.true c.loop-left.invariant.0 c.index-anchors-left.is s c.loop-left.invariant.1 _ new
          c.loop-left.invariant.2,
    )

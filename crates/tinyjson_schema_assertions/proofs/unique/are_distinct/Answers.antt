use Rattle.std.proofs.Common.{◌≡◌, ◌∙◌, Bool, true, false, not, string_bytes, refl, sym, ap}
use Rattle.std.specs.BTreeSet as sorted
use Rattle.tinyjson_schema_keywords.proofs.Callers.{drop_end}
use Rattle.tinyjson_view.proofs.Callers.{view_compact}
use Rattle.tinyjson_schema_assertions.proofs.SeenTexts.{key_of, seen, first_distinct, next_left, old_left, none_left}
use Rattle.tinyjson_schema_assertions.proofs.unique.are_distinct.Goals as goal

pub loop-value-init : goal.loop-value-init
loop-value-init c = first_distinct c.new-texts.result c.args.values.now c.new-texts.ensures.empty

pub returns-then-not-added : goal.returns-then-not-added
returns-then-not-added c =
    let s = c.loop-value.texts in
    let v = c.value-item.result in
    let key = c.in_ok-text.text in
    let is : string_bytes key ≡ key_of v = view_compact key v c.in_ok-text.ensures in
    let added : c.in-Ok.added ≡ not (sorted.contains_text s (string_bytes key)) = c.in-Ok.ensures.added in
    let old : seen s v ≡ true = ap (sorted.contains_text s) (sym is) ∙ not_false _ (sym added ∙ c.if-not-added.true) in
    sym (old_left s c.args.values.now c.loop-value.value-index v _ c.loop-value-test.true c.value-item.is old c.loop-value.invariant)
  where
    not_false : (b : Bool) → not b ≡ false → b ≡ true
    not_false true h = refl
    not_false false h = cc

pub loop-value-preserved : goal.loop-value-preserved
loop-value-preserved c =
    let s = c.loop-value.texts in
    let v = c.value-item.result in
    let key = c.in_ok-text.text in
    let is : string_bytes key ≡ key_of v = view_compact key v c.in_ok-text.ensures in
    let added : c.in-Ok.added ≡ not (sorted.contains_text s (string_bytes key)) = c.in-Ok.ensures.added in
    let new : seen s v ≡ false = ap (sorted.contains_text s) (sym is) ∙ not_true _ (sym added ∙ c.if-not-added.false) in
    next_left s c.insert.new.self key v is c.in-Ok.ensures.updates c.args.values.now c.loop-value.value-index _ c.loop-value-test.true
    c.value-item.is new c.loop-value.invariant
  where
    not_true : (b : Bool) → not b ≡ true → b ≡ false
    not_true true h = cc
    not_true false h = refl

pub returns : goal.returns
returns c = none_left c.loop-value.texts c.args.values.now _ _ (drop_end c.args.values.now c.loop-value.value-index c.loop-value-test.false)
    c.loop-value.invariant

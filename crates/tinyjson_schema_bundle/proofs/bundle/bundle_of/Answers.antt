use Rattle.std.proofs.Common.{◌≤◌, ◌∙◌, [], length, map, sym, ap, subst, arith}
use Rattle.tinyjson.specs.View.{view}
use Rattle.tinyjson_schema_bundle.specs.Bundles.{all_marked, places_in}
use Rattle.tinyjson_schema_bundle.specs.Scopes.{reached_of, HaveScopes}
use Rattle.tinyjson_schema_bundle.proofs.Copying.{are_copies}
use Rattle.tinyjson_schema_bundle.proofs.Pointing.{no_bundle, bundle_made}
use Rattle.tinyjson_schema_bundle.proofs.bundle.bundle_of.Goals as goal

pub returns-then-not-is_bundle : goal.returns-then-not-is_bundle
returns-then-not-is_bundle c = (
  [],
  no_bundle (view c.args.document.now) (all_marked c.as_slice-marks.result.now)
      (ap all_marked c.as_slice-marks.ensures.value ∙ c.in_ok-gathered.ensures)
      (sym c.is_bundle.ensures ∙ c.if-not-is_bundle.true),
  record { few = omega arith; scopes = tt },
)

pub returns : goal.returns
returns c =
    let ms = all_marked c.as_slice-marks.result.now in
    let ss = map reached_of c.as_slice.result.now in
    let r = c.as_str-root.result.now in
    let marks = ap all_marked c.as_slice-marks.ensures.value ∙ c.in_ok-gathered.ensures in
    let root = c.as_str-root.ensures.value ∙ c.in_ok-uri.ensures in (
      ss,
      c.in_ok-with_copies.ensures ∙ bundle_made (view c.args.document.now) ms r c.as_str-letters.result.now
          c.in_ok-contested.contested (places_in c.in_ok-places.places) ss marks
          (sym c.is_bundle.ensures ∙ c.if-not-is_bundle.false) root
          (c.as_str-letters.ensures.value ∙ c.in_ok-letters.ensures) c.in_ok-contested.ensures c.in_ok-places.ensures,
      are_copies (view c.args.document.now) ms r ss marks root
          (subst (λ xs. (length (map reached_of xs) ≤ 1000) × HaveScopes ms r (map reached_of xs)) (sym c.as_slice.ensures.value)
          c.in_ok-copies.ensures),
    )

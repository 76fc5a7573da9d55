use Rattle.std.proofs.Common.{◌∙◌, ap, subst}
use Rattle.std.specs.Prelude.{OnOk}
use Rattle.tinyjson.specs.View.{view}
use Rattle.tinyjson_schema_bundle.specs.Bundles.{Gathers, name_marks}
use Rattle.tinyjson_schema_bundle.proofs.Marking.{own_name}
use Rattle.tinyjson_schema_bundle.proofs.mark.gather_own.Goals as goal

pub returns-in-Anchor : goal.returns-in-Anchor
returns-in-Anchor c =
    let b = c.args.spot.base.now in
    let p = c.args.spot.place.now in
    let x = c.args.part in
    subst (λ ms. OnOk c.gather_name.result (Gathers ms c.args.marks.now.items c.gather_name.new.marks.items))
    (ap (λ k. name_marks k b p (view x.value.now)) c.name_kind.ensures
    ∙ own_name b p x c.in-Key.name c.as_str.result.now c.in-Key.is c.in-Anchor.is c.as_str.ensures.value) c.gather_name.ensures

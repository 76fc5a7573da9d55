use Rattle.std.proofs.Common.{◌∙◌, ap, map, sym, subst}
use Rattle.std.specs.Option.{option_map_or}
use Rattle.tinyjson.specs.View.{view}
use Rattle.tinyjson_schema_drafts.specs.Meta.{published}
use Rattle.tinyjson_schema_drafts.specs.References.{wanted, EmbedsAll, HasMetaSchemas, seen}
use Rattle.tinyjson_schema_drafts.proofs.Embedding.{none_left, none_wanted, some_wanted}
use Rattle.tinyjson_schema_drafts.proofs.compound.with_meta_schemas.Goals as goal

pub returns-then-is_empty-clause-ok : goal.returns-then-is_empty-clause-ok
returns-then-is_empty-clause-ok c =
    let k = c.in_ok-bundle.ensures in
    let d = seen c.args.compound in
    let b = option_map_or view c.in_ok-bundle.bundle (view c.args.compound.tree) in
    subst (HasMetaSchemas d) (sym c.in_its_place.ensures)
    (none_wanted d b c.in_ok-documents.documents.items k.0 k.1 k.2
    (c.in_ok-documents.ensures ∙ ap (wanted (view c.args.compound.tree)) c.bundle_or-single.ensures)
    (sym c.as_slice.ensures.value ∙ none_left c.is_empty.result c.as_slice.result.now c.is_empty.ensures c.if-is_empty.true))

pub returns-clause-ok : goal.returns-clause-ok
returns-clause-ok c =
    let k = c.in_ok-bundle.ensures in
    let d = seen c.args.compound in
    let e = seen c.in_ok-whole.whole in
    let b = option_map_or view c.in_ok-bundle.bundle (view c.args.compound.tree) in
    let t = option_map_or view c.in_ok-bundle-2.bundle (view c.in_ok-whole.whole.tree) in
    let n = c.in_ok-bundle-2.ensures in
    subst (HasMetaSchemas d) (sym c.in_its_place-2.ensures)
    (some_wanted d b c.in_ok-documents.documents.items k.0 k.1 k.2
    (c.in_ok-documents.ensures ∙ ap (wanted (view c.args.compound.tree)) c.bundle_or-single.ensures) e t
    n.0 (subst (λ ms. EmbedsAll (map published ms) d e) c.as_slice-2.ensures.value c.in_ok-whole.ensures.ok) n.1 n.2)

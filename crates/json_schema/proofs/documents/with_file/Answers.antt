use Rattle.std.proofs.Common.{◌≡◌, ◌∙◌, ap, sym, string_bytes}
use Rattle.tinyjson.specs.View.{view}
use Rattle.tinyjson_schema_drafts.specs.Documents.{has_definition}
use Rattle.tinyjson_schema_drafts.specs.References.{embed, seen}
use Rattle.json_schema.specs.Meta.{with_ways}
use Rattle.json_schema.proofs.documents.with_file.Goals as goal

pub returns : goal.returns
returns c =
    let located = c.args.document.now.is_located in
    let tree = view c.in_ok-tree.tree in
    let uri : c.as_str-uri.result.now ≡ string_bytes c.args.document.now.uri = c.as_str-uri.ensures.value in (
      ap (has_definition (view c.args.compound.tree)) (sym uri) ∙ (sym c.has_definition.ensures ∙ c.if-has_definition.false),
      (
        tree,
        c.in_ok-with_ways.ensures ∙ (ap (with_ways located c.as_str-uri.result.now) c.in_ok-compound.ensures
            ∙ ap (λ u. with_ways located u (embed c.args.default u tree (seen c.args.compound))) uri),
      ),
    )

use Rattle.std.proofs.Common.{◌∙◌, codes, ap}
use Rattle.tinyjson.specs.View.{view}
use Rattle.tinyjson_schema_drafts.specs.Documents.{found_at}
use Rattle.tinyjson_cli.specs.Folders.{join_path}
use Rattle.json_schema.proofs.documents.found_in.Goals as goal

pub returns : goal.returns
returns c =
    let s = view c.args.compound.tree in
    let uri = c.as_str.ensures.value ∙ (c.in_ok-uri.ensures ∙ ap (join_path (codes "/")) c.plain.ensures) in
    ap (λ t. (t, c.args.compound.is_older)) (c.in_ok-tree.ensures ∙ ap (λ u. found_at u s) uri)

use Rattle.std.proofs.Common.{[]}
use Rattle.tinyjson_document.specs.Document.{tree}
use Rattle.tinyjson_patch.specs.Merge.{merge_patch}
use Rattle.json_merge.proofs.Applying.{unwritten}
use Rattle.json_merge.proofs.apply.write_merged.Goals as goal

pub merge_into-requires : goal.merge_into-requires
merge_into-requires g c = (c.new-text.result, [], c.new-text.ensures)

pub returns : goal.returns
returns g c =
    c.write_line_to.ensures (merge_patch (tree c.args.target) (tree c.args.patch))
    (c.in_ok-merge_into.ensures c.new-text.result [] c.new-text.ensures)

pub returns-in_err-merge_into : goal.returns-in_err-merge_into
returns-in_err-merge_into g c = unwritten _ _ c.from_residual.result c.from_residual.ensures.0

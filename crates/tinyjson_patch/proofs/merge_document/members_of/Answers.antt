use Rattle.std.proofs.Common.{ap, sym, ◌∙◌, option_map, unwrap_or}
use Rattle.tinyjson.specs.Tree.{null}
use Rattle.tinyjson_document.specs.Document.{tree}
use Rattle.tinyjson_patch.specs.Merge.{members_of}
use Rattle.tinyjson_patch.proofs.MergingDocuments.{had_of}
use Rattle.tinyjson_patch.proofs.merge_document.members_of.Goals as goal

pub returns-in-Some : goal.returns-in-Some
returns-in-Some c =
    had_of tree c.in-Some.node c.members.result c.members.ensures
    ∙ ap (λ o. members_of (unwrap_or (option_map tree o) null)) (sym c.in-Some.is)

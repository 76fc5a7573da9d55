use Rattle.tinyjson_path.proofs.Waits.{first_strings}
use Rattle.tinyjson_path.proofs.Within.{among, within_same}
use Rattle.tinyjson_path.specs.Strings.{strings_in}
use Rattle.tinyjson_path.specs.Waiting.{waits_strings, waits_view}
use Rattle.tinyjson_view.specs.Views.{tree_of}
use Rattle.tinyjson_path.proofs.selection.Selection.below.Goals as goal

pub invariant_of-result : goal.invariant_of-result
invariant_of-result c =
    let ws = waits_view c.in_ok-waiting.waiting.items in
    let root = tree_of c.args.root in
    record {
      within = among (waits_strings ws) (strings_in root)
          (within_same (waits_strings ws) (strings_in root) (first_strings ws root c.in_ok-waiting.ensures));
    }

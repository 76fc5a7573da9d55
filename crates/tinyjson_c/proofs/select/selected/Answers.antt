use Rattle.std.proofs.Common.{Some}
use Rattle.tinyjson_c.proofs.Selecting.{selects, unselected}
use Rattle.tinyjson_c.proofs.select.selected.Goals as goal

pub returns-in-Ok-push_selected : goal.returns-in-Ok-push_selected
returns-in-Ok-push_selected c =
    selects (Some c.args.depth) c.args.text.now c.args.query.now c.new-written.result.items c.push_selected.new.written.items c.args.paths
    c.in-Ok.query c.in-Ok.ensures c.new-written.ensures.items c.in-Ok-push_selected.ensures

pub returns : goal.returns
returns c =
    unselected (Some c.args.depth) c.args.text.now c.args.query.now c.in-Ok.query c.in-Err-push_selected.error c.in-Ok.ensures
    c.in-Err-push_selected.ensures

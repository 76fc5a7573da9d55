use Rattle.std.proofs.Common.{map}
use Rattle.tinyjson.proofs.Callers.{view_IsTree}
use Rattle.tinyjson.specs.View.{view}
use Rattle.tinyjson_pointer.specs.Tokens.{tokens_of}
use Rattle.tinyjson_patch.proofs.Turns.{beside_run}
use Rattle.tinyjson_patch.specs.Operation.{action_of}
use Rattle.tinyjson_patch.proofs.run.apply_beside.Goals as goal

pub returns : goal.returns
returns c =
    beside_run c.args.total (map action_of c.args.others.now) (view c.args.value.now) (view c.take_items.new.value)
    (view c.put_items.new.value) (tokens_of c.path-place.result.now) c.in-Some.items.items c.in_ok-unboxed.field-0.items
    c.in_ok-boxes.boxes.items c.apply_among-answer.new.items.items c.apply_among-answer.result (view_IsTree c.args.value.now)
    c.in-Some.ensures c.put_items.ensures c.in_ok-boxes.ensures c.in_ok-unboxed.ensures c.apply_among-answer.ensures

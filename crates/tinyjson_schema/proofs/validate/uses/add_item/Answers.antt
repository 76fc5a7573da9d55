use Rattle.std.proofs.Common.{sym}
use Rattle.tinyjson.specs.View.{view}
use Rattle.tinyjson_schema.proofs.Alternatives.{prefix_known}
use Rattle.tinyjson_schema.proofs.validate.uses.add_item.Goals as goal

pub invariant_of-one : goal.invariant_of-one
invariant_of-one c =
    let here = c.args.here.now in
    let s = view here.schema.now in
    record {
      same = prefix_known s c.args.index (view c.in-Some.part.now) c.known_part-known.result (sym c.in-Some.ensures)
          (c.known_part-known.ensures s here.same);
    }

pub invariant_of-one-2 : goal.invariant_of-one-2
invariant_of-one-2 c = record { same = c.in-Some-part.part.same }

use Rattle.std.proofs.Common.{◌≡◌, ◌<◌, ◌∙◌, arith, rules, ap, sym, subst}
use Rattle.tinyjson.specs.Tree.{tree_depth}
use Rattle.tinyjson.specs.View.{view}
use Rattle.tinyjson_schema_keywords.specs.Subschemas.{all_parts, parts_of}
use Rattle.tinyjson_schema_keywords.proofs.Stepping.{part_depth, part_gathered, parts_gathered}
use Rattle.tinyjson_schema_keywords.proofs.subschemas.+gather.Goals as goal

pub gather-requires : goal.gather-requires
gather-requires t c =
    let p = c.part-item.result in
    let all : all_parts c.as_slice-part-items.result.now ≡ parts_of c.args.form (view c.args.value.now)
    = ap all_parts c.as_slice-part-items.ensures.value ∙ c.in_ok-parts.ensures in
    let smaller : tree_depth (view p.value.now) < tree_depth (view c.args.value.now)
    = part_depth c.args.form c.args.value.now _ c.loop-part.part-index p all c.loop-part-test.true c.part-item.is in
    search rules

pub loop-part-preserved : goal.loop-part-preserved
loop-part-preserved t c =
    part_gathered c.args.form (view c.args.value.now) c.as_slice-part-items.result.now c.loop-part.part-index c.args.found.now.items
    c.loop-part.found.items c.loop-part.invariant c.part-item.result c.gather_own.new.found.items c.gather.new.found.items
    c.loop-part-test.true c.part-item.is c.in_ok-gather_own.ensures c.in_ok-gather.ensures

pub returns : goal.returns
returns t c =
    parts_gathered c.args.form (view c.args.value.now) c.as_slice-part-items.result.now c.loop-part.part-index c.args.found.now.items
    c.loop-part.found.items c.loop-part.invariant _ c.loop-part-test.false c.as_slice-part-items.ensures.value c.in_ok-parts.ensures

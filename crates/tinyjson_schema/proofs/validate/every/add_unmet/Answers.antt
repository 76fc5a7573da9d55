use Rattle.std.proofs.Common.{refl}
use Rattle.tinyjson.specs.View.{view}
use Rattle.tinyjson_view.specs.Views.{tree_of}
use Rattle.tinyjson_schema_keywords.specs.declared.keyword.Keyword.{Keyword}
use Rattle.tinyjson_schema_assertions.specs.Assertions.{meets}
use Rattle.tinyjson_schema.specs.Every.{failing}
use Rattle.tinyjson_schema.proofs.Adding.{failing_turn, gather_end}
use Rattle.tinyjson_schema.proofs.validate.every.add_unmet.Goals as goal

pub loop-keyword-preserved : goal.loop-keyword-preserved
loop-keyword-preserved c =
    let s = view c.args.here.now.schema.now in
    let v = tree_of c.args.value.now in
    failing_turn (λ (k : Keyword). meets k s v) c.args.keywords.now c.loop-keyword.keyword-index _ c.in_ok-is_met.is_met
    c.loop-keyword.unmet.items c.add_unless.new.unmet.items _ c.loop-keyword-test.true c.in_ok-is_met.ensures
    c.in_ok-add_unless.ensures c.loop-keyword.invariant

pub returns : goal.returns
returns c =
    let s = view c.args.here.now.schema.now in
    let v = tree_of c.args.value.now in
    gather_end (failing (λ (k : Keyword). meets k s v)) c.args.keywords.now c.loop-keyword.keyword-index _ c.loop-keyword.unmet.items
    c.loop-keyword-test.false refl c.loop-keyword.invariant

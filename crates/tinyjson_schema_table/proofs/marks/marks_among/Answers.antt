use Rattle.std.proofs.Common.{ap, ◌∙◌}
use Rattle.tinyjson_schema_table.specs.Marks.{mark}
use Rattle.tinyjson_schema_table.proofs.Marking.{marked_turn}
use Rattle.tinyjson_schema_table.proofs.marks.marks_among.Goals as goal

pub loop-key-preserved : goal.loop-key-preserved
loop-key-preserved c bs h = marked_turn c.loop-key.key-iterator c.next.new.self c.in-Some.key.now c.in-Some.field-0-1.now
    c.loop-key.marks c.mark.result _ bs c.in-Some.ensures.steps (c.mark.ensures.is ∙ ap mark c.as_str.ensures.value)
    c.mark.ensures.below (c.loop-key.invariant bs) h

use Rattle.std.proofs.Common.{None}
use Rattle.tinyjson_grammar.specs.Text.{text}
use Rattle.tinyjson.specs.View.{view}
use Rattle.tinyjson_output.specs.Buffer.{buffered}
use Rattle.tinyjson.proofs.Writing.Runs.{taken_back, member_buffered}
use Rattle.tinyjson.proofs.generator.quick.quick_member.Goals as goal

pub returns-then-quick_value : goal.returns-then-quick_value
returns-then-quick_value c = λ k.
    let quick = rw c.if-not-quick_key.false at c.quick_key.ensures in (
      quick.0,
      member_buffered k c.args.first c.args.key.now (text None k (view c.args.value.now))
          (buffered c.args.buffer.now) _ _ c.utf8.key quick.1 (rw c.if-quick_value.true at (c.quick_value.ensures None k)),
    )

pub returns : goal.returns
returns c = λ k.
    let quick = rw c.if-not-quick_key.false at c.quick_key.ensures in
    let stays = rw c.if-quick_value.false at (c.quick_value.ensures None k) in
    taken_back (buffered c.args.buffer.now) _ _ _ _ _ c.len-len.ensures c.truncate.ensures stays quick.1

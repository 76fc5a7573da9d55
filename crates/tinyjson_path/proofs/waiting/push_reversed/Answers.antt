use Rattle.std.proofs.Common.{refl, rules, subst}
use Rattle.tinyjson_path.proofs.Repeating.{marks_first, marks_more, marks_last}
use Rattle.tinyjson_path.proofs.Waits.{put_behind}
use Rattle.tinyjson_path.specs.Waiting.{HasTwin}
use Rattle.tinyjson_path.proofs.waiting.push_reversed.Goals as goal

pub loop-node-init : goal.loop-node-init
loop-node-init c = record {
  view = refl;
  marks = λ p h. marks_first p c.args.waiting.now.items c.args.segment c.args.nodes.items h;
}

pub loop-node-preserved : goal.loop-node-preserved
loop-node-preserved c =
    let nodes = c.loop-node.nodes.items in
    let front = c.pop.new.self.items in
    let n = c.in-Some.node in
    let old = c.loop-node.waiting.items in
    let new = c.push.new.self.items in
    let b = c.is_repeated-repeats.result in record {
      view = put_behind nodes front n old new c.args.segment b _ c.in-Some.ensures.items c.in_ok-push.ensures.items
          c.loop-node.invariant.view;
      marks = λ p h. marks_more p nodes front n c.args.waiting.now.items old new c.args.segment b c.in-Some.ensures.items
          c.in_ok-push.ensures.items (λ t. subst (HasTwin n) c.as_slice.ensures.value (c.is_repeated-repeats.ensures t))
          (c.loop-node.invariant.marks p h);
    }

pub returns-clause-marked : goal.returns-clause-marked
returns-clause-marked c = λ p h.
    marks_last p c.args.waiting.now.items c.loop-node.waiting.items c.args.segment c.loop-node.nodes.items (search rules)
    (c.loop-node.invariant.marks p h)

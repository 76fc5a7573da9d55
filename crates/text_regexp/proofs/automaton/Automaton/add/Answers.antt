use Rattle.std.proofs.Common.{arith}
use Rattle.text_regexp.proofs.Automata.{added_few, added_known, added_next, added_right, added_rows, ok_from}
use Rattle.text_regexp.proofs.automaton.Automaton.add.Goals as goal

pub invariant_of-self : goal.invariant_of-self
invariant_of-self c =
    let x = c.args.self.now in record {
      few = added_few x.expression.root x.states.items _ x.steps.items c.args.state x.right c.requires.right x.known _ c.push.ensures.items
          c.requires.room;
      right = added_right x.expression.root x.states.items _ x.steps.items c.args.state x.right c.requires.right x.known _ c.push.ensures.items;
      known = added_known x.expression.root x.states.items _ x.steps.items c.args.state x.right c.requires.right x.known _ c.push.ensures.items;
    }

pub invariant_of-self-2 : goal.invariant_of-self-2
invariant_of-self-2 c =
    let x = c.args.self.now in record {
      few = added_few x.expression.root x.states.items _ x.steps.items c.args.state x.right c.requires.right x.known _ c.push.ensures.items
          c.requires.room;
      right = added_right x.expression.root x.states.items _ x.steps.items c.args.state x.right c.requires.right x.known _ c.push.ensures.items;
      known = added_known x.expression.root x.states.items _ x.steps.items c.args.state x.right c.requires.right x.known _ c.push.ensures.items;
    }

pub returns-then-is_err-clause-rows : goal.returns-then-is_err-clause-rows
returns-then-is_err-clause-rows c =
    let x = c.args.self.now in
    added_rows x.expression.root x.states.items _ x.steps.items c.args.state x.right c.requires.right x.known _ c.push.ensures.items

pub returns-then-is_err-2-clause-rows : goal.returns-then-is_err-2-clause-rows
returns-then-is_err-2-clause-rows c =
    let x = c.args.self.now in
    added_rows x.expression.root x.states.items _ x.steps.items c.args.state x.right c.requires.right x.known _ c.push.ensures.items

pub returns-clause-rows : goal.returns-clause-rows
returns-clause-rows c =
    let x = c.args.self.now in
    added_rows x.expression.root x.states.items _ x.steps.items c.args.state x.right c.requires.right x.known _ c.push.ensures.items

pub returns-clause-next : goal.returns-clause-next
returns-clause-next c =
    let x = c.args.self.now in
    added_next x.expression.root x.states.items _ x.steps.items c.args.state x.right c.requires.right x.known _ c.len-row.result
    c.push.ensures.items (ok_from c.push.result c.if-is_err.ensures.value) (omega (arith, c.len-row.ensures))

use Rattle.std.proofs.Common.{◌≡◌, ◌+◌, ◌∙◌, false, refl, sym, length, arith}
use Rattle.std.proofs.lemmas.Result.{MatchResult-from_err}
use Rattle.tinyjson.specs.Indent.{indent_of}
use Rattle.tinyjson_output.proofs.Callers.{sent_begins as begins, sent_buffered}
use Rattle.tinyjson_document.specs.Walking.{holds_others}
use Rattle.tinyjson_document.proofs.Writing.{next_item, one_more}
use Rattle.tinyjson_document.proofs.Passing.{item_fails, item_passed, fewer_items}
use Rattle.tinyjson_document.proofs.Buffering.{sent_after, part_after, first_fails, second_fails, both_sent}
use Rattle.tinyjson_document.proofs.walk.Walk.pass_items.Goals as goal

pub loop-node-init : goal.loop-node-init
loop-node-init g c = (refl, refl, refl, refl, λ xs h. record { left = xs; are_left = h; sent = begins }, λ f. omega arith)

pub returns-then-holds_others-clause-sent : goal.returns-then-holds_others-clause-sent
returns-then-holds_others-clause-sent g c = λ xs h.
    let p = c.loop-node.invariant.4 xs h in record { left = p.left; are_left = p.are_left; sent = p.sent }

pub returns-in_err-separate-clause-sent : goal.returns-in_err-separate-clause-sent
returns-in_err-separate-clause-sent g c = λ xs h.
    let a = c.args.self.now in
    let k = c.len-level.result + 1 in
    let l : c.len-level.result ≡ length a.stack.items = omega (arith, a.stack.ok.0, c.len-level.ensures) in
    let p = c.loop-node.invariant.4 xs h in
    let n = next_item (indent_of a.indent) a.store.now c.in-Some.node.now c.in-Some.others.now c.loop-node.rest.now
    c.loop-node.first _ k p.left (one_more a.stack.items c.len-level.result l) c.in-Some.ensures.cases.0 p.are_left in
    let leaf : holds_others c.in-Some.node.now ≡ false = sym c.holds_others.ensures ∙ c.if-holds_others.false in
    let quick = c.quick_item.ensures n.tree leaf n.is in
    let same = rw c.if-not-quick_item.true at quick in
    MatchResult-from_err _ _ _ c.from_residual.ensures.0
    (λ _. item_fails (indent_of a.indent) a.store.now xs _ _ _ _ _ k p n
    (first_fails _ _ (part_after _ _ same c.in_err-separate.ensures)))

pub returns-in_err-write_leaf-clause-sent : goal.returns-in_err-write_leaf-clause-sent
returns-in_err-write_leaf-clause-sent g c = λ xs h.
    let a = c.args.self.now in
    let k = c.len-level.result + 1 in
    let l : c.len-level.result ≡ length a.stack.items = omega (arith, a.stack.ok.0, c.len-level.ensures) in
    let p = c.loop-node.invariant.4 xs h in
    let n = next_item (indent_of a.indent) a.store.now c.in-Some.node.now c.in-Some.others.now c.loop-node.rest.now
    c.loop-node.first _ k p.left (one_more a.stack.items c.len-level.result l) c.in-Some.ensures.cases.0 p.are_left in
    let leaf : holds_others c.in-Some.node.now ≡ false = sym c.holds_others.ensures ∙ c.if-holds_others.false in
    let quick = c.quick_item.ensures n.tree leaf n.is in
    let same = rw c.if-not-quick_item.true at quick in
    MatchResult-from_err _ _ _ c.from_residual-in_err-write_leaf.ensures.0
    (λ _. item_fails (indent_of a.indent) a.store.now xs _ _ _ _ _ k p n
    (second_fails _ _ (sent_after _ _ same c.in_ok-separate.ensures) (c.in_err-write_leaf.ensures (indent_of a.indent) k n.tree leaf n.is)))

pub loop-node-preserved : goal.loop-node-preserved
loop-node-preserved g c =
    let i = c.loop-node.invariant in (
      i.0,
      i.1,
      i.2,
      i.3,
      λ xs h.
          let a = c.args.self.now in
          let k = c.len-level.result + 1 in
          let l : c.len-level.result ≡ length a.stack.items = omega (arith, a.stack.ok.0, c.len-level.ensures) in
          let p = c.loop-node.invariant.4 xs h in
          let n = next_item (indent_of a.indent) a.store.now c.in-Some.node.now c.in-Some.others.now c.loop-node.rest.now
          c.loop-node.first _ k p.left (one_more a.stack.items c.len-level.result l) c.in-Some.ensures.cases.0 p.are_left in
          let leaf : holds_others c.in-Some.node.now ≡ false = sym c.holds_others.ensures ∙ c.if-holds_others.false in
          let quick = c.quick_item.ensures n.tree leaf n.is in
          item_passed (indent_of a.indent) a.store.now xs _ _ _ _ _ k p n
          (sent_buffered _ _ _ _ (rw c.if-not-quick_item.false at quick)),
      fewer_items c.args.self.now.store.now c.in-Some.node.now c.in-Some.others.now c.loop-node.rest.now c.args.items.now
          c.in-Some.ensures.cases.0 i.5,
    )

pub loop-node-preserved-in_ok-write_leaf : goal.loop-node-preserved-in_ok-write_leaf
loop-node-preserved-in_ok-write_leaf g c =
    let i = c.loop-node.invariant in (
      i.0,
      i.1,
      i.2,
      i.3,
      λ xs h.
          let a = c.args.self.now in
          let k = c.len-level.result + 1 in
          let l : c.len-level.result ≡ length a.stack.items = omega (arith, a.stack.ok.0, c.len-level.ensures) in
          let p = c.loop-node.invariant.4 xs h in
          let n = next_item (indent_of a.indent) a.store.now c.in-Some.node.now c.in-Some.others.now c.loop-node.rest.now
          c.loop-node.first _ k p.left (one_more a.stack.items c.len-level.result l) c.in-Some.ensures.cases.0 p.are_left in
          let leaf : holds_others c.in-Some.node.now ≡ false = sym c.holds_others.ensures ∙ c.if-holds_others.false in
          let quick = c.quick_item.ensures n.tree leaf n.is in
          item_passed (indent_of a.indent) a.store.now xs _ _ _ _ _ k p n
          (both_sent _ _ (sent_after _ _ (rw c.if-not-quick_item.true at quick) c.in_ok-separate.ensures)
          (c.in_ok-write_leaf.ensures (indent_of a.indent) k n.tree leaf n.is)),
      fewer_items c.args.self.now.store.now c.in-Some.node.now c.in-Some.others.now c.loop-node.rest.now c.args.items.now
          c.in-Some.ensures.cases.0 i.5,
    )

pub returns-clause-sent : goal.returns-clause-sent
returns-clause-sent g c = λ xs h.
    let p = c.loop-node.invariant.4 xs h in record { left = p.left; are_left = p.are_left; sent = p.sent }

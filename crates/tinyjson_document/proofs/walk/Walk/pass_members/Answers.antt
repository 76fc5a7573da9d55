use Rattle.std.proofs.Common.{◌≡◌, ◌+◌, ◌∙◌, false, refl, sym, length, arith}
use Rattle.std.proofs.lemmas.Result.{MatchResult-from_err}
use Rattle.tinyjson.specs.Indent.{indent_of}
use Rattle.tinyjson_output.proofs.Callers.{sent_begins as begins, sent_buffered}
use Rattle.tinyjson_document.specs.Walking.{holds_others}
use Rattle.tinyjson_document.proofs.Writing.{next_member, one_more}
use Rattle.tinyjson_document.proofs.Passing.{member_fails, member_passed, fewer_members}
use Rattle.tinyjson_document.proofs.Buffering.{sent_after, part_after, first_fails, second_fails, both_sent}
use Rattle.tinyjson_document.proofs.walk.Walk.pass_members.Goals as goal

pub loop-member-init : goal.loop-member-init
loop-member-init g c = (refl, refl, refl, refl, λ xs h. record { left = xs; are_left = h; sent = begins }, λ f. omega arith)

pub returns-then-holds_others-clause-sent : goal.returns-then-holds_others-clause-sent
returns-then-holds_others-clause-sent g c = λ xs h.
    let p = c.loop-member.invariant.4 xs h in record { left = p.left; are_left = p.are_left; sent = p.sent }

pub returns-then-holds_others-clause-less : goal.returns-then-holds_others-clause-less
returns-then-holds_others-clause-less g c = λ f. omega (arith, c.loop-member.invariant.5 f)

pub returns-in_err-begin_member-clause-sent : goal.returns-in_err-begin_member-clause-sent
returns-in_err-begin_member-clause-sent g c = λ xs h.
    let a = c.args.self.now in
    let k = c.len-level.result + 1 in
    let l : c.len-level.result ≡ length a.stack.items = omega (arith, a.stack.ok.0, c.len-level.ensures) in
    let p = c.loop-member.invariant.4 xs h in
    let n = next_member (indent_of a.indent) a.store.now c.in-Some.member.now c.in-Some.others.now c.loop-member.rest.now
    c.loop-member.first _ k p.left (one_more a.stack.items c.len-level.result l) c.in-Some.ensures.cases.0 p.are_left in
    let leaf : holds_others c.in-Some.member.now.value ≡ false = sym c.holds_others.ensures ∙ c.if-holds_others.false in
    let quick = c.quick_member.ensures n.key n.tree leaf n.is_key n.is in
    let same = rw c.if-not-quick_member.true at quick in
    MatchResult-from_err _ _ _ c.from_residual.ensures.0
    (λ _. member_fails (indent_of a.indent) a.store.now xs _ _ _ _ _ k p n
    (first_fails _ _ (part_after _ _ same (c.in_err-begin_member.ensures n.key n.is_key))))

pub returns-in_err-write_leaf-clause-sent : goal.returns-in_err-write_leaf-clause-sent
returns-in_err-write_leaf-clause-sent g c = λ xs h.
    let a = c.args.self.now in
    let k = c.len-level.result + 1 in
    let l : c.len-level.result ≡ length a.stack.items = omega (arith, a.stack.ok.0, c.len-level.ensures) in
    let p = c.loop-member.invariant.4 xs h in
    let n = next_member (indent_of a.indent) a.store.now c.in-Some.member.now c.in-Some.others.now c.loop-member.rest.now
    c.loop-member.first _ k p.left (one_more a.stack.items c.len-level.result l) c.in-Some.ensures.cases.0 p.are_left in
    let leaf : holds_others c.in-Some.member.now.value ≡ false = sym c.holds_others.ensures ∙ c.if-holds_others.false in
    let quick = c.quick_member.ensures n.key n.tree leaf n.is_key n.is in
    let same = rw c.if-not-quick_member.true at quick in
    MatchResult-from_err _ _ _ c.from_residual-in_err-write_leaf.ensures.0
    (λ _. member_fails (indent_of a.indent) a.store.now xs _ _ _ _ _ k p n
    (second_fails _ _ (sent_after _ _ same (c.in_ok-begin_member.ensures n.key n.is_key))
    (c.in_err-write_leaf.ensures (indent_of a.indent) k n.tree leaf n.is)))

pub loop-member-preserved : goal.loop-member-preserved
loop-member-preserved g c =
    let i = c.loop-member.invariant in (
      i.0,
      i.1,
      i.2,
      i.3,
      λ xs h.
          let a = c.args.self.now in
          let k = c.len-level.result + 1 in
          let l : c.len-level.result ≡ length a.stack.items = omega (arith, a.stack.ok.0, c.len-level.ensures) in
          let p = c.loop-member.invariant.4 xs h in
          let n = next_member (indent_of a.indent) a.store.now c.in-Some.member.now c.in-Some.others.now c.loop-member.rest.now
          c.loop-member.first _ k p.left (one_more a.stack.items c.len-level.result l) c.in-Some.ensures.cases.0 p.are_left in
          let leaf : holds_others c.in-Some.member.now.value ≡ false = sym c.holds_others.ensures ∙ c.if-holds_others.false in
          let quick = c.quick_member.ensures n.key n.tree leaf n.is_key n.is in
          member_passed (indent_of a.indent) a.store.now xs _ _ _ _ _ k p n
          (sent_buffered _ _ _ _ (rw c.if-not-quick_member.false at quick)),
      fewer_members c.args.self.now.store.now c.in-Some.member.now c.in-Some.others.now c.loop-member.rest.now c.args.members.now
          c.in-Some.ensures.cases.0 i.5,
    )

pub loop-member-preserved-in_ok-write_leaf : goal.loop-member-preserved-in_ok-write_leaf
loop-member-preserved-in_ok-write_leaf g c =
    let i = c.loop-member.invariant in (
      i.0,
      i.1,
      i.2,
      i.3,
      λ xs h.
          let a = c.args.self.now in
          let k = c.len-level.result + 1 in
          let l : c.len-level.result ≡ length a.stack.items = omega (arith, a.stack.ok.0, c.len-level.ensures) in
          let p = c.loop-member.invariant.4 xs h in
          let n = next_member (indent_of a.indent) a.store.now c.in-Some.member.now c.in-Some.others.now c.loop-member.rest.now
          c.loop-member.first _ k p.left (one_more a.stack.items c.len-level.result l) c.in-Some.ensures.cases.0 p.are_left in
          let leaf : holds_others c.in-Some.member.now.value ≡ false = sym c.holds_others.ensures ∙ c.if-holds_others.false in
          let quick = c.quick_member.ensures n.key n.tree leaf n.is_key n.is in
          member_passed (indent_of a.indent) a.store.now xs _ _ _ _ _ k p n
          (both_sent _ _ (sent_after _ _ (rw c.if-not-quick_member.true at quick) (c.in_ok-begin_member.ensures n.key n.is_key))
          (c.in_ok-write_leaf.ensures (indent_of a.indent) k n.tree leaf n.is)),
      fewer_members c.args.self.now.store.now c.in-Some.member.now c.in-Some.others.now c.loop-member.rest.now c.args.members.now
          c.in-Some.ensures.cases.0 i.5,
    )

pub returns-clause-sent : goal.returns-clause-sent
returns-clause-sent g c = λ xs h.
    let p = c.loop-member.invariant.4 xs h in record { left = p.left; are_left = p.are_left; sent = p.sent }

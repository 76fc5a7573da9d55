use Rattle.std.proofs.Common.{◌≡◌, ◌∷◌, ◌-◌, suc, drop, reverse, arith, refl, ◌∙◌}
use Rattle.tinyjson.specs.private.Encoding.{Gathered}
use Rattle.tinyjson_output.proofs.Callers.{sent_begins as begins}
use Rattle.tinyjson.proofs.Writing.Runs.{member_on, skipped, left_after}
use Rattle.tinyjson.proofs.generator.quick.quick_members.Goals as goal

pub loop-key-init : goal.loop-key-init
loop-key-init c = (λ k held. begins, refl, omega arith)

pub loop-key-preserved : goal.loop-key-preserved
loop-key-preserved c =
    let l = c.loop-key in
    let gs = reverse l.gathered.items in
    let hs = reverse c.next_member-written.new.gathered.items in
    let m : Gathered = (c.in-Some.key, c.in-Some.value) in
    let n : l.left ≡ suc (l.left - 1) = omega (arith, c.in-Some.ensures.0) in
    let head : gs ≡ m ∷ drop 1 gs = rw c.deref.ensures.value at c.in-Some.ensures.1 in
    let e = skipped c.next_member-written.result l.left gs hs m c.in-Some.ensures.0 head c.next_member-written.ensures in (
      λ k held. let quick = rw c.if-not-quick_member.false at (c.quick_member.ensures k) in
          member_on held k l.first gs hs m l.left (l.left - 1) _ _ e n quick.1 (l.invariant.0 k held),
      left_after l.left (l.left - 1) gs hs m n e ∙ l.invariant.1,
      omega (arith, l.invariant.2),
    )

pub returns-then-not-quick_member-clause-buffers : goal.returns-then-not-quick_member-clause-buffers
returns-then-not-quick_member-clause-buffers c = λ k held.
    let same = rw c.if-not-quick_member.true at (c.quick_member.ensures k) in
    rw same (c.loop-key.invariant.0 k held)

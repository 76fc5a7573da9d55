use Rattle.std.proofs.Common.{◌≡◌, ◌∷◌, ◌&&◌, ◌∙◌, ap, rules, arith, false, true, None, Some}
use Rattle.tinyjson.proofs.Values.Comparison.{entry_turn, turn_same, turn_differs}
use Rattle.tinyjson.specs.private.Comparison.{has_entries}
use Rattle.tinyjson.specs.private.Copy.{entries_weight}
use Rattle.tinyjson.specs.Equality.{same_tree}
use Rattle.tinyjson.specs.View.{members_view}
use Rattle.tinyjson.proofs.value.equality.next_members.Goals as goal

pub returns-in_default-get-clause-same : goal.returns-in_default-get-clause-same
returns-in_default-get-clause-same c = entry_turn c.args.b.now.entries c.next.new.self c.loop-key.a c.in-Some.key.now c.in-Some.member.now _
    None c.loop-key.invariant.0 (search rules) (search rules)

pub loop-key-preserved : goal.loop-key-preserved
loop-key-preserved c =
    let step : c.loop-key.a ≡ (c.in-Some.key.now, c.in-Some.member.now) ∷ c.next.new.self = search rules in
    let turn = entry_turn c.args.b.now.entries c.next.new.self c.loop-key.a c.in-Some.key.now c.in-Some.member.now _
    (Some c.in-Some-get.other.now) c.loop-key.invariant.0 step (search rules) in
    let same : true ≡ same_tree c.in-Some.member.now c.in-Some-get.other.now = search rules in (
      turn_same (same_tree c.in-Some.member.now c.in-Some-get.other.now)
          (has_entries (members_view c.args.b.now.entries) c.next.new.self) _ turn same,
      omega (arith, c.loop-key.invariant.1, ap entries_weight step),
    )

pub returns-in-Known-false-clause-same : goal.returns-in-Known-false-clause-same
returns-in-Known-false-clause-same c =
    let step : c.loop-key.a ≡ (c.in-Some.key.now, c.in-Some.member.now) ∷ c.next.new.self = search rules in
    let turn = entry_turn c.args.b.now.entries c.next.new.self c.loop-key.a c.in-Some.key.now c.in-Some.member.now _
    (Some c.in-Some-get.other.now) c.loop-key.invariant.0 step (search rules) in
    let differs : false ≡ same_tree c.in-Some.member.now c.in-Some-get.other.now = search rules in
    turn_differs (same_tree c.in-Some.member.now c.in-Some-get.other.now)
    (has_entries (members_view c.args.b.now.entries) c.next.new.self) _ turn differs

pub returns-in-Inside-clause-same : goal.returns-in-Inside-clause-same
returns-in-Inside-clause-same c =
    let step : c.loop-key.a ≡ (c.in-Some.key.now, c.in-Some.member.now) ∷ c.next.new.self = search rules in
    let turn = entry_turn c.args.b.now.entries c.next.new.self c.loop-key.a c.in-Some.key.now c.in-Some.member.now _
    (Some c.in-Some-get.other.now) c.loop-key.invariant.0 step (search rules) in
    ap (λ b. b && has_entries (members_view c.args.b.now.entries) c.next.new.self) c.in-Inside.ensures.same ∙ turn

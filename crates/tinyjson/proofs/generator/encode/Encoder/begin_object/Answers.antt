use Rattle.std.proofs.Common.{◌≡◌, ℕ, ◌+◌, None, false, drop, reverse, ◌<◌, length, refl, sym, ◌∙◌, ap, arith}
use Rattle.std.proofs.lemmas.Result.{MatchResult-from_err}
use Rattle.tinyjson.specs.Indent.{indent_of}
use Rattle.tinyjson.specs.View.{members_view}
use Rattle.tinyjson.specs.private.Encoding.{Opened, gathered_in}
use Rattle.tinyjson_grammar.specs.Text.{text}
use Rattle.tinyjson_grammar.specs.Tree.{object}
use Rattle.tinyjson_output.specs.Buffer.{buffered}
use Rattle.tinyjson_output.proofs.Callers.{enc, sends_same}
use Rattle.tinyjson.proofs.Writing.Containers.{object_stops, object_ungathered, members_open, member_opens, is_compact}
use Rattle.tinyjson.proofs.Writing.Words.{empty_object}
use Rattle.tinyjson.proofs.Writing.Runs.{members_run, member_run, only_member_buffered, object_end, closed_at_once, complete_at_once}
use Rattle.tinyjson.specs.declared.generator.frames.Frame.TheVariants.{Member, Members}
use Rattle.tinyjson.proofs.generator.encode.Encoder.begin_object.Given.{Over}
use Rattle.tinyjson.proofs.generator.encode.Encoder.begin_object.Goals as goal
use Rattle.tinyjson.proofs.generator.encode.Encoder.begin_object.Goals.{After-run_of_members-left, After-quick_member}

pub returns-in_err-write_bytes-clause-sent : goal.returns-in_err-write_bytes-clause-sent
returns-in_err-write_bytes-clause-sent g c =
    let some : 0 < length c.args.members.now.entries = omega (arith, c.len.ensures.len, c.if-len-gt1.true) in
    λ k. MatchResult-from_err _ _ _ c.from_residual.ensures.0 (λ _. object_stops
    (indent_of c.args.self.now.indent) k c.args.members.now.entries some c.in_err-write_bytes.ensures)

pub returns-in_err-flat-clause-sent : goal.returns-in_err-flat-clause-sent
returns-in_err-flat-clause-sent g c =
    let some : 0 < length c.args.members.now.entries = omega (arith, c.len.ensures.len, c.if-len-gt1.true) in
    λ k. MatchResult-from_err _ _ _ c.from_residual-in_err-flat.ensures.0
    (λ _. object_ungathered (indent_of c.args.self.now.indent) k c.args.members.now.entries some c.in_ok-write_bytes.ensures)

-- the brace is sent, and of two or more members a run
module _ (g : Over) (c : After-run_of_members-left g) (k : ℕ) where
  many_members : Opened (indent_of c.args.self.now.indent) k (g.W.Write.contents c.args.out.now, buffered c.args.self.now.buffer)
      (g.W.Write.contents c.write_bytes.new.out, buffered c.run_of_members-left.new.self.buffer)
      (enc (text (indent_of c.args.self.now.indent) k (object (members_view c.args.members.now.entries)))) (gathered_in c.args.self.now)
      (Members c.run_of_members-left.result.0 c.run_of_members-left.result.1) (gathered_in c.run_of_members-left.new.self)
  many_members =
      let w = indent_of c.args.self.now.indent in
      let gs = gathered_in c.args.self.now in
      let hs = reverse c.gather_sorted.new.gathered.items in
      let some : 0 < length c.args.members.now.entries = omega (arith, c.len.ensures.len, c.if-len-gt1.true) in
      members_run w k c.len-then-len-gt1.result _ _ gs hs _ c.run_of_members-left.ensures.others
      (c.run_of_members-left.ensures.buffers (k + 1) (g.W.Write.contents c.write_bytes.new.out))
      (members_open w k c.len-then-len-gt1.result c.args.members.now.entries gs hs some c.len-then-len-gt1.ensures.len
      c.in_ok-flat.ensures.members c.in_ok-flat.ensures.before c.in_ok-write_bytes.ensures)

pub returns-then-is_none-clause-sent : goal.returns-then-is_none-clause-sent
returns-then-is_none-clause-sent g c = λ k.
    let w = indent_of c.args.self.now.indent in
    let is = gathered_in c.run_of_members-left.new.self in
    let left = c.run_of_members-left.result.0 in
    let first = c.run_of_members-left.result.1 in
    let zero : left ≡ 0 = omega (arith, c.if-left-eq0.true) in
    let none : w ≡ None = is_compact w c.args.self.now.indent c.is_none.result
    (rw c.run_of_members-left.ensures.indent at c.is_none.ensures) c.if-is_none.true in
    closed_at_once w _ k 125 _ is is (Members left first) c.write_bytes-then-is_none.result c.complete.result
    (object_end w k left first is zero none) (ap (λ i. drop i is) zero) refl c.complete.ensures c.write_bytes-then-is_none.ensures
    (many_members g (goal.at.returns-then-is_none-clause-sent g c).After-run_of_members-left k)

pub returns-then-len-gt1-clause-sent : goal.returns-then-len-gt1-clause-sent
returns-then-len-gt1-clause-sent g c = λ k. many_members g (goal.at.returns-then-len-gt1-clause-sent g c).After-run_of_members-left k

pub returns-in_err-write_bytes-2-clause-sent : goal.returns-in_err-write_bytes-2-clause-sent
returns-in_err-write_bytes-2-clause-sent g c =
    let some : 0 < length c.args.members.now.entries = omega (arith, ap length c.iter.ensures.rest, ap length c.in-Some.ensures.steps) in
    λ k. MatchResult-from_err _ _ _ c.from_residual-in_err-write_bytes-2.ensures.0
    (λ _. object_stops (indent_of c.args.self.now.indent) k c.args.members.now.entries some c.in_err-write_bytes-2.ensures)

-- the brace is sent before the one member
module _ (g : Over) (c : After-quick_member g) (k : ℕ) where
  one_member : Opened (indent_of c.args.self.now.indent) k (g.W.Write.contents c.args.out.now, buffered c.args.self.now.buffer)
      (g.W.Write.contents c.write_bytes-2.new.out, buffered c.write_bytes-2.new.buffer)
      (enc (text (indent_of c.args.self.now.indent) k (object (members_view c.args.members.now.entries)))) (gathered_in c.args.self.now)
      (Member c.as_str-key.result c.in-Some.value) (gathered_in c.args.self.now)
  one_member =
      let few : length c.args.members.now.entries < 2 = omega (arith, c.len.ensures.len, c.if-len-gt1.false) in
      member_opens (indent_of c.args.self.now.indent) k c.args.members.now.entries c.next.new.self (c.in-Some.key.now, c.in-Some.value.now)
      (gathered_in c.args.self.now) c.as_str-key.result c.in-Some.value
      (sym c.iter.ensures.rest ∙ c.in-Some.ensures.steps) few c.as_str-key.ensures.value refl c.in_ok-write_bytes-2.ensures

pub returns-then-quick_member-clause-sent : goal.returns-then-quick_member-clause-sent
returns-then-quick_member-clause-sent g c = λ k.
    let w = indent_of c.args.self.now.indent in
    let gs = gathered_in c.args.self.now in
    let key = c.as_str-key.result in
    let value = c.in-Some.value in
    let quick = rw c.if-quick_member.true at (c.quick_member.ensures (k + 1)) in
    let none : w ≡ None = is_compact w c.args.self.now.indent c.is_none-2.result c.is_none-2.ensures quick.0 in
    let run = only_member_buffered w (g.W.Write.contents c.write_bytes-2.new.out) (k + 1) key value _ _ none quick.1 in
    closed_at_once w _ k 125 gs gs gs (Members 0 false) c.write_bytes-then-quick_member.result c.complete-then-quick_member.result
    (object_end w k 0 false gs refl none) refl refl c.complete-then-quick_member.ensures c.write_bytes-then-quick_member.ensures
    (member_run w k gs key value run (one_member g (goal.at.returns-then-quick_member-clause-sent g c).After-quick_member k))

pub returns-clause-sent : goal.returns-clause-sent
returns-clause-sent g c = λ k.
    let same = rw c.if-quick_member.false at (c.quick_member.ensures k) in
    rw same (one_member g (goal.at.returns-clause-sent g c).After-quick_member k)

pub returns-in_default-clause-sent : goal.returns-in_default-clause-sent
returns-in_default-clause-sent g c =
    let w = indent_of c.args.self.now.indent in
    let none : length c.args.members.now.entries ≡ 0 = ap length (sym c.iter.ensures.rest ∙ c.in_default.ensures.steps.0) in
    λ k. complete_at_once w k _ _ _ _ _ c.write_bytes-in_default.result c.complete-in_default.result c.complete-in_default.ensures
    (sends_same _ _ _ _ _ (empty_object w k c.args.members.now.entries none) c.write_bytes-in_default.ensures) refl

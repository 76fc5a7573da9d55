use Rattle.std.proofs.Common.{◌≡◌, ◌∷◌, ◌+◌, ◌-◌, suc, false, length, refl, sym, ◌∙◌, ap, subst, reverse, arith}
use Rattle.std.proofs.lemmas.Result.{MatchResult-from_err}
use Rattle.tinyjson.specs.Indent.{indent_of}
use Rattle.tinyjson.specs.private.Encoding.{IsStack, frames}
use Rattle.tinyjson_grammar.specs.Text.{newline}
use Rattle.tinyjson.specs.declared.generator.frames.Frame.TheVariants.{Members}
use Rattle.tinyjson_output.proofs.Callers.{sent_begins as begins, sent_stops as stops, sent_goes as goes, enc}
use Rattle.tinyjson.proofs.Writing.Runs.{members_on}
use Rattle.tinyjson.proofs.Writing.Containers.{members_next, members_end, advanced_open, closes, stopped_open}
use Rattle.tinyjson.proofs.generator.encode.Encoder.members.Goals as goal

pub loop-key-init : goal.loop-key-init
loop-key-init g c =
    let w = indent_of c.args.self.now.indent in
    let fs = frames c.args.stack.now in
    let run = c.run_of_members-left.ensures.buffers (length fs + 1) (g.W.Write.contents c.args.out.now) in (
      refl,
      c.run_of_members-left.ensures.indent,
      members_on w fs c.args.left c.run_of_members-left.result.0 c.args.first
          c.run_of_members-left.result.1 _ _ c.run_of_members-left.ensures.others run begins,
    )

pub enter-requires : goal.enter-requires
enter-requires g c = subst IsStack (sym c.loop-key.invariant.0) c.requires.stack

pub returns-in_err-begun-clause-sent : goal.returns-in_err-begun-clause-sent
returns-in_err-begun-clause-sent g c =
    let w = indent_of c.args.self.now.indent in
    let l = c.loop-key in
    let n : l.left ≡ suc (l.left - 1) = omega (arith, c.in-Some.ensures.0) in
    let h = rw (members_next w (frames c.args.stack.now) (reverse l.self.gathered.items)
    (reverse c.next_member.new.gathered.items) c.args.level l.left (l.left - 1) l.first
    (c.in-Some.key, c.in-Some.value) c.in-Some.ensures.1 n c.requires.level) at l.invariant.2 in
    MatchResult-from_err _ _ _ c.from_residual.ensures.0 (λ _. stops _ (rw l.invariant.1 at c.in_err-begun.ensures.sent) h)

pub returns-in_err-enter-in-Some-begun-clause-sent : goal.returns-in_err-enter-in-Some-begun-clause-sent
returns-in_err-enter-in-Some-begun-clause-sent g c =
    let w = indent_of c.args.self.now.indent in
    let l = c.loop-key in
    let n : l.left ≡ suc (l.left - 1) = omega (arith, c.in-Some.ensures.0) in
    let h = rw (members_next w (frames c.args.stack.now) (reverse l.self.gathered.items)
    (reverse c.next_member.new.gathered.items) c.args.level l.left (l.left - 1) l.first
    (c.in-Some.key, c.in-Some.value) c.in-Some.ensures.1 n c.requires.level) at l.invariant.2 in
    let o = rw (c.in-Some-begun.is, l.invariant.1) at c.in_ok-begun.ensures.sent in
    MatchResult-from_err _ _ _ c.from_residual-in_err-enter-in-Some-begun.ensures.0
    (λ _. stopped_open w _ _ c.args.level c.in-Some-begun.inner _ o h)

pub returns-in-Some-begun-clause-sent : goal.returns-in-Some-begun-clause-sent
returns-in-Some-begun-clause-sent g c =
    let w = indent_of c.args.self.now.indent in
    let l = c.loop-key in
    let fs = frames c.args.stack.now in
    let hs = reverse c.next_member.new.gathered.items in
    let n : l.left ≡ suc (l.left - 1) = omega (arith, c.in-Some.ensures.0) in
    let h = rw (members_next w fs (reverse l.self.gathered.items) hs c.args.level l.left (l.left - 1) l.first
    (c.in-Some.key, c.in-Some.value) c.in-Some.ensures.1 n c.requires.level) at l.invariant.2 in
    let o = rw (c.in-Some-begun.is, l.invariant.1) at c.in_ok-begun.ensures.sent in
    advanced_open w (Members c.args.left c.args.first ∷ fs) (reverse c.args.self.now.gathered.items) hs _ c.args.level c.in-Some-begun.inner
    (Members (l.left - 1) false) c.args.stack.now c.enter.new.self refl c.in_ok-enter-in-Some-begun.ensures.stack
    (rw l.invariant.0 at c.in_ok-enter-in-Some-begun.ensures.frames) c.requires.level o h

pub loop-key-preserved : goal.loop-key-preserved
loop-key-preserved g c =
    let w = indent_of c.args.self.now.indent in
    let l = c.loop-key in
    let fs = frames c.args.stack.now in
    let n : l.left ≡ suc (l.left - 1) = omega (arith, c.in-Some.ensures.0) in
    let h = rw (members_next w fs (reverse l.self.gathered.items) (reverse c.next_member.new.gathered.items) c.args.level l.left
    (l.left - 1) l.first (c.in-Some.key, c.in-Some.value) c.in-Some.ensures.1 n c.requires.level) at l.invariant.2 in
    let same = c.in_ok-begun.ensures.indent ∙ l.invariant.1 in
    let done = rw (c.in-None.is, l.invariant.1) at c.in_ok-begun.ensures.sent in
    let run = rw same at (c.run_of_members.ensures.buffers (length fs + 1) (g.W.Write.contents c.member.new.out)) in (
      l.invariant.0,
      c.run_of_members.ensures.indent ∙ same,
      members_on w fs (l.left - 1) c.run_of_members.result.0 false c.run_of_members.result.1 _ _ c.run_of_members.ensures.others run
          (rw done.outside (goes _ done.written h)),
    )

pub returns-clause-sent : goal.returns-clause-sent
returns-clause-sent g c =
    let w = indent_of c.args.self.now.indent in
    let l = c.loop-key in
    let fs = frames c.args.stack.now in
    let gs = reverse l.self.gathered.items in
    let hs = reverse c.next_member.new.gathered.items in
    let n : c.args.level - 1 ≡ length fs = omega (arith, c.requires.level) in
    rw c.close.ensures.kept.1 (closes w _ _ _ (Members c.args.left c.args.first ∷ fs) fs (reverse c.args.self.now.gathered.items) hs hs
    (enc (newline w (length fs))) 125 l.stack c.close.result
    (subst IsStack (sym l.invariant.0) c.requires.stack) (ap frames l.invariant.0) refl (rw (n, l.invariant.1) at c.close.ensures.sent)
    (rw (members_end w fs gs hs l.first l.left c.in_default.ensures.0 c.in_default.ensures.1) at l.invariant.2))

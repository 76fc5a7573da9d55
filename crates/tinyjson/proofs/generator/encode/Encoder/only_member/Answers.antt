use Rattle.std.proofs.Common.{◌≡◌, ◌∷◌, ◌-◌, false, length, refl, reverse, arith}
use Rattle.std.proofs.lemmas.Result.{MatchResult-from_err}
use Rattle.tinyjson.specs.Indent.{indent_of}
use Rattle.tinyjson.specs.private.Encoding.{frames, unwritten}
use Rattle.tinyjson_grammar.specs.Text.{newline}
use Rattle.tinyjson.specs.declared.generator.frames.Frame.TheVariants.{Member, Members}
use Rattle.tinyjson_output.proofs.Callers.{sent_stops as stops, sent_goes as goes, sent_written_none as written_none, enc}
use Rattle.tinyjson.proofs.Writing.Containers.{member_next, members_end, advanced_open, closes, stopped_open}
use Rattle.tinyjson.proofs.generator.encode.Encoder.only_member.Goals as goal

pub returns-in_err-begun-clause-sent : goal.returns-in_err-begun-clause-sent
returns-in_err-begun-clause-sent g c =
    let w = indent_of c.args.self.now.indent in
    let gs = reverse c.args.self.now.gathered.items in
    MatchResult-from_err _ _ _ c.from_residual.ensures.0 (λ _. stops _ c.in_err-begun.ensures.sent
    (written_none _ _ _ (member_next w (frames c.args.stack.now) gs c.args.level c.args.key c.args.value c.requires.level)))

pub returns-in_err-enter-in-Some-clause-sent : goal.returns-in_err-enter-in-Some-clause-sent
returns-in_err-enter-in-Some-clause-sent g c =
    let w = indent_of c.args.self.now.indent in
    let gs = reverse c.args.self.now.gathered.items in
    let o = rw c.in-Some.is at c.in_ok-begun.ensures.sent in
    MatchResult-from_err _ _ _ c.from_residual-in_err-enter-in-Some.ensures.0
    (λ _. stopped_open w gs _ c.args.level c.in-Some.inner _ o (written_none _ _ _
    (member_next w (frames c.args.stack.now) gs c.args.level c.args.key c.args.value c.requires.level)))

pub returns-in_ok-enter-in-Some-clause-sent : goal.returns-in_ok-enter-in-Some-clause-sent
returns-in_ok-enter-in-Some-clause-sent g c =
    let w = indent_of c.args.self.now.indent in
    let fs = frames c.args.stack.now in
    let gs = reverse c.args.self.now.gathered.items in
    let o = rw c.in-Some.is at c.in_ok-begun.ensures.sent in
    advanced_open w (Member c.args.key c.args.value ∷ fs) gs gs _ c.args.level c.in-Some.inner
    (Members 0 false) c.args.stack.now c.enter.new.self refl c.in_ok-enter-in-Some.ensures.stack c.in_ok-enter-in-Some.ensures.frames
    c.requires.level o (written_none _ _ _ (member_next w fs gs c.args.level c.args.key c.args.value c.requires.level))

pub returns-in-None-clause-sent : goal.returns-in-None-clause-sent
returns-in-None-clause-sent g c =
    let w = indent_of c.args.self.now.indent in
    let fs = frames c.args.stack.now in
    let gs = reverse c.args.self.now.gathered.items in
    let hs = reverse c.member.new.self.gathered.items in
    let done = rw c.in-None.is at c.in_ok-begun.ensures.sent in
    let h = goes (enc (unwritten w (Members 0 false ∷ fs) gs)) done.written
    (written_none _ _ _ (member_next w fs gs c.args.level c.args.key c.args.value c.requires.level)) in
    let n : c.args.level - 1 ≡ length fs = omega (arith, c.requires.level) in
    rw c.close.ensures.kept.1 (closes w _ _ _ (Member c.args.key c.args.value ∷ fs) fs gs gs hs
    (enc (newline w (length fs))) 125 c.args.stack.now c.close.result c.requires.stack refl done.outside
    (rw (n, c.in_ok-begun.ensures.indent) at c.close.ensures.sent) (rw (members_end w fs gs gs false 0 refl refl) at h))

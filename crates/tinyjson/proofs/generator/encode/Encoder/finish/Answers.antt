use Rattle.std.proofs.Common.{◌∷◌, refl, sym, ◌∙◌, ap, reverse}
use Rattle.std.proofs.lemmas.Result.{MatchResult-from_err}
use Rattle.tinyjson.specs.Indent.{indent_of}
use Rattle.tinyjson.specs.private.Encoding.{frames, gathered_in, unwritten}
use Rattle.tinyjson.proofs.Writing.Words.{part_same}
use Rattle.tinyjson_output.proofs.Callers.{sent_begins as begins, sent_stop as stop, sent_stops_then as stops_then}
use Rattle.tinyjson_output.proofs.Callers.{sent_written_none as written_none, sent_written_then as written_then, enc}
use Rattle.tinyjson.proofs.generator.encode.Encoder.finish.Goals as goal

pub loop-frame-init : goal.loop-frame-init
loop-frame-init g c =
    let w = indent_of c.args.self.now.indent in
    let gs = reverse c.args.self.now.gathered.items in (
      c.in_ok-push.ensures.stack,
      refl,
      written_none _ _ _ (ap (λ fs. enc (unwritten w fs gs))
          (sym (c.in_ok-push.ensures.frames ∙ ap (λ fs. c.args.frame ∷ fs) c.new-stack.ensures.frames))),
    )

pub returns-in_err-push : goal.returns-in_err-push
returns-in_err-push g c = MatchResult-from_err _ _ _ c.from_residual.ensures.0 (λ _. stop begins)

pub returns-in_err-resume : goal.returns-in_err-resume
returns-in_err-resume g c =
    let h = rw c.in-Some.ensures.frames.0 at c.loop-frame.invariant.2 in
    let same = ap (λ i. enc (unwritten (indent_of i) (c.in-Some.frame ∷ frames c.pop.new.self) (gathered_in c.loop-frame.self)))
    (sym c.loop-frame.invariant.1) in
    MatchResult-from_err _ _ _ c.from_residual-in_err-resume.ensures.0 (λ _. stops_then _ h (part_same same c.in_err-resume.ensures.sent))

pub loop-frame-preserved : goal.loop-frame-preserved
loop-frame-preserved g c =
    let h = rw c.in-Some.ensures.frames.0 at c.loop-frame.invariant.2 in
    let sent = rw c.loop-frame.invariant.1 at c.in_ok-resume.ensures.sent in
    (sent.stack, c.in_ok-resume.ensures.indent ∙ c.loop-frame.invariant.1, written_then _ _ h sent.written)

pub loop-frame-smaller : goal.loop-frame-smaller
loop-frame-smaller g c = let sent = rw c.loop-frame.invariant.1 at c.in_ok-resume.ensures.sent in rw c.in-Some.ensures.frames.0 sent.less

pub returns : goal.returns
returns g c = rw c.in_default.ensures.frames at c.loop-frame.invariant.2

use Rattle.std.proofs.Common.{◌≡◌, ◌<◌, [], ◌∷◌, ◌∙◌, refl, sym, ap, subst, reverse, arith}
use Rattle.std.proofs.lemmas.List.{nil_from_length, reverse-append}
use Rattle.std.proofs.lemmas.Result.{MatchResult-from_err}
use Rattle.tinyjson.specs.Indent.{indent_of}
use Rattle.tinyjson_output.specs.Buffer.{buffered, Sent}
use Rattle.tinyjson_output.proofs.Callers.{enc, sent_begins as begins, sent_stops_then as stops_then, sent_written_then as written_then}
use Rattle.tinyjson_document.specs.Walking.{AreLeft, left_cost}
use Rattle.tinyjson_document.proofs.Writing.{left_moved}
use Rattle.tinyjson_document.proofs.walk.Walk.finish.Goals as goal

pub loop-rest-init : goal.loop-rest-init
loop-rest-init g c = (refl, refl, refl, λ xs h. record { left = xs; are_left = h; sent = begins })

pub returns-in_err-resume : goal.returns-in_err-resume
returns-in_err-resume g c = λ xs h.
    let l = c.loop-rest in
    let s = c.args.self.now in
    let a = l.invariant.3 xs h in
    let last = ap reverse c.in-Some.ensures.items ∙ reverse-append c.pop.new.self.items (c.in-Some.rest ∷ []) in
    let popped = c.in-Some.rest ∷ reverse c.pop.new.self.items in
    let left = left_moved s.indent l.self.indent s.store l.self.store popped a.left (sym l.invariant.2) (sym l.invariant.0)
    (subst (λ z. AreLeft (indent_of s.indent) s.store.now z a.left) last a.are_left) in
    MatchResult-from_err _ _ _ c.from_residual.ensures.0 (λ _. stops_then (enc a.left) a.sent
    (c.in_err-resume.ensures.sent a.left left))

pub loop-rest-preserved : goal.loop-rest-preserved
loop-rest-preserved g c =
    let l = c.loop-rest in
    let s = c.args.self.now in (
      c.in_ok-resume.ensures.store ∙ l.invariant.0,
      c.in_ok-resume.ensures.most ∙ l.invariant.1,
      c.in_ok-resume.ensures.indent ∙ l.invariant.2,
      λ xs h.
          let a = l.invariant.3 xs h in
          let last = ap reverse c.in-Some.ensures.items ∙ reverse-append c.pop.new.self.items (c.in-Some.rest ∷ []) in
          let popped = c.in-Some.rest ∷ reverse c.pop.new.self.items in
          let left = left_moved s.indent l.self.indent s.store l.self.store popped a.left (sym l.invariant.2) (sym l.invariant.0)
          (subst (λ z. AreLeft (indent_of s.indent) s.store.now z a.left) last a.are_left) in
          let b = c.in_ok-resume.ensures.sent a.left left in
          record {
            left = b.left;
            are_left = left_moved l.self.indent s.indent l.self.store s.store (reverse c.resume.new.self.stack.items) b.left
                l.invariant.2 l.invariant.0 b.are_left;
            sent = written_then (enc a.left) (enc b.left) a.sent b.sent;
          },
    )

pub loop-rest-smaller : goal.loop-rest-smaller
loop-rest-smaller g c =
    let l = c.loop-rest in
    let s = c.args.self.now in
    let last = ap reverse c.in-Some.ensures.items ∙ reverse-append c.pop.new.self.items (c.in-Some.rest ∷ []) in
    let now = reverse c.resume.new.self.stack.items in
    let popped = c.in-Some.rest ∷ reverse c.pop.new.self.items in
    subst (λ z. left_cost s.store.now s.most now < left_cost s.store.now s.most z) (sym last)
    (subst (λ m. left_cost s.store.now m now < left_cost s.store.now m popped) l.invariant.1
    (subst (λ b. left_cost b.now l.self.most now < left_cost b.now l.self.most popped) l.invariant.0 c.in_ok-resume.ensures.less))

pub returns : goal.returns
returns g c = λ xs h.
    let l = c.loop-rest in
    let s = c.args.self.now in
    let a = l.invariant.3 xs h in
    let none : l.self.stack.items ≡ [] = nil_from_length l.self.stack.items (omega
    (arith, l.self.stack.ok.0, c.in_default.ensures.cases)) in
    let nothing : a.left ≡ [] = subst (λ z. AreLeft (indent_of s.indent) s.store.now (reverse z) a.left) none a.are_left in
    subst (λ z. Sent (g.W.Write.contents c.args.out.now, buffered c.args.self.now.buffer)
    (g.W.Write.contents l.out, buffered l.self.buffer)
    (enc xs) (enc z)) nothing a.sent

use Rattle.std.proofs.Common.{◌≡◌, [], ◌∷◌, ◌++◌, ◌+◌, ◌-◌, false, length, refl, sym, ◌∙◌, ap, subst, reverse, arith}
use Rattle.std.proofs.lemmas.List.{nil_from_length}
use Rattle.std.proofs.lemmas.Result.{MatchResult-from_err}
use Rattle.tinyjson.specs.Indent.{indent_of}
use Rattle.tinyjson.specs.private.Encoding.{IsStack, frames, unwritten}
use Rattle.tinyjson_grammar.specs.Text.{newline}
use Rattle.tinyjson.specs.declared.generator.frames.Frame.TheVariants.{Items}
use Rattle.tinyjson_output.proofs.Callers.{sent_begins as begins, sent_stops as stops, sent_goes as goes, enc}
use Rattle.tinyjson.proofs.Writing.Runs.{run_on}
use Rattle.tinyjson.proofs.Writing.Containers.{items_next, items_end, advanced_open, closes, stopped_open}
use Rattle.tinyjson.proofs.generator.encode.Encoder.items.Goals as goal

pub loop-item-init : goal.loop-item-init
loop-item-init g c =
    let w = indent_of c.args.self.now.indent in
    let fs = frames c.args.stack.now in (
      refl,
      ap (λ v. reverse v.items) c.run_of_items-first.ensures.kept.1,
      c.run_of_items-first.ensures.kept.0,
      run_on _ _ (newline w (length fs) ++ 93 ∷ []) (unwritten w fs (reverse c.args.self.now.gathered.items))
          (c.run_of_items-first.ensures.buffers (length fs + 1) (g.W.Write.contents c.args.out.now)) begins,
    )

pub enter-requires : goal.enter-requires
enter-requires g c = subst IsStack (sym c.loop-item.invariant.0) c.requires.stack

pub returns-in_err-begun-clause-sent : goal.returns-in_err-begun-clause-sent
returns-in_err-begun-clause-sent g c =
    let w = indent_of c.args.self.now.indent in
    let fs = frames c.args.stack.now in
    let gs = reverse c.args.self.now.gathered.items in
    let h = rw (items_next w fs gs c.args.level c.loop-item.first c.loop-item.rest.now c.in-Some.others.now c.in-Some.item.now
    c.in-Some.ensures.cases.0 c.requires.level) at c.loop-item.invariant.3 in
    MatchResult-from_err _ _ _ c.from_residual.ensures.0 (λ _. stops _ (rw c.loop-item.invariant.2 at c.in_err-begun.ensures.sent) h)

pub returns-in_err-enter-in-Some-begun-clause-sent : goal.returns-in_err-enter-in-Some-begun-clause-sent
returns-in_err-enter-in-Some-begun-clause-sent g c =
    let w = indent_of c.args.self.now.indent in
    let fs = frames c.args.stack.now in
    let gs = reverse c.args.self.now.gathered.items in
    let h = rw (items_next w fs gs c.args.level c.loop-item.first c.loop-item.rest.now c.in-Some.others.now c.in-Some.item.now
    c.in-Some.ensures.cases.0 c.requires.level) at c.loop-item.invariant.3 in
    let o = rw (c.in-Some-begun.is, c.loop-item.invariant.2) at c.in_ok-begun.ensures.sent in
    MatchResult-from_err _ _ _ c.from_residual-in_err-enter-in-Some-begun.ensures.0
    (λ _. stopped_open w _ _ c.args.level c.in-Some-begun.inner _ o h)

pub returns-in-Some-begun-clause-sent : goal.returns-in-Some-begun-clause-sent
returns-in-Some-begun-clause-sent g c =
    let w = indent_of c.args.self.now.indent in
    let fs = frames c.args.stack.now in
    let gs = reverse c.args.self.now.gathered.items in
    let h = rw (items_next w fs gs c.args.level c.loop-item.first c.loop-item.rest.now c.in-Some.others.now c.in-Some.item.now
    c.in-Some.ensures.cases.0 c.requires.level) at c.loop-item.invariant.3 in
    let o = rw (c.in-Some-begun.is, c.loop-item.invariant.2, c.loop-item.invariant.1) at c.in_ok-begun.ensures.sent in
    advanced_open w (Items c.args.items c.args.first ∷ fs) gs gs _ c.args.level c.in-Some-begun.inner
    (Items c.in-Some.others false) c.args.stack.now c.enter.new.self refl c.in_ok-enter-in-Some-begun.ensures.stack
    (rw c.loop-item.invariant.0 at c.in_ok-enter-in-Some-begun.ensures.frames) c.requires.level o h

pub loop-item-preserved : goal.loop-item-preserved
loop-item-preserved g c =
    let w = indent_of c.args.self.now.indent in
    let fs = frames c.args.stack.now in
    let gs = reverse c.args.self.now.gathered.items in
    let h = rw (items_next w fs gs c.args.level c.loop-item.first c.loop-item.rest.now c.in-Some.others.now c.in-Some.item.now
    c.in-Some.ensures.cases.0 c.requires.level) at c.loop-item.invariant.3 in
    let same = c.in_ok-begun.ensures.indent ∙ c.loop-item.invariant.2 in
    let done = rw (c.in-None.is, c.loop-item.invariant.2) at c.in_ok-begun.ensures.sent in
    let run = rw same at (c.run_of_items.ensures.buffers (length fs + 1) (g.W.Write.contents c.item.new.out)) in (
      c.loop-item.invariant.0,
      ap (λ v. reverse v.items) c.run_of_items.ensures.kept.1 ∙ done.outside
          ∙ c.loop-item.invariant.1,
      c.run_of_items.ensures.kept.0 ∙ same,
      run_on _ _ (newline w (length fs) ++ 93 ∷ []) (unwritten w fs gs) run (goes _ done.written h),
    )

pub returns-clause-sent : goal.returns-clause-sent
returns-clause-sent g c =
    let w = indent_of c.args.self.now.indent in
    let fs = frames c.args.stack.now in
    let gs = reverse c.args.self.now.gathered.items in
    let n : c.args.level - 1 ≡ length fs = omega (arith, c.requires.level) in
    let none = nil_from_length c.loop-item.rest.now c.in_default.ensures.cases in
    rw c.close.ensures.kept.1 (closes w _ _ _ (Items c.args.items c.args.first ∷ fs) fs gs gs (reverse c.loop-item.self.gathered.items)
    (enc (newline w (length fs))) 93 c.loop-item.stack c.close.result
    (subst IsStack (sym c.loop-item.invariant.0) c.requires.stack) (ap frames c.loop-item.invariant.0) c.loop-item.invariant.1
    (rw (n, c.loop-item.invariant.2) at c.close.ensures.sent) (rw (items_end w fs gs c.loop-item.first c.loop-item.rest.now none) at
    c.loop-item.invariant.3))

use Rattle.std.proofs.Common.{[], ◌∷◌, ◌∙◌, None, ap, sym, true, false}
use Rattle.text_regexp.specs.Marked.{is_kept, is_marked, is_plain, is_standing, placed, reads}
use Rattle.text_regexp.proofs.Automata.{at_state, first_reads, knows_root, moved_reads, right_root, state_had}
use Rattle.text_regexp.proofs.Kept.{kept_from}
use Rattle.text_regexp.proofs.automaton.Automaton.moved.Goals as goal

pub after-requires-clause-kept : goal.after-requires-clause-kept
after-requires-clause-kept c = kept_from _ c.args.self.now.expression.kept

pub after-requires-2-clause-kept : goal.after-requires-2-clause-kept
after-requires-2-clause-kept c = kept_from _ c.args.self.now.expression.kept

pub invariant_of-self : goal.invariant_of-self
invariant_of-self c =
    let x = c.args.self.now in
    let same = c.after.ensures.same in (
      (
        ap is_kept same ∙ x.expression.kept,
        (
          ap is_marked same ∙ x.expression.unmarked,
          (x.expression.has ∙ ap is_plain (sym same), (ap (is_standing None None) same ∙ x.expression.stood, tt)),
        ),
      ),
      (
        x.few,
        (
          right_root x.expression.root c.after.new.tree x.states.items same x.right,
          (knows_root x.expression.root c.after.new.tree x.states.items x.steps.items same x.known, tt),
        ),
      ),
    )

pub invariant_of-self-3 : goal.invariant_of-self-3
invariant_of-self-3 c =
    let x = c.args.self.now in
    let same = c.after-2.ensures.same in record {
      few = x.few;
      right = right_root x.expression.root c.after-2.new.tree x.states.items same x.right;
      known = knows_root x.expression.root c.after-2.new.tree x.states.items x.steps.items same x.known;
    }

pub returns-in_default-clause-reads : goal.returns-in_default-clause-reads
returns-in_default-clause-reads c =
    let x = c.args.self.now in
    moved_reads true (placed x.expression.root []) x.expression.root x.states.items c.args.row c.args.c c.after.result
    (λ cs. first_reads x.expression.root x.states.items c.args.row c.args.c cs x.expression.kept x.expression.unmarked c.in_default.ensures)
    c.after.ensures.reads

pub returns-clause-reads : goal.returns-clause-reads
returns-clause-reads c =
    let x = c.args.self.now in
    let s = c.in_ok-get.field-0.now in
    let place = c.in-Some.place in
    let l = c.in_ok-get.ensures.lookup in
    moved_reads false (placed x.expression.root c.as_slice-marks.result.now) x.expression.root x.states.items c.args.row c.args.c
    c.after-2.result
    (λ cs. at_state x.expression.root x.states.items c.args.row place s (c.args.c ∷ cs) c.in-Some.ensures.0 c.in-Some.ensures.1
    (state_had x.states.items c.deref.result.now place s c.deref.ensures.value l.3.0 l.1)
    ∙ ap (λ ms. reads false (placed x.expression.root ms) (c.args.c ∷ cs)) (sym c.as_slice-marks.ensures.value)) c.after-2.ensures.reads

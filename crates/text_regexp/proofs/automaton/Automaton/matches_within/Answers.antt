use Rattle.std.proofs.Common.{◌↔◌, ◌∙◌, IsTrue, None, ap, subst, sym}
use Rattle.std.specs.Str.{chars}
use Rattle.text_regexp.specs.Forms.{Matches}
use Rattle.text_regexp.specs.Marked.{is_kept, is_marked, is_plain, is_standing, tree_form}
use Rattle.text_regexp.proofs.Automata.{knows_root, right_root}
use Rattle.text_regexp.proofs.Kept.{kept_from, stands_from}
use Rattle.text_regexp.proofs.Rereading.{reads_matched}
use Rattle.text_regexp.proofs.automaton.Automaton.matches_within.Goals as goal

pub matches_whole-requires-clause-kept : goal.matches_whole-requires-clause-kept
matches_whole-requires-clause-kept c = kept_from c.args.self.now.expression.root c.args.self.now.expression.kept

pub matches_whole-requires-clause-stood : goal.matches_whole-requires-clause-stood
matches_whole-requires-clause-stood c = stands_from None None c.args.self.now.expression.root c.args.self.now.expression.stood

pub invariant_of-self : goal.invariant_of-self
invariant_of-self c =
    let x = c.args.self.now in
    let same = c.matches_whole.ensures.same in (
      (
        ap is_kept same ∙ x.expression.kept,
        (
          ap is_marked same ∙ x.expression.unmarked,
          (x.expression.has ∙ ap is_plain (sym same), (ap (is_standing None None) same ∙ x.expression.stood, tt)),
        ),
      ),
      (
        x.few,
        (
          right_root x.expression.root c.matches_whole.new.root x.states.items same x.right,
          (knows_root x.expression.root c.matches_whole.new.root x.states.items x.steps.items same x.known, tt),
        ),
      ),
    )

pub matches_whole-requires-in-None-clause-kept : goal.matches_whole-requires-in-None-clause-kept
matches_whole-requires-in-None-clause-kept c = kept_from c.judge.new.self.expression.root c.judge.new.self.expression.kept

pub matches_whole-requires-in-None-clause-stood : goal.matches_whole-requires-in-None-clause-stood
matches_whole-requires-in-None-clause-stood c =
    stands_from None None c.judge.new.self.expression.root c.judge.new.self.expression.stood

pub returns-in-Some-clause-matched : goal.returns-in-Some-clause-matched
returns-in-Some-clause-matched c =
    let x = c.args.self.now.expression in
    let text = chars c.args.text.now in
    subst (λ b. IsTrue b ↔ Matches (tree_form x.root) text) (sym c.in-Some.ensures.matched)
    (reads_matched x.root text (kept_from x.root x.kept) (sym x.has ∙ c.if-not-plain.false) x.unmarked)

pub invariant_of-self-in-None : goal.invariant_of-self-in-None
invariant_of-self-in-None c =
    let x = c.judge.new.self in
    let same = c.matches_whole-in-None.ensures.same in (
      (
        ap is_kept same ∙ x.expression.kept,
        (
          ap is_marked same ∙ x.expression.unmarked,
          (x.expression.has ∙ ap is_plain (sym same), (ap (is_standing None None) same ∙ x.expression.stood, tt)),
        ),
      ),
      (
        x.few,
        (
          right_root x.expression.root c.matches_whole-in-None.new.root x.states.items same x.right,
          (knows_root x.expression.root c.matches_whole-in-None.new.root x.states.items x.steps.items same x.known, tt),
        ),
      ),
    )

use Rattle.std.proofs.Common.{◌∙◌, ap, refl, sym, subst, true≢false}
use Rattle.std.proofs.lemmas.Str.{chars_past_char, IsUtf8-past_char}
use Rattle.std.proofs.StrCases.{chars_of_empty}
use Rattle.std.specs.Str.{chars, IsUtf8}
use Rattle.std.specs.Str.Iter.{chars_rest}
use Rattle.text_regexp.specs.Marked.{cleared, IsKept}
use Rattle.text_regexp.proofs.Marking.{kept_shifted}
use Rattle.text_regexp.proofs.Placing.{cleared_shifted}
use Rattle.text_regexp.proofs.Running.{plain_parting_init, plain_parting_step, plain_parting_found, plain_parting_end, empty_part}
use Rattle.text_regexp.proofs.Running.{cleared_unmarked}
use Rattle.text_regexp.proofs.run.search.Goals as goal

pub returns-then-skips-clause-same : goal.returns-then-skips-clause-same
returns-then-skips-clause-same c = sym (cleared_unmarked c.args.root.now c.requires.kept c.requires.unmarked)

pub returns-then-skips-clause-matched : goal.returns-then-skips-clause-matched
returns-then-skips-clause-matched c =
    let found = empty_part c.args.root.now (chars c.args.text.now) c.requires.plain (sym c.skips.ensures ∙ c.if-skips.true) in
    (λ _. found, λ _. refl)

pub loop-c-init : goal.loop-c-init
loop-c-init c =
    let rest = ap chars_rest c.into_iter-c-iterator.ensures.into_iter_gives ∙ c.chars-c-items.ensures.rest in
    let root = c.args.root.now in record {
      utf8 = subst IsUtf8 (sym rest) c.utf8.text;
      parting = plain_parting_init root (chars (chars_rest c.into_iter-c-iterator.result)) (chars c.args.text.now) c.requires.kept
          c.requires.unmarked c.requires.plain (sym c.skips.ensures ∙ c.if-skips.false) (ap chars rest);
      same = sym (cleared_unmarked root c.requires.kept c.requires.unmarked);
    }

pub returns-then-shift-clause-kept : goal.returns-then-shift-clause-kept
returns-then-shift-clause-kept c = subst IsKept (sym c.shift.ensures.marks) (kept_shifted c.loop-c.root _ _ c.loop-c.invariant.parting.kept)

pub returns-then-shift-clause-same : goal.returns-then-shift-clause-same
returns-then-shift-clause-same c =
    ap cleared c.shift.ensures.marks ∙ (cleared_shifted c.loop-c.root _ _ ∙ c.loop-c.invariant.same)

pub returns-then-shift-clause-matched : goal.returns-then-shift-clause-matched
returns-then-shift-clause-matched c =
    let held = c.loop-c.invariant in
    let found = plain_parting_found _ _ _ c.in-Some.c _ _ _ held.parting
    (chars_past_char _ _ c.in-Some.c held.utf8 c.in-Some.ensures.steps.0) c.shift.ensures.marks
    (sym c.shift.ensures.ends ∙ c.if-shift.true) in
    (λ _. found, λ _. refl)

pub loop-c-preserved : goal.loop-c-preserved
loop-c-preserved c =
    let held = c.loop-c.invariant in
    let parts = c.in-Some.ensures.steps.0 in record {
      utf8 = IsUtf8-past_char _ _ c.in-Some.c held.utf8 parts;
      parting = plain_parting_step _ _ _ c.in-Some.c _ _ _ held.parting (chars_past_char _ _ c.in-Some.c held.utf8 parts)
          c.shift.ensures.marks (sym c.shift.ensures.ends ∙ c.if-shift.false);
      same = ap cleared c.shift.ensures.marks ∙ (cleared_shifted c.loop-c.root _ _ ∙ held.same);
    }

pub returns-clause-kept : goal.returns-clause-kept
returns-clause-kept c = c.loop-c.invariant.parting.kept

pub returns-clause-same : goal.returns-clause-same
returns-clause-same c = c.loop-c.invariant.same

pub returns-clause-matched : goal.returns-clause-matched
returns-clause-matched c = (
  λ e. absurd (true≢false (sym e)),
  λ h. absurd (plain_parting_end _ _ _ _ c.loop-c.invariant.parting
      (chars_of_empty (chars_rest c.loop-c.c-iterator) c.in-None.ensures.steps.0.0) h),
)

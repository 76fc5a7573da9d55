use Rattle.std.proofs.Common.{true, false, ◌∙◌, ap, sym, subst}
use Rattle.std.proofs.lemmas.Str.{chars_past_char, IsUtf8-past_char}
use Rattle.std.proofs.StrCases.{chars_of_empty}
use Rattle.std.specs.Str.{chars, IsUtf8}
use Rattle.std.specs.Str.Iter.{chars_rest}
use Rattle.text_regexp.specs.Marked.{cleared}
use Rattle.text_regexp.proofs.Running.{whole_init, whole_step, whole_end, whole_settled, whole_unmarked, cleared_unmarked, no_mark}
use Rattle.text_regexp.proofs.Placing.{cleared_shifted}
use Rattle.text_regexp.proofs.Works.{spends_none, spends_some, stays_less}
use Rattle.text_regexp.proofs.run.run.Goals as goal

pub loop-c-init : goal.loop-c-init
loop-c-init c =
    let rest = ap chars_rest c.into_iter-c-iterator.ensures.into_iter_gives ∙ c.chars-c-items.ensures.rest in
    let text = chars c.args.text.now in
    let front = chars (chars_rest c.into_iter-c-iterator.result) in
    let root = c.args.root.now in record {
      utf8 = subst IsUtf8 (sym rest) c.utf8.text;
      whole = whole_init root c.skips-ends.result front text c.requires.kept c.requires.unmarked c.requires.plain c.skips-ends.ensures
          (ap chars rest);
      same = sym (cleared_unmarked root c.requires.kept c.requires.unmarked);
      work = λ h. h;
    }

pub loop-c-preserved : goal.loop-c-preserved
loop-c-preserved c =
    let held = c.loop-c.invariant in
    let parts = c.in-Some.ensures.steps.0 in record {
      utf8 = IsUtf8-past_char _ _ c.in-Some.c held.utf8 parts;
      whole = whole_step _ _ _ _ _ _ c.in-Some.c _ _ _ held.whole
          (chars_past_char _ _ c.in-Some.c held.utf8 parts) c.shift-edges.ensures.marks c.shift-edges.ensures.ends;
      same = ap cleared c.shift-edges.ensures.marks ∙ (cleared_shifted c.loop-c.root _ _ ∙ held.same);
      work = stays_less _ _ _ _ c.loop-c.invariant.work c.take.ensures.rest;
    }

pub returns-then-not-edges-clause-kept : goal.returns-then-not-edges-clause-kept
returns-then-not-edges-clause-kept c =
    (whole_step _ _ _ _ _ _ c.in-Some.c _ _ _ c.loop-c.invariant.whole
    (chars_past_char _ _ c.in-Some.c c.loop-c.invariant.utf8 c.in-Some.ensures.steps.0)
    c.shift-edges.ensures.marks c.shift-edges.ensures.ends).kept

pub returns-then-not-edges-clause-same : goal.returns-then-not-edges-clause-same
returns-then-not-edges-clause-same c =
    ap cleared c.shift-edges.ensures.marks ∙ (cleared_shifted c.loop-c.root _ _ ∙ c.loop-c.invariant.same)

pub returns-then-not-edges-clause-matched : goal.returns-then-not-edges-clause-matched
returns-then-not-edges-clause-matched c =
    whole_unmarked _ _ _ _ _ (whole_step _ _ _ _ _ _ c.in-Some.c _ _ _ c.loop-c.invariant.whole
    (chars_past_char _ _ c.in-Some.c c.loop-c.invariant.utf8 c.in-Some.ensures.steps.0)
    c.shift-edges.ensures.marks c.shift-edges.ensures.ends) (sym c.shift-edges.ensures.marked ∙ no_mark _ c.if-not-edges.true)

pub returns-then-is_settled-clause-kept : goal.returns-then-is_settled-clause-kept
returns-then-is_settled-clause-kept c =
    (whole_step _ _ _ _ _ _ c.in-Some.c _ _ _ c.loop-c.invariant.whole
    (chars_past_char _ _ c.in-Some.c c.loop-c.invariant.utf8 c.in-Some.ensures.steps.0)
    c.shift-edges.ensures.marks c.shift-edges.ensures.ends).kept

pub returns-then-is_settled-clause-same : goal.returns-then-is_settled-clause-same
returns-then-is_settled-clause-same c =
    ap cleared c.shift-edges.ensures.marks ∙ (cleared_shifted c.loop-c.root _ _ ∙ c.loop-c.invariant.same)

pub returns-then-is_settled-clause-matched : goal.returns-then-is_settled-clause-matched
returns-then-is_settled-clause-matched c =
    whole_settled _ _ _ _ _ _ (whole_step _ _ _ _ _ _ c.in-Some.c _ _ _ c.loop-c.invariant.whole
    (chars_past_char _ _ c.in-Some.c c.loop-c.invariant.utf8 c.in-Some.ensures.steps.0)
    c.shift-edges.ensures.marks c.shift-edges.ensures.ends) (sym c.is_settled.ensures ∙ c.if-is_settled.true)

pub returns-clause-kept : goal.returns-clause-kept
returns-clause-kept c = c.loop-c.invariant.whole.kept

pub returns-clause-same : goal.returns-clause-same
returns-clause-same c = c.loop-c.invariant.same

pub returns-clause-matched : goal.returns-clause-matched
returns-clause-matched c =
    whole_end _ _ _ _ _ _ c.loop-c.invariant.whole (chars_of_empty (chars_rest c.loop-c.c-iterator) c.in-None.ensures.steps.0.0)

pub returns-then-not-edges-clause-work : goal.returns-then-not-edges-clause-work
returns-then-not-edges-clause-work c = spends_some _ _ false (stays_less _ _ _ _ c.loop-c.invariant.work c.take.ensures.rest)

pub returns-then-is_settled-clause-work : goal.returns-then-is_settled-clause-work
returns-then-is_settled-clause-work c = spends_some _ _ true (stays_less _ _ _ _ c.loop-c.invariant.work c.take.ensures.rest)

pub returns-clause-work : goal.returns-clause-work
returns-clause-work c = spends_some _ _ c.loop-c.ends c.loop-c.invariant.work

pub returns-then-is_none-clause-work : goal.returns-then-is_none-clause-work
returns-then-is_none-clause-work c =
    spends_none _ _ _ _ _ _ c.loop-c.invariant.work c.take.ensures.enough c.if-is_none.ensures c.take.ensures.rest

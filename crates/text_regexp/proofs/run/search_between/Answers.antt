use Rattle.std.proofs.Common.{◌∙◌, None, ap, refl, sym, subst, true}
use Rattle.std.proofs.lemmas.Bool.{or_parts}
use Rattle.std.proofs.lemmas.Str.{chars_past_char, IsUtf8-past_char}
use Rattle.std.proofs.StrCases.{chars_of_empty}
use Rattle.std.specs.Str.{chars, IsUtf8}
use Rattle.std.specs.Str.Iter.{chars_rest}
use Rattle.text_regexp.specs.Marked.{IsKept, ends_here, shifted, skips, standing}
use Rattle.text_regexp.proofs.Placing.{moved_on, stood_on}
use Rattle.text_regexp.proofs.Running.{cleared_unmarked, kept_standing, parting_done, parting_here, parting_init, parting_step}
use Rattle.text_regexp.proofs.run.search_between.Goals as goal

pub loop-c-init : goal.loop-c-init
loop-c-init c =
    let rest = ap chars_rest c.into_iter-c-iterator.ensures.into_iter_gives ∙ c.chars-c-items.ensures.rest in
    let root = c.args.root.now in record {
      utf8 = subst IsUtf8 (sym rest) c.utf8.text;
      parting = parting_init root (chars (chars_rest c.into_iter-c-iterator.result)) (chars c.args.text.now) c.requires.kept
          c.requires.unmarked (ap chars rest);
      same = ap (standing None None) (sym (cleared_unmarked root c.requires.kept c.requires.unmarked));
    }

pub shift-requires : goal.shift-requires
shift-requires c = subst IsKept (sym c.place_assertions-here.ensures.stood) (kept_standing _ _ _ c.loop-c.invariant.parting.kept)

pub returns-then-here-clause-kept : goal.returns-then-here-clause-kept
returns-then-here-clause-kept c =
    subst IsKept (sym c.place_assertions-here.ensures.stood) (kept_standing _ _ _ c.loop-c.invariant.parting.kept)

pub returns-then-here-clause-same : goal.returns-then-here-clause-same
returns-then-here-clause-same c = stood_on _ _ _ _ _ c.place_assertions-here.ensures.stood c.loop-c.invariant.same

pub returns-then-here-clause-matched : goal.returns-then-here-clause-matched
returns-then-here-clause-matched c =
    let held = c.loop-c.invariant in
    let found = parting_here _ _ _ _ c.in-Some.c _ _ _ _ _ held.parting
    (chars_past_char _ _ c.in-Some.c held.utf8 c.in-Some.ensures.steps.0) c.place_assertions-here.ensures.stood c.place_assertions-here.ensures.skips
    c.place_assertions-here.ensures.ends c.if-here.true in
    (λ _. found, λ _. refl)

pub loop-c-preserved : goal.loop-c-preserved
loop-c-preserved c =
    let held = c.loop-c.invariant in
    let parts = c.in-Some.ensures.steps.0 in
    let none = or_parts c.place_assertions-here.result.skips c.place_assertions-here.result.ends c.if-here.false in
    let stood = c.place_assertions-here.ensures.stood in record {
      utf8 = IsUtf8-past_char _ _ c.in-Some.c held.utf8 parts;
      parting = parting_step _ _ _ _ c.in-Some.c _ _ _ held.parting (chars_past_char _ _ c.in-Some.c held.utf8 parts)
          (ap skips (sym stood) ∙ (sym c.place_assertions-here.ensures.skips ∙ none.0))
          (ap ends_here (sym stood) ∙ (sym c.place_assertions-here.ensures.ends ∙ none.1))
          (c.shift.ensures.marks ∙ ap (shifted true c.in-Some.c) stood);
      same = moved_on _ _ _ _ _ c.shift.ensures.marks (stood_on _ _ _ _ _ stood held.same);
    }

pub returns-clause-kept : goal.returns-clause-kept
returns-clause-kept c = subst IsKept (sym c.place_assertions-here-2.ensures.stood) (kept_standing _ _ _ c.loop-c.invariant.parting.kept)

pub returns-clause-same : goal.returns-clause-same
returns-clause-same c = stood_on _ _ _ _ _ c.place_assertions-here-2.ensures.stood c.loop-c.invariant.same

pub returns-clause-matched : goal.returns-clause-matched
returns-clause-matched c =
    parting_done _ _ _ _ _ _ _ _ c.loop-c.invariant.parting
    (chars_of_empty (chars_rest c.loop-c.c-iterator) c.in-None.ensures.steps.0.0) c.place_assertions-here-2.ensures.stood
    c.place_assertions-here-2.ensures.skips c.place_assertions-here-2.ensures.ends

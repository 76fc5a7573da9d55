use Rattle.std.proofs.Common.{false, ◌∙◌, ◌↔◌, ◌||◌, ◌&&◌, IsTrue, None, ap, sym, subst}
use Rattle.std.proofs.lemmas.Str.{chars_past_char, IsUtf8-past_char}
use Rattle.std.proofs.StrCases.{chars_of_empty}
use Rattle.std.specs.Str.{chars, IsUtf8}
use Rattle.std.specs.Str.Iter.{chars_rest}
use Rattle.text_regexp.specs.Forms.{Matches}
use Rattle.text_regexp.specs.Marked.{IsKept, shifted, standing, tree_form}
use Rattle.text_regexp.proofs.Placing.{moved_on, stood_on}
use Rattle.text_regexp.proofs.Running.{cleared_unmarked, kept_standing, reached_end, reached_init, reached_step, reached_unmarked}
use Rattle.text_regexp.proofs.Running.{no_mark}
use Rattle.text_regexp.proofs.Works.{spends_none, spends_some, stays_less}
use Rattle.text_regexp.proofs.run.run_between.Goals as goal

pub loop-c-init : goal.loop-c-init
loop-c-init c =
    let rest = ap chars_rest c.into_iter-c-iterator.ensures.into_iter_gives ∙ c.chars-c-items.ensures.rest in
    let root = c.args.root.now in record {
      utf8 = subst IsUtf8 (sym rest) c.utf8.text;
      reached = reached_init root (chars (chars_rest c.into_iter-c-iterator.result)) (chars c.args.text.now) c.requires.kept
          c.requires.unmarked (ap chars rest);
      same = ap (standing None None) (sym (cleared_unmarked root c.requires.kept c.requires.unmarked));
      work = λ h. h;
    }

pub shift-edges-requires : goal.shift-edges-requires
shift-edges-requires c = subst IsKept (sym c.place_assertions.ensures.stood) (kept_standing _ _ _ c.loop-c.invariant.reached.kept)

pub loop-c-preserved : goal.loop-c-preserved
loop-c-preserved c =
    let held = c.loop-c.invariant in
    let parts = c.in-Some.ensures.steps.0 in record {
      utf8 = IsUtf8-past_char _ _ c.in-Some.c held.utf8 parts;
      reached = reached_step _ _ _ _ _ c.in-Some.c _ _ _ held.reached (chars_past_char _ _ c.in-Some.c held.utf8 parts)
          (c.shift-edges.ensures.marks ∙ ap (shifted c.loop-c.start c.in-Some.c) c.place_assertions.ensures.stood);
      same = moved_on _ _ _ _ _ c.shift-edges.ensures.marks (stood_on _ _ _ _ _ c.place_assertions.ensures.stood held.same);
      work = stays_less _ _ _ _ c.loop-c.invariant.work c.take.ensures.rest;
    }

pub returns-then-not-edges-clause-kept : goal.returns-then-not-edges-clause-kept
returns-then-not-edges-clause-kept c =
    (reached_step _ _ _ _ _ c.in-Some.c _ _ _ c.loop-c.invariant.reached
    (chars_past_char _ _ c.in-Some.c c.loop-c.invariant.utf8 c.in-Some.ensures.steps.0)
    (c.shift-edges.ensures.marks ∙ ap (shifted c.loop-c.start c.in-Some.c) c.place_assertions.ensures.stood)).kept

pub returns-then-not-edges-clause-same : goal.returns-then-not-edges-clause-same
returns-then-not-edges-clause-same c =
    moved_on _ _ _ _ _ c.shift-edges.ensures.marks (stood_on _ _ _ _ _ c.place_assertions.ensures.stood c.loop-c.invariant.same)

pub returns-then-not-edges-clause-matched : goal.returns-then-not-edges-clause-matched
returns-then-not-edges-clause-matched c =
    reached_unmarked _ _ _ _ _ (reached_step _ _ _ _ _ c.in-Some.c _ _ _ c.loop-c.invariant.reached
    (chars_past_char _ _ c.in-Some.c c.loop-c.invariant.utf8 c.in-Some.ensures.steps.0)
    (c.shift-edges.ensures.marks ∙ ap (shifted c.loop-c.start c.in-Some.c) c.place_assertions.ensures.stood))
    (sym c.shift-edges.ensures.marked ∙ no_mark _ c.if-not-edges.true)

pub returns-clause-kept : goal.returns-clause-kept
returns-clause-kept c = subst IsKept (sym c.place_assertions-here.ensures.stood) (kept_standing _ _ _ c.loop-c.invariant.reached.kept)

pub returns-clause-same : goal.returns-clause-same
returns-clause-same c = stood_on _ _ _ _ _ c.place_assertions-here.ensures.stood c.loop-c.invariant.same

pub returns-clause-matched : goal.returns-clause-matched
returns-clause-matched c =
    subst (λ x. IsTrue x ↔ Matches (tree_form c.args.root.now) (chars c.args.text.now))
    (λ i. sym c.place_assertions-here.ensures.ends i || (c.loop-c.start && sym c.place_assertions-here.ensures.skips i))
    (reached_end _ _ _ _ _ _ _ c.loop-c.invariant.reached (chars_of_empty (chars_rest c.loop-c.c-iterator) c.in-None.ensures.steps.0.0)
    c.place_assertions-here.ensures.stood)

pub returns-then-not-edges-clause-work : goal.returns-then-not-edges-clause-work
returns-then-not-edges-clause-work c = spends_some _ _ false (stays_less _ _ _ _ c.loop-c.invariant.work c.take.ensures.rest)

pub returns-clause-work : goal.returns-clause-work
returns-clause-work c = spends_some _ _ (c.place_assertions-here.result.ends || (c.loop-c.start && c.place_assertions-here.result.skips)) c.loop-c.invariant.work

pub returns-then-is_none-clause-work : goal.returns-then-is_none-clause-work
returns-then-is_none-clause-work c =
    spends_none _ _ _ _ _ _ c.loop-c.invariant.work c.take.ensures.enough c.if-is_none.ensures c.take.ensures.rest

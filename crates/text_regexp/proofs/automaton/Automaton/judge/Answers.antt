use Rattle.std.proofs.Common.{◌∙◌, ap, arith, refl, sym, subst, true}
use Rattle.std.proofs.StrCases.{chars_of_empty}
use Rattle.std.proofs.lemmas.Str.{chars_past_char, IsUtf8-past_char}
use Rattle.std.specs.Str.{chars, IsUtf8}
use Rattle.std.specs.Str.Iter.{chars_rest}
use Rattle.text_regexp.specs.Automata.{row_reads}
use Rattle.text_regexp.specs.Marked.{reads}
use Rattle.text_regexp.proofs.automaton.Automaton.judge.Goals as goal

pub loop-c-init : goal.loop-c-init
loop-c-init c =
    let rest = ap chars_rest c.into_iter-c-iterator.ensures.into_iter_gives ∙ c.chars-c-items.ensures.rest in record {
      utf8 = subst IsUtf8 (sym rest) c.utf8.text;
      row = omega arith;
      same = refl;
      reads = ap (λ t. reads true c.args.self.now.expression.root (chars t)) rest;
      work = λ h. h;
    }

pub loop-c-preserved : goal.loop-c-preserved
loop-c-preserved c =
    let held = c.loop-c.invariant in
    let parts = c.in-Some.ensures.steps.0 in
    let step = c.in_ok-row.ensures in
    let rest = chars (chars_rest c.next.new.self) in record {
      utf8 = IsUtf8-past_char _ _ c.in-Some.c held.utf8 parts;
      row = step.next.0;
      same = step.same ∙ held.same;
      reads = ap (λ x. row_reads x c.step.new.self.states.items c.in_ok-row.row rest) step.same
          ∙ (step.next.1 rest ∙ (ap (row_reads c.loop-c.self.expression.root c.loop-c.self.states.items c.loop-c.row)
          (sym (chars_past_char _ _ c.in-Some.c held.utf8 parts)) ∙ held.reads));
      work = λ h. c.step.ensures.unlimited (held.work h);
    }

pub returns-in-Some-verdict-clause-matched : goal.returns-in-Some-verdict-clause-matched
returns-in-Some-verdict-clause-matched c =
    let held = c.loop-c.invariant in
    let parts = c.in-Some.ensures.steps.0 in
    let step = c.in_ok-row.ensures in
    let rest = chars (chars_rest c.next.new.self) in
    sym (c.in-Some-verdict.ensures rest)
    ∙ (ap (λ x. row_reads x c.step.new.self.states.items c.in_ok-row.row rest) step.same
    ∙ (step.next.1 rest ∙ (ap (row_reads c.loop-c.self.expression.root c.loop-c.self.states.items c.loop-c.row)
    (sym (chars_past_char _ _ c.in-Some.c held.utf8 parts)) ∙ held.reads)))

pub returns-clause-matched : goal.returns-clause-matched
returns-clause-matched c =
    let held = c.loop-c.invariant in
    let empty = chars_of_empty (chars_rest c.loop-c.c-iterator) c.in-None.ensures.steps.0.0 in
    c.ends.ensures ∙ (ap (row_reads c.loop-c.self.expression.root c.loop-c.self.states.items c.loop-c.row) (sym empty) ∙ held.reads)

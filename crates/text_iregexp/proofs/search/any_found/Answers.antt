use Rattle.std.proofs.Common.{◌∙◌, map, arith, refl, sym, true≢false, subst}
use Rattle.std.proofs.Math.Seq.{map-set_same}
use Rattle.std.proofs.lemmas.List.{length-map}
use Rattle.std.specs.Str.{chars}
use Rattle.text_regexp.specs.Forms.{empty}
use Rattle.text_regexp.specs.Work.{Spends}
use Rattle.text_iregexp.specs.PatternTexts.{case_text}
use Rattle.text_iregexp.proofs.CaseTexts.{item_matches, one_at, none_more, none_end}
use Rattle.text_iregexp.proofs.search.any_found.Goals as goal

pub returns-then-found-clause-same : goal.returns-then-found-clause-same
returns-then-found-clause-same c =
    map-set_same case_text c.loop-case.cases c.loop-case.case-index c.is_found_in.new.self c.case-item.result c.is_found_in.ensures.same
    ∙ c.loop-case.invariant.same

pub returns-then-found-clause-found : goal.returns-then-found-clause-found
returns-then-found-clause-found c =
    let len = length-map c.args.cases.now case_text in (
      λ _. one_at (map case_text c.args.cases.now) c.loop-case.case-index empty (chars c.args.text.now)
          (omega (arith, c.loop-case-test.true))
          ((item_matches case_text c.loop-case.cases c.args.cases.now c.loop-case.case-index c.case-item.result (chars c.args.text.now)
          c.in_ok-found.found c.loop-case.invariant.same (omega (arith, c.loop-case-test.true, c.loop-case.auto.cases))
          c.in_ok-found.ensures.found).0 c.if-found.true),
      λ _. refl,
    )

pub loop-case-preserved : goal.loop-case-preserved
loop-case-preserved c =
    let len = length-map c.args.cases.now case_text in record {
      same = map-set_same case_text c.loop-case.cases c.loop-case.case-index c.is_found_in.new.self c.case-item.result c.is_found_in.ensures.same
          ∙ c.loop-case.invariant.same;
      texts = none_more (map case_text c.args.cases.now) c.loop-case.case-index empty (chars c.args.text.now)
          (omega (arith, c.loop-case-test.true)) c.loop-case.invariant.texts
          (λ m. true≢false (sym ((item_matches case_text c.loop-case.cases c.args.cases.now c.loop-case.case-index c.case-item.result
          (chars c.args.text.now) c.in_ok-found.found c.loop-case.invariant.same
          (omega (arith, c.loop-case-test.true, c.loop-case.auto.cases)) c.in_ok-found.ensures.found).1 m) ∙ c.if-found.false));
      work = λ h. (c.is_found_in.ensures.work.0 (c.loop-case.invariant.work h)).0;
    }

pub returns-clause-same : goal.returns-clause-same
returns-clause-same c = c.loop-case.invariant.same

pub returns-clause-found : goal.returns-clause-found
returns-clause-found c =
    let len = length-map c.args.cases.now case_text in (
      λ x. absurd (true≢false (sym x)),
      λ m. absurd (none_end (map case_text c.args.cases.now) c.loop-case.case-index (chars c.args.text.now)
          (omega (arith, c.loop-case-test.false)) c.loop-case.invariant.texts m),
    )

pub returns-in_err-found-clause-same : goal.returns-in_err-found-clause-same
returns-in_err-found-clause-same c =
    map-set_same case_text c.loop-case.cases c.loop-case.case-index c.is_found_in.new.self c.case-item.result c.is_found_in.ensures.same
    ∙ c.loop-case.invariant.same

pub returns-in_err-found-clause-work : goal.returns-in_err-found-clause-work
returns-in_err-found-clause-work c =
    subst (λ r. Spends c.args.work.now r c.is_found_in.new.work) (sym c.from_residual.ensures)
    (λ h. c.in_err-found.ensures.work.0 (c.loop-case.invariant.work h), c.in_err-found.ensures.work.1)

pub returns-then-found-clause-work : goal.returns-then-found-clause-work
returns-then-found-clause-work c = (λ h. ((c.is_found_in.ensures.work.0 (c.loop-case.invariant.work h)).0, refl), tt)

pub returns-clause-work : goal.returns-clause-work
returns-clause-work c = (λ h. (c.loop-case.invariant.work h, refl), tt)

use Rattle.std.proofs.Common.{◌∙◌, map, arith, refl, sym, subst}
use Rattle.std.proofs.Math.Seq.{map-set_same}
use Rattle.std.proofs.lemmas.List.{length-map}
use Rattle.std.specs.Str.{chars}
use Rattle.text_regexp.specs.Forms.{empty}
use Rattle.text_regexp.specs.Work.{Spends}
use Rattle.text_iregexp.specs.PatternTexts.{look_text}
use Rattle.text_iregexp.proofs.CaseTexts.{item_matches, not_all, all_more, all_end}
use Rattle.text_iregexp.proofs.search.all_hold.Goals as goal

pub returns-then-not-holds-clause-same : goal.returns-then-not-holds-clause-same
returns-then-not-holds-clause-same c =
    map-set_same look_text c.loop-look.looks c.loop-look.look-index c.holds.new.self c.look-item.result c.holds.ensures.same
    ∙ c.loop-look.invariant.same

pub returns-then-not-holds-clause-hold : goal.returns-then-not-holds-clause-hold
returns-then-not-holds-clause-hold c =
    let len = length-map c.args.looks.now look_text in
    not_all (map look_text c.args.looks.now) c.loop-look.look-index empty (chars c.args.text.now) c.in_ok-holds.holds
    (omega (arith, c.loop-look-test.true))
    (item_matches look_text c.loop-look.looks c.args.looks.now c.loop-look.look-index c.look-item.result (chars c.args.text.now)
    c.in_ok-holds.holds c.loop-look.invariant.same (omega (arith, c.loop-look-test.true, c.loop-look.auto.looks)) c.in_ok-holds.ensures.holds)
    c.if-not-holds.true

pub loop-look-preserved : goal.loop-look-preserved
loop-look-preserved c =
    let len = length-map c.args.looks.now look_text in record {
      same = map-set_same look_text c.loop-look.looks c.loop-look.look-index c.holds.new.self c.look-item.result c.holds.ensures.same
          ∙ c.loop-look.invariant.same;
      texts = all_more (map look_text c.args.looks.now) c.loop-look.look-index empty (chars c.args.text.now)
          (omega (arith, c.loop-look-test.true)) c.loop-look.invariant.texts
          ((item_matches look_text c.loop-look.looks c.args.looks.now c.loop-look.look-index c.look-item.result (chars c.args.text.now)
          c.in_ok-holds.holds c.loop-look.invariant.same (omega (arith, c.loop-look-test.true, c.loop-look.auto.looks)) c.in_ok-holds.ensures.holds).0
          c.if-not-holds.false);
      work = λ h. (c.holds.ensures.work.0 (c.loop-look.invariant.work h)).0;
    }

pub returns-clause-same : goal.returns-clause-same
returns-clause-same c = c.loop-look.invariant.same

pub returns-clause-hold : goal.returns-clause-hold
returns-clause-hold c =
    let len = length-map c.args.looks.now look_text in (
      λ _. all_end (map look_text c.args.looks.now) c.loop-look.look-index (chars c.args.text.now)
          (omega (arith, c.loop-look-test.false)) c.loop-look.invariant.texts,
      λ _. refl,
    )

pub returns-in_err-holds-clause-same : goal.returns-in_err-holds-clause-same
returns-in_err-holds-clause-same c =
    map-set_same look_text c.loop-look.looks c.loop-look.look-index c.holds.new.self c.look-item.result c.holds.ensures.same
    ∙ c.loop-look.invariant.same

pub returns-in_err-holds-clause-work : goal.returns-in_err-holds-clause-work
returns-in_err-holds-clause-work c =
    subst (λ r. Spends c.args.work.now r c.holds.new.work) (sym c.from_residual.ensures)
    (λ h. c.in_err-holds.ensures.work.0 (c.loop-look.invariant.work h), c.in_err-holds.ensures.work.1)

pub returns-then-not-holds-clause-work : goal.returns-then-not-holds-clause-work
returns-then-not-holds-clause-work c = (λ h. ((c.holds.ensures.work.0 (c.loop-look.invariant.work h)).0, refl), tt)

pub returns-clause-work : goal.returns-clause-work
returns-clause-work c = (λ h. (c.loop-look.invariant.work h, refl), tt)

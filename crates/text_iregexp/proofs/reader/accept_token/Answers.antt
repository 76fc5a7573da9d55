use Rattle.std.proofs.Common.{◌∷◌, ◌∙◌, ap, refl, sym, subst}
use Rattle.text_iregexp.specs.Fronts.{token_of}
use Rattle.text_iregexp.specs.Grammar.{character}
use Rattle.text_iregexp.specs.Levels.{StandsAt, IsSized, fresh, with_atom, with_assertion, barred, advance}
use Rattle.text_iregexp.proofs.Levels.{stands_same, outer_push, quantifier_takes, closed_takes}
use Rattle.text_iregexp.proofs.Sizes.{put_grown, put_large, opened_grown, opened_large, barred_grown, barred_large, assertion_grown}
use Rattle.text_iregexp.proofs.Sizes.{assertion_large}
use Rattle.text_iregexp.proofs.reader.accept_token.Goals as goal

pub returns-in_default : goal.returns-in_default
returns-in_default c = λ s a.
    let k = c.in-Characters.class in
    let atom = character k.negated k.items.items in (
      (with_atom s.0 atom, s.1),
      ap (λ t. advance s (token_of t)) c.in-Characters.is,
      put_large c.args.here.now s.0 s.1 atom c.size-more.result a.1 c.size-more.ensures c.in_default.ensures,
    )

pub returns-in_ok-put-in-Characters : goal.returns-in_ok-put-in-Characters
returns-in_ok-put-in-Characters c = λ s a.
    let k = c.in-Characters.class in
    let atom = character k.negated k.items.items in (
      (with_atom s.0 atom, s.1),
      ap (λ t. advance s (token_of t)) c.in-Characters.is,
      (
        c.in_ok-put-in-Characters.ensures.read s.0 atom a.0 c.one_of.ensures,
        put_grown c.args.here.now c.put.new.self s.0 s.1 atom c.size-more.result c.in-Some.size a.1 c.in-Some.ensures c.size-more.ensures
            c.in_ok-put-in-Characters.ensures.size c.in_ok-put-in-Characters.ensures.last_size,
        a.2,
      ),
    )

pub returns-in_default-grown : goal.returns-in_default-grown
returns-in_default-grown c = λ s a. (
  (fresh, s.0 ∷ s.1),
  ap (λ t. advance s (token_of t)) c.in-Open.is,
  opened_large c.args.here.now s a.1 c.in_default-grown.ensures,
)

pub returns-in_ok-push-in-Open : goal.returns-in_ok-push-in-Open
returns-in_ok-push-in-Open c = λ s a. (
  (fresh, s.0 ∷ s.1),
  ap (λ t. advance s (token_of t)) c.in-Open.is,
  (
    subst (λ f. StandsAt f fresh) (sym c.replace.ensures.after) c.new.ensures.read,
    opened_grown c.args.here.now _ s c.in-Some-grown.size a.1 c.in-Some-grown.ensures
        (ap (λ f. f.size) c.replace.ensures.after ∙ c.new.ensures.size),
    outer_push _ _ c.replace.result s.0 s.1 c.in_ok-push-in-Open.ensures.items a.2
        (subst (λ f. StandsAt f s.0) (sym c.replace.ensures.value) a.0)
        (subst (λ f. IsSized f s) (sym c.replace.ensures.value) a.1),
  ),
)

pub returns-in_ok-put-in-Close : goal.returns-in_ok-put-in-Close
returns-in_ok-put-in-Close c =
    closed_takes c.args.here.now _ c.in-Some-pop.around c.args.outer.now.items _ c.in_ok-group-in-Close.group (token_of c.args.token)
    (ap token_of c.in-Close.is) c.in-Some-pop.ensures.items c.in_ok-group-in-Close.ensures c.in_ok-put-in-Close.ensures.read
    c.in_ok-put-in-Close.ensures.size c.in_ok-put-in-Close.ensures.last_size

pub returns-in_default-grown-2 : goal.returns-in_default-grown-2
returns-in_default-grown-2 c = λ s a. (
  (barred s.0, s.1),
  ap (λ t. advance s (token_of t)) c.in-Bar.is,
  barred_large c.args.here.now s.0 s.1 a.1 c.in_default-grown-2.ensures,
)

pub returns-in_ok-end_branch-in-Bar : goal.returns-in_ok-end_branch-in-Bar
returns-in_ok-end_branch-in-Bar c = λ s a. (
  (barred s.0, s.1),
  ap (λ t. advance s (token_of t)) c.in-Bar.is,
  (
    stands_same c.end_branch.new.self _ (barred s.0) refl refl refl (c.in_ok-end_branch-in-Bar.ensures.read s.0 a.0),
    barred_grown c.args.here.now _ s.0 s.1 c.in-Some-grown-2.size a.1 c.in-Some-grown-2.ensures refl,
    a.2,
  ),
)

pub returns-in-Quantifier : goal.returns-in-Quantifier
returns-in-Quantifier c =
    quantifier_takes c.args.here.now _ c.args.outer.now.items c.in-Quantifier.least c.in-Quantifier.most (token_of c.args.token) _
    (ap token_of c.in-Quantifier.is) c.repeat_last.ensures

pub returns-in_default-grown-3 : goal.returns-in_default-grown-3
returns-in_default-grown-3 c = λ s a. (
  (with_assertion s.0 c.in-Assertion.kind, s.1),
  ap (λ t. advance s (token_of t)) c.in-Assertion.is,
  assertion_large c.args.here.now s.0 s.1 c.in-Assertion.kind a.1 c.in_default-grown-3.ensures,
)

pub returns-in_ok-put_assertion-in-Assertion : goal.returns-in_ok-put_assertion-in-Assertion
returns-in_ok-put_assertion-in-Assertion c = λ s a. (
  (with_assertion s.0 c.in-Assertion.kind, s.1),
  ap (λ t. advance s (token_of t)) c.in-Assertion.is,
  (
    c.in_ok-put_assertion-in-Assertion.ensures.read s.0 a.0,
    assertion_grown c.args.here.now _ s.0 s.1 c.in-Assertion.kind c.in-Some-grown-3.size a.1 c.in-Some-grown-3.ensures
        c.in_ok-put_assertion-in-Assertion.ensures.size,
    a.2,
  ),
)

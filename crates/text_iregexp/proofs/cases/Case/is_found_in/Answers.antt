use Rattle.std.proofs.Common.{◌↔◌, map, IsTrue, subst}
use Rattle.std.specs.Str.{chars}
use Rattle.text_regexp.specs.Automaton.{expression_of}
use Rattle.text_regexp.specs.Building.{form_of}
use Rattle.text_iregexp.specs.PatternTexts.{look_text, AllMatch}
use Rattle.text_iregexp.proofs.CaseTexts.{guard_broken, guard_kept}
use Rattle.text_iregexp.proofs.cases.Case.is_found_in.Goals as goal

pub returns-then-not-hold-clause-found : goal.returns-then-not-hold-clause-found
returns-then-not-hold-clause-found c =
    guard_broken (map look_text c.args.self.now.looks.items) (form_of (expression_of c.args.self.now.root)) (chars c.args.text.now)
    c.in_ok-hold.hold
    (subst (λ ks. IsTrue c.in_ok-hold.hold ↔ AllMatch (map look_text ks) (chars c.args.text.now)) c.as_mut_slice.ensures.value
    c.in_ok-hold.ensures.hold) c.if-not-hold.true

pub returns-clause-found : goal.returns-clause-found
returns-clause-found c =
    guard_kept (map look_text c.args.self.now.looks.items) (form_of (expression_of c.args.self.now.root)) (chars c.args.text.now)
    c.in_ok-hold.hold
    c.in_ok-found.found
    (subst (λ ks. IsTrue c.in_ok-hold.hold ↔ AllMatch (map look_text ks) (chars c.args.text.now)) c.as_mut_slice.ensures.value
    c.in_ok-hold.ensures.hold) c.if-not-hold.false c.in_ok-found.ensures.matched

use Rattle.std.proofs.Common.{◌≡◌, ◌∷◌, ◌++◌, sym, subst, ap, ◌∙◌, arith}
use Rattle.std.proofs.lemmas.Bool.Decides.{nat_tests}
use Rattle.std.specs.Str.{chars}
use Rattle.tinyjson_grammar.specs.Syntax.{text, IsSpelled, IsStrict}
use Rattle.tinyjson_pointer.proofs.Locating.Keyed.{closed_key, object_key}
use Rattle.tinyjson_pointer.proofs.Locating.Walking.{opened_object}
use Rattle.tinyjson_pointer.proofs.place.key.child_key.Goals as goal

pub returns-then-is_closed : goal.returns-then-is_closed
returns-then-is_closed c = λ s r h z e.
    sym (closed_key s (chars c.args.token.now) r (chars c.in-Some.inside.now) c.in-Some.opening h (sym c.in-Some.ensures.0 ∙ e)
    (sym c.is_closed.ensures ∙ c.if-is_closed.true))

pub returns-in-123 : goal.returns-in-123
returns-in-123 c = λ s r h z e.
    let xs = chars c.in-Some.inside.now in
    let is : c.in-Some.opening ≡ 123 = grind (arith, nat_tests) in
    let begins : 123 ∷ xs ≡ text s ++ r = ap (λ x. x ∷ xs) (sym is) ∙ (sym c.in-Some.ensures.0 ∙ e) in
    let a = opened_object s r xs h begins (sym c.is_closed.ensures ∙ c.if-is_closed.false) in
    object_key s a.0 (chars c.args.token.now) r c.member_key.result a.1
    (c.member_key.ensures a.0 r (subst IsSpelled a.1 h) (subst IsStrict a.1 z) a.2)

use Rattle.std.proofs.Common.{rules, arith, ◌≡◌, ◌+◌, ◌<◌, ◌≤◌, get_or, length, refl, subst}
use Rattle.tinyjson_tokens.proofs.Reading.Escape.{six_bytes, four_digits}
use Rattle.tinyjson_tokens.proofs.escape.unit_at.Goals as goal

pub returns : goal.returns
returns c =
    let bytes = c.args.bytes.now in
    let at = c.args.at in
    let e1 = c.in_ok-first.ensures.0 in
    let a1 = subst (λ v. v < 16) e1 c.in_ok-first.ensures.1 in
    let e2 = c.in_ok-second.ensures.0 in
    let a2 = subst (λ v. v < 16) e2 c.in_ok-second.ensures.1 in
    let e3 = c.in_ok-third.ensures.0 in
    let a3 = subst (λ v. v < 16) e3 c.in_ok-third.ensures.1 in
    let e4 = c.in_ok-fourth.ensures.0 in
    let a4 = subst (λ v. v < 16) e4 c.in_ok-fourth.ensures.1 in
    let h : at + 6 ≤ length bytes = search (rules, arith) in
    let p : get_or bytes at 0 ≡ 92 = search rules in
    let q : get_or bytes (at + 1) 0 ≡ 117 = search rules in
    six_bytes bytes at _ _ _ _ _ h p q refl refl refl refl a1 a2 a3 a4
    (four_digits (get_or bytes (at + 2) 0) (get_or bytes (at + 3) 0) (get_or bytes (at + 4) 0)
    (get_or bytes (at + 5) 0) _ _ _ _ e1 e2 e3 e4)

pub overflow_mul-result : goal.overflow_mul-result
overflow_mul-result c = omega (arith, c.in_ok-first.ensures.1)

pub overflow_add-result : goal.overflow_add-result
overflow_add-result c = omega (arith, c.in_ok-first.ensures.1, c.in_ok-second.ensures.1)

pub overflow_mul-result-2 : goal.overflow_mul-result-2
overflow_mul-result-2 c = omega (arith, c.in_ok-first.ensures.1, c.in_ok-second.ensures.1)

pub overflow_add-result-2 : goal.overflow_add-result-2
overflow_add-result-2 c = omega (arith, c.in_ok-first.ensures.1, c.in_ok-second.ensures.1, c.in_ok-third.ensures.1)

pub overflow_mul-result-3 : goal.overflow_mul-result-3
overflow_mul-result-3 c = omega (arith, c.in_ok-first.ensures.1, c.in_ok-second.ensures.1, c.in_ok-third.ensures.1)

pub overflow_add-result-3 : goal.overflow_add-result-3
overflow_add-result-3 c = omega (arith, c.in_ok-first.ensures.1, c.in_ok-second.ensures.1, c.in_ok-third.ensures.1, c.in_ok-fourth.ensures.1)

pub overflow_cast-result : goal.overflow_cast-result
overflow_cast-result c = omega (arith, c.in_ok-first.ensures.1, c.in_ok-second.ensures.1, c.in_ok-third.ensures.1, c.in_ok-fourth.ensures.1)

pub returns-in_err-first : goal.returns-in_err-first
returns-in_err-first c = rw c.from_residual.ensures tt

pub returns-in_err-second : goal.returns-in_err-second
returns-in_err-second c = rw c.from_residual-in_err-second.ensures tt

pub returns-in_err-third : goal.returns-in_err-third
returns-in_err-third c = rw c.from_residual-in_err-third.ensures tt

pub returns-in_err-fourth : goal.returns-in_err-fourth
returns-in_err-fourth c = rw c.from_residual-in_err-fourth.ensures tt

use Rattle.std.proofs.Common.{subst, sym}
use Rattle.tinyjson_number.specs.Scan.{PartsAt}
use Rattle.tinyjson_number.proofs.Scans.{exponent_lacks, plain_between, scientific_between}
use Rattle.tinyjson_number.proofs.scan.number_at.Goals as goal

pub returns-then-not-has_letter : goal.returns-then-not-has_letter
returns-then-not-has_letter c =
    let m = c.in_ok-front in
    let x = plain_between c.args.bytes.now c.args.at m.front m.end m.ensures (sym c.if-not-has_letter.ensures) in
    subst (λ p. PartsAt c.args.bytes.now c.args.at p m.end) (sym c.with_exponent.ensures) x

pub returns-in_err-exponent : goal.returns-in_err-exponent
returns-in_err-exponent c = let m = c.in_ok-front in
    let letter = sym c.if-not-has_letter.ensures in
    search (c.from_residual-in_err-exponent.ensures, exponent_lacks, m.ensures, c.in_err-exponent.ensures)

pub returns : goal.returns
returns c =
    let m = c.in_ok-front in
    let e = c.in_ok-exponent in
    let letter = sym c.if-not-has_letter.ensures in
    let x = scientific_between c.args.bytes.now c.args.at m.front m.end m.ensures e.exponent e.end letter e.ensures in
    subst (λ p. PartsAt c.args.bytes.now c.args.at p e.end) (sym c.with_exponent-2.ensures) x

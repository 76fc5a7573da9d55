use Rattle.std.proofs.Common.{◌≡◌, ◌≢◌, ◌+◌, ◌-◌, [], ◌∷◌, ◌++◌, take, get_or, arith}
use Rattle.std.proofs.lemmas.List.{take_more}
use Rattle.tinyjson_number.proofs.Strips.{strip_trailing_push_zero, strip_trailing_push_other}
use Rattle.tinyjson_number.proofs.parse.kept_len.Goals as goal

pub loop-n-preserved : goal.loop-n-preserved
loop-n-preserved c = let n = c.loop-n.n in
    let ds = c.args.digits.now in
    let more : n - 1 + 1 ≡ n = omega arith in
    let last : take n ds ≡ take (n - 1) ds ++ get_or ds (n - 1) 0 ∷ [] = grind (arith, take_more) in
    grind (arith, strip_trailing_push_zero)

pub returns-else-digits-n-eq48-clause-kept : goal.returns-else-digits-n-eq48-clause-kept
returns-else-digits-n-eq48-clause-kept c = let n = c.loop-n.n in
    let ds = c.args.digits.now in
    let more : n - 1 + 1 ≡ n = omega arith in
    let last : take n ds ≡ take (n - 1) ds ++ get_or ds (n - 1) 0 ∷ [] = grind (arith, take_more) in
    let other : get_or ds (n - 1) 0 ≢ 48 = omega arith in
    grind (arith, strip_trailing_push_other)

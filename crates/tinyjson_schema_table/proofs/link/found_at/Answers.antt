use Rattle.std.proofs.Common.{◌≡◌, Some, slice_get, refl, arith}
use Rattle.std.proofs.lemmas.Grind.{common_steps}
use Rattle.std.proofs.lemmas.Option.{slice_get_cases}
use Rattle.tinyjson_schema_table.proofs.link.found_at.Goals as goal

pub returns-then-is_same : goal.returns-then-is_same
returns-then-is_same c =
    let ls = c.args.links.now in
    let i = c.args.index in
    let l = c.in-Some.link.now in
    let some : slice_get ls i ≡ Some l = grind (arith, common_steps, slice_get_cases ls i) in
    record { index = i; link = l; there = some; leads = c.is_same.ensures c.if-is_same.true; place = refl }

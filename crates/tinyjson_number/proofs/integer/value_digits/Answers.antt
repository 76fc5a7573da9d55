use Rattle.std.proofs.Common.{◌≡◌, ◌-◌, ℕ, List, length, take, drop, ◌∙◌, arith, length-drop}
use Rattle.std.specs.Fmt.{decimal}
use Rattle.std.proofs.lemmas.List.{take_all}
use Rattle.tinyjson_number.proofs.integer.value_digits.Goals as goal

all_taken : (bs ds : List ℕ) (start : ℕ) → length bs ≡ 20 → drop start bs ≡ ds → take (20 - start) (drop start bs) ≡ ds
all_taken bs ds start long is = take_all (20 - start) (drop start bs) (omega (arith, long, length-drop start bs)) ∙ is

pub returns : goal.returns
returns c = all_taken c.write_digits-start.new.buffer (decimal c.args.value) c.write_digits-start.result c.write_digits-start.array_long
    c.write_digits-start.ensures.digits

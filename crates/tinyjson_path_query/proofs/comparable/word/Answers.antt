use Rattle.std.proofs.Common.{true, false, refl}
use Rattle.tinyjson_path_query.specs.Values as value
use Rattle.tinyjson_path_query.proofs.Literals.{true_at, false_at}
use Rattle.tinyjson_path_query.proofs.comparable.word.Goals as goal

pub returns-in-Some : goal.returns-in-Some
returns-in-Some c = (value.boolean true, true_at c.args.text.now _ c.in-Some.ensures, refl)

pub returns-in-Some-behind_word : goal.returns-in-Some-behind_word
returns-in-Some-behind_word c =
    (value.boolean false, false_at c.args.text.now _ c.in_default.ensures c.in-Some-behind_word.ensures, refl)

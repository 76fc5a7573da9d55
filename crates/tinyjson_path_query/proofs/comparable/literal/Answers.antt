use Rattle.std.proofs.Common.{◌≡◌, true, Some, refl, rules}
use Rattle.tinyjson_path_query.specs.Fronts.{is_quote}
use Rattle.tinyjson_path_query.specs.Values as value
use Rattle.tinyjson_path_query.proofs.Literals.{string_from}
use Rattle.tinyjson_path_query.proofs.comparable.literal.Goals as goal

pub returns-then-is_quote : goal.returns-then-is_quote
returns-then-is_quote c =
    let read = c.in_ok-string.ensures in
    let quote : is_quote c.in-Some.first.now ≡ true = search rules in (
      value.string read.0,
      string_from c.args.text.now _ c.in-Some.first.now (Some (read.0, c.in_ok-string.after.now)) c.in-Some.ensures.cases.0 quote read.1,
      (c.in_ok-string.string, refl, read.2),
    )

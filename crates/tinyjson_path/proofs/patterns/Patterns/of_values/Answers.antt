use Rattle.std.proofs.Common.{◌∷◌, [], ◌∙◌, ap, option_map, sym}
use Rattle.std.specs.Str.{chars}
use Rattle.tinyjson_view.specs.Views.{tree_of}
use Rattle.tinyjson_path.specs.Strings.{strings_in}
use Rattle.tinyjson_path.proofs.Within.{from_error, text_within}
use Rattle.tinyjson_path.proofs.patterns.Patterns.of_values.Goals as goal

pub returns-in_err-of_strings-in-Some-Some-clause-err : goal.returns-in_err-of_strings-in-Some-Some-clause-err
returns-in_err-of_strings-in-Some-Some-clause-err c =
    let pattern = c.in-Some-Some.pattern in
    let there = sym (ap (option_map (λ s. chars s.now)) c.in-Some-Some.is-1) ∙ c.string-2.ensures in
    from_error (chars pattern.now ∷ []) (strings_in (tree_of c.args.pattern)) c.in_err-of_strings-in-Some-Some.field-0.0
    c.from_residual.result c.from_residual.ensures.1 (text_within (tree_of c.args.pattern) (chars pattern.now) there)
    c.in_err-of_strings-in-Some-Some.ensures.err

use Rattle.std.proofs.Common.{false, sym, subst, option_map, IfErr}
use Rattle.tinyjson_view.specs.Views.{tree_of}
use Rattle.tinyjson_path.specs.Seen.{operand_tree}
use Rattle.tinyjson_path.specs.Strings.{strings_in, strings_at, IsFrom}
use Rattle.tinyjson_path.proofs.Within.{from_none, from_result, value_within}
use Rattle.tinyjson_path.proofs.patterns.Patterns.test.Goals as goal
use Rattle.tinyjson_path.proofs.patterns.Patterns.test.Goals.{in-Some-Some, in_default, in_default-2}

pub returns-clause-err : goal.returns-clause-err
returns-clause-err c =
    let t = option_map operand_tree c.args.pattern in
    let answer = c.match-value_of.answer in
    elim c.match-value_of.branch [
      | in-Some-Some w ↦ let pattern = w.in-Some-Some.pattern in
          from_result (strings_in (tree_of pattern)) (strings_at t) answer
          (value_within c.value_of-2.result t pattern c.value_of-2.ensures w.in-Some-Some.is-1)
          (subst (λ r. IfErr r (IsFrom (strings_in (tree_of pattern)))) (sym w.answer-is) w.of_values-answer.ensures.err)
      | in_default w ↦ from_none (strings_at t) false answer w.answer-is
      | in_default-2 w ↦ from_none (strings_at t) false answer w.answer-is
    ]

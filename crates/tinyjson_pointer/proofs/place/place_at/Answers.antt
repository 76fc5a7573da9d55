use Rattle.std.proofs.Common.{◌≡◌, ◌+◌, ◌-◌, length, take, ap, ◌∙◌, arith}
use Rattle.std.proofs.lemmas.Bool.Decides.{nat_tests}
use Rattle.std.proofs.lemmas.Grind.{common_steps}
use Rattle.std.specs.Str.{chars}
use Rattle.tinyjson_grammar.specs.Position.{advance, origin, capped}
use Rattle.tinyjson_pointer.proofs.Locating.Placing.{end_offset, end_boundary, front_place}
use Rattle.tinyjson_pointer.proofs.place.place_at.Goals as goal

pub overflow_sub-offset : goal.overflow_sub-offset
overflow_sub-offset c =
    let e = end_offset c.args.text.now c.args.end.now c.requires.front c.utf8.text c.utf8.end c.requires.whole in omega arith

pub range-requires-clause-end_boundary : goal.range-requires-clause-end_boundary
range-requires-clause-end_boundary c =
    end_boundary c.args.text.now c.args.end.now c.requires.front c.utf8.text c.utf8.end c.requires.whole

pub returns : goal.returns
returns c = λ front h.
    let text = c.args.text.now in
    let end = c.args.end.now in
    let before : c.range.result.now ≡ take (length text - length end) text = grind (arith, common_steps) in
    let last : c.saturating_add.result ≡ capped (c.position_after-line.result.1 + 1) = grind (arith, nat_tests) in
    front_place text end front c.position_after-line.result.0 c.position_after-line.result.1 c.saturating_add.result c.utf8.text
    c.utf8.end h last (c.position_after-line.ensures ∙ ap (λ xs. advance origin (chars xs)) before)

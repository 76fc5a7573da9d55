use Rattle.std.proofs.Common.{◌≡◌, ◌∷◌, ◌++◌, ◌-◌, length, take, sym, ◌∙◌, ap, arith}
use Rattle.std.proofs.lemmas.Grind.{common_steps}
use Rattle.std.specs.Str.{chars}
use Rattle.tinyjson_pointer.proofs.Locating.Splitting.{found_at, front_shorter, front_boundary, front_chars}
use Rattle.tinyjson_pointer.proofs.place.scan.split.Goals as goal

pub overflow_sub-text : goal.overflow_sub-text
overflow_sub-text c =
    let found = found_at c.args.stop c.args.text.now c.in_ok-behind.behind.now c.requires c.utf8.text c.in_ok-behind.ensures.utf8
    (sym c.in_ok-behind.ensures.finds) in
    omega (arith, front_shorter _ _ _ found)

pub overflow_sub-text-2 : goal.overflow_sub-text-2
overflow_sub-text-2 c =
    let found = found_at c.args.stop c.args.text.now c.in_ok-behind.behind.now c.requires c.utf8.text c.in_ok-behind.ensures.utf8
    (sym c.in_ok-behind.ensures.finds) in
    omega (arith, front_shorter _ _ _ found)

pub range-front-requires-clause-end_boundary : goal.range-front-requires-clause-end_boundary
range-front-requires-clause-end_boundary c =
    front_boundary c.args.text.now c.in_ok-behind.behind.now c.args.stop
    (found_at c.args.stop c.args.text.now c.in_ok-behind.behind.now c.requires c.utf8.text c.in_ok-behind.ensures.utf8
    (sym c.in_ok-behind.ensures.finds))

pub returns : goal.returns
returns c =
    let text = c.args.text.now in
    let behind = c.in_ok-behind.behind.now in
    let found = found_at c.args.stop text behind c.requires c.utf8.text c.in_ok-behind.ensures.utf8 (sym c.in_ok-behind.ensures.finds) in
    let front : c.range-front.result.now ≡ take (length text - length behind - 1) text = grind (arith, common_steps) in (
      sym c.in_ok-behind.ensures.finds,
      front_chars text behind c.args.stop c.requires c.utf8.text found
          ∙ ap (λ xs. chars xs ++ c.args.stop ∷ chars behind) (sym front),
    )

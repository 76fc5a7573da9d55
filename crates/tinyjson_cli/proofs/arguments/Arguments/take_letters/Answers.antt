use Rattle.std.proofs.Common.{◌+◌, drop, Some, ap, sym, ◌∙◌, subst}
use Rattle.std.proofs.lemmas.List.{take_rest}
use Rattle.tinyjson_cli.specs.Arguments.{given_of, nothing, flag, join, and_word, value_gives, letters_give, Takes}
use Rattle.tinyjson_cli.proofs.Joining.{join_nothing, join_assoc, nothing_and_word, word_assoc}
use Rattle.tinyjson_cli.proofs.Joining.{letter_at, letter_value, letter_flag, takes_after}
use Rattle.tinyjson_cli.proofs.arguments.Arguments.take_letters.Goals as goal

pub loop-at-init : goal.loop-at-init
loop-at-init c = (nothing, join_nothing _, nothing_and_word _)

pub returns-in-Some-takes : goal.returns-in-Some-takes
returns-in-Some-takes c =
    let i = c.loop-at.invariant in
    let k = c.in-Some.option in
    let here = letter_at c.args.known.now c.args.word.now c.args.letters.now c.loop-at.at (Some k) c.loop-at-test.true
    (sym c.in-Some.is ∙ c.with_letter.ensures) in
    let t = c.in-Some-takes.taken in
    let value = here ∙ (letter_value c.args.word.now k (drop (c.loop-at.at + 1) c.args.letters.now)
    (letters_give c.args.known.now c.args.word.now (drop (c.loop-at.at + 1) c.args.letters.now)) t c.in-Some-takes.is
    ∙ ap (value_gives t k.letter) (sym (take_rest c.args.letters.now (c.loop-at.at + 1)))) in
    subst (λ w. Takes w (given_of c.args.self.now) (given_of c.take_value.new.self) c.take_value.result)
    (sym (i.2 ∙ ap (and_word i.0) value)) (takes_after i.0 _ _ _ _ _ i.1 c.take_value.ensures)

pub loop-at-preserved : goal.loop-at-preserved
loop-at-preserved c =
    let i = c.loop-at.invariant in
    let k = c.in-Some.option in
    let here = letter_at c.args.known.now c.args.word.now c.args.letters.now c.loop-at.at (Some k) c.loop-at-test.true
    (sym c.in-Some.is ∙ c.with_letter.ensures) in
    let flagged = here ∙ letter_flag c.args.word.now k (drop (c.loop-at.at + 1) c.args.letters.now)
    (letters_give c.args.known.now c.args.word.now (drop (c.loop-at.at + 1) c.args.letters.now)) c.in_default-takes.is in (
      join i.0 (flag k.letter),
      c.in_ok-add_flag.ensures ∙ (ap (λ g. join g (flag k.letter)) i.1 ∙ join_assoc _ i.0 _),
      i.2 ∙ (ap (and_word i.0) flagged ∙ word_assoc i.0 (flag k.letter) _),
    )

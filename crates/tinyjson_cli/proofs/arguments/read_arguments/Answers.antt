use Rattle.std.proofs.Common.{◌≡◌, ℕ, ◌+◌, List, ap, sym, ◌∙◌, drop, map, string_bytes, subst, Result, Ok, Err}
use Rattle.std.specs.Result.{IsErrAnd}
use Rattle.tinyjson_cli.specs.Arguments.{given_of, and_words, and_rest, word_gives, words_give}
use Rattle.tinyjson_cli.specs.Arguments.{Given, Fault, Reads, Takes, Word}
use Rattle.tinyjson_cli.specs.declared.arguments.Arguments.{Arguments}
use Rattle.tinyjson_cli.specs.declared.arguments.Known.{Known}
use Rattle.tinyjson_cli.specs.declared.arguments.Misuse.{Misuse}
use Rattle.tinyjson_cli.specs.declared.arguments.Misuse.TheVariants as misuse
use Rattle.tinyjson_cli.specs.declared.arguments.Next.{Next}
use Rattle.tinyjson_cli.specs.declared.arguments.Next.TheVariants.{Any}
use Rattle.tinyjson_cli.proofs.Joining.{word_at, words_assoc}
use Rattle.tinyjson_cli.proofs.arguments.read_arguments.Goals as goal

-- a word has a fault
module _ (known : List Known) (words : List (List ℕ)) where
  stops : (before : Given) (w : Word) (rest : Next → Result Given Fault) (old new : Given) (m : Misuse)
      → words_give known Any words ≡ and_words before (and_rest w rest) → Takes w old new (Err m) → Reads known words (Err m)
  stops before w rest old new (misuse.Unknown s) e h = (h.0, e ∙ ap (λ x. and_words before (and_rest x rest)) h.1, h.2)
  stops before w rest old new (misuse.NoNumber c) e h = (h.0, e ∙ ap (λ x. and_words before (and_rest x rest)) h.1, h.2)
  stops before w rest old new (misuse.NoText c) e h = (h.0, e ∙ ap (λ x. and_words before (and_rest x rest)) h.1, h.2)
  stops before w rest old new (misuse.Missing s) e h = absurd h.2
  stops before w rest old new misuse.NotUtf8 e h = absurd h.2
  stops before w rest old new misuse.OutOfMemory e h = tt

  returned : (m : Misuse) (r : Result Arguments Misuse) → IsErrAnd r (λ d. d ≡ m) → Reads known words (Err m) → Reads known words r
  returned m (Ok a) h k = absurd h
  returned m (Err d) h k = subst (λ x. Reads known words (Err x)) (sym h) k

pub returns-in_err-next : goal.returns-in_err-next
returns-in_err-next c =
    let known = c.args.known.now in
    let rest : Next → Result Given Fault =
    λ n. words_give known n (map string_bytes (drop (c.loop-word.word-index + 1) c.args.words.now)) in
    let before = given_of c.loop-word.arguments in
    let step = word_at string_bytes known c.args.words.now c.loop-word.word-index c.word-item.result c.loop-word.next
    c.loop-word-test.true c.word-item.is in
    let seen = ap (word_gives known c.loop-word.next) (sym c.as_str.ensures.value) in
    let m = c.in_err-next.field-0.0 in
    returned known (map string_bytes c.args.words.now) m c.from_residual.result c.from_residual.ensures.1
    (stops known (map string_bytes c.args.words.now) before (word_gives known c.loop-word.next c.as_str.result.now) rest before (given_of c.take_word.new.self) m
    (c.loop-word.invariant ∙ ap (and_words before) (step ∙ ap (λ w. and_rest w rest) seen)) c.in_err-next.ensures)

pub loop-word-preserved : goal.loop-word-preserved
loop-word-preserved c =
    let known = c.args.known.now in
    let rest : Next → Result Given Fault =
    λ n. words_give known n (map string_bytes (drop (c.loop-word.word-index + 1) c.args.words.now)) in
    let h = c.in_ok-next.ensures in
    let before = given_of c.loop-word.arguments in
    let step = word_at string_bytes known c.args.words.now c.loop-word.word-index c.word-item.result c.loop-word.next
    c.loop-word-test.true c.word-item.is in
    let gives = ap (word_gives known c.loop-word.next) (sym c.as_str.ensures.value) ∙ h.1 in
    c.loop-word.invariant
    ∙ (ap (and_words before) (step ∙ ap (λ w. and_rest w rest) gives)
    ∙ (words_assoc before h.0 (rest c.in_ok-next.next) ∙ ap (λ g. and_words g (rest c.in_ok-next.next)) (sym h.2)))

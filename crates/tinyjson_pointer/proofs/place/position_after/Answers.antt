use Rattle.std.proofs.Common.{◌≡◌, ◌∷◌, ◌++◌, [], sym, ap, ◌∙◌, append-nil, append_assoc, subst, lit<, IsUtf8, chars}
use Rattle.std.proofs.lemmas.Str.{IsUtf8-past_char, chars_past_char}
use Rattle.std.proofs.StrCases.{chars_of_empty}
use Rattle.std.specs.Str.Iter.{chars_rest}
use Rattle.tinyjson_grammar.proofs.Callers.{advance_append, advance_nil}
use Rattle.tinyjson_grammar.specs.Position.{advance, origin}
use Rattle.tinyjson_pointer.proofs.place.position_after.Goals as goal

pub loop-c-preserved : goal.loop-c-preserved
loop-c-preserved c =
    let held = c.loop-c.invariant in
    let parts = c.in-Some.ensures.steps.0 in
    let x = c.in-Some.c in
    let ys = c.loop-c.yielded in (
      IsUtf8-past_char _ _ x held.0 parts,
      held.1 ∙ (ap (λ xs. ys ++ xs) (chars_past_char _ _ x held.0 parts) ∙ sym (append_assoc ys (x ∷ []) _)),
      c.after_char.ensures ∙ (ap (λ p. advance p (x ∷ [])) held.2 ∙ advance_append origin ys (x ∷ [])),
    )

pub returns : goal.returns
returns c =
    let held = c.loop-c.invariant in
    let all : chars c.args.text.now ≡ c.loop-c.yielded = held.1
    ∙ (ap (λ xs. c.loop-c.yielded ++ xs) (chars_of_empty (chars_rest c.loop-c.c-iterator) c.in-None.ensures.steps.0.0)
    ∙ append-nil c.loop-c.yielded) in
    held.2 ∙ ap (advance origin) (sym all)

pub loop-c-init : goal.loop-c-init
loop-c-init c =
    let rest = ap chars_rest c.into_iter-c-iterator.ensures.into_iter_gives ∙ c.chars-c-items.ensures.rest in (
      subst IsUtf8 (sym rest) c.utf8.text,
      sym (ap chars rest),
      sym (advance_nil 1 0 (lit< tt) (lit< tt)),
    )

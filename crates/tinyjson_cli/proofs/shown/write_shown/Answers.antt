use Rattle.std.proofs.Common.{◌≡◌, ◌∙◌, ◌++◌, ◌∷◌, [], List, ℕ, refl, sym, ap, append-nil, append_assoc, subst, chars}
use Rattle.std.proofs.lemmas.Grind.{put_two}
use Rattle.std.proofs.lemmas.Str.{IsUtf8-past_char, chars_past_char}
use Rattle.std.proofs.StrCases.{chars_of_empty}
use Rattle.std.specs.Fmt.{HasWritten}
use Rattle.std.specs.Str.Iter.{chars_rest}
use Rattle.tinyjson_cli.specs.Shown.{shown, shown_char}
use Rattle.tinyjson_cli.proofs.shown.write_shown.Goals as goal

one_more : (xs ys zs rest : List ℕ) (c : ℕ) → xs ≡ ys ++ zs → zs ≡ c ∷ rest → xs ≡ (ys ++ c ∷ []) ++ rest
one_more xs ys zs rest c h e = h ∙ (ap (λ z. ys ++ z) e ∙ sym (append_assoc ys (c ∷ []) rest))

shown_more : (ys : List ℕ) (c : ℕ) → shown ys ++ shown_char c ≡ shown (ys ++ c ∷ [])
shown_more [] c = sym (append-nil (shown_char c))
shown_more (y ∷ ys) c = append_assoc (shown_char y) (shown ys) (shown_char c) ∙ ap (λ l. shown_char y ++ l) (shown_more ys c)

pub loop-c-preserved : goal.loop-c-preserved
loop-c-preserved g c =
    let held = c.loop-c.invariant in
    let parts = c.in-Some.ensures.steps.0 in
    let x = c.in-Some.c in
    let ys = c.loop-c.yielded in (
      IsUtf8-past_char _ _ x held.0 parts,
      one_more (chars c.args.text.now) ys _ _ x held.1 (chars_past_char _ _ x held.0 parts),
      λ plain. let before = held.2 plain in
          put_two g.W.Write.write_str_gives _ _ _ _ _ _ before (c.in_ok-write_shown_char.ensures before.plain refl) (shown_more ys x),
    )

pub returns : goal.returns
returns g c = λ plain ok.
    let held = c.loop-c.invariant in
    let all : chars c.args.text.now ≡ c.loop-c.yielded = held.1
    ∙ (ap (λ xs. c.loop-c.yielded ++ xs) (chars_of_empty (chars_rest c.loop-c.c-iterator) c.in-None.ensures.steps.0.0)
    ∙ append-nil c.loop-c.yielded) in
    subst (λ xs. HasWritten g.W.Write.write_str_gives c.args.f.now (shown xs) c.loop-c.f) (sym all) (held.2 plain)

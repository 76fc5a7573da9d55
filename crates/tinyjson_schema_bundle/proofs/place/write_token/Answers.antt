use Rattle.std.proofs.Common.{◌≡◌, ◌∙◌, ◌++◌, ◌∷◌, [], List, ℕ, refl, sym, ap, append-nil, append_assoc, subst, chars}
use Rattle.std.proofs.lemmas.Grind.{put_two}
use Rattle.std.proofs.lemmas.Str.{IsUtf8-past_char, chars_past_char}
use Rattle.std.proofs.StrCases.{chars_of_empty}
use Rattle.std.specs.Fmt.{HasWritten}
use Rattle.std.specs.Str.Iter.{chars_rest}
use Rattle.tinyjson_schema_bundle.specs.Bundles.{token_text, token_char}
use Rattle.tinyjson_schema_bundle.proofs.place.write_token.Goals as goal

one_more : (xs ys zs rest : List ℕ) (c : ℕ) → xs ≡ ys ++ zs → zs ≡ c ∷ rest → xs ≡ (ys ++ c ∷ []) ++ rest
one_more xs ys zs rest c h e = h ∙ (ap (λ z. ys ++ z) e ∙ sym (append_assoc ys (c ∷ []) rest))

token_more : (ys : List ℕ) (c : ℕ) → token_text ys ++ token_char c ≡ token_text (ys ++ c ∷ [])
token_more [] c = sym (append-nil (token_char c))
token_more (y ∷ ys) c = append_assoc (token_char y) (token_text ys) (token_char c) ∙ ap (λ l. token_char y ++ l) (token_more ys c)

pub loop-c-preserved : goal.loop-c-preserved
loop-c-preserved g c =
    let held = c.loop-c.invariant in
    let parts = c.in-Some.ensures.steps.0 in
    let x = c.in-Some.c in
    let ys = c.loop-c.yielded in (
      IsUtf8-past_char _ _ x held.0 parts,
      one_more (chars c.args.token.now) ys _ _ x held.1 (chars_past_char _ _ x held.0 parts),
      λ plain. let before = held.2 plain in
          put_two g.W.Write.write_str_gives _ _ _ _ _ _ before (c.in_ok-write_token_char.ensures before.plain refl) (token_more ys x),
    )

pub returns : goal.returns
returns g c = λ plain ok.
    let held = c.loop-c.invariant in
    let all : chars c.args.token.now ≡ c.loop-c.yielded = held.1
    ∙ (ap (λ xs. c.loop-c.yielded ++ xs) (chars_of_empty (chars_rest c.loop-c.c-iterator) c.in-None.ensures.steps.0.0)
    ∙ append-nil c.loop-c.yielded) in
    subst (λ xs. HasWritten g.W.Write.write_str_gives c.args.f.now (token_text xs) c.loop-c.f) (sym all) (held.2 plain)

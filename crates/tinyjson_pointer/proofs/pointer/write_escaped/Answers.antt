use Rattle.std.proofs.Common.{◌≡◌, ◌∙◌, ◌++◌, refl, sym, ap, append-nil, subst, encode_utf8_all, chars}
use Rattle.std.proofs.lemmas.Grind.{put_two}
use Rattle.std.proofs.lemmas.Str.{IsUtf8-past_char, chars_past_char}
use Rattle.std.proofs.StrCases.{chars_of_empty}
use Rattle.std.specs.Fmt.{HasWritten}
use Rattle.std.specs.Str.Iter.{chars_rest}
use Rattle.tinyjson_pointer.specs.Text.{escape}
use Rattle.tinyjson_pointer.proofs.Tokens.{one_more, escaped_more}
use Rattle.tinyjson_pointer.proofs.pointer.write_escaped.Goals as goal

pub loop-c-preserved : goal.loop-c-preserved
loop-c-preserved g c =
    let held = c.loop-c.invariant in
    let parts = c.in-Some.ensures.steps.0 in
    let x = c.in-Some.c in
    let ys = c.loop-c.yielded in (
      IsUtf8-past_char _ _ x held.0 parts,
      one_more (chars c.args.token.now) ys _ _ x held.1 (chars_past_char _ _ x held.0 parts),
      λ plain. let before = held.2 plain in
          put_two g.W.Write.write_str_gives _ _ _ _ _ _ before (c.in_ok-write_escaped_char.ensures before.plain refl) (escaped_more ys x),
    )

pub returns : goal.returns
returns g c = λ plain ok.
    let held = c.loop-c.invariant in
    let all : chars c.args.token.now ≡ c.loop-c.yielded = held.1
    ∙ (ap (λ xs. c.loop-c.yielded ++ xs) (chars_of_empty (chars_rest c.loop-c.c-iterator) c.in-None.ensures.steps.0.0)
    ∙ append-nil c.loop-c.yielded) in
    subst (λ xs. HasWritten g.W.Write.write_str_gives c.args.f.now (encode_utf8_all (escape xs)) c.loop-c.f) (sym all) (held.2 plain)

use Rattle.std.proofs.Common.{◌≡◌, ◌++◌, encode_utf8, length, sym, ap, ◌∙◌, arith, length-append}
use Rattle.std.proofs.lemmas.Str.{chars_past_char, length-encode, len_utf8_bounds}
use Rattle.tinyjson_pointer.proofs.place.text.first.Goals as goal

pub returns : goal.returns
returns c =
    let text = c.args.text.now in
    let rest = c.as_str.result.now in
    let parts : text ≡ encode_utf8 c.in_ok-c.c ++ rest = sym c.chars-rest.ensures.rest
    ∙ (c.in_ok-c.ensures.steps.0 ∙ ap (λ r. encode_utf8 c.in_ok-c.c ++ r) (sym c.as_str.ensures)) in
    let long = ap length parts ∙ length-append (encode_utf8 c.in_ok-c.c) rest in (
      chars_past_char text rest c.in_ok-c.c c.utf8.text parts,
      omega (arith, long, length-encode c.in_ok-c.c, len_utf8_bounds c.in_ok-c.c),
    )

use Rattle.std.proofs.Common.{◌++◌, List, ℕ, Bor, option_map, sym, ap, ◌∙◌}
use Rattle.std.specs.Str.{chars}
use Rattle.tinyjson_pointer.specs.Tokens.{tokens_of}
use Rattle.tinyjson_pointer.specs.Spots.{from_key}
use Rattle.tinyjson_pointer.specs.private.Keys.{named_member}
use Rattle.tinyjson_pointer.proofs.Locating.KeyPlacing.{none_keyed, some_keyed, placed_key, keyed_back}
use Rattle.tinyjson_pointer.proofs.Locating.Placing.{value_here}
use Rattle.tinyjson_pointer.proofs.place.key.key_place_in.Goals as goal

pub returns-in_err-found : goal.returns-in_err-found
returns-in_err-found c =
    let xs = chars c.args.text.now in
    let accepted = c.requires.1 in
    let l = accepted.loose in
    let exhausted = c.in_err-found.ensures l.value l.after l.spelled accepted.strict (c.after_white.ensures ∙ value_here xs l) in
    keyed_back xs (tokens_of c.args.pointer.now) c.from_residual.result c.in_err-found.field-0.0
    c.from_residual.ensures.1 (λ n. absurd (exhausted n))

pub returns-in_default : goal.returns-in_default
returns-in_default c = (
  c.requires,
  λ l z.
      let xs = chars c.args.text.now in
      none_keyed xs l (tokens_of c.args.pointer.now)
      (ap (option_map (λ (s : Bor (List ℕ)). chars s.now)) (sym c.in_default.is)
      ∙ (c.in_ok-found.ensures l.value l.after l.spelled z (c.after_white.ensures ∙ value_here xs l)
      ∙ ap (λ ks. option_map (from_key l.after) (named_member l.value ks)) c.tokens.ensures)),
)

pub place_at-requires : goal.place_at-requires
place_at-requires c =
    let xs = chars c.args.text.now in
    let accepted = c.requires.1 in
    let l = accepted.loose in
    let f = some_keyed xs l (tokens_of c.args.pointer.now) (chars c.in-Some.key.now) accepted.strict
    (ap (option_map (λ (s : Bor (List ℕ)). chars s.now)) (sym c.in-Some.is)
    ∙ (c.in_ok-found.ensures l.value l.after l.spelled accepted.strict (c.after_white.ensures ∙ value_here xs l)
    ∙ ap (λ ks. option_map (from_key l.after) (named_member l.value ks)) c.tokens.ensures)) in
    record { front = l.before ++ f.member.before; whole = f.whole }

pub returns : goal.returns
returns c = (
  c.requires,
  λ l z.
      let xs = chars c.args.text.now in
      let ks = tokens_of c.args.pointer.now in
      let end = chars c.in-Some.key.now in
      let f = some_keyed xs l ks end z
      (ap (option_map (λ (s : Bor (List ℕ)). chars s.now)) (sym c.in-Some.is)
      ∙ (c.in_ok-found.ensures l.value l.after l.spelled z (c.after_white.ensures ∙ value_here xs l)
      ∙ ap (λ ls. option_map (from_key l.after) (named_member l.value ls)) c.tokens.ensures)) in
      placed_key xs l ks end c.place_at.result f (c.place_at.ensures (l.before ++ f.member.before) f.whole),
)

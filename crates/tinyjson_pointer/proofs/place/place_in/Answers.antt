use Rattle.std.proofs.Common.{◌++◌, List, ℕ, Bor, option_map, sym, ap, ◌∙◌}
use Rattle.std.specs.Str.{chars}
use Rattle.tinyjson_pointer.specs.Tokens.{tokens_of}
use Rattle.tinyjson_pointer.specs.Places.{named}
use Rattle.tinyjson_pointer.specs.private.Parts.{begun}
use Rattle.tinyjson_pointer.proofs.Locating.Placing.{none_named, some_named, placed, value_here, locates_back}
use Rattle.tinyjson_pointer.proofs.place.place_in.Goals as goal

pub returns-in_err-found : goal.returns-in_err-found
returns-in_err-found c =
    let xs = chars c.args.text.now in
    let accepted = c.requires.1 in
    let l = accepted.loose in
    let exhausted = c.in_err-found.ensures l.value l.after l.spelled accepted.strict (c.after_white.ensures ∙ value_here xs l) in
    locates_back xs (tokens_of c.args.pointer.now) c.from_residual.result c.in_err-found.field-0.0
    c.from_residual.ensures.1 (λ n. absurd (exhausted n))

pub returns-in_default : goal.returns-in_default
returns-in_default c = (
  c.requires,
  λ l z.
      let xs = chars c.args.text.now in
      none_named xs l (tokens_of c.args.pointer.now) z
      (ap (option_map (λ (s : Bor (List ℕ)). chars s.now)) (sym c.in_default.is)
      ∙ (c.in_ok-found.ensures l.value l.after l.spelled z (c.after_white.ensures ∙ value_here xs l)
      ∙ ap (λ ks. option_map (begun l.after) (named l.value ks)) c.tokens.ensures)),
)

pub place_at-requires : goal.place_at-requires
place_at-requires c =
    let xs = chars c.args.text.now in
    let accepted = c.requires.1 in
    let l = accepted.loose in
    let f = some_named xs l (tokens_of c.args.pointer.now) (chars c.in-Some.part.now) accepted.strict
    (ap (option_map (λ (s : Bor (List ℕ)). chars s.now)) (sym c.in-Some.is)
    ∙ (c.in_ok-found.ensures l.value l.after l.spelled accepted.strict (c.after_white.ensures ∙ value_here xs l)
    ∙ ap (λ ks. option_map (begun l.after) (named l.value ks)) c.tokens.ensures)) in
    record { front = l.before ++ f.spot.before; whole = f.whole }

pub returns : goal.returns
returns c = (
  c.requires,
  λ l z.
      let xs = chars c.args.text.now in
      let ks = tokens_of c.args.pointer.now in
      let end = chars c.in-Some.part.now in
      let f = some_named xs l ks end z
      (ap (option_map (λ (s : Bor (List ℕ)). chars s.now)) (sym c.in-Some.is)
      ∙ (c.in_ok-found.ensures l.value l.after l.spelled z (c.after_white.ensures ∙ value_here xs l)
      ∙ ap (λ ls. option_map (begun l.after) (named l.value ls)) c.tokens.ensures)) in
      placed xs l ks end c.place_at.result f (c.place_at.ensures (l.before ++ f.spot.before) f.whole),
)

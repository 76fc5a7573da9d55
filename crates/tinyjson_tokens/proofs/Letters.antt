-- A text in memory as a source, and runs that are taken byte by byte.
use Rattle.std.proofs.Common.{◌≡◌, ℕ, ◌+◌, ◌<◌, ◌≤◌, true, false, List, [], ◌∷◌, ◌++◌, length, get_or, Result, Ok, Err, OnOk, refl, sym, ap}
use Rattle.std.proofs.Common.{◌∙◌, subst, arith, append_assoc}
use Rattle.std.specs.Prelude.{nat_lt, slice_get}
use Rattle.std.specs.Char.{len_utf8}
use Rattle.std.specs.List.{AllByRecursion}
use Rattle.std.specs.Str.{IsCharBoundary}
use Rattle.std.proofs.lemmas.Bool.{ne_eqb}
use Rattle.std.proofs.lemmas.Bool.Decides.{nat_tests}
use Rattle.std.proofs.lemmas.Str.{IsUtf8-had}
use Rattle.tinyjson_grammar.specs.Position.{advance, origin}
use Rattle.tinyjson_tokens.specs.Slice.{before, chars_after}
use Rattle.tinyjson_tokens.specs.Slice.Laws.{line_bound, column_bound, shown_once, shown_first, nothing_left}
use Rattle.tinyjson_bytes.specs.Scan.{is_plain}
use Rattle.tinyjson_tokens.specs.Source.{Sight, Takes, TakesRun}
use Rattle.tinyjson_tokens.specs.declared.text.TextBytes.{TextBytes}
use Rattle.tinyjson_tokens.proofs.Slices.{ascii_next, between, char_between, char_boundary, step_gives, step_moves}
use Rattle.tinyjson_tokens.proofs.Sources.{Takes_append}

pub All_append : (P : ℕ → Type 0) (xs ys : List ℕ) → AllByRecursion P xs → AllByRecursion P ys → AllByRecursion P (xs ++ ys)
All_append P [] ys a b = b
All_append P (x ∷ xs) ys a b = (a.0, All_append P xs ys a.1 b)

-- what a text in memory still gives
abbrev pub text_sight : Sight TextBytes
text_sight = record {
  gives = λ p zs. zs ≡ chars_after p.text.now p.at;
  shows = λ p o. slice_get (chars_after p.text.now p.at) 0 ≡ o;
  place = λ p. advance origin (before p.text.now p.at);
  line_fits = λ p. line_bound (before p.text.now p.at);
  column_fits = λ p. column_bound (before p.text.now p.at);
  one = λ p. shown_once (chars_after p.text.now p.at);
  first = λ p. shown_first (chars_after p.text.now p.at);
  none = λ p. nothing_left (chars_after p.text.now p.at);
}

-- a byte below 128 is taken
pub Takes_ascii : (p q : TextBytes) (b : ℕ) → p.at < length p.text.now → get_or p.text.now p.at 0 ≡ b → b < 128 → q.text.now ≡ p.text.now
    → q.at ≡ p.at + 1 → Takes text_sight p (b ∷ []) q
Takes_ascii p q b h e low same at =
    let text = p.text.now in
    let utf8 = IsUtf8-had text p.utf8 in
    let next = ascii_next text p.at b h e low in
    let len : 1 ≡ len_utf8 b = grind (arith, nat_tests, low) in
    let last = subst (IsCharBoundary text) (sym at) (char_boundary text utf8 p.at p.boundary b 1 next len) in
    let one : between text p.at q.at ≡ b ∷ [] = ap (between text p.at) at ∙ char_between text utf8 p.at p.boundary b 1 next len in
    let on : p.at ≤ q.at = omega (arith, at) in
    record {
      gives = λ zs g. let x = step_gives text utf8 p.at q.at on p.boundary last (b ∷ []) one zs g in
          (x.0, x.1, x.2 ∙ ap (λ t. chars_after t q.at) (sym same));
      moves = ap (λ t. advance origin (before t q.at)) same ∙ step_moves text utf8 p.at q.at on p.boundary last (b ∷ []) one;
    }

-- a run goes on by a plain byte below 128, and by another run
pub run_ascii : {E : Type 0} (o p q : TextBytes) (old new more : List ℕ) (b : ℕ)
    → TakesRun text_sight is_plain {E = Unit {0}} o old (Ok tt) new p
    → p.at < length p.text.now → get_or p.text.now p.at 0 ≡ b → b < 128 → q.text.now ≡ p.text.now → q.at ≡ p.at + 1 → is_plain b ≡ true
    → more ≡ new ++ b ∷ [] → TakesRun text_sight is_plain {E = E} o old (Ok tt) more q
run_ascii o p q old new more b t h e low same at printed added = record {
  taken = t.taken ++ b ∷ [];
  pass = All_append (λ c. is_plain c ≡ true) t.taken (b ∷ []) t.pass (printed, tt);
  takes = Takes_append text_sight o p q t.taken (b ∷ []) t.takes (Takes_ascii p q b h e low same at);
  added = added ∙ ap (λ cs. cs ++ b ∷ []) t.added ∙ append_assoc old t.taken (b ∷ []);
}

pub printed_plain : (b : ℕ) → (b ≡ 34 → ⊥) → (b ≡ 92 → ⊥) → 32 ≤ b → is_plain b ≡ true
printed_plain b n m h = let l : nat_lt b 32 ≡ false = grind (arith, nat_tests) in rw (ne_eqb b 34 n, ne_eqb b 92 m, l) refl

pub run_run : {E : Type 0} (o p q : TextBytes) (old new more : List ℕ) (r : Result (Unit {0}) E)
    → TakesRun text_sight is_plain {E = Unit {0}} o old (Ok tt) new p → TakesRun text_sight is_plain p new r more q
    → TakesRun text_sight is_plain o old r more q
run_run {E = E} o p q old new more r t u = record {
  taken = t.taken ++ u.taken;
  pass = All_append (λ c. is_plain c ≡ true) t.taken u.taken t.pass u.pass;
  takes = Takes_append text_sight o p q t.taken u.taken t.takes u.takes;
  added = on r u.added;
}
  where
    on : (r : Result (Unit {0}) E) → OnOk r (more ≡ new ++ u.taken) → OnOk r (more ≡ old ++ (t.taken ++ u.taken))
    on (Ok v) e = e ∙ ap (λ cs. cs ++ u.taken) t.added ∙ append_assoc old t.taken u.taken
    on (Err x) e = e

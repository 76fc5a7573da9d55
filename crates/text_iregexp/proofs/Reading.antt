-- Reading a text token by token.
use Rattle.std.proofs.lemmas.Bool.{eqb-true}
use Rattle.std.proofs.lemmas.Bool.Decides.{nat_tests}
use Rattle.std.proofs.Common.{Bool, true, false, ◌==◌, ◌≡◌, ℕ, ◌<◌, ◌≤◌, List, [], ◌∷◌, ◌++◌, length, Option, Some, None, refl, sym, ap}
use Rattle.std.proofs.Common.{◌∙◌, subst, arith, append-nil, length-append}
use Rattle.std.specs.Prelude.{option_and_then}
use Rattle.text_regexp.specs.declared.expression.Expression.{Expression}
use Rattle.text_iregexp.specs.declared.reader.Level.{Level as CodeLevel}
use Rattle.text_regexp.specs.Building.{Means}
use Rattle.text_iregexp.specs.Fronts.{token_front}
use Rattle.text_iregexp.specs.Grammar as is
use Rattle.text_iregexp.specs.Grammar.{Token, Spelled, Regexp, regexp_tokens, regexp_form, IsText}
use Rattle.text_iregexp.specs.Levels.{Level, State, fresh, regexp_of, advance, run, StandsAt, Outer, Agrees, state_size}
use Rattle.text_iregexp.proofs.Levels.{outer_none}
use Rattle.text_iregexp.proofs.Lexing.{spells_some, front_sound, front_complete}
use Rattle.text_iregexp.specs.Limits.{size_limit, regexp_size}
use Rattle.text_iregexp.proofs.Machine.{machine_sound, machine_complete}
use Rattle.text_iregexp.proofs.Sizes.{fresh_sized, regexp_of_size, run_grows}

-- ---- tokens, one after the other

pub data Lexes : List ℕ → List Token → List ℕ → Type 0 where
  stop : {xs : List ℕ} → Lexes xs [] xs
  go : {xs ys zs : List ℕ} {t : Token} {ts : List Token} → token_front xs ≡ Some (t, ys) → Lexes ys ts zs → Lexes xs (t ∷ ts) zs

lexes_push : {xs ys zs : List ℕ} {ts : List Token} {t : Token} → Lexes xs ts ys → token_front ys ≡ Some (t, zs) → Lexes xs (ts ++ t ∷ []) zs
lexes_push stop e = go e stop
lexes_push (go f k) e = go f (lexes_push k e)

pub front_shorter : (xs : List ℕ) (t : Token) (ys : List ℕ) → token_front xs ≡ Some (t, ys) → length ys < length xs
front_shorter xs t ys e =
    let f = front_sound xs t ys e in
    let some = spells_some f.cs t f.spelled in
    let len : length xs ≡ length (f.cs ++ ys) = ap length f.split in
    let sum = length-append f.cs ys in
    omega arith

pub lexes_spelled : {xs zs : List ℕ} {ts : List Token} → Lexes xs ts zs → zs ≡ [] → Spelled xs ts
lexes_spelled stop e = subst (λ xs. Spelled xs []) (sym e) is.none
lexes_spelled (go {xs} {ys} {zs} {t} {ts} f k) e =
    let s = front_sound xs t ys f in
    subst (λ cs. Spelled cs (t ∷ ts)) (sym s.split) (is.more s.spelled (lexes_spelled k e))

pub spelled_lexes : {xs : List ℕ} {ts : List Token} → Spelled xs ts → Lexes xs ts []
spelled_lexes is.none = stop
spelled_lexes (is.more {cs} {ds} {t} {ts} s k) = go (front_complete cs t s ds) (spelled_lexes k)

record Rest (us ts : List Token) (ys : List ℕ) : Type 0 where
  rest : List Token
  split : us ≡ ts ++ rest
  lexed : Lexes ys rest []

pub some_same : {A : Type 0} {x y : A} → Some x ≡ Some y → x ≡ y
some_same h = cc

pub token_same : {a b : Token} {c d : List ℕ} → ◌≡◌ {A = Option (Token × List ℕ)} (Some (a, c)) (Some (b, d)) → a ≡ b
token_same h = ap (λ p. p.0) (some_same h)

rest_same : {a b : Token} {c d : List ℕ} → ◌≡◌ {A = Option (Token × List ℕ)} (Some (a, c)) (Some (b, d)) → c ≡ d
rest_same h = ap (λ p. p.1) (some_same h)

pub none_some : {A : Type 0} {x : A} → None ≡ Some x → ⊥
none_some h = cc

front_same : {cs ds : List ℕ} {u : Token} (us : List Token) (zs : List ℕ) → token_front cs ≡ Some (u, ds) → Lexes cs us zs → zs ≡ []
    → (vs : List Token) × (us ≡ u ∷ vs) × Lexes ds vs []
front_same us zs e stop f = absurd (none_some (ap token_front (sym f) ∙ e))
front_same {ds = ds} {u = u} us zs e (go {ys = ys} {t = t} {ts = ts} g k) f =
    let same : ◌≡◌ {A = Option (Token × List ℕ)} (Some (u, ds)) (Some (t, ys)) = sym e ∙ g in
    (ts, ap (λ x. x ∷ ts) (sym (token_same same)), subst (λ x. Lexes x ts []) (sym (rest_same same)) (subst (λ x. Lexes ys ts x) f k))

lexes_unique : {xs ys : List ℕ} {ts : List Token} (us : List Token) → Lexes xs ts ys → Lexes xs us [] → Rest us ts ys
lexes_unique us stop k = record { rest = us; split = refl; lexed = k }
lexes_unique us (go {xs} {ys} {zs} {t} {ts} e h) k =
    let s = front_same us [] e k refl in
    let r = lexes_unique s.0 h s.2 in
    record { rest = r.rest; split = s.1 ∙ ap (λ vs. t ∷ vs) r.split; lexed = r.lexed }

pub run_append : (ts us : List Token) (s : State) → run s (ts ++ us) ≡ option_and_then (λ s'. run s' us) (run s ts)
run_append [] us s = refl
run_append (t ∷ ts) us s = by (advance s t) (λ s'. run_append ts us s')
  where
    by : (o : Option State) → ((s' : State) → run s' (ts ++ us) ≡ option_and_then (λ u. run u us) (run s' ts))
        → option_and_then (λ s'. run s' (ts ++ us)) o ≡ option_and_then (λ u. run u us) (option_and_then (λ s'. run s' ts) o)
    by None h = refl
    by (Some s') h = h s'

-- ---- the reading of a text, of which the rest is left

pub record Reading (text rest : List ℕ) (here : CodeLevel) (outer : List CodeLevel) : Type 0 where
  pub tokens : List Token
  pub state : State
  pub lexed : Lexes text tokens rest
  pub ran : run (fresh, []) tokens ≡ Some state
  pub agrees : Agrees here outer state

pub reading_init : (text : List ℕ) (here : CodeLevel) (outer : List CodeLevel) → StandsAt here fresh → outer ≡ []
    → here.size ≡ 0 → Reading text text here outer
reading_init text here outer s o z =
    record { tokens = []; state = (fresh, []); lexed = stop; ran = refl; agrees = (s, fresh_sized here [] z (omega arith), o) }

pub reading_on : (text rest after : List ℕ) (here here' : CodeLevel) (outer outer' : List CodeLevel) (t : Token)
    → Reading text rest here outer → token_front rest ≡ Some (t, after)
    → ((s : State) → Agrees here outer s → (s' : State) × (advance s t ≡ Some s') × Agrees here' outer' s')
    → Reading text after here' outer'
reading_on text rest after here here' outer outer' t r e takes =
    let k = takes r.state r.agrees in
    record {
      tokens = r.tokens ++ t ∷ [];
      state = k.0;
      lexed = lexes_push r.lexed e;
      ran = run_append r.tokens (t ∷ []) (fresh, [])
          ∙ (ap (option_and_then (λ s'. run s' (t ∷ []))) r.ran ∙ ap (option_and_then (λ s'. run s' [])) k.1);
      agrees = k.2;
    }

pub reading_end : (text rest : List ℕ) (here : CodeLevel) (outer : List CodeLevel) (n : Expression) → Reading text rest here outer
    → rest ≡ []
    → outer ≡ [] → ((l : Level) → StandsAt here l → Means n (regexp_form (regexp_of l)))
    → (r : Regexp) × IsText text r × Means n (regexp_form r) × (regexp_size r ≤ size_limit)
reading_end text rest here outer n r e o whole =
    let l = r.state.0 in
    let alone : r.state.1 ≡ [] = outer_none outer r.state.1 o r.agrees.2 in
    let same : regexp_tokens (regexp_of l) ≡ r.tokens = machine_sound r.tokens l (r.ran ∙ ap (λ ls. Some (l, ls)) alone) in
    let size = regexp_of_size l in
    let few = r.agrees.1.few in (
      regexp_of l,
      record { spelled = subst (Spelled text) (sym same) (lexes_spelled r.lexed e) },
      whole l r.agrees.0,
      omega arith,
    )

-- ---- refusals

pub some_none : {A : Type 0} {x : A} → Some x ≡ None → ⊥
some_none e = cc

-- the tokens of a regular expression that the text is
left_of : (text rest : List ℕ) (here : CodeLevel) (outer : List CodeLevel) (x : Regexp) → Reading text rest here outer → IsText text x
    → (r : Reading text rest here outer) → Rest (regexp_tokens x) r.tokens rest
left_of text rest here outer x r0 t r = lexes_unique (regexp_tokens x) r.lexed (spelled_lexes t.spelled)

pub no_front : (text rest : List ℕ) (here : CodeLevel) (outer : List CodeLevel) → Reading text rest here outer → 0 < length rest
    → token_front rest ≡ None → (x : Regexp) → IsText text x → ⊥
no_front text rest here outer r l e x t = by (left_of text rest here outer x r t r).lexed refl
  where
    by : {vs : List Token} {zs : List ℕ} → Lexes rest vs zs → zs ≡ [] → ⊥
    by stop f = let none : length rest ≡ 0 = ap length f in absurd (omega arith)
    by (go g k) f = some_none (sym g ∙ e)

pub no_advance : (text rest after : List ℕ) (here : CodeLevel) (outer : List CodeLevel) (t : Token) → Reading text rest here outer
    → token_front rest ≡ Some (t, after) → ((s : State) → Agrees here outer s → advance s t ≡ None) → (x : Regexp) → IsText text x → ⊥
no_advance text rest after here outer t r e takes x k =
    let left = left_of text rest here outer x r k r in
    let first = front_same left.rest [] e left.lexed refl in
    let whole = machine_complete x in
    let tokens : regexp_tokens x ≡ r.tokens ++ t ∷ first.0 = left.split ∙ ap (λ vs. r.tokens ++ vs) first.1 in
    let stopped : run (fresh, []) (r.tokens ++ t ∷ first.0) ≡ None =
    run_append r.tokens (t ∷ first.0) (fresh, [])
    ∙ (ap (option_and_then (λ s'. run s' (t ∷ first.0))) r.ran
    ∙ ap (option_and_then (λ s'. run s' first.0)) (takes r.state r.agrees)) in
    some_none (sym whole.1 ∙ (ap (run (fresh, [])) tokens ∙ stopped))

pub no_end : (text rest : List ℕ) (here : CodeLevel) (outer : List CodeLevel) → Reading text rest here outer → rest ≡ [] → 0 < length outer
    → (x : Regexp) → IsText text x → ⊥
no_end text rest here outer r e l x k =
    by (left_of text rest here outer x r k r).rest (left_of text rest here outer x r k r).split (left_of text rest here outer x r k r).lexed
  where
    empty_front : {xs : List ℕ} {x : Token × List ℕ} → xs ≡ [] → token_front xs ≡ Some x → ⊥
    empty_front f g = some_none (sym g ∙ ap token_front f)

    nothing_lexed : {xs zs : List ℕ} {vs : List Token} → Lexes xs vs zs → xs ≡ [] → vs ≡ []
    nothing_lexed stop f = refl
    nothing_lexed (go g k) f = absurd (empty_front f g)

    no_outer : (s : State) (m : Level) → Some s ≡ Some (m, []) → Outer outer s.1 → ⊥
    no_outer s m h o =
        let same : s ≡ (m, []) = cc in
        let none : outer ≡ [] = subst (λ u. Outer outer u.1) same o in
        let zero : length outer ≡ 0 = ap length none in
        absurd (omega arith)

    by : (vs : List Token) → regexp_tokens x ≡ r.tokens ++ vs → Lexes rest vs [] → ⊥
    by vs split lexed =
        let whole = machine_complete x in
        let tokens : regexp_tokens x ≡ r.tokens = split ∙ (ap (λ us. r.tokens ++ us) (nothing_lexed lexed e) ∙ append-nil r.tokens) in
        no_outer r.state whole.0 (sym r.ran ∙ (ap (run (fresh, [])) (sym tokens) ∙ whole.1)) r.agrees.2

-- what is larger than may be when the token is taken is so whatever follows
pub goes_large : (text rest after : List ℕ) (here : CodeLevel) (outer : List CodeLevel) (t : Token) → Reading text rest here outer
    → token_front rest ≡ Some (t, after)
    → ((u : State) → Agrees here outer u → (s' : State) × (advance u t ≡ Some s') × (size_limit < state_size s'))
    → (x : Regexp) → IsText text x → size_limit < regexp_size x
goes_large text rest after here outer t r e takes x k =
    let left = left_of text rest here outer x r k r in
    let first = front_same left.rest [] e left.lexed refl in
    let whole = machine_complete x in
    let taken = takes r.state r.agrees in
    let tokens : regexp_tokens x ≡ r.tokens ++ t ∷ first.0 = left.split ∙ ap (λ vs. r.tokens ++ vs) first.1 in
    let ran : run (fresh, []) (r.tokens ++ t ∷ first.0) ≡ run taken.0 first.0 =
    run_append r.tokens (t ∷ first.0) (fresh, [])
    ∙ (ap (option_and_then (λ s'. run s' (t ∷ first.0))) r.ran
    ∙ ap (option_and_then (λ s'. run s' first.0)) taken.1) in
    let grows = run_grows first.0 taken.0 (whole.0, []) (sym ran ∙ (ap (run (fresh, [])) (sym tokens) ∙ whole.1)) in
    let size = regexp_of_size whole.0 in
    let same : regexp_size (regexp_of whole.0) ≡ regexp_size x = ap regexp_size whole.2 in
    omega arith

pub some_left : (b : Bool) (n : ℕ) → b ≡ (n == 0) → b ≡ false → 0 < n
some_left b n e h = grind (arith, nat_tests)

pub none_left : {A : Type 0} (b : Bool) (xs : List A) → b ≡ (length xs == 0) → b ≡ true → xs ≡ []
none_left b [] e h = refl
none_left b (x ∷ xs) e h = let none = eqb-true (length (x ∷ xs)) 0 (sym e ∙ h) in absurd (omega arith)

pub tested_as : (b : Bool) (m n : ℕ) → b ≡ (m == 0) → m ≡ n → b ≡ (n == 0)
tested_as b m n e f = e ∙ ap (λ k. k == 0) f

-- ---- a text is one regular expression

pub one_reading : (text : List ℕ) (x y : Regexp) → IsText text x → IsText text y → x ≡ y
one_reading text x y s t =
    let r = lexes_unique (regexp_tokens x) (spelled_lexes t.spelled) (spelled_lexes s.spelled) in
    let tokens : regexp_tokens x ≡ regexp_tokens y = r.split
    ∙ (ap (λ us. regexp_tokens y ++ us) (nothing_more r.lexed refl) ∙ append-nil (regexp_tokens y)) in
    let a = machine_complete x in
    let b = machine_complete y in
    sym a.2 ∙ (ap regexp_of (level_same (sym a.1 ∙ (ap (run (fresh, [])) tokens ∙ b.1))) ∙ b.2)
  where
    nothing_more : {xs zs : List ℕ} {vs : List Token} → Lexes xs vs zs → xs ≡ [] → vs ≡ []
    nothing_more stop f = refl
    nothing_more (go g k) f = absurd (some_none (sym g ∙ ap token_front f))

    level_same : {l m : Level} → ◌≡◌ {A = Option State} (Some (l, [])) (Some (m, [])) → l ≡ m
    level_same h = ap (λ s. s.0) (some_same h)

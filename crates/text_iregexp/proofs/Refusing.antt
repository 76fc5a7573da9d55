-- What an error says of the text, and of its place.
use Rattle.std.proofs.Common.{◌≡◌, inl, inr, ℕ, ◌+◌, ◌-◌, ◌<◌, ◌≤◌, List, [], ◌∷◌, ◌++◌, length, Option, Some, None, Err}
use Rattle.std.proofs.Common.{refl, sym, ap, ◌∙◌, subst, arith, append_assoc, append-nil, length-append}
use Rattle.std.specs.Prelude.{option_and_then}
use Rattle.text_iregexp.specs.declared.error.IRegexpError.{IRegexpError}
use Rattle.text_iregexp.specs.declared.error.IRegexpErrorKind.{IRegexpErrorKind}
use Rattle.text_iregexp.specs.declared.error.IRegexpErrorKind.TheVariants.{Invalid, TooDeep, TooLarge, OutOfMemory}
use Rattle.text_iregexp.specs.declared.reader.Level.{Level as CodeLevel}
use Rattle.text_iregexp.specs.Fronts.{Fronts, token_front, token_of}
use Rattle.text_iregexp.specs.Grammar as is
use Rattle.text_iregexp.specs.Grammar.{Token, characters, opened, closed, bar, quantifier, asserted, Spells, Spelled, IsText}
use Rattle.text_iregexp.specs.Levels.{Level, State, fresh, with_atom, regexp_of, quantified, in_state, advance, Outer, Agrees, Takes}
use Rattle.text_iregexp.specs.Levels.{run, state_size}
use Rattle.text_iregexp.specs.Limits.{depth_limit, size_limit, LargeCount, begins_group, ends_group, begun_groups, ended_groups}
use Rattle.text_iregexp.specs.Reading.{Begins, Stops, OpensTooMany, GrowsTooLarge, Says, Refused}
use Rattle.text_iregexp.proofs.Lexing.{spells_some, front_sound, front_complete}
use Rattle.text_iregexp.proofs.Machine.{machine_sound}
use Rattle.text_iregexp.proofs.Reading.{Lexes, stop, go, Reading, run_append, goes_large}
use Rattle.text_iregexp.proofs.Reading.{some_none, none_some, token_same, no_front, no_advance, no_end}

-- ---- what stands before the place

record Front (text : List ℕ) (tokens : List Token) (rest : List ℕ) : Type 0 where
  cs : List ℕ
  split : text ≡ cs ++ rest
  spelled : Spelled cs tokens

front_of : {xs zs : List ℕ} {ts : List Token} → Lexes xs ts zs → Front xs ts zs
front_of stop = record { cs = []; split = refl; spelled = is.none }
front_of (go {xs} {ys} {zs} {t} {ts} e k) =
    let s = front_sound xs t ys e in
    let f = front_of k in
    record {
      cs = s.cs ++ f.cs;
      split = s.split ∙ (ap (λ us. s.cs ++ us) f.split ∙ sym (append_assoc s.cs f.cs zs));
      spelled = is.more s.spelled f.spelled;
    }

-- tokens are read in the same way whatever follows
lexes_on : {xs : List ℕ} {ts : List Token} → Spelled xs ts → (zs : List ℕ) → Lexes (xs ++ zs) ts zs
lexes_on is.none zs = stop
lexes_on (is.more {cs} {ds} {t} {ts} s k) zs =
    go (ap token_front (append_assoc cs ds zs) ∙ front_complete cs t s (ds ++ zs)) (lexes_on k zs)

spelled_append : {xs ys : List ℕ} {ts us : List Token} → Spelled xs ts → Spelled ys us → Spelled (xs ++ ys) (ts ++ us)
spelled_append is.none k = k
spelled_append {ys = ys} {us = us} (is.more {cs} {ds} {t} {ts} s h) k =
    subst (λ zs. Spelled zs (t ∷ (ts ++ us))) (sym (append_assoc cs ds ys)) (is.more s (spelled_append h k))

-- ---- the groups that are open can end

record Closes (l : Level) (ls : List Level) : Type 0 where
  cs : List ℕ
  tokens : List Token
  whole : Level
  spelled : Spelled cs tokens
  ran : run (l, ls) tokens ≡ Some (whole, [])

closes : (l : Level) (ls : List Level) → Closes l ls
closes l [] = record { cs = []; tokens = []; whole = l; spelled = is.none; ran = refl }
closes l (o ∷ ls) =
    let k = closes (with_atom o (is.group (regexp_of l))) ls in
    record { cs = 41 ∷ k.cs; tokens = closed ∷ k.tokens; whole = k.whole; spelled = is.more is.closes k.spelled; ran = k.ran }

begun : (front : List ℕ) (tokens : List Token) (s : State) → Spelled front tokens → run (fresh, []) tokens ≡ Some s → Begins front
begun front tokens s p r =
    let k = closes s.0 s.1 in
    let ran : run (fresh, []) (tokens ++ k.tokens) ≡ Some (k.whole, []) =
    run_append tokens k.tokens (fresh, []) ∙ (ap (option_and_then (λ u. run u k.tokens)) r ∙ k.ran) in
    record {
      more = k.cs;
      regexp = regexp_of k.whole;
      text = record {
        spelled = subst (Spelled (front ++ k.cs)) (sym (machine_sound (tokens ++ k.tokens) k.whole ran)) (spelled_append p k.spelled);
      };
    }

-- ---- how many groups are open

some_state : {s u : State} → Some s ≡ Some u → s ≡ u
some_state h = cc

pub step_depth : (s : State) (t : Token) (u : State) → advance s t ≡ Some u → length s.1 + begins_group t ≡ length u.1 + ends_group t
step_depth s (characters negated items) u e = let same = ap (λ x. length x.1) (some_state e) in omega arith
step_depth s opened u e = let same = ap (λ x. length x.1) (some_state e) in omega arith
step_depth (l, []) closed u e = absurd (none_some e)
step_depth (l, o ∷ ls) closed u e = let same = ap (λ x. length x.1) (some_state e) in omega arith
step_depth s bar u e = let same = ap (λ x. length x.1) (some_state e) in omega arith
step_depth s (quantifier least most) u e = by (quantified s.0 least most) e
  where
    by : (o : Option Level) → in_state s.1 o ≡ Some u → length s.1 + 0 ≡ length u.1 + 0
    by None f = absurd (none_some f)
    by (Some l) f = let same = ap (λ x. length x.1) (some_state f) in omega arith
step_depth s (asserted kind) u e = let same = ap (λ x. length x.1) (some_state e) in omega arith

run_depth : (ts : List Token) (s u : State) → run s ts ≡ Some u → length s.1 + begun_groups ts ≡ length u.1 + ended_groups ts
run_depth [] s u e = let same = ap (λ x. length x.1) (some_state e) in omega arith
run_depth (t ∷ ts) s u e = by (advance s t) refl e (λ v g. run_depth ts v u g)
  where
    by : (o : Option State) → advance s t ≡ o → option_and_then (λ v. run v ts) o ≡ Some u
        → ((v : State) → run v ts ≡ Some u → length v.1 + begun_groups ts ≡ length u.1 + ended_groups ts)
        → length s.1 + (begins_group t + begun_groups ts) ≡ length u.1 + (ends_group t + ended_groups ts)
    by None f g rec = absurd (none_some g)
    by (Some v) f g rec =
        let one = step_depth s t v f in
        let rest = rec v g in
        omega arith

pub outer_length : (fs : List CodeLevel) (ls : List Level) → Outer fs ls → length fs ≡ length ls
outer_length fs [] o = ap length o
outer_length fs (l ∷ ls) o =
    let front = outer_length o.0 ls o.5 in
    let whole : length fs ≡ length (o.0 ++ o.1 ∷ []) = ap length o.2 in
    let sum = length-append o.0 (o.1 ∷ []) in
    omega arith

begins_with : (cs : List ℕ) (t : Token) → t ≡ opened → Spells cs t → cs ≡ 40 ∷ []
begins_with cs t e is.opens = refl
begins_with cs t e is.closes = cc
begins_with cs t e is.parts = cc
begins_with cs t e (is.normal c h) = cc
begins_with cs t e is.dot = cc
begins_with cs t e (is.escaped l c h) = cc
begins_with cs t e (is.category c) = cc
begins_with cs t e (is.bracket a b c d f) = cc
begins_with cs t e is.star = cc
begins_with cs t e is.plus = cc
begins_with cs t e is.question = cc
begins_with cs t e (is.exactly c ds h k) = cc
begins_with cs t e (is.at_least c ds h k) = cc
begins_with cs t e (is.between c cs' d ds h k l m n) = cc

too_deep : (text rest after : List ℕ) (here : CodeLevel) (outer : List CodeLevel) (t : Token) (r : Reading text rest here outer)
    → token_front rest ≡ Some (t, after) → t ≡ opened → depth_limit ≤ length outer → OpensTooMany r.tokens rest
too_deep text rest after here outer t r e f h =
    let s = front_sound rest t after e in
    let run = run_depth r.tokens (fresh, []) r.state r.ran in
    let len = outer_length outer r.state.1 r.agrees.2 in
    record { after = after; begins = s.split ∙ ap (λ cs. cs ++ after) (begins_with s.cs t f s.spelled); full = omega arith }

-- ---- what a kind of error says

nothing_first : (cs more : List ℕ) (t : Token) → [] ≡ cs ++ more → Spells cs t → ⊥
nothing_first cs more t e s =
    let some = spells_some cs t s in
    let none : 0 ≡ length (cs ++ more) = ap length e in
    let sum = length-append cs more in
    absurd (omega arith)

first_token : (rest cs more : List ℕ) (t : Token) → rest ≡ cs ++ more → Spells cs t → token_front rest ≡ Some (t, more)
first_token rest cs more t e s = ap token_front e ∙ front_complete cs t s more

-- no token stands at the place
pub says_no_token : (text rest : List ℕ) (here : CodeLevel) (outer : List CodeLevel) (k : IRegexpErrorKind)
    → (r : Reading text rest here outer) → 0 < length rest → Fronts (LargeCount rest) token_of (token_front rest) (Err k)
    → (front : List ℕ) → Says text front r.tokens rest k
says_no_token text rest here outer Invalid r l f front =
    (no_front text rest here outer r l f, λ cs more t e s b. some_none (sym (first_token rest cs more t e s) ∙ f))
says_no_token text rest here outer TooDeep r l f front = absurd f
says_no_token text rest here outer TooLarge r l f front = inl f
says_no_token text rest here outer OutOfMemory r l f front = tt

-- the same reading of another text that begins in the same way
other_reading : (text rest more : List ℕ) (here : CodeLevel) (outer : List CodeLevel) (r : Reading text rest here outer) (front : List ℕ)
    → Spelled front r.tokens → Reading (front ++ more) more here outer
other_reading text rest more here outer r front s =
    record { tokens = r.tokens; state = r.state; lexed = lexes_on s more; ran = r.ran; agrees = r.agrees }

no_going_on : (text rest after : List ℕ) (here : CodeLevel) (outer : List CodeLevel) (t : Token) (r : Reading text rest here outer)
    → token_front rest ≡ Some (t, after) → ((s : State) → Agrees here outer s → advance s t ≡ None) → (front : List ℕ)
    → Spelled front r.tokens → Stops front rest
no_going_on text rest after here outer t r e takes front p cs more u split s b =
    let same : t ≡ u = token_same (sym e ∙ first_token rest cs more u split s) in
    let moved : Spells cs t = subst (Spells cs) (sym same) s in
    no_advance (front ++ (cs ++ b.more)) (cs ++ b.more) b.more here outer t (other_reading text rest (cs ++ b.more) here outer r front p)
    (front_complete cs t moved b.more) takes b.regexp (subst (λ xs. IsText xs b.regexp) (append_assoc front cs b.more) b.text)

-- with the token at the place, the regular expression is larger than may be
grows_large : (text rest after : List ℕ) (here : CodeLevel) (outer : List CodeLevel) (t : Token) (r : Reading text rest here outer)
    → token_front rest ≡ Some (t, after)
    → ((s : State) → Agrees here outer s → (s' : State) × (advance s t ≡ Some s') × (size_limit < state_size s')) → (front : List ℕ)
    → Spelled front r.tokens → GrowsTooLarge front rest
grows_large text rest after here outer t r e takes front p =
    let s = front_sound rest t after e in
    let taken = takes r.state r.agrees in
    let ran : run (fresh, []) (r.tokens ++ t ∷ []) ≡ Some taken.0 =
    run_append r.tokens (t ∷ []) (fresh, [])
    ∙ (ap (option_and_then (λ u. run u (t ∷ []))) r.ran ∙ ap (option_and_then (λ u. run u [])) taken.1) in
    let one : Spelled s.cs (t ∷ []) = subst (λ xs. Spelled xs (t ∷ [])) (append-nil s.cs) (is.more s.spelled is.none) in
    record {
      token = t;
      cs = s.cs;
      after = after;
      split = s.split;
      spelled = s.spelled;
      begun = begun (front ++ s.cs) (r.tokens ++ t ∷ []) taken.0 (spelled_append p one) ran;
      large = λ more x k.
          goes_large (front ++ (s.cs ++ more)) (s.cs ++ more) more here outer t
          (other_reading text rest (s.cs ++ more) here outer r front p) (front_complete s.cs t s.spelled more) takes x
          (subst (λ xs. IsText xs x) (append_assoc front s.cs more) k);
    }

-- a token stands at the place that is not taken
pub says_no_take : (text rest after : List ℕ) (here here' : CodeLevel) (outer outer' : List CodeLevel) (t : Token) (k : IRegexpErrorKind)
    → (r : Reading text rest here outer) → token_front rest ≡ Some (t, after) → Takes here outer t (Err k) here' outer' → (front : List ℕ)
    → Spelled front r.tokens → Says text front r.tokens rest k
says_no_take text rest after here here' outer outer' t Invalid r e f front p =
    (no_advance text rest after here outer t r e f, no_going_on text rest after here outer t r e f front p)
says_no_take text rest after here here' outer outer' t TooDeep r e f front p = too_deep text rest after here outer t r e f.0 f.1
says_no_take text rest after here here' outer outer' t TooLarge r e f front p = inr (grows_large text rest after here outer t r e f front p)
says_no_take text rest after here here' outer outer' t OutOfMemory r e f front p = tt

-- the text ends in a group
pub says_no_end : (text rest : List ℕ) (here : CodeLevel) (outer : List CodeLevel) (k : IRegexpErrorKind)
    → (r : Reading text rest here outer) → k ≡ Invalid → rest ≡ [] → 0 < length outer → (front : List ℕ) → Says text front r.tokens rest k
says_no_end text rest here outer k r e f l front =
    subst (Says text front r.tokens rest) (sym e)
    (no_end text rest here outer r f l, λ cs more t split s b. nothing_first cs more t (sym f ∙ split) s)

says_memory : (text front : List ℕ) (tokens : List Token) (rest : List ℕ) (k : IRegexpErrorKind) → k ≡ OutOfMemory
    → Says text front tokens rest k
says_memory text front tokens rest k e = subst (Says text front tokens rest) (sym e) tt

pub refused : (text rest : List ℕ) (here : CodeLevel) (outer : List CodeLevel) (e : IRegexpError) (r : Reading text rest here outer)
    → e.place ≡ length text - length rest → ((front : List ℕ) → Spelled front r.tokens → Says text front r.tokens rest e.kind)
    → Refused text e
refused text rest here outer e r p says =
    let f = front_of r.lexed in
    let len : length text ≡ length (f.cs ++ rest) = ap length f.split in
    let sum = length-append f.cs rest in
    record {
      front = f.cs;
      tokens = r.tokens;
      rest = rest;
      split = f.split;
      placed = omega arith;
      spelled = f.spelled;
      begun = begun f.cs r.tokens r.state f.spelled r.ran;
      says = says f.cs f.spelled;
    }

pub refused_memory : (text rest : List ℕ) (here : CodeLevel) (outer : List CodeLevel) (e : IRegexpError)
    → Reading text rest here outer → e.place ≡ length text - length rest → e.kind ≡ OutOfMemory → Refused text e
refused_memory text rest here outer e r p k =
    refused text rest here outer e r p (λ front s. says_memory text front r.tokens rest e.kind k)

-- nothing was read
pub refused_at_once : (text : List ℕ) (e : IRegexpError) → e.kind ≡ OutOfMemory → e.place ≡ 0 → Refused text e
refused_at_once text e k p = record {
  front = [];
  tokens = [];
  rest = text;
  split = refl;
  placed = p;
  spelled = is.none;
  begun = begun [] [] (fresh, []) is.none refl;
  says = says_memory text [] [] text e.kind k;
}

-- How one step leads to the next.
use Rattle.std.proofs.Common.{◌≡◌, ℕ, ◌==◌, Bool, not, cond, true, false, List, [], ◌∷◌, ◌++◌, Result, Ok, Err, Option, Some, None, refl}
use Rattle.std.proofs.Common.{sym, ap, ◌∙◌, subst, append_assoc, append-nil, inl, inr, ⊎_elim}
use Rattle.std.proofs.lemmas.Bool.{eq-eqb, ne_eqb}
use Rattle.std.specs.List.{AllByRecursion}
use Rattle.std.specs.Char.{is_ascii_digit}
use Rattle.tinyjson_grammar.specs.Kind.{kind_of}
use Rattle.tinyjson_grammar.specs.Tree.{Tree, is_string, key_of}
use Rattle.tinyjson_grammar.specs.declared.error.JsonParseErrorKind.{JsonParseErrorKind}
use Rattle.tinyjson_grammar.specs.declared.error.JsonParseErrorKind.TheVariants.{OutOfMemory, UnexpectedEof, ExpectedEof, InvalidCharacter}
use Rattle.tinyjson_grammar.specs.declared.error.JsonParseErrorKind.TheVariants.{InvalidUtf16, KeyNotString, UnexpectedInLiteral}
use Rattle.tinyjson_grammar.specs.Position.{advance}
use Rattle.tinyjson_grammar.specs.Characters.{is_white}
use Rattle.tinyjson_tokens.specs.Source.{Sight, Takes, Whites}
use Rattle.tinyjson_grammar.specs.Machine.{strictly, Within, quoted, end, colon, Frame, at_key, first, awaited, after, finished, Next, next}
use Rattle.tinyjson_grammar.specs.Machine.{stop, refused, complete, step, run, go_on}
use Rattle.tinyjson_tokens.specs.Steps.{onward, ending, outcome, IsNext, IsTaken, after_all, letters_left, Same, Comes, IsLate, IsHeld}
use Rattle.tinyjson_tokens.specs.Steps.{Leads, Halts, Refuses, Reads}
use Rattle.tinyjson_tokens.proofs.Sources.{Takes_nil}
use Rattle.tinyjson_grammar.proofs.Callers.{advance_append}

-- ---- the machine alone

module _ (limit : Option ℕ) where
  pub Same_refl : (n : Next) (zs : List ℕ) → Same limit n n zs
  Same_refl n [] = refl
  Same_refl n (c ∷ cs) = inl refl

  Same_trans : (n m o : Next) (zs : List ℕ) → Same limit n m zs → Same limit m o zs → Same limit n o zs
  Same_trans n m o [] a b = a ∙ b
  Same_trans n m o (c ∷ cs) (inl a) (inl b) = inl (a ∙ b)
  Same_trans n m o (c ∷ cs) (inl a) (inr b) = inr (rw a b)
  Same_trans n m o (c ∷ cs) (inr a) (inl b) = inr (rw (sym b) a)
  Same_trans n m o (c ∷ cs) (inr a) (inr b) = inr (
    (a.0.0, b.0.1),
    Same_trans (onward limit n c) (onward limit m c) (onward limit o c) cs a.1 b.1,
  )

  IsNext_taken : (n : Next) → IsNext n → IsTaken n
  IsNext_taken (next fs p) h = tt
  IsNext_taken (stop k b) h = absurd h

  Comes_same : (n m o : Next) (xs rest : List ℕ) → Same limit n m (xs ++ rest) → (IsNext m → IsNext n) → Comes limit m xs o rest
      → Comes limit n xs o rest
  Comes_same n m o [] rest a k b = (Same_trans n m o rest a b.0, λ h. k (b.1 h))
  Comes_same n m o (c ∷ cs) rest (inl a) k b = (k b.0, subst IsTaken (sym a) b.1, subst (λ z. Comes limit z cs o rest) (sym a) b.2)
  Comes_same n m o (c ∷ cs) rest (inr a) k b = (
    k b.0,
    IsNext_taken (onward limit n c) a.0.0,
    Comes_same (onward limit n c) (onward limit m c) o cs rest a.1 (λ h. a.0.0) b.2,
  )

  pub Comes_trans : (n m o : Next) (xs ys rest : List ℕ) → Comes limit n xs m (ys ++ rest) → Comes limit m ys o rest
      → Comes limit n (xs ++ ys) o rest
  Comes_trans n m o [] ys rest a b = Comes_same n m o ys rest a.0 a.1 b
  Comes_trans n m o (c ∷ cs) ys rest a b = (a.0, a.1, Comes_trans (onward limit n c) m o cs ys rest a.2 b)

  outcome_step : (n : Next) (c : ℕ) (cs : List ℕ) → IsNext n → IsTaken (onward limit n c)
      → outcome limit n (c ∷ cs) ≡ outcome limit (onward limit n c) cs
  unfolding run
  outcome_step (next fs p) c cs h t = go (step (strictly limit) fs p c) t
    where
      go : (n : Next) → IsTaken n → go_on (λ gs q. run (strictly limit) gs q cs) n (c ∷ cs) cs ≡ outcome limit n cs
      go (next gs q) t = refl
      go (stop k true) t = refl
      go (stop k false) t = absurd t
  outcome_step (stop k b) c cs h t = absurd h

  outcome_end : (n : Next) → outcome limit n [] ≡ ending limit n
  unfolding run
  outcome_end (next fs p) = refl
  outcome_end (stop k b) = refl

  outcome_on : (n : Next) (c : ℕ) (cs : List ℕ) → outcome limit n (c ∷ cs) ≡ go_on (λ gs q. run (strictly limit) gs q cs) (onward limit n c)
      (c ∷ cs) cs
  unfolding run
  outcome_on (next fs p) c cs = refl
  outcome_on (stop k b) c cs = refl

  outcome_goes : (n : Next) (c : ℕ) (cs : List ℕ) → IsNext n → go_on (λ gs q. run (strictly limit) gs q cs) n (c ∷ cs) cs
      ≡ outcome limit n cs
  outcome_goes (next fs p) c cs h = refl
  outcome_goes (stop k b) c cs h = absurd h

  outcome_same : (n m : Next) (zs : List ℕ) → Same limit n m zs → outcome limit n zs ≡ outcome limit m zs
  outcome_same n m [] a = outcome_end n ∙ a ∙ sym (outcome_end m)
  outcome_same n m (c ∷ cs) (inl a) = outcome_on n c cs ∙ ap (λ z. go_on (λ gs q. run (strictly limit) gs q cs) z (c ∷ cs) cs) a
      ∙ sym (outcome_on m c cs)
  outcome_same n m (c ∷ cs) (inr a) =
      outcome_on n c cs ∙ outcome_goes (onward limit n c) c cs a.0.0 ∙ outcome_same (onward limit n c) (onward limit m c) cs a.1
      ∙ sym (outcome_goes (onward limit m c) c cs a.0.1) ∙ sym (outcome_on m c cs)

  -- what the machine says of the list, it says of the rest
  pub Comes_outcome : (n m : Next) (xs rest : List ℕ) → Comes limit n xs m rest → outcome limit n (xs ++ rest) ≡ outcome limit m rest
  Comes_outcome n m [] rest a = outcome_same n m rest a.0
  Comes_outcome n m (c ∷ cs) rest a = outcome_step n c (cs ++ rest) a.0 a.1 ∙ Comes_outcome (onward limit n c) m cs rest a.2

  -- the character that was read by then is the last
  IsHeld_late : (n : Next) (c : ℕ) → IsNext n → onward limit n c ≡ stop InvalidUtf16 true → IsHeld limit n (c ∷ [])
  IsHeld_late n c h e = record { front = []; late = c ∷ []; whole = refl; goes = h; ends = e }

  IsHeld_cons : (n : Next) (c : ℕ) (cs : List ℕ) → IsHeld limit (onward limit n c) cs → IsHeld limit n (c ∷ cs)
  IsHeld_cons n c cs k = record { front = c ∷ k.front; late = k.late; whole = ap (λ z. c ∷ z) k.whole; goes = k.goes; ends = k.ends }

  -- what was taken was held
  pub Comes_held : (n m : Next) (xs rest : List ℕ) → IsNext n → IsNext m → Comes limit n xs m rest → IsHeld limit n xs
  Comes_held n m [] rest h k a = record { front = []; late = []; whole = refl; goes = h; ends = tt }
  Comes_held n m (c ∷ cs) rest h k a = IsHeld_cons n c cs (Comes_held (onward limit n c) m cs rest
      (came (onward limit n c) m cs rest k a.2) k a.2)
    where
      came : (n m : Next) (cs rest : List ℕ) → IsNext m → Comes limit n cs m rest → IsNext n
      came n m [] rest k a = a.1 k
      came n m (c ∷ cs) rest k a = a.0

  held_goes : (n m : Next) (f zs : List ℕ) → (IsNext m → IsNext n) → Same limit n m (f ++ zs) → IsNext (after_all limit m f)
      → IsNext (after_all limit n f)
  held_goes n m [] zs h a g = h g
  held_goes n m (c ∷ cs) zs h (inl e) g = subst (λ z. IsNext (after_all limit z cs)) (sym e) g
  held_goes n m (c ∷ cs) zs h (inr a) g = held_goes (onward limit n c) (onward limit m c) cs zs (λ w. a.0.0) a.1 g

  held_late : (n m : Next) (f l rest : List ℕ) → Same limit n m (f ++ (l ++ rest)) → IsLate limit (after_all limit m f) l
      → IsLate limit (after_all limit n f) l
  held_late n m [] [] rest a g = tt
  held_late n m [] (c ∷ []) rest (inl e) g = e ∙ g
  held_late n m [] (c ∷ []) rest (inr a) g = absurd (subst IsNext g a.0.1)
  held_late n m [] (c ∷ d ∷ ds) rest a g = g
  held_late n m (c ∷ cs) l rest (inl e) g = subst (λ z. IsLate limit (after_all limit z cs) l) (sym e) g
  held_late n m (c ∷ cs) l rest (inr a) g = held_late (onward limit n c) (onward limit m c) cs l rest a.1 g

  IsHeld_same : (n m : Next) (ys rest : List ℕ) → (IsNext m → IsNext n) → Same limit n m (ys ++ rest) → IsHeld limit m ys
      → IsHeld limit n ys
  IsHeld_same n m ys rest h a k =
      let s : Same limit n m (k.front ++ (k.late ++ rest)) = subst (Same limit n m)
      (ap (λ z. z ++ rest) k.whole ∙ append_assoc k.front k.late rest) a in
      record {
        front = k.front;
        late = k.late;
        whole = k.whole;
        goes = held_goes n m k.front (k.late ++ rest) h s k.goes;
        ends = held_late n m k.front k.late rest s k.ends;
      }

  pub Comes_halts : (n m : Next) (xs ys rest : List ℕ) → Comes limit n xs m (ys ++ rest) → IsHeld limit m ys → IsHeld limit n (xs ++ ys)
  Comes_halts n m [] ys rest a k = IsHeld_same n m ys rest a.1 a.0 k
  Comes_halts n m (c ∷ cs) ys rest a k = IsHeld_cons n c (cs ++ ys) (Comes_halts (onward limit n c) m cs ys rest a.2 k)

pub taken_if : (b : Bool) (n m : Next) → IsTaken n → IsTaken m → IsTaken (cond b n m)
taken_if true n m h k = h
taken_if false n m h k = k

pub taken_complete : (fs : List Frame) (t : Tree) → IsTaken (complete true fs t true)
taken_complete (at_key ms ∷ fs) t = taken_if (not (is_string t)) (stop (KeyNotString (kind_of t)) true)
    (next (at_key ms ∷ fs) (colon (key_of t))) tt tt
taken_complete _ t = tt

pub taken_letters_left : (fs : List Frame) (ls : List ℕ) (t : Tree) → IsTaken (letters_left fs ls t)
taken_letters_left fs [] t = taken_complete fs t
taken_letters_left fs (l ∷ ls) t = tt

module _ (limit : Option ℕ) where
  literal_step : (fs : List Frame) (l : ℕ) (ls : List ℕ) (t : Tree) (c : ℕ) → onward limit (letters_left fs (l ∷ ls) t) c ≡ cond (c == l)
      (letters_left fs ls t) (stop (UnexpectedInLiteral c) true)
  unfolding step
  literal_step fs l [] t c = refl
  literal_step fs l (m ∷ ls) t c = refl

  -- the letters xs, of which x is the first
  module _ (fs : List Frame) (t : Tree) (xs : List ℕ) (x : ℕ) (ys : List ℕ) (front : xs ≡ x ∷ ys) where
    pub letter_next : IsNext (letters_left fs xs t)
    letter_next = subst (λ zs. IsNext (letters_left fs zs t)) (sym front) tt

    letter_step : (c : ℕ) → onward limit (letters_left fs xs t) c ≡ cond (c == x) (letters_left fs ys t) (stop (UnexpectedInLiteral c) true)
    letter_step c = ap (λ zs. onward limit (letters_left fs zs t) c) front ∙ literal_step fs x ys t c

    -- it is read; another character is refused; the end comes
    pub letter_yes : (c : ℕ) → c ≡ x → onward limit (letters_left fs xs t) c ≡ letters_left fs ys t
    letter_yes c k = letter_step c ∙ ap (λ b. cond b (letters_left fs ys t) (stop (UnexpectedInLiteral c) true)) (eq-eqb c x k)

    pub letter_no : (c : ℕ) → (c ≡ x → ⊥) → onward limit (letters_left fs xs t) c ≡ stop (UnexpectedInLiteral c) true
    letter_no c k = letter_step c ∙ ap (λ b. cond b (letters_left fs ys t) (stop (UnexpectedInLiteral c) true)) (ne_eqb c x k)

    pub letter_end : ending limit (letters_left fs xs t) ≡ refused UnexpectedEof []
    unfolding end
    letter_end = ap (λ zs. ending limit (letters_left fs zs t)) front

  -- all of them come
  letters_come : (fs : List Frame) (t : Tree) (xs rest : List ℕ) → Comes limit (letters_left fs xs t) xs (complete true fs t true) rest
  letters_come fs t [] rest = (Same_refl limit (complete true fs t true) rest, λ w. w)
  letters_come fs t (x ∷ xs) rest =
      let e : letters_left fs xs t ≡ onward limit (letters_left fs (x ∷ xs) t) x = sym (letter_yes fs t (x ∷ xs) x xs refl x refl) in (
        tt,
        subst IsTaken e (taken_letters_left fs xs t),
        subst (λ z. Comes limit z xs (complete true fs t true) rest) e (letters_come fs t xs rest),
      )

-- ---- the machine and the cursor

module _ {S : Type 0} (sight : Sight S) (limit : Option ℕ) where
  pub Leads_nil : (p : S) (n : Next) → Leads sight limit p n p n
  Leads_nil p n = let t = Takes_nil sight p in record {
    taken = [];
    gives = λ zs g. let x = t.gives zs g in (x.0, x.1, x.2, (Same_refl limit n x.0, λ w. w));
    moves = t.moves;
  }

  -- the same state by another name
  pub Leads_to : (p q : S) {n m o : Next} → Leads sight limit p n q m → m ≡ o → Leads sight limit p n q o
  Leads_to p q {n} l e = subst (Leads sight limit p n q) e l

  pub Leads_trans : (p q r : S) {n m o : Next} → Leads sight limit p n q m → Leads sight limit q m r o → Leads sight limit p n r o
  Leads_trans p q r {n} {m} {o} a b = record {
    taken = a.taken ++ b.taken;
    gives = λ zs g.
        let x = a.gives zs g in
        let y = b.gives x.0 x.2 in (
          y.0,
          x.1 ∙ ap (λ t. a.taken ++ t) y.1 ∙ sym (append_assoc a.taken b.taken y.0),
          y.2,
          Comes_trans limit n m o a.taken b.taken y.0 (subst (λ z. Comes limit n a.taken m z) y.1 x.3) y.3,
        );
    moves = b.moves ∙ ap (λ t. advance t b.taken) a.moves ∙ advance_append (sight.place p) a.taken b.taken;
  }

  pub Halts_trans : (p q r : S) {n m : Next} → Leads sight limit p n q m → Halts sight limit q m r → Halts sight limit p n r
  Halts_trans p q r {n} {m} a b = record {
    taken = a.taken ++ b.taken;
    gives = λ zs g.
        let x = a.gives zs g in
        let y = b.gives x.0 x.2 in (
          y.0,
          x.1 ∙ ap (λ t. a.taken ++ t) y.1 ∙ sym (append_assoc a.taken b.taken y.0),
          y.2,
          Comes_halts limit n m a.taken b.taken y.0 (subst (λ z. Comes limit n a.taken m z) y.1 x.3) y.3,
        );
    moves = b.moves ∙ ap (λ t. advance t b.taken) a.moves ∙ advance_append (sight.place p) a.taken b.taken;
  }

  -- no memory here
  pub Halts_here : (p q : S) {n m : Next} → Leads sight limit p n q m → IsNext n → IsNext m → Halts sight limit p n q
  Halts_here p q {n} {m} a h k = record {
    taken = a.taken;
    gives = λ zs g. let x = a.gives zs g in (x.0, x.1, x.2, Comes_held limit n m a.taken x.0 h k x.3);
    moves = a.moves;
  }

  -- no memory after the character that ends a run with an unpaired surrogate
  pub Halts_late : (p q r : S) {n m : Next} (c : ℕ) → Leads sight limit p n q m → Takes sight q (c ∷ []) r → IsNext m
      → onward limit m c ≡ stop InvalidUtf16 true → Halts sight limit p n r
  Halts_late p q r {n} {m} c a t h e = Halts_trans p q r a (record {
    taken = c ∷ [];
    gives = λ zs g. let x = t.gives zs g in (x.0, x.1, x.2, IsHeld_late limit m c h e);
    moves = t.moves;
  })

  stays : (n : Next) → IsNext n → ((c : ℕ) → is_white c ≡ true → onward limit n c ≡ n) → (ws rest : List ℕ)
      → AllByRecursion (λ c. is_white c ≡ true) ws → Comes limit n ws n rest
  stays n h k [] rest a = (Same_refl limit n rest, λ w. w)
  stays n h k (w ∷ ws) rest a =
      let e = sym (k w a.0) in
      let held : (o : Next) → IsNext o → IsTaken o = elim [ next fs p ↦ λ w. tt | stop j b ↦ λ w. absurd w ] in
      (h, subst IsTaken e (held n h), subst (λ z. Comes limit z ws n rest) e (stays n h k ws rest a.1))

  -- white space changes nothing
  pub Leads_whites : (p q : S) (n : Next) → Whites sight p q → IsNext n → ((c : ℕ) → is_white c ≡ true → onward limit n c ≡ n)
      → Leads sight limit p n q n
  Leads_whites p q n w h k = record {
    taken = w.taken;
    gives = λ zs g. let x = w.takes.gives zs g in (x.0, x.1, x.2, stays n h k w.taken x.0 w.white);
    moves = w.takes.moves;
  }

  -- the next character is taken
  pub Leads_one : (p q r : S) {n m o : Next} (c : ℕ) → Leads sight limit p n q m → Takes sight q (c ∷ []) r → IsNext m
      → onward limit m c ≡ o → IsTaken o → Leads sight limit p n r o
  Leads_one p q r {n} {m} {o} c a t h e k = Leads_trans p q r a (record {
    taken = c ∷ [];
    gives = λ zs g. let x = t.gives zs g in (
      x.0,
      x.1,
      x.2,
      (h, subst IsTaken (sym e) k, subst (λ z. Comes limit z [] o x.0) (sym e) (Same_refl limit o x.0, λ w. w)),
    );
    moves = t.moves;
  })

  -- all letters of a literal are taken
  pub Leads_letters : (p q : S) (fs : List Frame) (t : Tree) (xs : List ℕ) → Takes sight p xs q
      → Leads sight limit p (letters_left fs xs t) q (complete true fs t true)
  Leads_letters p q fs t xs k = record {
    taken = xs;
    gives = λ zs g. let x = k.gives zs g in (x.0, x.1, x.2, letters_come limit fs t xs x.0);
    moves = k.moves;
  }

  then : (p q : S) {n m o : Next} → Leads sight limit p n q m → ((rest : List ℕ) → sight.gives q rest → Same limit m o rest) → IsNext m
      → Leads sight limit p n q o
  then p q {n} {m} {o} a h k = record {
    taken = a.taken;
    gives = λ zs g.
        let x = a.gives zs g in (
          x.0,
          x.1,
          x.2,
          subst (λ ys. Comes limit n ys o x.0) (append-nil a.taken) (Comes_trans limit n m o a.taken [] x.0 x.3 (h x.0 x.2, λ w. k)),
        );
    moves = a.moves;
  }

  -- at a character that is shown, and at the end
  pub Leads_shown : (p q : S) {n m o : Next} (c : ℕ) → Leads sight limit p n q m → sight.shows q (Some c)
      → onward limit m c ≡ onward limit o c → IsNext m → Leads sight limit p n q o
  Leads_shown p q {n} {m} {o} c a s e k = then p q a (λ rest g. let f = sight.first q rest c s g in
      subst (Same limit m o) (sym f.1) (inl e)) k

  pub Leads_end : (p q : S) {n m o : Next} → Leads sight limit p n q m → sight.shows q None → ending limit m ≡ ending limit o → IsNext m
      → Leads sight limit p n q o
  Leads_end p q {n} {m} {o} a s e k = then p q a (λ rest g. subst (Same limit m o) (sym (sight.none q rest s g)) e) k

  -- a look ahead
  pub Leads_peek : (p q r : S) {n m : Next} → Leads sight limit p n q m → Takes sight q [] r → Leads sight limit p n r m
  Leads_peek p q r {n} {m} a t =
      let l : Leads sight limit q m r m = record {
        taken = [];
        gives = λ zs g. let x = t.gives zs g in (x.0, x.1, x.2, (Same_refl limit m x.0, λ w. w));
        moves = t.moves;
      } in
      Leads_trans p q r a l

  -- the end is found
  pub Leads_none : (p q r : S) {n m o : Next} → Leads sight limit p n q m → Takes sight q [] r → sight.shows r None
      → ending limit m ≡ ending limit o → IsNext m → Leads sight limit p n r o
  Leads_none p q r {n} {m} {o} a t s e k = Leads_end p r (Leads_peek p q r a t) s e k

  -- an error of the kind that the machine says, and because memory ran out
  pub Refuses_as : (p q : S) {n : Next} (k : JsonParseErrorKind) → Leads sight limit p n q (stop k true) → Refuses sight limit p n k q
  Refuses_as p q k l = inl l

  pub Refuses_memory : (p q : S) {n : Next} → Halts sight limit p n q → Refuses sight limit p n OutOfMemory q
  Refuses_memory p q l = inr (refl, l)

  pub Refuses_after : (p q r : S) {n m : Next} (k : JsonParseErrorKind) → Leads sight limit p n q m → Refuses sight limit q m k r
      → Refuses sight limit p n k r
  Refuses_after p q r k a b = ⊎_elim (λ w. inl (Leads_trans p q r a w)) (λ w. inr (w.0, Halts_trans p q r a w.1)) b

  -- what was read before, and what was read then
  pub Reads_after : {T : Type 0} (p q s : S) {n m : Next} (r : Result T JsonParseErrorKind) (K : T → Next) → Leads sight limit p n q m
      → Reads sight limit q m r K s → Reads sight limit p n r K s
  Reads_after p q s (Ok v) K a b = Leads_trans p q s a b
  Reads_after p q s (Err e) K a b = Refuses_after p q s e a b

-- ---- white space

module _ (limit : Option ℕ) where
  pub white_awaited : (fs : List Frame) (c : ℕ) → is_white c ≡ true → onward limit (next fs awaited) c ≡ next fs awaited
  unfolding step
  white_awaited fs c h = rw h refl

  pub white_first : (fs : List Frame) (c : ℕ) → is_white c ≡ true → onward limit (next fs first) c ≡ next fs first
  unfolding step
  white_first fs c h = rw h refl

  pub white_after : (fs : List Frame) (c : ℕ) → is_white c ≡ true → onward limit (next fs after) c ≡ next fs after
  unfolding step
  white_after fs c h = rw h refl

  pub white_finished : (t : Tree) (c : ℕ) → is_white c ≡ true → onward limit (next [] (finished t)) c ≡ next [] (finished t)
  unfolding step
  white_finished t c h = rw h refl

  -- ---- a character that is not white space

  pub no_end : (t : Tree) (c : ℕ) → is_white c ≡ false → onward limit (next [] (finished t)) c ≡ stop (ExpectedEof c) true
  unfolding step
  no_end t c h = rw h refl

  pub invalid : (fs : List Frame) (c : ℕ) → is_white c ≡ false → (c ≡ 110 → ⊥) → (c ≡ 116 → ⊥) → (c ≡ 102 → ⊥) → (c ≡ 34 → ⊥) → (c ≡ 91 → ⊥)
      → (c ≡ 123 → ⊥) → (c ≡ 45 → ⊥) → is_ascii_digit c ≡ false → onward limit (next fs awaited) c ≡ stop (InvalidCharacter c) false
  unfolding step
  invalid fs c w n t f q b o m d = rw (
    w,
    d,
    ne_eqb c 110 n,
    ne_eqb c 116 t,
    ne_eqb c 102 f,
    ne_eqb c 34 q,
    ne_eqb c 91 b,
    ne_eqb c 123 o,
    ne_eqb c 45 m,
  ) refl

  pub white_colon : (fs : List Frame) (k : List ℕ) (c : ℕ) → is_white c ≡ true → onward limit (next fs (colon k)) c ≡ next fs (colon k)
  unfolding step
  white_colon fs k c h = rw h refl

  -- ---- the end of the characters

  pub end_awaited : (fs : List Frame) → ending limit (next fs awaited) ≡ refused UnexpectedEof []
  unfolding end
  end_awaited fs = refl

  pub end_first : (fs : List Frame) → ending limit (next fs first) ≡ refused UnexpectedEof []
  unfolding end
  end_first fs = refl

  pub end_after : (fs : List Frame) → ending limit (next fs after) ≡ refused UnexpectedEof []
  unfolding end
  end_after fs = refl

  pub end_colon : (fs : List Frame) (k : List ℕ) → ending limit (next fs (colon k)) ≡ refused UnexpectedEof []
  unfolding end
  end_colon fs k = refl

  pub end_quoted : (fs : List Frame) (w : Within) (cs us : List ℕ) → ending limit (next fs (quoted w cs us)) ≡ refused UnexpectedEof []
  unfolding end
  end_quoted fs w cs us = refl

-- Whether a branch begins with `^`, or ends with `$` so far.
use Rattle.std.proofs.Common.{◌≡◌, ◌&&◌, ◌||◌, ℕ, Bool, true, false, List, [], ◌∷◌, ◌++◌, Option, Some, None, refl, sym, ap, ◌∙◌}
use Rattle.std.proofs.Common.{true≢false}
use Rattle.text_regexp.specs.declared.assertion.Assertion.{Assertion}
use Rattle.text_regexp.specs.declared.assertion.Assertion.TheVariants.{Start, End, WordBoundary, NotWordBoundary}
use Rattle.text_iregexp.specs.Grammar as regexp
use Rattle.text_iregexp.specs.Grammar.{Token, characters, opened, closed, bar, quantifier, asserted, Piece, once, times, asserts, Atom}
use Rattle.text_iregexp.specs.Levels.{Level, level, State, fresh, settled, with_atom, with_assertion, regexp_of, quantified}
use Rattle.text_iregexp.specs.Levels.{in_state, advance}
use Rattle.text_iregexp.specs.PatternMachine.{no_levels, is_blank, is_single, is_bar, is_start, is_end, is_start_token, is_end_token}
use Rattle.text_iregexp.specs.PatternMachine.{is_start_piece, is_end_piece, first_starts, last_ends, starts_at, ends_at}
use Rattle.text_iregexp.specs.PatternMachine.{outermost, starts_in}
use Rattle.text_iregexp.specs.PatternMachine.{ends_in, is_unread}
use Rattle.text_iregexp.proofs.Lexing.{none_some, some_same}

or_false : (a b : Bool) → (a || (b && false)) ≡ a
or_false true b = refl
or_false false true = refl
or_false false false = refl

and_false : (b : Bool) → (b && false) ≡ false
and_false true = refl
and_false false = refl

-- ---- the beginning

first_push : (ps : List Piece) (p : Piece) → is_start_piece p ≡ false → first_starts (ps ++ p ∷ []) ≡ first_starts ps
first_push [] p h = h
first_push (q ∷ ps) p h = refl

first_settled : (ps : List Piece) (z : Option Atom) → first_starts (settled ps z) ≡ first_starts ps
first_settled ps None = refl
first_settled ps (Some a) = first_push ps (once a) refl

starts_put : (l : Level) (a : Atom) → starts_at (with_atom l a) ≡ starts_at l
starts_put (level [] ps z) a = first_settled ps z
starts_put (level (b ∷ bs) ps z) a = refl

starts_quantified : (l k : Level) (least : ℕ) (most : Option ℕ) → quantified l least most ≡ Some k → starts_at k ≡ starts_at l
starts_quantified (level bs ps None) k least most e = none_some e
starts_quantified (level [] ps (Some a)) k least most e = ap starts_at (sym (some_same e)) ∙ first_push ps (times a least most) refl
starts_quantified (level (b ∷ bs) ps (Some a)) k least most e = ap starts_at (sym (some_same e))

starts_asserted : (l : Level) (kind : Assertion)
    → starts_at (with_assertion l kind) ≡ (starts_at l || ((is_blank l && true) && is_start kind))
starts_asserted (level [] [] None) kind = refl
starts_asserted (level [] [] (Some a)) kind = refl
starts_asserted (level [] (p ∷ ps) None) kind = sym (or_false (is_start_piece p) false)
starts_asserted (level [] (p ∷ ps) (Some a)) kind = sym (or_false (is_start_piece p) false)
starts_asserted (level (b ∷ bs) [] None) kind = refl
starts_asserted (level (b ∷ bs) [] (Some a)) kind = refl
starts_asserted (level (b ∷ bs) (p ∷ ps) None) kind = refl
starts_asserted (level (b ∷ bs) (p ∷ ps) (Some a)) kind = refl

within_group : (a b c : Bool) → a ≡ (a || ((b && false) && c))
within_group true b c = refl
within_group false true c = refl
within_group false false c = refl

-- a branch begins with `^` if it began with it, or if that is its first token
pub advance_starts : (s : State) (t : Token) (u : State) → (no_levels s.1 && is_bar t) ≡ false → advance s t ≡ Some u
    → starts_in u ≡ (starts_in s || (is_unread s && is_start_token t))
advance_starts (l, []) (characters negated is) u h e =
    ap starts_in (sym (some_same e)) ∙ (starts_put l (regexp.character negated is) ∙ sym (or_false (starts_at l) (is_blank l && true)))
advance_starts (l, o ∷ ls) (characters negated is) u h e =
    ap starts_in (sym (some_same e)) ∙ sym (or_false (starts_at (outermost o ls)) (is_blank l && false))
advance_starts (l, ls) opened u h e =
    ap starts_in (sym (some_same e)) ∙ sym (or_false (starts_at (outermost l ls)) (is_blank l && no_levels ls))
advance_starts (l, []) closed u h e = none_some e
advance_starts (l, o ∷ []) closed u h e =
    ap starts_in (sym (some_same e)) ∙ (starts_put o (regexp.group (regexp_of l)) ∙ sym (or_false (starts_at o) (is_blank l && false)))
advance_starts (l, o ∷ n ∷ ls) closed u h e =
    ap starts_in (sym (some_same e)) ∙ sym (or_false (starts_at (outermost n ls)) (is_blank l && false))
advance_starts (l, []) bar u h e = absurd (true≢false h)
advance_starts (l, o ∷ ls) bar u h e =
    ap starts_in (sym (some_same e)) ∙ sym (or_false (starts_at (outermost o ls)) (is_blank l && false))
advance_starts (l, ls) (quantifier least most) u h e = by (quantified l least most) refl e
  where
    in_level : (k : Level) (os : List Level) → starts_at k ≡ starts_at l → starts_at (outermost k os) ≡ starts_at (outermost l os)
    in_level k [] g = g
    in_level k (o ∷ os) g = refl

    by : (o : Option Level) → quantified l least most ≡ o → in_state ls o ≡ Some u
        → starts_in u ≡ (starts_in (l, ls) || (is_unread (l, ls) && false))
    by None f g = none_some g
    by (Some k) f g = ap starts_in (sym (some_same g))
        ∙ (in_level k ls (starts_quantified l k least most f) ∙ sym (or_false (starts_at (outermost l ls)) (is_blank l && no_levels ls)))
advance_starts (l, []) (asserted kind) u h e = ap starts_in (sym (some_same e)) ∙ starts_asserted l kind
advance_starts (l, o ∷ ls) (asserted kind) u h e =
    ap starts_in (sym (some_same e)) ∙ within_group (starts_at (outermost o ls)) (is_blank l) (is_start kind)

-- ---- the end

last_push : (ps : List Piece) (p : Piece) → last_ends (ps ++ p ∷ []) ≡ is_end_piece p
last_push [] p = refl
last_push (q ∷ []) p = refl
last_push (q ∷ r ∷ ps) p = last_push (r ∷ ps) p

ends_put : (l : Level) (a : Atom) → ends_at (with_atom l a) ≡ false
ends_put (level bs ps z) a = refl

ends_quantified : (l k : Level) (least : ℕ) (most : Option ℕ) → quantified l least most ≡ Some k → ends_at k ≡ false
ends_quantified (level bs ps None) k least most e = none_some e
ends_quantified (level bs ps (Some a)) k least most e = ap ends_at (sym (some_same e)) ∙ last_push ps (times a least most)

ends_asserted : (l : Level) (kind : Assertion) → ends_at (with_assertion l kind) ≡ is_end kind
ends_asserted (level bs ps z) kind = last_push (settled ps z) (asserts kind)

no_end : (a b c : Bool) → b ≡ false → (a && b) ≡ (c && false)
no_end a b c e = ap (λ x. a && x) e ∙ (and_false a ∙ sym (and_false c))

-- a branch ends with `$` if that is its last token
pub advance_ends : (s : State) (t : Token) (u : State) → (no_levels s.1 && is_bar t) ≡ false → advance s t ≡ Some u
    → ends_in u ≡ (no_levels s.1 && is_end_token t)
advance_ends (l, ls) (characters negated is) u h e =
    ap ends_in (sym (some_same e))
    ∙ no_end (no_levels ls) (ends_at (with_atom l (regexp.character negated is))) (no_levels ls) (ends_put l (regexp.character negated is))
advance_ends (l, ls) opened u h e = ap ends_in (sym (some_same e)) ∙ sym (and_false (no_levels ls))
advance_ends (l, []) closed u h e = none_some e
advance_ends (l, o ∷ ls) closed u h e =
    ap ends_in (sym (some_same e))
    ∙ no_end (no_levels ls) (ends_at (with_atom o (regexp.group (regexp_of l)))) false (ends_put o (regexp.group (regexp_of l)))
advance_ends (l, []) bar u h e = absurd (true≢false h)
advance_ends (l, o ∷ ls) bar u h e = ap ends_in (sym (some_same e))
advance_ends (l, ls) (quantifier least most) u h e = by (quantified l least most) refl e
  where
    by : (o : Option Level) → quantified l least most ≡ o → in_state ls o ≡ Some u → ends_in u ≡ (no_levels ls && false)
    by None f g = none_some g
    by (Some k) f g = ap ends_in (sym (some_same g)) ∙ no_end (no_levels ls) (ends_at k) (no_levels ls) (ends_quantified l k least most f)
advance_ends (l, ls) (asserted kind) u h e = ap ends_in (sym (some_same e)) ∙ ap (λ b. no_levels ls && b) (ends_asserted l kind)

-- ---- a branch of which nothing was read, or only `^`

pub is_the_blank : (l : Level) → is_blank l ≡ true → l ≡ fresh
is_the_blank (level [] [] None) h = refl
is_the_blank (level [] [] (Some a)) h = absurd (true≢false (sym h))
is_the_blank (level [] (p ∷ ps) e) h = absurd (true≢false (sym h))
is_the_blank (level (b ∷ bs) ps e) h = absurd (true≢false (sym h))

the_start : (kind : Assertion) → is_start kind ≡ true → kind ≡ Start
the_start Start h = refl
the_start End h = absurd (true≢false (sym h))
the_start WordBoundary h = absurd (true≢false (sym h))
the_start NotWordBoundary h = absurd (true≢false (sym h))

pub the_end : (kind : Assertion) → is_end kind ≡ true → kind ≡ End
the_end Start h = absurd (true≢false (sym h))
the_end End h = refl
the_end WordBoundary h = absurd (true≢false (sym h))
the_end NotWordBoundary h = absurd (true≢false (sym h))

pub start_piece : (p : Piece) → is_start_piece p ≡ true → p ≡ asserts Start
start_piece (once a) h = absurd (true≢false (sym h))
start_piece (times a least most) h = absurd (true≢false (sym h))
start_piece (asserts kind) h = ap asserts (the_start kind h)

pub end_piece : (p : Piece) → is_end_piece p ≡ true → p ≡ asserts End
end_piece (once a) h = absurd (true≢false (sym h))
end_piece (times a least most) h = absurd (true≢false (sym h))
end_piece (asserts kind) h = ap asserts (the_end kind h)

pub only_start : (l : Level) → starts_at l ≡ true → is_single l ≡ true → l ≡ level [] (asserts Start ∷ []) None
only_start (level [] [] z) h k = absurd (true≢false (sym h))
only_start (level [] (p ∷ []) None) h k = ap (λ q. level [] (q ∷ []) None) (start_piece p h)
only_start (level [] (p ∷ []) (Some a)) h k = absurd (true≢false (sym k))
only_start (level [] (p ∷ q ∷ ps) z) h k = absurd (true≢false (sym k))
only_start (level (b ∷ bs) ps z) h k = absurd (true≢false (sym h))

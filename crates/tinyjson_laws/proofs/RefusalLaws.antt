-- An error is a function of the list: what its kind says forces the machine to stop just there.
use Rattle.std.proofs.Common.{zero, suc, ◌≡◌, ℕ, ◌+◌, ◌<◌, Bool, true, false, List, [], ◌∷◌, ◌++◌, Option, None, Ok, Err, refl, ap, sym}
use Rattle.std.proofs.Common.{◌∙◌, cond, append_assoc, append-nil, arith, length, take, subst, ◌⊎◌, inl, inr, ⊎_elim, IsTrue, ◌==◌, ◌||◌}
use Rattle.std.proofs.lemmas.Bool.{cases_Bool, eqb-true, true≢false, false≢true, not-true}
use Rattle.std.proofs.lemmas.List.{append_cancel_right}
use Rattle.std.specs.Prelude.{All}
use Rattle.std.specs.Char.{IsScalar, is_ascii_digit}
use Rattle.tinyjson_grammar.specs.Characters.{is_white, paired}
use Rattle.tinyjson_grammar.specs.Prefix.{IsErrorFree, IsLooselyViable, IsValue}
use Rattle.tinyjson_grammar.specs.Grammar.{IsAccepted}
use Rattle.tinyjson_grammar.specs.Kind.{kind_of}
use Rattle.tinyjson_grammar.specs.Machine
use Rattle.tinyjson_grammar.specs.Machine.{Rules, strictly, Frame, at_key, Phase, first, awaited, digits, quoted, colon, finished, Next}
use Rattle.tinyjson_grammar.specs.Machine.{next, stop, accepted, refused, complete, finish, then_step, unless_ended, step_digits, end_plain}
use Rattle.tinyjson_grammar.specs.Machine.{fits, push_frame, start, step, run, end}
use Rattle.tinyjson_grammar.specs.Refusal.{IsRefusal, EndsBadKey, EndsExponent, BeginsAt, InString, NeedsMore, EndsBefore, BeginsWithNone}
use Rattle.tinyjson_grammar.specs.Refusal.{IsLiteral, begins_value, RefusalSays}
use Rattle.tinyjson_grammar.specs.Syntax.{Syntax, number, string, empty_array, empty_object, text, is_key, tree_of, Piece, pieces_text}
use Rattle.tinyjson_grammar.specs.Syntax.{piece_codes, IsSpelled, IsWithin}
use Rattle.tinyjson_grammar.specs.Tree as tree
use Rattle.tinyjson_grammar.specs.Tree.{Tree, Members}
use Rattle.tinyjson.specs.View.{view}
use Rattle.tinyjson_grammar.specs.Position.{advance, origin}
use Rattle.tinyjson_number.specs.Numeral.{Numeral, IsNumeral, has_leading_zero, spelling, minus_text, fraction_text, value, in_range}
use Rattle.tinyjson_grammar.specs.declared.kind.JsonKind.{JsonKind}
use Rattle.tinyjson_grammar.specs.declared.error.JsonParseErrorKind.{JsonParseErrorKind}
use Rattle.tinyjson_grammar.specs.declared.error.JsonParseErrorKind.TheVariants as kind
use Rattle.tinyjson.proofs.Callers.Laws.{all_front}
use Rattle.tinyjson_grammar.proofs.Callers.Laws.{error_free, placed, refused_key, run_spelling, last_stage, end_finishes, Path, outside}
use Rattle.tinyjson_grammar.proofs.Callers.Laws.{item_in, key_in, value_in, path_text, path_frames, level, IsPath, Part, part_minus}
use Rattle.tinyjson_grammar.proofs.Callers.Laws.{part_integer, part_point, part_fraction, part_letter, part_sign, part_exponent, part_stage}
use Rattle.tinyjson_grammar.proofs.Callers.Laws.{part_numeral, Read, at_first, at_awaited, in_literal, in_digits, in_quoted, at_after}
use Rattle.tinyjson_grammar.proofs.Callers.Laws.{read_frames, read_phase, IsFresh, settle, fits_within, level_frames, rules, only_tree}
use Rattle.tinyjson_grammar.proofs.Callers.Laws.{loose_accepted, Begins, begins_append, numeral_begins, text_begins, run_value, ends, Ends}
use Rattle.tinyjson_grammar.proofs.Callers.Laws.{error_free_place, no_text}
use Rattle.tinyjson_laws.proofs.ReadingLaws.{loose_at}
use Rattle.tinyjson_laws.proofs.RefusalPlaces.{Goes, EndsKey, error_free_stands, stands_stop, run_stop, wide_stop, wide_step, Ready}
use Rattle.tinyjson_laws.proofs.RefusalPlaces.{awaits_ready, ready_run, ready_free}
use Rattle.tinyjson_laws.proofs.RefusalTokens.{has_some_digit, literal_stops, literal_ends, string_opens, control_stops, escape_stops}
use Rattle.tinyjson_laws.proofs.RefusalTokens.{hex_stops, escape_ends, run_stops, unpaired_after, minus_stops, zero_stops, fraction_stops}
use Rattle.tinyjson_laws.proofs.RefusalTokens.{exponent_stops, signed_stops, number_ends_or}
use Rattle.tinyjson_laws.proofs.RefusalLast.{Exact, run_end, colon_exact, brace_exact, bracket_exact, after_exact, needs_exact}
use Rattle.tinyjson_laws.proofs.RefusalLast.{closer_colon, closer_bracket, closer_brace}
use Rattle.tinyjson_laws.specs.Refusals.{OneRefusal, OneAnswer}

-- ---- a token that was begun where a value is awaited

begun : (limit : Option ℕ) (used token : List ℕ) → All IsScalar used → (h : BeginsAt limit used token) → Ready limit h.prefix
begun limit used token a h = awaits_ready limit h.prefix (all_front h.prefix token (subst (All IsScalar) h.whole a)) h.awaited

begun_run : (limit : Option ℕ) (used token rest : List ℕ) (a : All IsScalar used) (h : BeginsAt limit used token) → Begins token →
    run (strictly limit) [] awaited (used ++ rest)
    ≡ run (strictly limit) (path_frames (begun limit used token a h).path) awaited (token ++ rest)
begun_run limit used token rest a h b =
    ap (run (strictly limit) [] awaited) (ap (λ xs. xs ++ rest) h.whole ∙ append_assoc h.prefix token rest)
    ∙ ready_run limit h.prefix (begun limit used token a h) (token ++ rest) (begins_append token rest b)

token_exact : (limit : Option ℕ) (k : JsonParseErrorKind) (used token rest : List ℕ) → All IsScalar used → BeginsAt limit used token
    → Begins token → ((fs : List Frame) → run (strictly limit) fs awaited (token ++ rest) ≡ refused k rest) → Exact limit k used rest
token_exact limit k used token rest a h b g = begun_run limit used token rest a h b ∙ g (path_frames (begun limit used token a h).path)

string_assoc : (a b c d : List ℕ) → (34 ∷ (a ++ (b ++ c))) ++ d ≡ 34 ∷ (a ++ (b ++ (c ++ d)))
string_assoc a b c d = simp append_assoc

string_exact : (limit : Option ℕ) (k : JsonParseErrorKind) (used : List ℕ) (units : List Piece) (tail rest : List ℕ) → All IsScalar used
    → InString limit used units tail → ((fs : List Frame) (cs us : List ℕ) → IsTrue (paired us)
    → run (strictly limit) fs (quoted Machine.plain cs (us ++ piece_codes units)) (tail ++ rest) ≡ refused k rest) → Exact limit k used rest
string_exact limit k used units tail rest a h g = token_exact limit k used _ rest a h.begins (_, _, refl, (refl, refl, refl))
    (λ fs. let o = string_opens limit fs h.pieces units h.are_pieces h.are_paired h.are_units in
    ap (run (strictly limit) fs awaited) (string_assoc (pieces_text h.pieces) (pieces_text units) tail rest)
    ∙ (o.3 (tail ++ rest) ∙ g fs o.0 o.1 o.2))

literal_begins : (l : List ℕ) (n : ℕ) (xs : List ℕ) → IsLiteral l → 0 < n → Begins (take n l ++ xs)
literal_begins l zero xs h k = absurd (omega arith)
literal_begins l (suc n) xs (inl e) k = rw e (_, _, refl, (refl, refl, refl))
literal_begins l (suc n) xs (inr (inl e)) k = rw e (_, _, refl, (refl, refl, refl))
literal_begins l (suc n) xs (inr (inr e)) k = rw e (_, _, refl, (refl, refl, refl))

-- ---- a number that ends, and what its end is refused for

finish_run : (limit : Option ℕ) (fs : List Frame) (n : Numeral) → has_leading_zero n.integer ≡ false → (k : JsonParseErrorKind)
    → finish (strictly limit) fs n ≡ stop k false → (rest : List ℕ) →
    ((c : ℕ) (more : List ℕ) → rest ≡ c ∷ more → step_digits (strictly limit) fs (last_stage n) n c ≡ None)
    → run (strictly limit) fs (digits (last_stage n) n) rest ≡ refused k rest
unfolding run step end
finish_run limit fs n z k f [] h = end_finishes (strictly limit) fs n n.fraction n.exponent z ∙ ap end_plain f
finish_run limit fs n z k f (c ∷ cs) h =
    ap (λ o. Machine.go_on (λ gs q. run (strictly limit) gs q cs) (unless_ended (strictly limit) fs n c o) (c ∷ cs) cs) (h c cs refl)
    ∙ ap (λ m. Machine.go_on (λ gs q. run (strictly limit) gs q cs) (then_step (strictly limit) m c) (c ∷ cs) cs) f

begins_digit : (c : ℕ) (more rest : List ℕ) → rest ≡ c ∷ more → BeginsWithNone is_ascii_digit rest → is_ascii_digit c ≡ false
begins_digit c more rest e h = subst (BeginsWithNone is_ascii_digit) e h

number_exact : (limit : Option ℕ) (prefix : List ℕ) (r : Ready limit prefix) (n : Numeral) → IsNumeral n
    → has_leading_zero n.integer ≡ false → (used rest : List ℕ) → used ≡ prefix ++ spelling n → BeginsWithNone is_ascii_digit rest →
    ((c : ℕ) (more : List ℕ) → rest ≡ c ∷ more → ¬ IsErrorFree limit (used ++ c ∷ [])) → (k : JsonParseErrorKind)
    → finish (strictly limit) (path_frames r.path) n ≡ stop k false → Exact limit k used rest
number_exact limit prefix r n h z used rest e d s k f =
    ap (run (strictly limit) [] awaited) (ap (λ xs. xs ++ rest) e ∙ append_assoc prefix (spelling n) rest)
    ∙ (ready_run limit prefix r (spelling n ++ rest) (begins_append (spelling n) rest (text_begins (number n) h))
    ∙ (run_spelling (strictly limit) (path_frames r.path) n rest h z ∙ finish_run limit (path_frames r.path) n z k f rest none))
  where
    none : (c : ℕ) (more : List ℕ) → rest ≡ c ∷ more → step_digits (strictly limit) (path_frames r.path) (last_stage n) n c ≡ None
    none c more g = ⊎_elim (λ i. i) (λ i. absurd (s c more g
        (subst (λ xs. IsErrorFree limit (xs ++ c ∷ [])) (sym (e ∙ ap (λ xs. xs ++ spelling n) r.whole)) i)))
        (number_ends_or limit r.path r.is n h z c (begins_digit c more rest g d))

range_finish : (limit : Option ℕ) (fs : List Frame) (n : Numeral) → in_range (value n) ≡ false
    → finish (strictly limit) fs n ≡ stop kind.NumberOutOfRange false
range_finish limit fs n h = rw h refl

key_finish : (limit : Option ℕ) (ms : Members) (fs : List Frame) (n : Numeral) → in_range (value n) ≡ true
    → finish (strictly limit) (at_key ms ∷ fs) n ≡ stop (kind.KeyNotString (kind_of (tree.number (value n)))) false
key_finish limit ms fs n h = rw h refl

-- ---- a key that is not a string

key_frames : (p : Path) (s : Syntax) → IsSpelled s → (zs : List ℕ) (t : Tree)
    → run (rules false None) (path_frames p) awaited (text s ++ 58 ∷ zs) ≡ accepted t
    → (ms : Members) × (fs : List Frame) × (path_frames p ≡ at_key ms ∷ fs)
unfolding run step
key_frames p s h zs t e = inside p (sym (run_value s (rules false None) (path_frames p) (58 ∷ zs) h (λ i. absurd (false≢true i)) tt
    (ends s (58 ∷ zs) refl)) ∙ e)
  where
    inside : (p : Path) → settle (rules false None) (complete false (path_frames p) (tree_of s) true) (58 ∷ zs) ≡ accepted t
        → (ms : Members) × (fs : List Frame) × (path_frames p ≡ at_key ms ∷ fs)
    inside (outside w) g = absurd (no_text _ _ t g)
    inside (item_in p es w) g = absurd (no_text _ _ t g)
    inside (key_in p ps w) g = (_, _, refl)
    inside (value_in p ps a k b w) g = absurd (no_text _ _ t g)

end_left : (m : Next) (k : JsonParseErrorKind) (x : ℕ) (xs : List ℕ) → end_plain m ≡ refused k (x ∷ xs) → ⊥
end_left (stop j b) k x xs e = cc
end_left (next fs first) k x xs e = cc
end_left (next fs awaited) k x xs e = cc
end_left (next fs (Machine.literal ls t)) k x xs e = cc
end_left (next fs (digits s n)) k x xs e = cc
end_left (next fs (quoted w cs us)) k x xs e = cc
end_left (next fs (colon l)) k x xs e = cc
end_left (next fs Machine.after) k x xs e = cc
end_left (next fs (finished t)) k x xs e = cc

zero_left : (b : Bool) (j : JsonParseErrorKind) (m : Next) (k : JsonParseErrorKind) (x : ℕ) (xs : List ℕ)
    → cond b (refused j []) (end_plain m) ≡ refused k (x ∷ xs) → ⊥
zero_left true j m k x xs e = cc
zero_left false j m k x xs e = end_left m k x xs e

-- a digit more is taken
digit_left : (fs : List Frame) (n : Part) (k : JsonParseErrorKind)
    → run (strictly None) fs (digits (part_stage n) (part_numeral n)) (48 ∷ []) ≡ refused k (48 ∷ []) → ⊥
unfolding run step end
digit_left fs part_minus k e = end_left _ k 48 [] e
digit_left fs (part_integer b d ds) k e = zero_left _ _ _ k 48 [] e
digit_left fs (part_point b d ds) k e = end_left _ k 48 [] e
digit_left fs (part_fraction b d ds x xs) k e = end_left _ k 48 [] e
digit_left fs (part_letter b d ds f l) k e = end_left _ k 48 [] e
digit_left fs (part_sign b d ds f l s) k e = end_left _ k 48 [] e
digit_left fs (part_exponent b d ds f l s x xs) k e = end_left _ k 48 [] e

no_end : (k : JsonKind) → refused kind.UnexpectedEof [] ≡ refused (kind.KeyNotString k) [] → ⊥
no_end k e = cc

never_left : (x : Read) (k : JsonKind) → ((ys : List ℕ)
    → run (strictly None) (read_frames x) (read_phase x) ys ≡ refused (kind.KeyNotString k) ys) → ⊥
unfolding run end
never_left (at_first p) k h = no_end k (h [])
never_left (at_awaited p) k h = no_end k (h [])
never_left (in_literal p s done left) k h = no_end k (h [])
never_left (in_digits p n) k h = digit_left (path_frames p) n (kind.KeyNotString k) (h (48 ∷ []))
never_left (in_quoted p ps cs qs wi) k h = no_end k (h [])
never_left (at_after (outside w) s v) k h = no_text _ _ (tree_of s) (sym (h []))
never_left (at_after (item_in p es w) s v) k h = no_end k (h [])
never_left (at_after (key_in p ps w) s v) k h = no_end k (h [])
never_left (at_after (value_in p ps a j b w) s v) k h = no_end k (h [])

same_key : (j k : JsonKind) (xs ys : List ℕ) → refused (kind.KeyNotString j) xs ≡ refused (kind.KeyNotString k) ys → j ≡ k
same_key j k xs ys e = cc

-- a key that ends with its last character
key_other : (limit : Option ℕ) (prefix : List ℕ) (r : Ready limit prefix) (s : Syntax) → IsValue s → is_key s ≡ false
    → ((ys : List ℕ) → Ends s ys) → (ms : Members) (fs : List Frame) → path_frames r.path ≡ at_key ms ∷ fs →
    (used rest : List ℕ) → used ≡ prefix ++ text s → All IsScalar used → IsErrorFree limit used
    → Exact limit (kind.KeyNotString (kind_of (tree_of s))) used rest
key_other limit prefix r s hs nk es ms fs pf used rest e a f = ⊎_elim goes bad (error_free_stands limit used a f)
  where
    free : (ys : List ℕ) → run (strictly None) [] awaited (used ++ ys) ≡ refused (kind.KeyNotString (kind_of (tree_of s))) ys
    free ys = ap (run (strictly None) [] awaited) (ap (λ xs. xs ++ ys) e ∙ append_assoc prefix (text s) ys)
        ∙ (ready_free limit prefix r true (text s ++ ys) (begins_append (text s) ys (text_begins s hs.spelled))
        ∙ (ap (λ gs. run (strictly None) gs awaited (text s ++ ys)) pf ∙ refused_key (strictly None) ms fs s ys refl hs nk tt (es ys)))

    goes : Goes limit used → Exact limit (kind.KeyNotString (kind_of (tree_of s))) used rest
    goes g = let x = g.2.spells in absurd (never_left x.read (kind_of (tree_of s))
        (rw (← x.frames, ← x.phase) (λ ys. sym (g.2.free true ys) ∙ free ys)))

    bad : EndsKey limit used → Exact limit (kind.KeyNotString (kind_of (tree_of s))) used rest
    bad b =
        let i : run (strictly None) [] awaited (b.0 ++ b.1 ∷ []) ≡ refused (kind.KeyNotString b.6) [] =
        b.5.free true (b.1 ∷ []) ∙ run_stop (strictly None) b.3 b.4 b.1 (kind.KeyNotString b.6) true []
        (wide_stop _ _ b.6 true (wide_step limit b.3 b.4 b.1) b.7) in
        let j : kind_of (tree_of s) ≡ b.6 = same_key _ _ _ _ (sym (free [])
        ∙ (ap (run (strictly None) [] awaited) (append-nil used ∙ b.2) ∙ i)) in
        ap (run (strictly limit) [] awaited) (ap (λ xs. xs ++ rest) b.2 ∙ append_assoc b.0 (b.1 ∷ []) rest)
        ∙ (stands_stop limit b.0 b.3 b.4 b.5 b.1 (kind.KeyNotString b.6) true b.7 rest
        ∙ ap (λ y. refused (kind.KeyNotString y) rest) (sym j))

module _ (limit : Option ℕ) (prefix : List ℕ) (r : Ready limit prefix) (ms : Members) (fs : List Frame)
    (pf : path_frames r.path ≡ at_key ms ∷ fs) (used rest : List ℕ) (a : All IsScalar used) (f : IsErrorFree limit used)
    (soon : (c : ℕ) (more : List ℕ) → rest ≡ c ∷ more → ¬ IsErrorFree limit (used ++ c ∷ [])) where
  key_at : (s : Syntax) → IsValue s → is_key s ≡ false → used ≡ prefix ++ text s → EndsBefore s rest
      → Exact limit (kind.KeyNotString (kind_of (tree_of s))) used rest
  key_at (number n) hs nk e d =
      number_exact limit prefix r n hs.spelled (not-true (has_leading_zero n.integer) hs.strict.0) used rest e d soon
      (kind.KeyNotString (kind_of (tree.number (value n))))
      (ap (λ gs. finish (strictly limit) gs n) pf ∙ key_finish limit ms fs n hs.strict.1)
  key_at (string ps) hs nk e d = absurd (true≢false nk)
  key_at x hs nk e d = key_other limit prefix r x hs nk (λ ys. tt) ms fs pf used rest e a f

key_exact : (limit : Option ℕ) (used rest : List ℕ) (k : JsonKind) → All IsScalar used → EndsBadKey limit k used rest
    → IsErrorFree limit used → IsLooselyViable limit (used ++ 58 ∷ []) →
    ((c : ℕ) (more : List ℕ) → rest ≡ c ∷ more → ¬ IsErrorFree limit (used ++ c ∷ [])) → Exact limit (kind.KeyNotString k) used rest
key_exact limit used rest k a (before, w, o, s, ho, hw, hs, hv, nk, kd, ud, aw, eb) f v soon =
    subst (λ j. Exact limit (kind.KeyNotString j) used rest) kd
    (key_at limit prefix r kf.0 kf.1 kf.2 used rest a f soon s (record { spelled = hs; strict = hv }) nk e eb)
  where
    prefix : List ℕ
    prefix = before ++ o ∷ w

    e : used ≡ prefix ++ text s
    e = ud ∙ sym (append_assoc before (o ∷ w) (text s))

    r : Ready limit prefix
    r = awaits_ready limit prefix (all_front prefix (text s) (subst (All IsScalar) e a)) aw

    l : run (rules false None) [] awaited ((used ++ 58 ∷ []) ++ v.0) ≡ accepted (tree_of v.1.value)
    l = loose_accepted None ((used ++ 58 ∷ []) ++ v.0) (loose_at limit None ((used ++ 58 ∷ []) ++ v.0) v.1 tt)

    regroup : (u x y : List ℕ) → ((u ++ x) ++ 58 ∷ []) ++ y ≡ u ++ (x ++ 58 ∷ y)
    regroup u x y = simp append_assoc

    kf : (ms : Members) × (fs : List Frame) × (path_frames r.path ≡ at_key ms ∷ fs)
    kf = key_frames r.path s hs v.0 (tree_of v.1.value)
        (sym (ready_free limit prefix r false (text s ++ 58 ∷ v.0) (begins_append (text s) (58 ∷ v.0) (text_begins s hs)))
        ∙ (sym (ap (run (rules false None) [] awaited) (ap (λ xs. (xs ++ 58 ∷ []) ++ v.0) e ∙ regroup prefix (text s) v.0)) ∙ l))

-- ---- where a value is awaited

awaited_start : (r : Rules) (fs : List Frame) (c : ℕ) → is_white c ≡ false → step r fs awaited c ≡ start r fs c
unfolding step
awaited_start r fs c h = rw h refl

first_start : (r : Rules) (p : Path) (c : ℕ) → IsFresh p → is_white c ≡ false → (c == 93) ≡ false → (c == 125) ≡ false
    → step r (path_frames p) first c ≡ start r (path_frames p) c
unfolding step
first_start r (item_in p [] w) c f h i j = rw (h, i) refl
first_start r (key_in p [] w) c f h i j = rw (h, j) refl
first_start r _ c f h i j = elim f [ ]

ready_start : (limit : Option ℕ) (xs : List ℕ) (r : Ready limit xs) (c : ℕ) → is_white c ≡ false → (c == 93) ≡ false → (c == 125) ≡ false
    → step (strictly limit) (path_frames r.path) r.phase c ≡ start (strictly limit) (path_frames r.path) c
ready_start limit xs r c h i j = ⊎_elim
    (λ e. ap (λ q. step (strictly limit) (path_frames r.path) q c) e ∙ awaited_start (strictly limit) (path_frames r.path) c h)
    (λ e. ap (λ q. step (strictly limit) (path_frames r.path) q c) e.0 ∙ first_start (strictly limit) r.path c e.1 h i j) r.ready

none_of : (a b c d e f g h : Bool) → (a || (b || (c || (d || (e || (f || (g || h))))))) ≡ false →
    (a ≡ false) × (b ≡ false) × (c ≡ false) × (d ≡ false) × (e ≡ false) × (f ≡ false) × (g ≡ false) × (h ≡ false)
none_of false false false false false false false false i = (refl, refl, refl, refl, refl, refl, refl, refl)
none_of true b c d e f g h i = absurd (true≢false i)
none_of false true c d e f g h i = absurd (true≢false i)
none_of false false true d e f g h i = absurd (true≢false i)
none_of false false false true e f g h i = absurd (true≢false i)
none_of false false false false true f g h i = absurd (true≢false i)
none_of false false false false false true g h i = absurd (true≢false i)
none_of false false false false false false true h i = absurd (true≢false i)
none_of false false false false false false false true i = absurd (true≢false i)

start_none : (r : Rules) (fs : List Frame) (c : ℕ) → begins_value c ≡ false → start r fs c ≡ stop (kind.InvalidCharacter c) false
start_none r fs c h =
    let n = none_of (c == 110) (c == 116) (c == 102) (c == 34) (c == 91) (c == 123) (c == 45) (is_ascii_digit c) h in
    rw (n.0, n.1, n.2, n.3, n.4, n.5, n.6, n.7) refl

close_array : (a w : List ℕ) → a ++ ((91 ∷ (w ++ 93 ∷ [])) ++ []) ≡ (a ++ 91 ∷ w) ++ 93 ∷ []
close_array a w = simp (append_assoc, append-nil)

close_object : (a w : List ℕ) → a ++ ((123 ∷ (w ++ 125 ∷ [])) ++ []) ≡ (a ++ 123 ∷ w) ++ 125 ∷ []
close_object a w = simp (append_assoc, append-nil)

array_error_free : (limit : Option ℕ) (p : Path) (w : List ℕ) → IsPath limit (item_in p [] w)
    → IsErrorFree limit (path_text (item_in p [] w) ++ 93 ∷ [])
array_error_free limit p w h = subst (IsErrorFree limit) (close_array (path_text p) w)
    (error_free limit p h.0 (empty_array w) (record { spelled = h.2; strict = tt }) h.3 [] tt (placed p (empty_array w)))

object_error_free : (limit : Option ℕ) (p : Path) (w : List ℕ) → IsPath limit (key_in p [] w)
    → IsErrorFree limit (path_text (key_in p [] w) ++ 125 ∷ [])
object_error_free limit p w h = subst (IsErrorFree limit) (close_object (path_text p) w)
    (error_free limit p h.0 (empty_object w) (record { spelled = h.2; strict = tt }) h.3 [] tt (placed p (empty_object w)))

first_none : (limit : Option ℕ) (p : Path) → IsPath limit p → IsFresh p → (c : ℕ) → is_white c ≡ false → begins_value c ≡ false
    → ¬ IsErrorFree limit (path_text p ++ c ∷ []) → step (strictly limit) (path_frames p) first c ≡ stop (kind.InvalidCharacter c) false
unfolding step
first_none limit (outside w) hp f c h i n = elim f [ ]
first_none limit (item_in p [] w) hp f c h i n = ⊎_elim
    (λ e. absurd (n (subst (λ x. IsErrorFree limit (path_text (item_in p [] w) ++ x ∷ [])) (sym (eqb-true c 93 e))
    (array_error_free limit p w hp))))
    (λ (e : (c == 93) ≡ false). rw (h, e) (start_none (strictly limit) (path_frames (item_in p [] w)) c i)) (cases_Bool (c == 93))
first_none limit (key_in p [] w) hp f c h i n = ⊎_elim
    (λ e. absurd (n (subst (λ x. IsErrorFree limit (path_text (key_in p [] w) ++ x ∷ [])) (sym (eqb-true c 125 e))
    (object_error_free limit p w hp))))
    (λ (e : (c == 125) ≡ false). rw (h, e) (start_none (strictly limit) (path_frames (key_in p [] w)) c i)) (cases_Bool (c == 125))
first_none limit _ hp f c h i n = elim f [ ]

left_exact : (limit : Option ℕ) (used : List ℕ) (r : Ready limit used) (c : ℕ) (more rest : List ℕ) (k : JsonParseErrorKind)
    → rest ≡ c ∷ more → step (strictly limit) (path_frames r.path) r.phase c ≡ stop k false → Exact limit k used rest
left_exact limit used r c more rest k e i = subst (Exact limit k used) (sym e)
    (stands_stop limit used (path_frames r.path) r.phase r.stands c k false i more)

invalid_exact : (limit : Option ℕ) (used : List ℕ) → Ready limit used → (c : ℕ) (more rest : List ℕ) → rest ≡ c ∷ more → is_white c ≡ false
    → begins_value c ≡ false → ¬ IsErrorFree limit (used ++ c ∷ []) → Exact limit (kind.InvalidCharacter c) used rest
invalid_exact limit used r c more rest e h i n = left_exact limit used r c more rest (kind.InvalidCharacter c) e (⊎_elim
    (λ g. ap (λ q. step (strictly limit) (path_frames r.path) q c) g
    ∙ (awaited_start (strictly limit) (path_frames r.path) c h ∙ start_none (strictly limit) (path_frames r.path) c i))
    (λ g. ap (λ q. step (strictly limit) (path_frames r.path) q c) g.0
    ∙ first_none limit r.path r.is g.1 c h i (subst (λ xs. ¬ IsErrorFree limit (xs ++ c ∷ [])) r.whole n)) r.ready)

deep_push : (limit : Option ℕ) (fs : List Frame) (f : Frame) (c : ℕ) → (fits limit (length fs) ≡ true → ⊥)
    → push_frame (strictly limit) fs f c ≡ stop (kind.TooDeep c) false
deep_push limit fs f c n = split (fits limit (length fs)) n
  where
    split : (b : Bool) → (b ≡ true → ⊥) → cond b (next (f ∷ fs) first) (stop (kind.TooDeep c) false) ≡ stop (kind.TooDeep c) false
    split true h = absurd (h refl)
    split false h = refl

deep_exact : (limit : Option ℕ) (used : List ℕ) → Ready limit used → (c : ℕ) (more rest : List ℕ) → rest ≡ c ∷ more → (c ≡ 91) ⊎ (c ≡ 123)
    → ¬ IsErrorFree limit (used ++ c ∷ []) → Exact limit (kind.TooDeep c) used rest
deep_exact limit used r c more rest e h n = ⊎_elim array_deep object_deep h
  where
    within : fits limit (length (path_frames r.path)) ≡ true → IsWithin limit (level r.path + (1 + 0))
    within i = rw (← level_frames r.path) (fits_within limit (length (path_frames r.path)) i)

    array_deep : c ≡ 91 → Exact limit (kind.TooDeep c) used rest
    array_deep i = rw i (left_exact limit used r 91 more rest (kind.TooDeep 91) (rw i at e)
        (ready_start limit used r 91 refl refl refl ∙ deep_push limit (path_frames r.path) (Machine.in_array []) 91
        (λ g. n (rw i (rw r.whole (error_free_place limit (item_in r.path [] []) (r.is, tt, tt, within g)))))))

    object_deep : c ≡ 123 → Exact limit (kind.TooDeep c) used rest
    object_deep i = rw i (left_exact limit used r 123 more rest (kind.TooDeep 123) (rw i at e)
        (ready_start limit used r 123 refl refl refl ∙ deep_push limit (path_frames r.path) (Machine.at_key tree.no_members) 123
        (λ g. n (rw i (rw r.whole (error_free_place limit (key_in r.path [] []) (r.is, tt, tt, within g)))))))

-- ---- at the end

awaited_end : (r : Rules) (fs : List Frame) (q : Phase) (p : Path) → (q ≡ awaited) ⊎ ((q ≡ first) × IsFresh p)
    → end r fs q ≡ refused kind.UnexpectedEof []
unfolding end
awaited_end r fs q p (inl e) = ap (end r fs) e
awaited_end r fs q p (inr e) = ap (end r fs) e.0

ended : (limit : Option ℕ) (used : List ℕ) → All IsScalar used → NeedsMore limit used → Exact limit kind.UnexpectedEof used []
ended limit used a (inl h) =
    let r = awaits_ready limit used a h in
    r.stands.reached true [] ∙ (run_end (strictly limit) (path_frames r.path) r.phase
    ∙ awaited_end (strictly limit) (path_frames r.path) r.phase r.path r.ready)
ended limit used a (inr (inl (us, e, b, h))) = string_exact limit kind.UnexpectedEof used us e [] a h
    (λ fs cs vs i. ap (run (strictly limit) fs (quoted Machine.plain cs (vs ++ piece_codes us))) (append-nil e)
    ∙ escape_ends (strictly limit) fs cs (vs ++ piece_codes us) e b)
ended limit used a (inr (inr (inl (l, n, h, p, q, b)))) =
    token_exact limit kind.UnexpectedEof used (take n l) [] a b (subst Begins (append-nil (take n l)) (literal_begins l n [] h p))
    (λ fs. ap (run (strictly limit) fs awaited) (append-nil (take n l)) ∙ literal_ends (strictly limit) fs l n h p q)
ended limit used a (inr (inr (inr (inl f)))) = needs_exact limit used 58 a closer_colon f
ended limit used a (inr (inr (inr (inr (inl f))))) = needs_exact limit used 93 a closer_bracket f
ended limit used a (inr (inr (inr (inr (inr f))))) = needs_exact limit used 125 a closer_brace f

-- ---- each kind

hex_assoc : (ds : List ℕ) (c : ℕ) (rest : List ℕ) → (92 ∷ 117 ∷ (ds ++ c ∷ [])) ++ rest ≡ 92 ∷ 117 ∷ (ds ++ c ∷ rest)
hex_assoc ds c rest = simp append_assoc

exponent_exact : (limit : Option ℕ) (used rest : List ℕ) → All IsScalar used → EndsExponent limit used rest
    → Exact limit kind.EmptyExponent used rest
exponent_exact limit used rest a (b, ds, f, l, w, i, j, inl (t, d)) =
    token_exact limit kind.EmptyExponent used _ rest a t (numeral_begins b ds (fraction_text f ++ l ∷ []) w.1 w.0)
    (λ fs. exponent_stops limit fs b ds f l rest w.0 w.1 w.2 i j d)
exponent_exact limit used rest a (b, ds, f, l, w, i, j, inr (s, m, t, d)) =
    token_exact limit kind.EmptyExponent used _ rest a t (numeral_begins b ds (fraction_text f ++ l ∷ s ∷ []) w.1 w.0)
    (λ fs. signed_stops limit fs b ds f l s rest w.0 w.1 w.2 i j m d)

exact : (limit : Option ℕ) (k : JsonParseErrorKind) (used rest : List ℕ) → All IsScalar used → IsRefusal limit k used rest
    → Exact limit k used rest
exact limit kind.UnexpectedEof used rest a r = subst (Exact limit kind.UnexpectedEof used) (sym r.says.0.0) (ended limit used a r.says.0.1)
exact limit (kind.InvalidCharacter c) used rest a r =
    invalid_exact limit used (awaits_ready limit used a r.says.1) c r.says.0.0.0 rest r.says.0.0.1 r.says.0.1 r.says.0.2
    (r.not_too_soon c r.says.0.0.0 r.says.0.0.1)
exact limit (kind.ExpectedEof c) used rest a r = after_exact limit used rest r.says.0.1.0 c a r.says.0.0 r.says.0.1.1 r.says.0.1.2
    r.says.1.1
exact limit (kind.KeyNotString k) used rest a r = key_exact limit used rest k a r.says.0 r.says.1.0 r.says.1.1 r.not_too_soon
exact limit (kind.ExpectedColon c) used rest a r = colon_exact limit used rest c a r.says.0.1 r.says.0.2 r.says.1.0 r.says.1.1
exact limit (kind.ExpectedCommaOrBrace c) used rest a r =
    brace_exact limit used rest c a r.says.0.1 r.says.0.2 r.says.0.3 r.says.1.0 r.says.1.1
exact limit (kind.ExpectedCommaOrBracket c) used rest a r =
    bracket_exact limit used rest c a r.says.0.1 r.says.0.2 r.says.0.3 r.says.1.0 r.says.1.1
exact limit kind.InvalidUtf16 used rest a r = string_exact limit kind.InvalidUtf16 used r.says.0.0 r.says.0.1 rest a r.says.0.4
    (λ fs cs vs i. run_stops limit fs cs (vs ++ piece_codes r.says.0.0) (unpaired_after vs (piece_codes r.says.0.0) i r.says.0.2)
    r.says.0.1 rest r.says.0.3)
exact limit (kind.InvalidHexDigit c) used rest a r = string_exact limit (kind.InvalidHexDigit c) used r.says.0.4.0 _ rest a r.says.0.4.1
    (λ fs cs vs i. ap (run (strictly limit) fs (quoted Machine.plain cs (vs ++ piece_codes r.says.0.4.0))) (hex_assoc r.says.0.0 c rest)
    ∙ hex_stops (strictly limit) fs cs (vs ++ piece_codes r.says.0.4.0) r.says.0.0 c rest r.says.0.1 r.says.0.2 r.says.0.3)
exact limit (kind.InvalidEscape c) used rest a r = string_exact limit (kind.InvalidEscape c) used r.says.0.0.0 _ rest a r.says.0.0.1
    (λ fs cs vs i. escape_stops (strictly limit) fs cs (vs ++ piece_codes r.says.0.0.0) c rest r.says.0.1 r.says.0.2)
exact limit (kind.ControlCharacter c) used rest a r = string_exact limit (kind.ControlCharacter c) used r.says.0.0.0 _ rest a r.says.0.0.1
    (λ fs cs vs i. control_stops (strictly limit) fs cs (vs ++ piece_codes r.says.0.0.0) c rest r.says.0.1)
exact limit (kind.UnexpectedInLiteral c) used rest a r = token_exact limit (kind.UnexpectedInLiteral c) used _ rest a r.says.0.5
    (literal_begins r.says.0.0 r.says.0.1 (c ∷ []) r.says.0.2 r.says.0.3)
    (λ fs. literal_stops (strictly limit) fs r.says.0.0 r.says.0.1 c rest r.says.0.2 r.says.0.3 r.says.0.4 r.says.0.6)
exact limit kind.EmptyInteger used rest a r = token_exact limit kind.EmptyInteger used _ rest a r.says.0.0 (_, _, refl, (refl, refl, refl))
    (λ fs. minus_stops (strictly limit) fs rest r.says.0.1)
exact limit kind.LeadingZero used rest a r = token_exact limit kind.LeadingZero used _ rest a r.says.0.4
    (subst (λ xs. Begins (minus_text r.says.0.0 ++ xs)) (append-nil r.says.0.1)
    (numeral_begins r.says.0.0 r.says.0.1 [] (has_some_digit r.says.0.1 r.says.0.2) r.says.0.3))
    (λ fs. zero_stops limit fs r.says.0.0 r.says.0.1 rest r.says.0.2 r.says.0.3 r.says.0.5)
exact limit kind.EmptyFraction used rest a r = token_exact limit kind.EmptyFraction used _ rest a r.says.0.3
    (numeral_begins r.says.0.0 r.says.0.1 (46 ∷ []) r.says.0.2.1 r.says.0.2.0)
    (λ fs. fraction_stops limit fs r.says.0.0 r.says.0.1 rest r.says.0.2.0 r.says.0.2.1 r.says.0.2.2 r.says.0.4)
exact limit kind.EmptyExponent used rest a r = exponent_exact limit used rest a r.says.0
exact limit kind.NumberOutOfRange used rest a r =
    number_exact limit r.says.0.4.prefix (begun limit used (spelling r.says.0.0) a r.says.0.4) r.says.0.0 r.says.0.1 r.says.0.2 used rest
    r.says.0.4.whole r.says.0.5 r.not_too_soon kind.NumberOutOfRange
    (range_finish limit (path_frames (begun limit used (spelling r.says.0.0) a r.says.0.4).path) r.says.0.0 r.says.0.3)
exact limit kind.OutOfMemory used rest a r = absurd r.says
exact limit (kind.TooDeep c) used rest a r = deep_exact limit used (awaits_ready limit used a r.says.1) c r.says.0.0.0 rest r.says.0.0.1
    r.says.0.1 (r.not_too_soon c r.says.0.0.0 r.says.0.0.1)

-- ---- the laws

same_refusal : (k j : JsonParseErrorKind) (xs ys : List ℕ) → refused k xs ≡ refused j ys → (k ≡ j) × (xs ≡ ys)
same_refusal k j xs ys e = (cc, cc)

pub one_refusal : OneRefusal
one_refusal limit k j used rest others left a e r s =
    let b : All IsScalar (others ++ left) = subst (All IsScalar) e a in
    let f = exact limit k used rest (all_front used rest a) r in
    let g = exact limit j others left (all_front others left b) s in
    let h = same_refusal k j rest left (sym f ∙ (ap (run (strictly limit) [] awaited) e ∙ g)) in
    (h.0, append_cancel_right used others rest (e ∙ ap (λ xs. others ++ xs) (sym h.1)))

-- an error for another cause than memory
pub is_refusal : (limit : Option ℕ) (k : JsonParseErrorKind) (used rest : List ℕ) → ¬ (k ≡ kind.OutOfMemory)
    → RefusalSays limit k used rest → IsRefusal limit k used rest
is_refusal limit kind.OutOfMemory used rest n r = absurd (n refl)
is_refusal limit k used rest n r = r

pub one_answer : OneAnswer
one_answer limit xs (Ok v) (Ok w) a p q m n = only_tree limit xs (view v) (view w) p.answer.1 q.answer.1
one_answer limit xs (Ok v) (Err e) a p q m n = (is_refusal limit e.kind q.consumed q.rest n q.answer.1).refused
    (subst (IsAccepted limit) q.whole (view v, p.answer.1))
one_answer limit xs (Err e) (Ok w) a p q m n = (is_refusal limit e.kind p.consumed p.rest m p.answer.1).refused
    (subst (IsAccepted limit) p.whole (view w, q.answer.1))
one_answer limit xs (Err e) (Err d) a p q m n =
    let r = one_refusal limit e.kind d.kind p.consumed p.rest q.consumed q.rest (subst (All IsScalar) p.whole a) (sym p.whole ∙ q.whole)
    (is_refusal limit e.kind p.consumed p.rest m p.answer.1) (is_refusal limit d.kind q.consumed q.rest n q.answer.1) in
    (r.0, p.answer.0 ∙ (ap (advance origin) r.1 ∙ sym q.answer.0))

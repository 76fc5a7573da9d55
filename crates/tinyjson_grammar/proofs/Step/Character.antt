-- What comes of each character, of the end, and of the whole.
use Rattle.std.proofs.Common.{◌≡◌, ℕ, ◌<◌, true, false, List, [], ◌∷◌, ◌++◌, Option, refl, ap, sym, ◌∙◌, append_assoc, append-nil, arith}
use Rattle.std.proofs.Common.{length, subst, IsTrue, ◌==◌, not, length-append, inl, inr}
use Rattle.std.proofs.Math.Seq.{take-append_seam, get_or-append_seam}
use Rattle.std.specs.Char.{IsScalar}
use Rattle.std.proofs.lemmas.Bool.{cond_both, eqb-false, not-true, not-false}
use Rattle.tinyjson_grammar.specs.Machine.{strictly, Next, stop, complete, step_literal, step, end, end_digits, end_plain, Outcome}
use Rattle.tinyjson_grammar.specs.Machine.{accepted, refused, finish, Within, run, literal, digits, Frame, Phase}
use Rattle.tinyjson_grammar.specs.Tree.{Tree, no_members}
use Rattle.tinyjson_grammar.specs.Tree as tree
use Rattle.tinyjson_grammar.specs.Syntax.{Syntax, text, tree_of}
use Rattle.tinyjson_number.specs.Numeral.{has_leading_zero, value, in_range}
use Rattle.tinyjson_grammar.specs.Grammar.{IsText}
use Rattle.tinyjson_grammar.specs.declared.error.JsonParseErrorKind.TheVariants.{UnexpectedEof, UnexpectedInLiteral}
use Rattle.tinyjson_grammar.proofs.Trace.Paths.{Path, outside, item_in, key_in, value_in, path_text, path_frames, IsPath, within_le}
use Rattle.tinyjson_grammar.proofs.Trace.Paths.{members_from}
use Rattle.tinyjson_grammar.proofs.Trace.State.{Part, part_point, part_fraction, part_letter, part_sign, part_exponent, part_text}
use Rattle.tinyjson_grammar.proofs.Trace.State.{part_stage, part_numeral, IsPart, Ranges, Read, at_first, at_awaited, in_literal, in_digits}
use Rattle.tinyjson_grammar.proofs.Trace.State.{in_quoted, at_after, part_minus, part_integer, read_text, read_frames, read_phase, IsRead}
use Rattle.tinyjson_grammar.proofs.Trace.State.{IsWithinLiteral, flat_within, quads, within_text, IsPartWithin, after_read}
use Rattle.tinyjson_grammar.proofs.Prefix.Viable.{error_free_value, read_viable, read_prompt}
use Rattle.tinyjson_grammar.proofs.Step.Statement.{Follows, at_code, key_says, NoQuoteFrom, Denies}
use Rattle.tinyjson_grammar.proofs.Step.Awaits.{begins_at, awaits_value}
use Rattle.tinyjson_grammar.proofs.Accepts.Text.{no_text}
use Rattle.tinyjson_grammar.proofs.Step.Value.{complete_follows, after_follows, quote_after, closed_array, closed_object, taken_key}
use Rattle.std.specs.Prelude.{⊤}
use Rattle.tinyjson_grammar.specs.Refusal.{KindSays, IsLiteral, NeedsMore, BeginsEscape}
use Rattle.tinyjson_grammar.specs.Prefix.{IsErrorFree}
use Rattle.tinyjson_grammar.specs.Machine
use Rattle.tinyjson_grammar.proofs.Prefix.Unviable.{key_unviable}
use Rattle.tinyjson_grammar.proofs.Step.Number.{digits_follows, minus_says, zero_says, point_says, letter_says, sign_says, range_says}
use Rattle.tinyjson_grammar.proofs.Step.Number.{IsDone, done_value, integer_done, fraction_done, exponent_done}
use Rattle.tinyjson_grammar.proofs.Step.String.{quoted_follows, in_string}
use Rattle.tinyjson_grammar.proofs.Step.First.{at_first_follows, awaited_follows}

shorter_front : (xs : List ℕ) (y : ℕ) (ys : List ℕ) → length xs < length (xs ++ y ∷ ys)
shorter_front xs y ys = rw (length-append xs (y ∷ ys)) (omega arith)

-- no letter of a literal is a quote
abbrev NoQuotes : List ℕ → Type 0
NoQuotes [] = ⊤
NoQuotes (c ∷ cs) = ((34 == c) ≡ false) × NoQuotes cs

no_quotes_after : (xs : List ℕ) (l : ℕ) (ls : List ℕ) → NoQuotes (xs ++ l ∷ ls) → (34 == l) ≡ false
no_quotes_after [] l ls h = h.0
no_quotes_after (x ∷ xs) l ls h = no_quotes_after xs l ls h.1

literal_no_quotes : (l : List ℕ) → IsLiteral l → NoQuotes l
literal_no_quotes l (inl e) = rw e (refl, (refl, (refl, (refl, tt))))
literal_no_quotes l (inr (inl e)) = rw e (refl, (refl, (refl, (refl, tt))))
literal_no_quotes l (inr (inr e)) = rw e (refl, (refl, (refl, (refl, (refl, tt)))))

literal_no_quote : (s : Syntax) (done : List ℕ) (l : ℕ) (left : List ℕ) → IsWithinLiteral s done (l ∷ left) → (34 == l) ≡ false
literal_no_quote s done l left h = no_quotes_after done l left (subst NoQuotes h.whole (literal_no_quotes (text s) h.is_literal))

quote_literal : (limit : Option ℕ) (fs : List Frame) (l : ℕ) (ls : List ℕ) (t : Tree) → (34 == l) ≡ false
    → NoQuoteFrom limit fs (literal (l ∷ ls) t)
unfolding run step
quote_literal limit fs l [] t h ys u e = no_text _ _ u (rw h at e)
quote_literal limit fs l (m ∷ ls) t h ys u e = no_text _ _ u (rw h at e)

literal_says : (limit : Option ℕ) (p : Path) → IsPath limit p → (s : Syntax) (done : List ℕ) (l : ℕ) (left : List ℕ)
    → IsWithinLiteral s done (l ∷ left) → (c : ℕ) → (c == l) ≡ false →
    Follows limit (path_text p ++ done) (path_frames p) (literal (l ∷ left) (tree_of s)) c (stop (UnexpectedInLiteral c) true)
literal_says limit p hp s done l left h c hc more d x = (
  (
    text s,
    length done,
    h.is_literal,
    h.begun,
    rw h.whole (shorter_front done l left),
    begins_at limit p hp _ _ (rw h.whole (rw (take-append_seam done (l ∷ left)) (append_assoc (path_text p) done (c ∷ [])))),
    (λ e. eqb-false c l hc (sym e ∙ rw h.whole (get_or-append_seam done l left 0))),
  ),
  (
    record {
      prefix = path_text p ++ done;
      ends = refl;
      error_free = error_free_value limit p hp s h.value h.flat done (l ∷ left) h.whole;
      no_string = d.no_quote (quote_literal limit (path_frames p) l left (tree_of s) (literal_no_quote s done l left h));
    },
    x.loosely refl,
  ),
)

literal_follows : (limit : Option ℕ) (p : Path) → IsPath limit p → (s : Syntax) (done left : List ℕ) → IsWithinLiteral s done left
    → (c : ℕ) → Follows limit (path_text p ++ done) (path_frames p) (literal left (tree_of s)) c
    (step_literal (strictly limit) (path_frames p) left (tree_of s) c)
literal_follows limit p hp s done [] h c = absurd (omega (arith, h.more))
literal_follows limit p hp s done (l ∷ []) h c =
    at_code limit _ _ _ c l _ _ (λ e. complete_follows limit p hp s h.value (flat_within limit p s hp h.flat) h.no_number _ _ _ c
    (append_assoc (path_text p) done (c ∷ []) ∙ ap (λ xs. path_text p ++ xs) (ap (λ x. done ++ x ∷ []) e ∙ sym h.whole)))
    (λ e. literal_says limit p hp s done l [] h c e)
literal_follows limit p hp s done (l ∷ m ∷ ls) h c = at_code limit _ _ _ c l _ _
    (λ e. after_read (in_literal p s (done ++ l ∷ []) (m ∷ ls)) (
      hp,
      record {
        value = h.value;
        flat = h.flat;
        is_literal = h.is_literal;
        whole = h.whole ∙ sym (append_assoc done (l ∷ []) (m ∷ ls));
        no_number = h.no_number;
        begun = rw (length-append done (l ∷ [])) (omega arith);
        more = omega arith;
      },
    )
    (append_assoc (path_text p) done (c ∷ []) ∙ ap (λ x. path_text p ++ (done ++ x ∷ [])) e))
    (λ e. literal_says limit p hp s done l (m ∷ ls) h c e)

-- each character is followed
pub step_follows : Ranges → (limit : Option ℕ) (x : Read) → IsRead limit x → (c : ℕ) → IsScalar c
    → Follows limit (read_text x) (read_frames x) (read_phase x) c (step (strictly limit) (read_frames x) (read_phase x) c)
unfolding step
step_follows ranges limit (at_first p) h c hc = at_first_follows limit p h.0 h.1 c
step_follows ranges limit (at_awaited p) h c hc = awaited_follows limit p h c
step_follows ranges limit (in_literal p s done left) h c hc = literal_follows limit p h.0 s done left h.1 c
step_follows ranges limit (in_digits p n) h c hc = digits_follows ranges limit p h.0 n h.1 c
step_follows ranges limit (in_quoted p ps cs qs wi) h c hc =
    quoted_follows limit p ps cs qs (record { path = h.0; pieces = h.1; settled = h.2; run = h.3 }) wi h.4 c hc
step_follows ranges limit (at_after (outside w) s v) h c hc = after_follows limit (outside w) s v h _ _ (quote_after limit (outside w) s) c
step_follows ranges limit (at_after p s v) h c hc =
    after_follows limit p s v h _ _ (quote_after limit p s) c

-- ---- the end

abbrev pub Ends : Option ℕ → List ℕ → List Frame → Phase → Outcome → Type 0
Ends limit used fs q (accepted t) = IsText limit used t
Ends limit used fs q (refused k rest) = (rest ≡ []) × (Denies limit used fs q → KindSays limit k used [])

-- what a state but a numeral needs
abbrev Short : Read → Type 0
Short (in_digits p n) = ⊥
Short (at_after (outside w) s v) = ⊥
Short x = ⊤

begins_escape : (wi : Within) → IsPartWithin wi → BeginsEscape (within_text wi)
begins_escape Machine.plain h = inl refl
begins_escape Machine.backslash h = inr (inl refl)
begins_escape (Machine.hex ds) h = inr (inr (ds, h.1, h.0, refl))

literal_needs : (limit : Option ℕ) (p : Path) → IsPath limit p → (s : Syntax) (done left : List ℕ) → IsWithinLiteral s done left
    → NeedsMore limit (path_text p ++ done)
literal_needs limit p hp s done [] h = absurd (omega (arith, h.more))
literal_needs limit p hp s done (l ∷ left) h = inr (inr (inl (
  text s,
  length done,
  h.is_literal,
  h.begun,
  rw h.whole (shorter_front done l left),
  begins_at limit p hp _ _ (rw h.whole (rw (take-append_seam done (l ∷ left)) refl)),
)))

needs : (limit : Option ℕ) (x : Read) → IsRead limit x → Short x → NeedsMore limit (read_text x)
needs limit (at_first p) h i = inl (awaits_value limit p h.0)
needs limit (at_awaited p) h i = inl (awaits_value limit p h)
needs limit (in_literal p s done left) h i = literal_needs limit p h.0 s done left h.1
needs limit (in_digits p n) h i = elim i [ ]
needs limit (in_quoted p ps cs qs wi) h i = inr (inl (
  quads qs,
  within_text wi,
  begins_escape wi h.4,
  in_string limit p ps cs qs (record { path = h.0; pieces = h.1; settled = h.2; run = h.3 }) _ _ refl,
))
needs limit (at_after (outside w) s v) h i = elim i [ ]
needs limit (at_after (item_in p es w) s v) h i = inr (inr (inr (inr (inl (closed_array limit p es w s v h)))))
needs limit (at_after (key_in p ps w) s v) h i = inr (inr (inr (inl (taken_key limit p ps w s v h))))
needs limit (at_after (value_in p ps a k b w) s v) h i = inr (inr (inr (inr (inr (closed_object limit p ps a k b w s v h)))))

eof_says : Ranges → (limit : Option ℕ) (x : Read) → IsRead limit x → NeedsMore limit (read_text x)
    → KindSays limit UnexpectedEof (read_text x) []
eof_says ranges limit x h m = ((refl, m), (read_prompt ranges limit x h, read_viable limit x h))

eof : Ranges → (limit : Option ℕ) (x : Read) → IsRead limit x → Short x → KindSays limit UnexpectedEof (read_text x) []
eof ranges limit x h i = eof_says ranges limit x h (needs limit x h i)

abbrev EndsPlain : Option ℕ → List ℕ → List Frame → Phase → Next → Type 0
EndsPlain limit used fs q n = Ends limit used fs q (end_plain n)

ends_text : (limit : Option ℕ) (w : List ℕ) (s : Syntax) (v : List ℕ) → IsRead limit (at_after (outside w) s v)
    → IsText limit (w ++ (text s ++ v)) (tree_of s)
ends_text limit w s v h = record {
  loose = record {
    before = w;
    value = s;
    after = v;
    white_before = h.0;
    spelled = h.1.spelled;
    white_after = h.4;
    shallow = within_le limit _ _ h.3 (omega arith);
    whole = refl;
  };
  strict = h.1.strict;
  tree = refl;
}

number_ends : Ranges → (limit : Option ℕ) (p : Path) → IsPath limit p → (n : Part) → IsPart n → IsDone n
    → IsTrue (in_range (value (part_numeral n))) →
    EndsPlain limit (path_text p ++ part_text n) (path_frames p) (digits (part_stage n) (part_numeral n))
    (complete true (path_frames p) (tree.number (value (part_numeral n))) false)
number_ends ranges limit (outside w) hp n hn h e = subst (λ xs. IsText limit (w ++ xs) (tree.number (value (part_numeral n)))) (append-nil _
    ∙ sym h.whole) (ends_text limit w (Syntax.number (part_numeral n)) []
    (hp, done_value n h e, tt, flat_within limit (outside w) (Syntax.number (part_numeral n)) hp refl, tt))
number_ends ranges limit (item_in p es w) hp n hn h e =
    let a : IsErrorFree limit ((path_text (item_in p es w) ++ (text (Syntax.number (part_numeral n)) ++ [])) ++ 93 ∷ []) =
    closed_array limit p es w (Syntax.number (part_numeral n)) []
    (hp, done_value n h e, tt, flat_within limit (item_in p es w) (Syntax.number (part_numeral n)) hp refl, tt) in
    let b : IsErrorFree limit ((path_text (item_in p es w) ++ part_text n) ++ 93 ∷ []) =
    subst (λ xs. IsErrorFree limit ((path_text (item_in p es w) ++ xs) ++ 93 ∷ [])) (append-nil _ ∙ sym h.whole) a in
    (refl, (λ x. eof_says ranges limit (in_digits (item_in p es w) n) (hp, hn) (inr (inr (inr (inr (inl b)))))))
number_ends ranges limit (key_in p ps w) hp n hn h e = (
  refl,
  (λ x. key_says limit p ps w hp (Syntax.number (part_numeral n)) (done_value n h e) refl
      (flat_within limit (key_in p ps w) (Syntax.number (part_numeral n)) hp refl) _ (ap (λ xs. path_text (key_in p ps w) ++ xs) h.whole)
      [] tt
      (x.unviable (λ ys t. key_unviable ys (strictly limit) (members_from no_members ps) (path_frames p) (part_stage n) (part_numeral n) t
      refl))),
)
number_ends ranges limit (value_in p ps a k b w) hp n hn h e =
    let x : IsErrorFree limit ((path_text (value_in p ps a k b w) ++ (text (Syntax.number (part_numeral n)) ++ [])) ++ 125 ∷ []) =
    closed_object limit p ps a k b w (Syntax.number (part_numeral n)) []
    (hp, done_value n h e, tt, flat_within limit (value_in p ps a k b w) (Syntax.number (part_numeral n)) hp refl, tt) in
    let y : IsErrorFree limit ((path_text (value_in p ps a k b w) ++ part_text n) ++ 125 ∷ []) =
    subst (λ xs. IsErrorFree limit ((path_text (value_in p ps a k b w) ++ xs) ++ 125 ∷ [])) (append-nil _ ∙ sym h.whole) x in
    (refl, (λ u. eof_says ranges limit (in_digits (value_in p ps a k b w) n) (hp, hn) (inr (inr (inr (inr (inr y)))))))

finish_ends : Ranges → (limit : Option ℕ) (p : Path) → IsPath limit p → (n : Part) → IsPart n → IsDone n
    → EndsPlain limit (path_text p ++ part_text n) (path_frames p) (digits (part_stage n) (part_numeral n))
    (finish (strictly limit) (path_frames p) (part_numeral n))
finish_ends ranges limit p hp n hn h = cond_both (not (in_range (value (part_numeral n)))) _ _ (EndsPlain limit _ _ _)
    (λ e. (refl, (λ x. range_says ranges limit p hp n hn h.numeral h.no_zero h.whole (not-true _ e) [] tt x)))
    (λ e. number_ends ranges limit p hp n hn h (not-false _ e))

digits_end : Ranges → (limit : Option ℕ) (p : Path) → IsPath limit p → (n : Part) → IsPart n
    → Ends limit (path_text p ++ part_text n) (path_frames p) (digits (part_stage n) (part_numeral n))
    (end_digits (strictly limit) (path_frames p) (part_stage n) (part_numeral n))
digits_end ranges limit p hp part_minus h = (refl, (λ x. minus_says ranges limit p hp [] tt x))
digits_end ranges limit p hp (part_integer b d ds) h =
    cond_both (has_leading_zero (d ∷ ds)) _ _ (Ends limit _ _ _) (λ e. (refl, (λ x. zero_says ranges limit p hp b d ds h e [] tt x)))
    (λ e. finish_ends ranges limit p hp (part_integer b d ds) h (integer_done b d ds (h, e)))
digits_end ranges limit p hp (part_point b d ds) h = (refl, (λ x. point_says ranges limit p hp b d ds h [] tt x))
digits_end ranges limit p hp (part_fraction b d ds e es) h =
    finish_ends ranges limit p hp (part_fraction b d ds e es) h (fraction_done b d ds e es h)
digits_end ranges limit p hp (part_letter b d ds f l) h = (refl, (λ x. letter_says ranges limit p hp b d ds f l h [] tt x))
digits_end ranges limit p hp (part_sign b d ds f l s) h = (refl, (λ x. sign_says ranges limit p hp b d ds f l s h [] tt x))
digits_end ranges limit p hp (part_exponent b d ds f l s e es) h =
    finish_ends ranges limit p hp (part_exponent b d ds f l s e es) h (exponent_done b d ds f l s e es h)

pub end_follows : Ranges → (limit : Option ℕ) (x : Read) → IsRead limit x
    → Ends limit (read_text x) (read_frames x) (read_phase x) (end (strictly limit) (read_frames x) (read_phase x))
unfolding end
end_follows ranges limit (at_first p) h = (refl, (λ x. eof ranges limit (at_first p) h tt))
end_follows ranges limit (in_digits p n) h = digits_end ranges limit p h.0 n h.1
end_follows ranges limit (at_after (outside w) s v) h = ends_text limit w s v h
end_follows ranges limit x h = (refl, (λ e. eof ranges limit x h tt))

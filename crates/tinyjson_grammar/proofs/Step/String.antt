-- What comes of a character of a string.
use Rattle.std.proofs.Common.{◌≡◌, ℕ, ◌<◌, true, false, List, [], ◌∷◌, ◌++◌, Option, Some, None, refl, ap, sym, ◌∙◌, append_assoc}
use Rattle.std.proofs.Common.{append-nil, arith, length, nat_lt, subst, inl, inr, IsTrue, ◌==◌, not, length-append}
use Rattle.std.specs.Char.{IsScalar}
use Rattle.std.proofs.lemmas.Bool.{not-true, not-false, eqb-false, ltb-true, ltb-false}
use Rattle.tinyjson_grammar.specs.Machine.{strictly, Frame, Phase, quoted, Within, Next, next, stop, complete, step_quoted, step_escape}
use Rattle.tinyjson_grammar.specs.Machine.{flush}
use Rattle.tinyjson_grammar.specs.Tree as tree
use Rattle.tinyjson_grammar.specs.Characters.{is_hex, unit_of, decode, paired, short_escape, is_surrogate}
use Rattle.tinyjson_grammar.specs.Syntax.{Syntax, Piece, unit, IsPiece, ArePieces, code, piece_text, pieces_text}
use Rattle.tinyjson_grammar.specs.declared.error.JsonParseErrorKind.TheVariants.{InvalidUtf16, InvalidHexDigit}
use Rattle.tinyjson_grammar.specs.Machine
use Rattle.tinyjson_grammar.specs.Refusal.{IsHex, AreUnits, EndsRun}
use Rattle.tinyjson_grammar.specs.Refusal as refusal
use Rattle.tinyjson_grammar.proofs.Trace.Paths.{Path, path_text, path_frames, IsPath}
use Rattle.tinyjson_grammar.proofs.Trace.State.{pieces_append, are_pieces_append, within_text, IsPartWithin, IsSettled, Quad, quads, values}
use Rattle.tinyjson_grammar.proofs.Trace.State.{in_quoted, Spells, flat_within, Ending, ends_loosely, after_read}
use Rattle.tinyjson_grammar.proofs.Prefix.Viable.{quoted_prompt, within_late, settled_strict}
use Rattle.tinyjson_grammar.proofs.Step.Statement.{Follows, either, at_code}
use Rattle.tinyjson_grammar.proofs.Step.Awaits.{begins_at}
use Rattle.tinyjson_grammar.proofs.Step.Value.{complete_follows}
use Rattle.tinyjson_grammar.proofs.Step.Units.{codes_quads, settle_more, settle_end, settle_paired}
use Rattle.tinyjson_grammar.proofs.Accepts.String.{scalar_no_surrogate, escape_no_surrogate}
use Rattle.std.specs.Prelude.{unwrap_or}

-- the state of a string, and what it rests on
pub record InString (limit : Option ℕ) (p : Path) (ps : List Piece) (cs : List ℕ) (qs : List Quad) : Type 0 where
  pub path : IsPath limit p
  pub pieces : ArePieces ps
  pub settled : IsSettled ps cs
  pub run : ArePieces (quads qs)

abbrev pub string_text : Path → List Piece → List Quad → List ℕ → List ℕ
string_text p ps qs end = path_text p ++ 34 ∷ (pieces_text ps ++ (pieces_text (quads qs) ++ end))

pub string_longer : (a ps qs wi : List ℕ) (c : ℕ) → (a ++ 34 ∷ (ps ++ (qs ++ wi))) ++ c ∷ [] ≡ a ++ 34 ∷ (ps ++ (qs ++ (wi ++ c ∷ [])))
string_longer a ps qs wi c = simp append_assoc

are_units : (xs : List Quad) → ArePieces (quads xs) → AreUnits (quads xs)
are_units [] i = tt
are_units (x ∷ xs) i = (i.0, are_units xs i.1)

-- the list ends within a string
pub in_string : (limit : Option ℕ) (p : Path) (ps : List Piece) (cs : List ℕ) (qs : List Quad) → InString limit p ps cs qs
    → (used end : List ℕ) → used ≡ string_text p ps qs end → refusal.InString limit used (quads qs) end
in_string limit p ps cs qs h used end e = record {
  pieces = ps;
  are_pieces = h.pieces;
  are_paired =
      settled_strict ps cs h.settled;
  are_units = are_units qs h.run;
  begins = begins_at limit p h.path used _ e;
}

-- the character is taken, and the string goes on
pub string_goes : (limit : Option ℕ) (p : Path) (ps : List Piece) (cs : List ℕ) (qs : List Quad) → InString limit p ps cs qs
    → (w v : Within) (c : ℕ) → IsPartWithin v → within_text v ≡ within_text w ++ c ∷ [] →
    Spells limit (string_text p ps qs (within_text w) ++ c ∷ []) (path_frames p) (quoted v cs (values qs))
string_goes limit p ps cs qs h w v c hv e = after_read (in_quoted p ps cs qs v) (h.path, h.pieces, h.settled, h.run, hv)
    (string_longer (path_text p) (pieces_text ps) (pieces_text (quads qs)) (within_text w) c ∙ ap (string_text p ps qs) (sym e))

-- a piece that was read after the run
pub string_piece : (limit : Option ℕ) (p : Path) (ps : List Piece) (cs : List ℕ) (qs : List Quad) → InString limit p ps cs qs
    → IsTrue (paired (values qs)) → (w : List ℕ) (c : ℕ) (e : Piece) →
    IsPiece e → w ++ c ∷ [] ≡ piece_text e → is_surrogate (code e) ≡ false →
    Spells limit (string_text p ps qs w ++ c ∷ []) (path_frames p) (quoted Machine.plain ((cs ++ decode (values qs)) ++ code e ∷ []) [])
string_piece limit p ps cs qs h hd w c e he ht hc =
    after_read (in_quoted p (ps ++ (quads qs ++ e ∷ [])) ((cs ++ decode (values qs)) ++ code e ∷ []) [] Machine.plain) (
      h.path,
      are_pieces_append ps _ h.pieces (are_pieces_append (quads qs) _ h.run (he, tt)),
      settle_more ps cs h.settled qs hd e hc,
      tt,
      tt,
    ) (string_longer (path_text p) (pieces_text ps) (pieces_text (quads qs)) w c ∙
    (ap (string_text p ps qs) ht ∙ ap (λ xs. path_text p ++ 34 ∷ xs) (simp (pieces_append, append_assoc, append-nil))))

pub flush_follows : (limit : Option ℕ) (used : List ℕ) (fs : List Frame) (q : Phase) (c : ℕ) (cs us : List ℕ) (go : List ℕ → Next) →
    (IsTrue (paired us) → Follows limit used fs q c (go (cs ++ decode us)))
    → (paired us ≡ false → Follows limit used fs q c (stop InvalidUtf16 true)) → Follows limit used fs q c (flush true cs us go)
flush_follows limit used fs q c cs us go f g = either limit used fs q c (not (paired us)) (stop InvalidUtf16 true) (go (cs ++ decode us))
    (λ h. g (not-true _ h)) (λ h. f (not-false _ h))

-- the run has a surrogate without its partner
pub utf16_says : (limit : Option ℕ) (p : Path) (ps : List Piece) (cs : List ℕ) (qs : List Quad) → InString limit p ps cs qs
    → paired (values qs) ≡ false → (w : Within) (c : ℕ) → IsPartWithin w → (fs : List Frame) (q : Phase) →
    EndsRun (within_text w ++ c ∷ []) → Ending (34 ∷ (pieces_text ps ++ (pieces_text (quads qs) ++ (within_text w ++ c ∷ [])))) →
    Follows limit (string_text p ps qs (within_text w)) fs q c (stop InvalidUtf16 true)
utf16_says limit p ps cs qs h hd w c hw fs q hr he more d x = (
  (
    quads qs,
    within_text w ++ c ∷ [],
    ap paired (codes_quads qs)
        ∙ hd,
    hr,
    in_string limit p ps cs qs h _ _ (string_longer (path_text p) (pieces_text ps) (pieces_text (quads qs)) (within_text w) c),
  ),
  (
    (
      c,
      rw (string_longer (path_text p) (pieces_text ps) (pieces_text (quads qs)) (within_text w) c)
          (quoted_prompt limit p h.path ps cs h.pieces h.settled qs h.run (within_text w) (within_late w hw) (c ∷ [])),
    ),
    rw (string_longer (path_text p) (pieces_text ps) (pieces_text (quads qs)) (within_text w) c) (ends_loosely limit p h.path _ he),
    x.unviable,
  ),
)

-- with a piece, or with the closing quote
piece_ending : (ps : List Piece) (qs : List Quad) → ArePieces ps → ArePieces (quads qs) → (e : Piece) → IsPiece e → (end : List ℕ)
    → end ≡ piece_text e → Ending (34 ∷ (pieces_text ps ++ (pieces_text (quads qs) ++ end)))
piece_ending ps qs h i e he end ht = subst (λ xs. Ending (34 ∷ (pieces_text ps ++ (pieces_text (quads qs) ++ xs)))) (sym ht) (record {
  value = Syntax.string (ps ++ (quads qs ++ e ∷ []));
  spelled = are_pieces_append ps _ h (are_pieces_append (quads qs) _ i (he, tt));
  flat = refl;
  rest = 34 ∷ [];
  whole = ap (λ xs. 34 ∷ xs) (simp (pieces_append, append_assoc, append-nil));
})

quote_ending : (ps : List Piece) (qs : List Quad) → ArePieces ps → ArePieces (quads qs)
    → Ending (34 ∷ (pieces_text ps ++ (pieces_text (quads qs) ++ 34 ∷ [])))
quote_ending ps qs h i = record {
  value = Syntax.string (ps ++ quads qs);
  spelled = are_pieces_append ps _ h i;
  flat = refl;
  rest = [];
  whole = ap (λ xs. 34 ∷ xs) (simp (pieces_append, append_assoc, append-nil));
}

quote_follows : (limit : Option ℕ) (p : Path) (ps : List Piece) (cs : List ℕ) (qs : List Quad) → InString limit p ps cs qs → (c : ℕ)
    → c ≡ 34 → IsTrue (paired (values qs)) → Follows limit (string_text p ps qs []) (path_frames p) (quoted Machine.plain cs (values qs)) c
    (complete true (path_frames p) (tree.string (cs ++ decode (values qs))) true)
quote_follows limit p ps cs qs h c e hd =
    let s : Syntax = Syntax.string (ps ++ quads qs) in
    subst (λ xs. Follows limit (string_text p ps qs []) (path_frames p) (quoted Machine.plain cs (values qs)) c
    (complete true (path_frames p) (tree.string xs) true)) (settle_end ps cs h.settled qs) (complete_follows limit p h.path s (record {
      spelled = are_pieces_append ps _ h.pieces h.run;
      strict = settle_paired ps cs h.settled qs
          ∙ hd;
    }) (flat_within limit p s h.path refl) (λ rest. tt) _ _ _ c (string_longer (path_text p) (pieces_text ps) (pieces_text (quads qs)) [] c
    ∙ ap (λ xs. path_text p ++ 34 ∷ xs) (rw e (simp (pieces_append, append_assoc)))))

plain_piece : (c : ℕ) → IsScalar c → (c == 34) ≡ false → (c == 92) ≡ false → nat_lt c 32 ≡ false → IsPiece (Piece.plain c)
plain_piece c h i j k = (h, ltb-false c 32 k, rw (i, j) refl)

plain_follows : (limit : Option ℕ) (p : Path) (ps : List Piece) (cs : List ℕ) (qs : List Quad) → InString limit p ps cs qs → (c : ℕ)
    → IsScalar c → Follows limit (string_text p ps qs []) (path_frames p) (quoted Machine.plain cs (values qs)) c
    (step_quoted (strictly limit) (path_frames p) Machine.plain cs (values qs) c)
plain_follows limit p ps cs qs h c hc = at_code limit _ _ _ c 34 _ _
    (λ e. flush_follows limit _ _ _ c cs (values qs) (λ xs. complete true (path_frames p) (tree.string xs) true)
    (λ hd. quote_follows limit p ps cs qs h c e hd)
    (λ hd. utf16_says limit p ps cs qs h hd Machine.plain c tt _ _ (inl (ap (λ x. x ∷ []) e)) (rw e (quote_ending ps qs h.pieces h.run))))
    (λ h0. at_code limit _ _ _ c 92 _ _
    (λ e. string_goes limit p ps cs qs h Machine.plain Machine.backslash c tt (ap (λ x. x ∷ []) (sym e))) (λ h1.
    either limit _ _ _ c (nat_lt c 32) _ _ (λ e more d x. (
      (
        (quads qs, in_string limit p ps cs qs h _ _ (string_longer (path_text p) (pieces_text ps) (pieces_text (quads qs)) [] c)),
        ltb-true c 32 e,
      ),
      (
        rw (string_longer (path_text p) (pieces_text ps) (pieces_text (quads qs)) [] c)
            (quoted_prompt limit p h.path ps cs h.pieces h.settled qs h.run [] tt (c ∷ [])),
        x.loosely refl,
        (
          string_text p ps qs [],
          refl,
          rw (string_longer (path_text p) (pieces_text ps) (pieces_text (quads qs)) [] 120)
              (ends_loosely limit p h.path _ (piece_ending ps qs h.pieces h.run (Piece.plain 120) (refl, omega arith, refl) (120 ∷ [])
              refl)),
        ),
      ),
    )) (λ h2. flush_follows limit _ _ _ c cs (values qs) (λ xs. next (path_frames p) (quoted Machine.plain (xs ++ c ∷ []) []))
    (λ hd. string_piece limit p ps cs qs h hd [] c (Piece.plain c) (plain_piece c hc h0 h1 h2) refl (scalar_no_surrogate c hc))
    (λ hd. utf16_says limit p ps cs qs h hd Machine.plain c tt _ _ (inr (Piece.plain c, plain_piece c hc h0 h1 h2, refl, (λ n. n)))
    (piece_ending ps qs h.pieces h.run (Piece.plain c) (plain_piece c hc h0 h1 h2) _ refl)))))

escape_follows : (limit : Option ℕ) (p : Path) (ps : List Piece) (cs : List ℕ) (qs : List Quad) → InString limit p ps cs qs → (c : ℕ)
    → (o : Option ℕ) → short_escape c ≡ o →
    Follows limit (string_text p ps qs (92 ∷ [])) (path_frames p) (quoted Machine.backslash cs (values qs)) c
    (step_escape (strictly limit) (path_frames p) cs (values qs) c o)
escape_follows limit p ps cs qs h c None i = at_code limit _ _ _ c 117 _ _
    (λ e. string_goes limit p ps cs qs h Machine.backslash (Machine.hex []) c (tt, omega arith) (ap (λ x. 92 ∷ x ∷ []) (sym e)))
    (λ hn more d x. (
      (
        (quads qs, in_string limit p ps cs qs h _ _ (string_longer (path_text p) (pieces_text ps) (pieces_text (quads qs)) (92 ∷ []) c)),
        i,
        (λ e. eqb-false c 117 hn e),
      ),
      (
        rw (string_longer (path_text p) (pieces_text ps) (pieces_text (quads qs)) (92 ∷ []) c)
            (quoted_prompt limit p h.path ps cs h.pieces h.settled qs h.run (92 ∷ []) (refl, tt) (c ∷ [])),
        x.loosely refl,
      ),
    ))
escape_follows limit p ps cs qs h c (Some d) i =
    flush_follows limit _ _ _ c cs (values qs) (λ xs. next (path_frames p) (quoted Machine.plain (xs ++ d ∷ []) []))
    (λ hd. subst (λ o. Spells limit (string_text p ps qs (92 ∷ []) ++ c ∷ []) (path_frames p)
    (quoted Machine.plain ((cs ++ decode (values qs)) ++ unwrap_or o 0 ∷ []) [])) i
    (string_piece limit p ps cs qs h hd (92 ∷ []) c (Piece.escape c) (rw i refl) refl (rw i (escape_no_surrogate c d i))))
    (λ hd. utf16_says limit p ps cs qs h hd Machine.backslash c tt _ _ (inr (Piece.escape c, rw i refl, refl, (λ n. n)))
    (piece_ending ps qs h.pieces h.run (Piece.escape c) (rw i refl) _ refl))

-- ---- four digits

pub quads_push : (qs : List Quad) (q : Quad) → quads (qs ++ q ∷ []) ≡ quads qs ++ unit q.a q.b q.c q.d ∷ []
quads_push [] q = refl
quads_push (s ∷ qs) q = ap (λ xs. unit s.a s.b s.c s.d ∷ xs) (quads_push qs q)

pub values_push : (qs : List Quad) (q : Quad) → values (qs ++ q ∷ []) ≡ values qs ++ unit_of 0 (q.a ∷ q.b ∷ q.c ∷ q.d ∷ []) ∷ []
values_push [] q = refl
values_push (s ∷ qs) q = ap (λ xs. unit_of 0 (s.a ∷ s.b ∷ s.c ∷ s.d ∷ []) ∷ xs) (values_push qs q)

pub hex_append : (ds : List ℕ) (c : ℕ) → IsHex ds → IsTrue (is_hex c) → IsHex (ds ++ c ∷ [])
hex_append [] c h i = (i, tt)
hex_append (d ∷ ds) c h i = (h.0, hex_append ds c h.1 i)

hex_says : (limit : Option ℕ) (p : Path) (ps : List Piece) (cs : List ℕ) (qs : List Quad) → InString limit p ps cs qs → (ds : List ℕ)
    → IsPartWithin (Machine.hex ds) → (fs : List Frame) (q : Phase) (c : ℕ) → is_hex c ≡ false →
    Follows limit (string_text p ps qs (92 ∷ 117 ∷ ds)) fs q c (stop (InvalidHexDigit c) true)
hex_says limit p ps cs qs h ds hw fs q c hc more d x = (
  (
    ds,
    hw.1,
    hw.0,
    hc,
    (quads qs, in_string limit p ps cs qs h _ _ (string_longer (path_text p) (pieces_text ps) (pieces_text (quads qs)) (92 ∷ 117 ∷ ds) c)),
  ),
  (
    rw (string_longer (path_text p) (pieces_text ps) (pieces_text (quads qs)) (92 ∷ 117 ∷ ds) c)
        (quoted_prompt limit p h.path ps cs h.pieces h.settled qs h.run (92 ∷ 117 ∷ ds) (within_late (Machine.hex ds) hw) (c ∷ [])),
    x.loosely refl,
  ),
)

hex_goes : (limit : Option ℕ) (p : Path) (ps : List Piece) (cs : List ℕ) (qs : List Quad) → InString limit p ps cs qs → (ds : List ℕ)
    → IsPartWithin (Machine.hex ds) → length ds < 3 → (c : ℕ) → IsTrue (is_hex c) →
    Spells limit (string_text p ps qs (92 ∷ 117 ∷ ds) ++ c ∷ []) (path_frames p) (quoted (Machine.hex (ds ++ c ∷ [])) cs (values qs))
hex_goes limit p ps cs qs h ds hw hl c hc = string_goes limit p ps cs qs h (Machine.hex ds) (Machine.hex (ds ++ c ∷ [])) c
    (hex_append ds c hw.0 hc, rw (length-append ds (c ∷ [])) (omega arith)) refl

unit_goes : (limit : Option ℕ) (p : Path) (ps : List Piece) (cs : List ℕ) (qs : List Quad) → InString limit p ps cs qs → (q : Quad)
    → IsPiece (unit q.a q.b q.c q.d) → Spells limit (string_text p ps qs (92 ∷ 117 ∷ q.a ∷ q.b ∷ q.c ∷ []) ++ q.d ∷ []) (path_frames p)
    (quoted Machine.plain cs (values qs ++ unit_of 0 (q.a ∷ q.b ∷ q.c ∷ q.d ∷ []) ∷ []))
unit_goes limit p ps cs qs h q hq = record {
  read = in_quoted p ps cs (qs ++ q ∷ []) Machine.plain;
  is = (h.path, h.pieces, h.settled, rw (quads_push qs q) (are_pieces_append (quads qs) _ h.run (hq, tt)), tt);
  whole = string_longer (path_text p) (pieces_text ps) (pieces_text (quads qs)) (92 ∷ 117 ∷ q.a ∷ q.b ∷ q.c ∷ []) q.d
      ∙ ap (λ xs. path_text p ++ 34 ∷ (pieces_text ps ++ xs)) (simp (quads_push, pieces_append, append_assoc, append-nil));
  frames = refl;
  phase = ap (quoted Machine.plain cs) (sym (values_push qs q));
}

hex_follows : (limit : Option ℕ) (p : Path) (ps : List Piece) (cs : List ℕ) (qs : List Quad) → InString limit p ps cs qs → (ds : List ℕ)
    → IsPartWithin (Machine.hex ds) → (c : ℕ) →
    Follows limit (string_text p ps qs (92 ∷ 117 ∷ ds)) (path_frames p) (quoted (Machine.hex ds) cs (values qs)) c
    (step_quoted (strictly limit) (path_frames p) (Machine.hex ds) cs (values qs) c)
hex_follows limit p ps cs qs h (x ∷ y ∷ z ∷ []) hw c = either limit _ _ _ c (is_hex c) _ _
    (λ e. unit_goes limit p ps cs qs h (record { a = x; b = y; c = z; d = c }) (hw.0.0, hw.0.1.0, hw.0.1.1.0, e))
    (λ e. hex_says limit p ps cs qs h (x ∷ y ∷ z ∷ []) hw _ _ c e)
hex_follows limit p ps cs qs h (x ∷ y ∷ z ∷ u ∷ us) hw c = absurd (omega (arith, hw.1))
hex_follows limit p ps cs qs h x hw c =
    either limit _ _ _ c (is_hex c) _ _ (λ e. hex_goes limit p ps cs qs h x hw (omega arith) c e)
    (λ e. hex_says limit p ps cs qs h x hw _ _ c e)

pub quoted_follows : (limit : Option ℕ) (p : Path) (ps : List Piece) (cs : List ℕ) (qs : List Quad) → InString limit p ps cs qs
    → (w : Within) → IsPartWithin w → (c : ℕ) → IsScalar c →
    Follows limit (string_text p ps qs (within_text w)) (path_frames p) (quoted w cs (values qs)) c
    (step_quoted (strictly limit) (path_frames p) w cs (values qs) c)
quoted_follows limit p ps cs qs h Machine.plain hw c hc = plain_follows limit p ps cs qs h c hc
quoted_follows limit p ps cs qs h Machine.backslash hw c hc = escape_follows limit p ps cs qs h c (short_escape c) refl
quoted_follows limit p ps cs qs h (Machine.hex ds) hw c hc = hex_follows limit p ps cs qs h ds hw c

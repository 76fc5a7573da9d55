-- The machine reads a string.
use Rattle.std.proofs.Common.{◌≡◌, ℕ, ◌≤◌, Bool, true, false, List, [], ◌∷◌, ◌++◌, Option, Some, None, refl, ap, sym, ◌∙◌, cond}
use Rattle.std.proofs.Common.{append_assoc, append-nil, arith, nat_lt, ◌&&◌, ◌||◌, ◌==◌, not}
use Rattle.std.specs.Prelude.{IsTrue, IsSome, unwrap_or}
use Rattle.std.specs.Char.{IsScalar}
use Rattle.std.proofs.lemmas.Bool.{and_right, or_parts, true≢false, false≢true}
use Rattle.tinyjson_grammar.specs.Tree.{Tree}
use Rattle.tinyjson_grammar.specs.Characters.{short_escape, is_high, is_low, pair_of, is_surrogate, decode, paired}
use Rattle.tinyjson_grammar.specs.Syntax.{Piece, pieces_text, ArePieces, piece_codes, unit_value}
use Rattle.tinyjson_grammar.specs.Machine.{Rules, Frame, awaited, complete, step, run, go_on, quoted, plain, step_escape}
use Rattle.tinyjson_grammar.proofs.Accepts.Runs.{settle, settle_complete, and_false}

-- ---- piece_codes

cond_append : (b : Bool) (x y z : List ℕ) → (cond b x y) ++ z ≡ cond b (x ++ z) (y ++ z)
cond_append true x y z = refl
cond_append false x y z = refl

pub decode_cons : (c : ℕ) (vs : List ℕ) → is_surrogate c ≡ false → decode (c ∷ vs) ≡ c ∷ decode vs
decode_cons c [] h = refl
decode_cons c (v ∷ vs) h = rw (or_parts (is_high c) (is_low c) h).0

pub decode_append : (us : List ℕ) (c : ℕ) (vs : List ℕ) → is_surrogate c ≡ false → decode (us ++ c ∷ vs) ≡ decode us ++ c ∷ decode vs
decode_append [] c vs h = decode_cons c vs h
decode_append (u ∷ []) c vs h = rw (and_right (is_high u) (is_low c) (or_parts (is_high c) (is_low c) h).1)
    (ap (λ z. u ∷ z) (decode_cons c vs h))
decode_append (u ∷ v ∷ us) c vs h =
    ap (λ x. cond (is_high u && is_low v) (pair_of u v ∷ x) (u ∷ decode (v ∷ us ++ c ∷ vs))) (decode_append us c vs h)
    ∙ ap (λ y. cond (is_high u && is_low v) (pair_of u v ∷ (decode us ++ c ∷ decode vs)) (u ∷ y)) (decode_append (v ∷ us) c vs h)
    ∙ sym (cond_append (is_high u && is_low v) (pair_of u v ∷ decode us) (u ∷ decode (v ∷ us)) (c ∷ decode vs))

pub paired_cons : (c : ℕ) (vs : List ℕ) → is_surrogate c ≡ false → paired (c ∷ vs) ≡ paired vs
paired_cons c [] h = rw h
paired_cons c (v ∷ vs) h = rw (or_parts (is_high c) (is_low c) h).0 (rw (or_parts (is_high c) (is_low c) h).1)

cond_pair : (b x n y z : Bool) → cond b (x && z) (n && (y && z)) ≡ (cond b x (n && y) && z)
cond_pair true x n y z = refl
cond_pair false x true y z = refl
cond_pair false x false y z = refl

pub paired_append : (us : List ℕ) (c : ℕ) (vs : List ℕ) → is_surrogate c ≡ false → paired (us ++ c ∷ vs) ≡ (paired us && paired vs)
paired_append [] c vs h = paired_cons c vs h
paired_append (u ∷ []) c vs h = rw (and_right (is_high u) (is_low c) (or_parts (is_high c) (is_low c) h).1) (rw (paired_cons c vs h))
paired_append (u ∷ v ∷ us) c vs h =
    ap (λ x. cond (is_high u && is_low v) x (not (is_surrogate u) && paired (v ∷ us ++ c ∷ vs))) (paired_append us c vs h)
    ∙ ap (λ y. cond (is_high u && is_low v) (paired us && paired vs) (not (is_surrogate u) && y)) (paired_append (v ∷ us) c vs h)
    ∙ cond_pair (is_high u && is_low v) (paired us) (not (is_surrogate u)) (paired (v ∷ us)) (paired vs)

pub scalar_no_surrogate : (c : ℕ) → IsScalar c → is_surrogate c ≡ false
scalar_no_surrogate c h = grind arith

pub escape_no_surrogate : (c d : ℕ) → short_escape c ≡ Some d → is_surrogate d ≡ false
escape_no_surrogate c d h = grind arith

pub some_unwrap : (o : Option ℕ) → IsSome o → o ≡ Some (unwrap_or o 0)
some_unwrap None h = absurd (false≢true h)
some_unwrap (Some d) h = refl

-- ---- what is gathered

append_codes : (cs us : List ℕ) (c : ℕ) (vs : List ℕ) → is_surrogate c ≡ false
    → ((cs ++ decode us) ++ c ∷ []) ++ decode vs ≡ cs ++ decode (us ++ c ∷ vs)
append_codes cs us c vs h = rw (decode_append us c vs h) (simp append_assoc)

front_fine : (s a b : Bool) → (s && not (a && b)) ≡ false → (s && not a) ≡ false
front_fine true true b h = refl
front_fine true false b h = h
front_fine false a b h = refl

rest_fine : (s a b : Bool) → (s && not (a && b)) ≡ false → (s && not b) ≡ false
rest_fine true true b h = h
rest_fine true false b h = absurd (true≢false h)
rest_fine false a b h = refl

fine_parts : (s : Bool) (us : List ℕ) (c : ℕ) (vs : List ℕ) → is_surrogate c ≡ false → (s && not (paired (us ++ c ∷ vs))) ≡ false
    → ((s && not (paired us)) ≡ false) × ((s && not (paired vs)) ≡ false)
fine_parts s us c vs h f = let g : (s && not (paired us && paired vs)) ≡ false = rw (← paired_append us c vs h) f in
    (front_fine s (paired us) (paired vs) g, rest_fine s (paired us) (paired vs) g)

pub plain_no_quote : (c : ℕ) → IsTrue (not ((c == 34) || (c == 92))) → (c == 34) ≡ false
plain_no_quote c h = grind arith

pub plain_no_backslash : (c : ℕ) → IsTrue (not ((c == 34) || (c == 92))) → (c == 92) ≡ false
plain_no_backslash c h = grind arith

pub plain_no_control : (c : ℕ) → 32 ≤ c → nat_lt c 32 ≡ false
plain_no_control c h = grind arith

run_pieces : (r : Rules) (fs : List Frame) (cs us : List ℕ) (ps : List Piece) (xs : List ℕ) → ArePieces ps
    → (r.strict && not (paired (us ++ piece_codes ps))) ≡ false →
    run r fs (quoted plain cs us) (pieces_text ps ++ 34 ∷ xs)
    ≡ settle r (complete r.strict fs (Tree.string (cs ++ decode (us ++ piece_codes ps))) true) xs
unfolding run step
run_pieces r fs cs us [] xs h f =
    let f' : (r.strict && not (paired us)) ≡ false = rw (append-nil us) at f in
    rw (f', append-nil us) (settle_complete r r.strict fs (Tree.string (cs ++ decode us)) 34 xs)
run_pieces r fs cs us (Piece.plain c ∷ ps) xs h f =
    let n = scalar_no_surrogate c h.0.0 in
    let g = fine_parts r.strict us c (piece_codes ps) n f in
    rw (plain_no_quote c h.0.2, plain_no_backslash c h.0.2, plain_no_control c h.0.1, g.0, ← append_codes cs us c (piece_codes ps) n)
    (run_pieces r fs ((cs ++ decode us) ++ c ∷ []) [] ps xs h.1 g.1)
run_pieces r fs cs us (Piece.escape c ∷ ps) xs h f =
    let e = some_unwrap (short_escape c) h.0 in
    let d = unwrap_or (short_escape c) 0 in
    let n = escape_no_surrogate c d e in
    let g = fine_parts r.strict us d (piece_codes ps) n f in
    ap (λ o. go_on (λ gs q. run r gs q (pieces_text ps ++ 34 ∷ xs)) (step_escape r fs cs us c o) (c ∷ (pieces_text ps ++ 34 ∷ xs))
    (pieces_text ps ++ 34 ∷ xs)) e
    ∙ rw (g.0, ← append_codes cs us d (piece_codes ps) n) (run_pieces r fs ((cs ++ decode us) ++ d ∷ []) [] ps xs h.1 g.1)
run_pieces r fs cs us (Piece.unit a b c d ∷ ps) xs h f =
    let u = unit_value a b c d in
    let f' : (r.strict && not (paired ((us ++ u ∷ []) ++ piece_codes ps))) ≡ false = rw (append_assoc us (u ∷ []) (piece_codes ps)) f in
    rw (h.0.0, h.0.1, h.0.2, h.0.3) (rw (append_assoc us (u ∷ []) (piece_codes ps)) at (run_pieces r fs cs (us ++ u ∷ []) ps xs h.1 f'))

pub run_string : (r : Rules) (fs : List Frame) (ps : List Piece) (xs : List ℕ) → ArePieces ps
    → (r.strict ≡ true → IsTrue (paired (piece_codes ps))) →
    run r fs awaited ((34 ∷ (pieces_text ps ++ 34 ∷ [])) ++ xs)
    ≡ settle r (complete r.strict fs (Tree.string (decode (piece_codes ps))) true) xs
unfolding run step
run_string r fs ps xs h f = rw (append_assoc (pieces_text ps) (34 ∷ []) xs)
    (run_pieces r fs [] [] ps xs h (and_false r.strict _ (λ e. ap not (f e))))

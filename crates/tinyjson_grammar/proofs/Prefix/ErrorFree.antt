-- A place whose value is strict has a completion: to an accepted text, or to one that ends with its first key that is not a string.
use Rattle.std.proofs.Common.{suc, ◌≡◌, ℕ, ◌+◌, false, List, [], ◌∷◌, ◌++◌, Option, refl, append_assoc, append-nil, arith, subst, ◌⊎◌, inl}
use Rattle.std.proofs.Common.{inr, ⊎_elim, IsTrue}
use Rattle.std.specs.Prelude.{⊤}
use Rattle.tinyjson_grammar.specs.Characters.{paired}
use Rattle.std.proofs.lemmas.Bool.{false≢true}
use Rattle.tinyjson_grammar.specs.Syntax.{Syntax, array, object, null, text, AreWhite, is_key, depth, IsWithin, tree_of, Piece, ArePieces}
use Rattle.tinyjson_grammar.specs.Syntax.{piece_codes, pieces_text}
use Rattle.tinyjson_grammar.specs.Grammar.{IsAccepted}
use Rattle.tinyjson_grammar.specs.Prefix.{IsViable, IsErrorFree, IsCutOffText, Element, Pair, IsValue, AreElementsBefore, ArePairsBefore}
use Rattle.tinyjson_grammar.specs.Prefix.{CutOff, bad_key, in_key, in_member, in_item, cut_off_text, IsCutOff, cut_off_depth}
use Rattle.tinyjson_grammar.proofs.Trace.Paths.{IsKey, Path, outside, item_in, key_in, value_in, path_text, level, IsPath, within_le}
use Rattle.tinyjson_grammar.proofs.Trace.Paths.{within_max, items_with, pairs_with, text_of_items, text_of_pairs, depth_of_items}
use Rattle.tinyjson_grammar.proofs.Trace.Paths.{depth_of_pairs, items_spelled, items_strict, pairs_spelled, pairs_strict, key_depth, key_or}

pub viable_before : (P : List ℕ → Type 0) (xs ys : List ℕ) → IsViable P (xs ++ ys) → IsViable P xs
viable_before P xs ys h = (ys ++ h.0, subst P (append_assoc xs ys h.0) h.1)

-- with what follows it, it has no error: so it has none itself
pub error_free_from : (limit : Option ℕ) (xs ys zs : List ℕ) → zs ≡ xs ++ ys → IsErrorFree limit zs → IsErrorFree limit xs
error_free_from limit xs ys zs e h = viable_before (λ us. IsAccepted limit us ⊎ IsCutOffText limit us) xs ys
    (subst (λ us. IsErrorFree limit us) e h)

-- a key's pieces
key_pieces : (k : Syntax) → IsKey k → IsValue k → (ps : List Piece) × ArePieces ps × IsTrue (paired (piece_codes ps))
    × (text k ≡ 34 ∷ (pieces_text ps ++ 34 ∷ []))
key_pieces null h v = absurd (false≢true h)
key_pieces (Syntax.string ps) h v = (ps, v.spelled, v.strict, refl)
key_pieces _ h v = absurd (false≢true h)

pub cut_off_error_free : (limit : Option ℕ) (p : Path) → IsPath limit p → (b : CutOff) → IsCutOff b
    → IsWithin limit (level p + cut_off_depth b) → IsCutOffText limit (path_text p ++ cut_off_text b)
cut_off_error_free limit (outside w) hp b hb hd =
    record { before = w; cut_off = b; white_before = hp; is_cut_off = hb; shallow = within_le limit _ _ hd (omega arith); whole = refl }
cut_off_error_free limit (item_in p es w) hp b hb hd = subst (IsCutOffText limit) (simp append_assoc)
    (cut_off_error_free limit p hp.0 (in_item es w b) (hp.1, hp.2, hb) (within_max limit _ _ _ hp.3 hd (omega arith)))
cut_off_error_free limit (key_in p ps w) hp b hb hd = subst (IsCutOffText limit) (simp append_assoc)
    (cut_off_error_free limit p hp.0 (in_key ps w b) (hp.1, hp.2, hb) (within_max limit _ _ _ hp.3 hd (omega arith)))
cut_off_error_free limit (value_in p ps a k v w) hp b hb hd =
    let kp = key_pieces k hp.4 hp.3 in
    subst (IsCutOffText limit) (rw kp.3 (simp append_assoc))
    (cut_off_error_free limit p hp.0 (in_member ps a kp.0 v w b) (hp.1, hp.2, kp.1, kp.2, hp.5, hp.6, hb)
    (within_max limit _ _ _ hp.7 hd (omega arith)))

-- a key that is not a string ends the text
abbrev pub IsPlaced : Path → Syntax → List ℕ → Type 0
IsPlaced (outside w) s v = ⊤
IsPlaced (item_in p es w) s v = ⊤
IsPlaced (key_in p ps w) s v = IsKey s ⊎ ((is_key s ≡ false) × (v ≡ []))
IsPlaced (value_in p ps a k b w) s v = ⊤

pub placed : (p : Path) (s : Syntax) → IsPlaced p s []
placed (key_in p ps w) s = ⊎_elim (λ h. inl h) (λ h. inr (h, refl)) (key_or s)
placed _ s = tt

abbrev pub item_value : (es : List Element) (w : List ℕ) (s : Syntax) (v : List ℕ) → AreElementsBefore es → AreWhite w → IsValue s
    → AreWhite v → IsValue (array (items_with es w s v))
item_value es w s v h hw hs hv = record { spelled = items_spelled es w s v h hw hs.spelled hv; strict = items_strict es w s v h hs.strict }

abbrev pub pair_value : (ps : List Pair) (a : List ℕ) (k : Syntax) (b c : List ℕ) (s : Syntax) (d : List ℕ) →
    ArePairsBefore ps → AreWhite a → IsKey k → IsValue k → AreWhite b → AreWhite c → IsValue s → AreWhite d
    → IsValue (object (pairs_with ps a k b c s d))
pair_value ps a k b c s d h ha i hk hb hc hs hd = record {
  spelled = pairs_spelled ps a k b c s d h ha hk.spelled hb hc hs.spelled hd;
  strict = pairs_strict ps a k b c s d h i hk.strict hs.strict;
}

pub with_bad_key : (limit : Option ℕ) (p : Path) (ps : List Pair) (w : List ℕ) → IsPath limit (key_in p ps w) → (s : Syntax) → IsValue s
    → IsWithin limit (suc (level p) + depth s) → is_key s ≡ false → IsErrorFree limit (path_text (key_in p ps w) ++ text s)
with_bad_key limit p ps w hp s hs hd hk = (
  [],
  inr (subst (IsCutOffText limit) (simp (append_assoc, append-nil))
      (cut_off_error_free limit p hp.0 (bad_key ps w s) (hp.1, hp.2, hs, hk) (within_max limit _ _ _ hp.3 hd (omega arith)))),
)

pub error_free : (limit : Option ℕ) (p : Path) → IsPath limit p → (s : Syntax) → IsValue s → IsWithin limit (level p + depth s)
    → (v : List ℕ) → AreWhite v → IsPlaced p s v → IsErrorFree limit (path_text p ++ (text s ++ v))
error_free limit (outside w) hp s hs hd v hv hk = (
  [],
  inl (
    tree_of s,
    record {
      loose = record {
        before = w;
        value = s;
        after = v;
        white_before = hp;
        spelled = hs.spelled;
        white_after = hv;
        shallow = within_le limit _ _ hd (omega arith);
        whole = simp append-nil;
      };
      strict = hs.strict;
      tree = refl;
    },
  ),
)
error_free limit (item_in p es w) hp s hs hd v hv hk = error_free_from limit (path_text (item_in p es w) ++ (text s ++ v)) (93 ∷ [])
    (path_text p ++ (text (array (items_with es w s v)) ++ [])) (simp (text_of_items, append_assoc, append-nil))
    (error_free limit p hp.0 (array (items_with es w s v)) (item_value es w s v hp.1 hp.2 hs hv)
    (within_max limit _ _ _ hp.3 hd (rw (depth_of_items es w s v) (omega arith))) [] tt (placed p _))
error_free limit (key_in p ps w) hp s hs hd v hv (inl hk) =
    error_free_from limit (path_text (key_in p ps w) ++ (text s ++ v)) (58 ∷ 110 ∷ 117 ∷ 108 ∷ 108 ∷ 125 ∷ [])
    (path_text p ++ (text (object (pairs_with ps w s v [] null [])) ++ [])) (simp (text_of_pairs, append_assoc, append-nil))
    (error_free limit p hp.0 (object (pairs_with ps w s v [] null []))
    (pair_value ps w s v [] null [] hp.1 hp.2 hk hs hv tt (record { spelled = tt; strict = tt }) tt)
    (within_max limit _ _ _ hp.3 hd (rw (depth_of_pairs ps w s v [] null []) (omega arith))) [] tt (placed p _))
error_free limit (key_in p ps w) hp s hs hd v hv (inr hk) =
    error_free_from limit (path_text (key_in p ps w) ++ (text s ++ v)) [] (path_text (key_in p ps w) ++ text s)
    (rw hk.1 (simp (append_assoc, append-nil))) (with_bad_key limit p ps w hp s hs hd hk.0)
error_free limit (value_in p ps a k b w) hp s hs hd v hv hk =
    error_free_from limit (path_text (value_in p ps a k b w) ++ (text s ++ v)) (125 ∷ [])
    (path_text p ++ (text (object (pairs_with ps a k b w s v)) ++ [])) (simp (text_of_pairs, append_assoc, append-nil))
    (error_free limit p hp.0 (object (pairs_with ps a k b w s v)) (pair_value ps a k b w s v hp.1 hp.2 hp.4 hp.3 hp.5 hp.6 hs hv)
    (within_max limit _ _ _ hp.7 hd (rw (depth_of_pairs ps a k b w s v) (rw (key_depth k hp.4) (omega arith)))) [] tt (placed p _))

-- The machine on a text that ends with its first key that is not a string.
use Rattle.std.proofs.Common.{◌≡◌, ℕ, ◌+◌, false, List, [], ◌∷◌, ◌++◌, refl, ◌∙◌, append_assoc, append-nil, arith, length}
use Rattle.std.specs.Prelude.{max}
use Rattle.tinyjson_grammar.specs.Tree as tree
use Rattle.tinyjson_grammar.specs.Characters.{decode}
use Rattle.tinyjson_grammar.specs.Syntax.{Syntax, string, text, AreWhite, is_key, tree_of, depth, pieces_text, piece_codes}
use Rattle.tinyjson_grammar.specs.Prefix.{Element, Pair, elements_before, pairs_before, IsValue, AreElementsBefore, ArePairsBefore, CutOff}
use Rattle.tinyjson_grammar.specs.Prefix.{bad_key, in_key, in_member, in_item, cut_off_text, IsCutOff, elements_deepest, pairs_deepest}
use Rattle.tinyjson_grammar.specs.Prefix.{cut_off_depth}
use Rattle.tinyjson_grammar.specs.Machine.{Rules, Frame, in_array, at_key, at_value, awaited, first, step, run}
use Rattle.tinyjson_grammar.proofs.Accepts.Runs.{delimited_white, run_white, after_white}
use Rattle.tinyjson_grammar.proofs.Accepts.Value.{last_element_assoc, run_value, fits_within, FitsDepth, ends, Begins, begins_append}
use Rattle.tinyjson_grammar.proofs.Accepts.Value.{text_begins, first_array, first_object, key_and_colon}
use Rattle.tinyjson_grammar.proofs.Trace.Paths.{trees_of, members_from, within_le}

-- ---- what stands before the open container

element_before_assoc : (v t w es xs : List ℕ) → ((v ++ (t ++ w)) ++ 44 ∷ es) ++ xs ≡ v ++ (t ++ (w ++ 44 ∷ (es ++ xs)))
element_before_assoc v t w es xs = simp append_assoc

pair_before_assoc : (a k b c t d ps xs : List ℕ) → ((a ++ (k ++ (b ++ 58 ∷ (c ++ (t ++ d))))) ++ 44 ∷ ps) ++ xs
    ≡ a ++ (k ++ (b ++ 58 ∷ (c ++ (t ++ (d ++ 44 ∷ (ps ++ xs))))))
pair_before_assoc a k b c t d ps xs = simp append_assoc

run_elements_before : (es : List Element) (r : Rules) (ts : List tree.Tree) (fs : List Frame) (xs : List ℕ) → AreElementsBefore es
    → FitsDepth r (in_array ts ∷ fs) (elements_deepest es) →
    run r (in_array ts ∷ fs) awaited (elements_before es ++ xs) ≡ run r (in_array (ts ++ trees_of es) ∷ fs) awaited xs
unfolding run step
run_elements_before [] r ts fs xs h m = rw (append-nil ts)
run_elements_before (e ∷ es) r ts fs xs h m = rw (element_before_assoc e.before (text e.value) e.after (elements_before es) xs)
    (run_white r (in_array ts ∷ fs) e.before _ h.0.before
    ∙ run_value e.value r (in_array ts ∷ fs) _ h.0.value.spelled (λ s. h.0.value.strict) (within_le r.limit _ _ m (omega arith))
    (ends e.value _ (delimited_white e.after (44 ∷ _) h.0.after refl))
    ∙ after_white r (in_array (ts ++ tree_of e.value ∷ []) ∷ fs) e.after (44 ∷ _) h.0.after
    ∙ rw (append_assoc ts (tree_of e.value ∷ []) (trees_of es)) at
    (run_elements_before es r (ts ++ tree_of e.value ∷ []) fs xs h.1 (within_le r.limit _ _ m (omega arith))))

run_pairs_before : (ps : List Pair) (r : Rules) (ms : tree.Members) (fs : List Frame) (xs : List ℕ) → ArePairsBefore ps
    → FitsDepth r (at_key ms ∷ fs) (pairs_deepest ps) →
    run r (at_key ms ∷ fs) awaited (pairs_before ps ++ xs) ≡ run r (at_key (members_from ms ps) ∷ fs) awaited xs
unfolding run step
run_pairs_before [] r ms fs xs h m = refl
run_pairs_before (p ∷ ps) r ms fs xs h m = rw (pair_before_assoc p.before_key (text p.key) p.after_key p.before (text p.value) p.after
    (pairs_before ps) xs) (run_white r (at_key ms ∷ fs) p.before_key _ h.0.before_key
    ∙ run_value p.key r (at_key ms ∷ fs) _ h.0.key.spelled (λ e. h.0.key.strict) (within_le r.limit _ _ m (omega arith))
    (ends p.key _ (delimited_white p.after_key (58 ∷ _) h.0.after_key refl))
    ∙ key_and_colon r ms fs p.key p.after_key _ (λ e. h.0.is_key) h.0.after_key
    ∙ run_white r (at_value ms (tree.key_of (tree_of p.key)) ∷ fs) p.before _ h.0.before
    ∙ run_value p.value r (at_value ms (tree.key_of (tree_of p.key)) ∷ fs) _ h.0.value.spelled (λ e. h.0.value.strict)
    (within_le r.limit _ _ m (omega arith)) (ends p.value _ (delimited_white p.after (44 ∷ _) h.0.after refl))
    ∙ after_white r (at_key (tree.put (tree.key_of (tree_of p.key)) (tree_of p.value) ms) ∷ fs) p.after (44 ∷ _) h.0.after
    ∙ run_pairs_before ps r (tree.put (tree.key_of (tree_of p.key)) (tree_of p.value) ms) fs xs h.1 (within_le r.limit _ _ m (omega arith)))

begin_array : (es : List Element) (w : List ℕ) (r : Rules) (fs : List Frame) (xs : List ℕ) → AreElementsBefore es → AreWhite w → Begins xs →
    run r (in_array [] ∷ fs) first (elements_before es ++ (w ++ xs)) ≡ run r (in_array [] ∷ fs) awaited (elements_before es ++ (w ++ xs))
begin_array [] w r fs xs h hw b = first_array r [] fs w xs hw b
begin_array (e ∷ es) w r fs xs h hw b = rw (element_before_assoc e.before (text e.value) e.after (elements_before es) (w ++ xs))
    (first_array r [] fs e.before _ h.0.before (begins_append (text e.value) _ (text_begins e.value h.0.value.spelled)))

begin_object : (ps : List Pair) (w : List ℕ) (r : Rules) (fs : List Frame) (xs : List ℕ) → ArePairsBefore ps → AreWhite w → Begins xs →
    run r (at_key tree.no_members ∷ fs) first (pairs_before ps ++ (w ++ xs))
    ≡ run r (at_key tree.no_members ∷ fs) awaited (pairs_before ps ++ (w ++ xs))
begin_object [] w r fs xs h hw b = first_object r tree.no_members fs w xs hw b
begin_object (p ∷ ps) w r fs xs h hw b = rw (pair_before_assoc p.before_key (text p.key) p.after_key p.before (text p.value) p.after
    (pairs_before ps) (w ++ xs))
    (first_object r tree.no_members fs p.before_key _ h.0.before_key (begins_append (text p.key) _ (text_begins p.key h.0.key.spelled)))

-- the container's first character, and what stands in it before xs
open_array : (es : List Element) (w : List ℕ) (r : Rules) (fs : List Frame) (xs : List ℕ) → AreElementsBefore es → AreWhite w → Begins xs
    → (d : ℕ) → FitsDepth r fs (1 + max (elements_deepest es) d) →
    run r fs awaited (91 ∷ (elements_before es ++ (w ++ xs))) ≡ run r (in_array (trees_of es) ∷ fs) awaited xs
unfolding run step
open_array es w r fs xs h hw b d m = rw (fits_within r.limit (length fs) (max (elements_deepest es) d) m)
    (begin_array es w r fs xs h hw b ∙ run_elements_before es r [] fs (w ++ xs) h (within_le r.limit _ _ m (omega arith))
    ∙ run_white r (in_array (trees_of es) ∷ fs) w xs hw)

open_object : (ps : List Pair) (w : List ℕ) (r : Rules) (fs : List Frame) (xs : List ℕ) → ArePairsBefore ps → AreWhite w → Begins xs
    → (d : ℕ) → FitsDepth r fs (1 + max (pairs_deepest ps) d) →
    run r fs awaited (123 ∷ (pairs_before ps ++ (w ++ xs))) ≡ run r (at_key (members_from tree.no_members ps) ∷ fs) awaited xs
unfolding run step
open_object ps w r fs xs h hw b d m = rw (fits_within r.limit (length fs) (max (pairs_deepest ps) d) m)
    (begin_object ps w r fs xs h hw b ∙ run_pairs_before ps r tree.no_members fs (w ++ xs) h (within_le r.limit _ _ m (omega arith))
    ∙ run_white r (at_key (members_from tree.no_members ps) ∷ fs) w xs hw)

-- ---- the bad key

-- the place of the bad key, from the frames fs on
pub record BadKey (r : Rules) (fs : List Frame) (b : CutOff) : Type 0 where
  pub members : tree.Members
  pub frames : List Frame
  pub key : Syntax
  pub value : IsValue key
  pub no_string : is_key key ≡ false
  pub fits_depth : FitsDepth r (at_key members ∷ frames) (depth key)
  pub reads : (ys : List ℕ) → run r fs awaited (cut_off_text b ++ ys) ≡ run r (at_key members ∷ frames) awaited (text key ++ ys)

member_assoc : (ps w k v u t ys : List ℕ) → (ps ++ (w ++ 34 ∷ (k ++ 34 ∷ (v ++ 58 ∷ (u ++ t))))) ++ ys
    ≡ ps ++ (w ++ ((34 ∷ (k ++ 34 ∷ [])) ++ (v ++ 58 ∷ (u ++ (t ++ ys)))))
member_assoc ps w k v u t ys = simp append_assoc

cut_off_begins : (b : CutOff) → Begins (cut_off_text b)
cut_off_begins (bad_key ps w s) = (_, _, refl, (refl, refl, refl))
cut_off_begins _ = (_, _, refl, (refl, refl, refl))

pub with_bad_key : (b : CutOff) (r : Rules) (fs : List Frame) → IsCutOff b → FitsDepth r fs (cut_off_depth b) → BadKey r fs b
with_bad_key (bad_key ps w s) r fs h m = record {
  members = members_from tree.no_members ps;
  frames = fs;
  key = s;
  value = h.2;
  no_string = h.3;
  fits_depth = within_le r.limit _ _ m (omega arith);
  reads = λ ys. rw (last_element_assoc (pairs_before ps) w (text s) ys)
      (open_object ps w r fs (text s ++ ys) h.0 h.1 (begins_append (text s) ys (text_begins s h.2.spelled)) (depth s) m);
}
with_bad_key (in_key ps w b) r fs h m =
    let i = with_bad_key b r (at_key (members_from tree.no_members ps) ∷ fs) h.2 (within_le r.limit _ _ m (omega arith)) in record {
      members = i.members;
      frames = i.frames;
      key = i.key;
      value = i.value;
      no_string = i.no_string;
      fits_depth = i.fits_depth;
      reads = λ ys. rw (last_element_assoc (pairs_before ps) w (cut_off_text b) ys)
          (open_object ps w r fs (cut_off_text b ++ ys) h.0 h.1 (begins_append (cut_off_text b) ys (cut_off_begins b)) (cut_off_depth b) m
          ∙ i.reads ys);
    }
with_bad_key (in_item es w b) r fs h m =
    let i = with_bad_key b r (in_array (trees_of es) ∷ fs) h.2 (within_le r.limit _ _ m (omega arith)) in record {
      members = i.members;
      frames = i.frames;
      key = i.key;
      value = i.value;
      no_string = i.no_string;
      fits_depth = i.fits_depth;
      reads = λ ys. rw (last_element_assoc (elements_before es) w (cut_off_text b) ys)
          (open_array es w r fs (cut_off_text b ++ ys) h.0 h.1 (begins_append (cut_off_text b) ys (cut_off_begins b)) (cut_off_depth b) m
          ∙ i.reads ys);
    }
with_bad_key (in_member ps w k v u b) r fs h m =
    let ms = members_from tree.no_members ps in
    let i = with_bad_key b r (at_value ms (decode (piece_codes k)) ∷ fs) h.6 (within_le r.limit _ _ m (omega arith)) in record {
      members = i.members;
      frames = i.frames;
      key = i.key;
      value = i.value;
      no_string = i.no_string;
      fits_depth = i.fits_depth;
      reads = λ ys. rw (member_assoc (pairs_before ps) w (pieces_text k) v u (cut_off_text b) ys)
          (open_object ps w r fs _ h.0 h.1 (_, _, refl, (refl, refl, refl)) (cut_off_depth b) m
          ∙ run_value (string k) r (at_key ms ∷ fs) (v ++ 58 ∷ (u ++ (cut_off_text b ++ ys))) h.2 (λ e. h.3)
          (within_le r.limit _ _ m (omega arith)) tt
          ∙ key_and_colon r ms fs (string k) v _ (λ e. refl) h.4
          ∙ run_white r (at_value ms (decode (piece_codes k)) ∷ fs) u _ h.5
          ∙ i.reads ys);
    }

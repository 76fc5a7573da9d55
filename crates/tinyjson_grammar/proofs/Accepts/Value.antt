-- The machine reads each spelled value.
use Rattle.std.proofs.Common.{◌≡◌, ℕ, ◌+◌, ◌<◌, Bool, true, false, List, [], ◌∷◌, ◌++◌, Option, Some, None, refl, ap, ◌∙◌, append_assoc}
use Rattle.std.proofs.Common.{arith, length, ◌&&◌, ◌==◌, not}
use Rattle.std.specs.Prelude.{IsTrue, ⊤}
use Rattle.std.specs.Char.{is_ascii_digit}
use Rattle.std.proofs.lemmas.Bool.{lt-ltb}
use Rattle.tinyjson_grammar.specs.Tree as tree
use Rattle.tinyjson_grammar.specs.Characters.{is_white}
use Rattle.tinyjson_number.specs.Numeral.{minus_text, AreDigits}
use Rattle.tinyjson_grammar.specs.Syntax.{Syntax, Elements, Pairs, null, boolean, number, string, empty_array, array, empty_object, object}
use Rattle.tinyjson_grammar.specs.Syntax.{last_element, element, last_pair, pair, text, elements_text, pairs_text, AreWhite, IsSpelled}
use Rattle.tinyjson_grammar.specs.Syntax.{AreElements, ArePairs, IsStrict, ElementsAreStrict, PairsAreStrict, is_key, tree_of}
use Rattle.tinyjson_grammar.specs.Syntax.{elements_trees, pairs_members, depth, elements_depth, pairs_depth, IsWithin}
use Rattle.tinyjson_grammar.specs.Machine.{Rules, Frame, in_array, at_key, at_value, awaited, first, complete, step, run, fits}
use Rattle.tinyjson_grammar.proofs.Accepts.Runs.{settle, settle_complete, and_false, Delimited, delimited_white, run_white, first_white}
use Rattle.tinyjson_grammar.proofs.Accepts.Runs.{after_white, colon_white, digit_is_not, digit_not_white}
use Rattle.tinyjson_grammar.proofs.Accepts.Number.{run_numeral}
use Rattle.tinyjson_grammar.proofs.Accepts.String.{run_string}
use Rattle.tinyjson_grammar.proofs.Trace.Paths.{within_le}

-- ---- how a value begins

abbrev pub NoClosing : ℕ → Type 0
NoClosing c = (is_white c ≡ false) × ((c == 93) ≡ false) × ((c == 125) ≡ false)

abbrev pub Begins : List ℕ → Type 0
Begins xs = (c : ℕ) × (cs : List ℕ) × (xs ≡ c ∷ cs) × NoClosing c

digit_begins : (c : ℕ) → IsTrue (is_ascii_digit c) → NoClosing c
digit_begins c h = (digit_not_white c h, digit_is_not c 93 h refl, digit_is_not c 125 h refl)

pub numeral_begins : (g : Bool) (w xs : List ℕ) → 0 < length w → AreDigits w → Begins (minus_text g ++ (w ++ xs))
numeral_begins g [] xs h d = absurd (omega (arith, h))
numeral_begins true (c ∷ cs) xs h d = (_, _, refl, (refl, refl, refl))
numeral_begins false (c ∷ cs) xs h d = (_, _, refl, (digit_begins c d.0))

pub text_begins : (s : Syntax) → IsSpelled s → Begins (text s)
text_begins null h = (_, _, refl, (refl, refl, refl))
text_begins (boolean true) h = (_, _, refl, (refl, refl, refl))
text_begins (boolean false) h = (_, _, refl, (refl, refl, refl))
text_begins (number n) h = numeral_begins n.negative n.integer _ h.some_digit h.integer
text_begins (string ps) h = (_, _, refl, (refl, refl, refl))
text_begins (empty_array w) h = (_, _, refl, (refl, refl, refl))
text_begins (array es) h = (_, _, refl, (refl, refl, refl))
text_begins (empty_object w) h = (_, _, refl, (refl, refl, refl))
text_begins (object ps) h = (_, _, refl, (refl, refl, refl))

pub begins_append : (xs ys : List ℕ) → Begins xs → Begins (xs ++ ys)
begins_append xs ys b = (b.0, b.1 ++ ys, rw b.2, b.3)

-- ---- a container that was just opened

pub first_array : (r : Rules) (ts : List tree.Tree) (fs : List Frame) (w xs : List ℕ) → AreWhite w → Begins xs →
    run r (in_array ts ∷ fs) first (w ++ xs) ≡ run r (in_array ts ∷ fs) awaited (w ++ xs)
unfolding run step
first_array r ts fs [] xs h b = rw b.2 (rw (b.3.0, b.3.1))
first_array r ts fs (c ∷ cs) xs h b = rw h.0 (first_array r ts fs cs xs h.1 b)

pub first_object : (r : Rules) (ms : tree.Members) (fs : List Frame) (w xs : List ℕ) → AreWhite w → Begins xs →
    run r (at_key ms ∷ fs) first (w ++ xs) ≡ run r (at_key ms ∷ fs) awaited (w ++ xs)
unfolding run step
first_object r ms fs [] xs h b = rw b.2 (rw (b.3.0, b.3.2))
first_object r ms fs (c ∷ cs) xs h b = rw h.0 (first_object r ms fs cs xs h.1 b)

pub last_element_assoc : (v t w xs : List ℕ) → (v ++ (t ++ w)) ++ xs ≡ v ++ (t ++ (w ++ xs))
last_element_assoc v t w xs = simp append_assoc

pub element_assoc : (v t w es xs : List ℕ) → (v ++ (t ++ (w ++ 44 ∷ es))) ++ xs ≡ v ++ (t ++ (w ++ 44 ∷ (es ++ xs)))
element_assoc v t w es xs = simp append_assoc

pub last_pair_assoc : (a k b c t d xs : List ℕ) → (a ++ (k ++ (b ++ 58 ∷ (c ++ (t ++ d))))) ++ xs
    ≡ a ++ (k ++ (b ++ 58 ∷ (c ++ (t ++ (d ++ xs)))))
last_pair_assoc a k b c t d xs = simp append_assoc

pub pair_assoc : (a k b c t d ps xs : List ℕ) → (a ++ (k ++ (b ++ 58 ∷ (c ++ (t ++ (d ++ 44 ∷ ps)))))) ++ xs
    ≡ a ++ (k ++ (b ++ 58 ∷ (c ++ (t ++ (d ++ 44 ∷ (ps ++ xs))))))
pair_assoc a k b c t d ps xs = simp append_assoc

first_elements : (r : Rules) (ts : List tree.Tree) (fs : List Frame) (es : Elements) (xs : List ℕ) → AreElements es →
    run r (in_array ts ∷ fs) first (elements_text es ++ xs) ≡ run r (in_array ts ∷ fs) awaited (elements_text es ++ xs)
first_elements r ts fs (last_element v s w) xs h =
    rw (last_element_assoc v (text s) w xs) (first_array r ts fs v _ h.0 (begins_append (text s) _ (text_begins s h.1)))
first_elements r ts fs (element v s w es) xs h = rw (element_assoc v (text s) w (elements_text es) xs)
    (first_array r ts fs v _ h.0 (begins_append (text s) _ (text_begins s h.1)))

first_pairs : (r : Rules) (ms : tree.Members) (fs : List Frame) (ps : Pairs) (xs : List ℕ) → ArePairs ps →
    run r (at_key ms ∷ fs) first (pairs_text ps ++ xs) ≡ run r (at_key ms ∷ fs) awaited (pairs_text ps ++ xs)
first_pairs r ms fs (last_pair a k b c s d) xs h =
    rw (last_pair_assoc a (text k) b c (text s) d xs) (first_object r ms fs a _ h.0 (begins_append (text k) _ (text_begins k h.1)))
first_pairs r ms fs (pair a k b c s d ps) xs h = rw (pair_assoc a (text k) b c (text s) d (pairs_text ps) xs)
    (first_object r ms fs a _ h.0 (begins_append (text k) _ (text_begins k h.1)))

-- ---- room for the containers

abbrev pub FitsDepth : Rules → List Frame → ℕ → Type 0
FitsDepth r fs n = IsWithin r.limit (length fs + n)

pub fits_within : (limit : Option ℕ) (k n : ℕ) → IsWithin limit (k + (1 + n)) → fits limit k ≡ true
fits_within None k n h = refl
fits_within (Some l) k n h = lt-ltb k l (omega arith)

-- ---- values

-- what stands after a value: nothing that could continue it
abbrev pub Ends : Syntax → List ℕ → Type 0
Ends (number n) xs = Delimited xs
Ends null xs = ⊤
Ends (boolean b) xs = ⊤
Ends (string ps) xs = ⊤
Ends (empty_array w) xs = ⊤
Ends (array es) xs = ⊤
Ends (empty_object w) xs = ⊤
Ends (object ps) xs = ⊤

pub ends : (s : Syntax) (xs : List ℕ) → Delimited xs → Ends s xs
ends (number n) xs d = d
ends _ xs d = tt

pub string_key : (s : Syntax) → tree.is_string (tree_of s) ≡ is_key s
string_key null = refl
string_key _ = refl

fine_key : (r : Rules) (k : Syntax) → (r.strict ≡ true → IsTrue (is_key k)) → (r.strict && not (tree.is_string (tree_of k))) ≡ false
fine_key r k h = rw (string_key k) (and_false r.strict (not (is_key k)) (λ e. ap not (h e)))

-- a key, white space and the colon
pub key_and_colon : (r : Rules) (ms : tree.Members) (fs : List Frame) (k : Syntax) (b xs : List ℕ) → (r.strict ≡ true → IsTrue (is_key k))
    → AreWhite b →
    settle r (complete r.strict (at_key ms ∷ fs) (tree_of k) true) (b ++ 58 ∷ xs)
    ≡ run r (at_value ms (tree.key_of (tree_of k)) ∷ fs) awaited xs
unfolding run step
key_and_colon r ms fs k b xs f h = rw (fine_key r k f) (colon_white r (at_key ms ∷ fs) (tree.key_of (tree_of k)) b (58 ∷ xs) h)

mutual
  unfolding run step

  pub run_value : (s : Syntax) (r : Rules) (fs : List Frame) (xs : List ℕ) → IsSpelled s → (r.strict ≡ true → IsStrict s)
      → FitsDepth r fs (depth s) → Ends s xs →
      run r fs awaited (text s ++ xs) ≡ settle r (complete r.strict fs (tree_of s) true) xs
  run_value null r fs xs h f m d = settle_complete r r.strict fs tree.null 108 xs
  run_value (boolean true) r fs xs h f m d = settle_complete r r.strict fs (tree.boolean true) 101 xs
  run_value (boolean false) r fs xs h f m d = settle_complete r r.strict fs (tree.boolean false) 101 xs
  run_value (number n) r fs xs h f m d = run_numeral r fs n xs h f d
  run_value (string ps) r fs xs h f m d = run_string r fs ps xs h f
  run_value (empty_array w) r fs xs h f m d = rw (append_assoc w (93 ∷ []) xs, fits_within r.limit (length fs) 0 m)
      (first_white r (in_array [] ∷ fs) w (93 ∷ xs) h ∙ settle_complete r r.strict fs (tree.array tree.no_items) 93 xs)
  run_value (array es) r fs xs h f m d = rw (
    append_assoc (elements_text es) (93 ∷ []) xs,
    fits_within r.limit (length fs) (elements_depth es) m,
  )
      (first_elements r [] fs es (93 ∷ xs) h ∙ run_elements es r [] fs xs h f (within_le r.limit _ _ m (omega arith)))
  run_value (empty_object w) r fs xs h f m d = rw (append_assoc w (125 ∷ []) xs, fits_within r.limit (length fs) 0 m)
      (first_white r (at_key tree.no_members ∷ fs) w (125 ∷ xs) h ∙ settle_complete r r.strict fs (tree.object tree.no_members) 125 xs)
  run_value (object ps) r fs xs h f m d = rw (
    append_assoc (pairs_text ps) (125 ∷ []) xs,
    fits_within r.limit (length fs) (pairs_depth ps) m,
  )
      (first_pairs r tree.no_members fs ps (125 ∷ xs) h ∙ run_pairs ps r tree.no_members fs xs h f (within_le r.limit _ _ m (omega arith)))

  run_elements : (es : Elements) (r : Rules) (ts : List tree.Tree) (fs : List Frame) (xs : List ℕ) → AreElements es
      → (r.strict ≡ true → ElementsAreStrict es) → FitsDepth r (in_array ts ∷ fs) (elements_depth es) →
      run r (in_array ts ∷ fs) awaited (elements_text es ++ 93 ∷ xs)
      ≡ settle r (complete r.strict fs (tree.array (tree.items_of (ts ++ elements_trees es))) true) xs
  run_elements (last_element v s w) r ts fs xs h f m = rw (last_element_assoc v (text s) w (93 ∷ xs))
      (run_white r (in_array ts ∷ fs) v _ h.0
      ∙ run_value s r (in_array ts ∷ fs) (w ++ 93 ∷ xs) h.1 f m (ends s _ (delimited_white w (93 ∷ xs) h.2 refl))
      ∙ after_white r (in_array (ts ++ tree_of s ∷ []) ∷ fs) w (93 ∷ xs) h.2
      ∙ settle_complete r r.strict fs (tree.array (tree.items_of (ts ++ tree_of s ∷ []))) 93 xs)
  run_elements (element v s w es) r ts fs xs h f m = rw (element_assoc v (text s) w (elements_text es) (93 ∷ xs))
      (run_white r (in_array ts ∷ fs) v _ h.0
      ∙ run_value s r (in_array ts ∷ fs) (w ++ 44 ∷ (elements_text es ++ 93 ∷ xs)) h.1 (λ e. (f e).0)
      (within_le r.limit _ _ m (omega arith)) (ends s _ (delimited_white w _ h.2 refl))
      ∙ after_white r (in_array (ts ++ tree_of s ∷ []) ∷ fs) w (44 ∷ (elements_text es ++ 93 ∷ xs)) h.2
      ∙ rw (append_assoc ts (tree_of s ∷ []) (elements_trees es)) at
      (run_elements es r (ts ++ tree_of s ∷ []) fs xs h.3 (λ e. (f e).1) (within_le r.limit _ _ m (omega arith))))

  run_pairs : (ps : Pairs) (r : Rules) (ms : tree.Members) (fs : List Frame) (xs : List ℕ) → ArePairs ps
      → (r.strict ≡ true → PairsAreStrict ps) → FitsDepth r (at_key ms ∷ fs) (pairs_depth ps) →
      run r (at_key ms ∷ fs) awaited (pairs_text ps ++ 125 ∷ xs)
      ≡ settle r (complete r.strict fs (tree.object (pairs_members ms ps)) true) xs
  run_pairs (last_pair a k b c s d) r ms fs xs h f m = rw (last_pair_assoc a (text k) b c (text s) d (125 ∷ xs))
      (run_white r (at_key ms ∷ fs) a _ h.0
      ∙ run_value k r (at_key ms ∷ fs) _ h.1 (λ e. (f e).1) (within_le r.limit _ _ m (omega arith))
      (ends k _ (delimited_white b (58 ∷ _) h.2 refl))
      ∙ key_and_colon r ms fs k b _ (λ e. (f e).0) h.2
      ∙ run_white r (at_value ms (tree.key_of (tree_of k)) ∷ fs) c _ h.3
      ∙ run_value s r (at_value ms (tree.key_of (tree_of k)) ∷ fs) (d ++ 125 ∷ xs) h.4 (λ e. (f e).2)
      (within_le r.limit _ _ m (omega arith)) (ends s _ (delimited_white d (125 ∷ xs) h.5 refl))
      ∙ after_white r (at_key (tree.put (tree.key_of (tree_of k)) (tree_of s) ms) ∷ fs) d (125 ∷ xs) h.5
      ∙ settle_complete r r.strict fs (tree.object (tree.put (tree.key_of (tree_of k)) (tree_of s) ms)) 125 xs)
  run_pairs (pair a k b c s d ps) r ms fs xs h f m = rw (pair_assoc a (text k) b c (text s) d (pairs_text ps) (125 ∷ xs))
      (run_white r (at_key ms ∷ fs) a _ h.0
      ∙ run_value k r (at_key ms ∷ fs) _ h.1 (λ e. (f e).1) (within_le r.limit _ _ m (omega arith))
      (ends k _ (delimited_white b (58 ∷ _) h.2 refl))
      ∙ key_and_colon r ms fs k b _ (λ e. (f e).0) h.2
      ∙ run_white r (at_value ms (tree.key_of (tree_of k)) ∷ fs) c _ h.3
      ∙ run_value s r (at_value ms (tree.key_of (tree_of k)) ∷ fs) (d ++ 44 ∷ (pairs_text ps ++ 125 ∷ xs)) h.4 (λ e. (f e).2)
      (within_le r.limit _ _ m (omega arith)) (ends s _ (delimited_white d _ h.5 refl))
      ∙ after_white r (at_key (tree.put (tree.key_of (tree_of k)) (tree_of s) ms) ∷ fs) d (44 ∷ (pairs_text ps ++ 125 ∷ xs)) h.5
      ∙ run_pairs ps r (tree.put (tree.key_of (tree_of k)) (tree_of s) ms) fs xs h.6 (λ e. (f e).3) (within_le r.limit _ _ m (omega arith)))

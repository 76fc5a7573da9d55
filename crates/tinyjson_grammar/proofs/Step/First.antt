-- What comes of the first character of a value, and of a letter of a literal.
use Rattle.std.proofs.Common.{IsSome, suc, ◌≡◌, ℕ, ◌+◌, true, false, List, [], ◌∷◌, ◌++◌, Option, Some, None, refl, ap, sym, append_assoc}
use Rattle.std.proofs.Common.{arith, length, ◌<◌, ◌⊎◌, inl, inr, IsTrue, ◌==◌}
use Rattle.std.specs.Char.{is_ascii_digit}
use Rattle.std.proofs.lemmas.Bool.{ltb-true, or_from}
use Rattle.tinyjson_grammar.specs.Machine.{strictly, Frame, Phase, first, awaited, literal, step_plain, step_awaited, step_first, start}
use Rattle.tinyjson_grammar.specs.Machine.{push_frame, fits}
use Rattle.tinyjson_grammar.specs.Tree.{no_members}
use Rattle.tinyjson_grammar.specs.Characters.{is_white}
use Rattle.tinyjson_grammar.specs.Syntax.{Syntax, null, empty_array, empty_object, IsWithin, depth, text, tree_of}
use Rattle.tinyjson_grammar.specs.Machine
use Rattle.tinyjson_grammar.specs.Prefix.{IsValue}
use Rattle.tinyjson_grammar.specs.Refusal.{EndsBefore, IsLiteral, begins_value}
use Rattle.tinyjson_grammar.proofs.Trace.Paths.{Path, outside, item_in, key_in, value_in, path_text, path_frames, level, IsPath}
use Rattle.tinyjson_grammar.proofs.Trace.State.{at_first, at_awaited, in_literal, in_digits, in_quoted, part_minus, part_integer, IsFresh}
use Rattle.tinyjson_grammar.proofs.Trace.State.{IsWithinLiteral, Spells, after_read}
use Rattle.tinyjson_grammar.proofs.Step.Awaits.{whiter, whiter_text, whiter_path, awaits_value}
use Rattle.tinyjson_grammar.proofs.Step.Statement.{Follows, either, at_code}
use Rattle.tinyjson_grammar.proofs.Step.Value.{complete_follows}
use Rattle.tinyjson_grammar.proofs.Step.Units.{settled_start}

pub whiter_fresh : (p : Path) (c : ℕ) → IsFresh p → IsFresh (whiter p c)
whiter_fresh (item_in p [] w) c h = tt
whiter_fresh (key_in p [] w) c h = tt
whiter_fresh _ c h = h

pub whiter_frames : (p : Path) (c : ℕ) → path_frames p ≡ path_frames (whiter p c)
whiter_frames (outside w) c = refl
whiter_frames _ c = refl

pub level_frames : (p : Path) → length (path_frames p) ≡ level p
level_frames (outside w) = refl
level_frames (item_in p es w) = ap suc (level_frames p)
level_frames (key_in p ps w) = ap suc (level_frames p)
level_frames (value_in p ps a k b w) = ap suc (level_frames p)

pub fits_within : (limit : Option ℕ) (n : ℕ) → fits limit n ≡ true → IsWithin limit (n + (1 + 0))
fits_within None n h = tt
fits_within (Some l) n h = omega (arith, ltb-true n l h)

limited : (limit : Option ℕ) (n : ℕ) → fits limit n ≡ false → IsSome limit
limited None n h = absurd cc
limited (Some l) n h = refl

pub none_begins : (c : ℕ) → (c == 110) ≡ false → (c == 116) ≡ false → (c == 102) ≡ false → (c == 34) ≡ false → (c == 91) ≡ false
    → (c == 123) ≡ false → (c == 45) ≡ false → is_ascii_digit c ≡ false → begins_value c ≡ false
none_begins c a b d e f g h i = or_from _ _ a (or_from _ _ b
    (or_from _ _ d (or_from _ _ e (or_from _ _ f (or_from _ _ g (or_from _ _ h i))))))

pub literal_begun : (limit : Option ℕ) (p : Path) → IsPath limit p → (s : Syntax) (c n : ℕ) (left : List ℕ)
    → IsWithinLiteral s (n ∷ []) left → c ≡ n → Spells limit (path_text p ++ c ∷ []) (path_frames p) (literal left (tree_of s))
literal_begun limit p hp s c n left h e = after_read (in_literal p s (n ∷ []) left) (hp, h) (ap (λ x. path_text p ++ x ∷ []) e)

pub push_follows : (limit : Option ℕ) (p q : Path) (f : Frame) (c : ℕ) → IsPath limit p → (c ≡ 91) ⊎ (c ≡ 123)
    → path_frames q ≡ f ∷ path_frames p → path_text p ++ c ∷ [] ≡ path_text q → IsFresh q
    → (IsWithin limit (level p + (1 + 0)) → IsPath limit q) → (fs : List Frame) (a : Phase) →
    Follows limit (path_text p) fs a c (push_frame (strictly limit) (path_frames p) f c)
push_follows limit p q f c hp hc hf ht hq h fs a = either limit (path_text p) fs a c (fits limit (length (path_frames p))) _ _
    (λ e. record {
      read = at_first q;
      is = (h (rw (← level_frames p) (fits_within limit (length (path_frames p)) e)), hq);
      whole = ht;
      frames = sym hf;
      phase = refl;
    }) (λ e more d. (((more, refl), hc, limited limit (length (path_frames p)) e), awaits_value limit p hp))

-- a literal, of which one letter was read
begun : (s : Syntax) (n : ℕ) (left : List ℕ) → IsValue s → depth s ≡ 0 → IsLiteral (text s) → text s ≡ n ∷ left
    → ((rest : List ℕ) → EndsBefore s rest) → 0 < length left → IsWithinLiteral s (n ∷ []) left
begun s n left v f l w e m = record { value = v; flat = f; is_literal = l; whole = w; no_number = e; begun = omega arith; more = m }

pub start_follows : (limit : Option ℕ) (p : Path) → IsPath limit p → (c : ℕ) → is_white c ≡ false → (fs : List Frame) (a : Phase)
    → Follows limit (path_text p) fs a c (start (strictly limit) (path_frames p) c)
start_follows limit p hp c hw fs a = at_code limit _ _ _ c 110 _ _ (λ e. literal_begun limit p hp null c 110 _
    (begun null 110 _ (record { spelled = tt; strict = tt }) refl (inl refl) refl (λ rest. tt) (omega arith)) e) (λ h0.
    at_code limit _ _ _ c 116 _ _ (λ e. literal_begun limit p hp (Syntax.boolean true) c 116 _
    (begun (Syntax.boolean true) 116 _ (record { spelled = tt; strict = tt }) refl (inr (inl refl)) refl (λ rest. tt) (omega arith)) e)
    (λ h1. at_code limit _ _ _ c 102 _ _ (λ e. literal_begun limit p hp (Syntax.boolean false) c 102 _
    (begun (Syntax.boolean false) 102 _ (record { spelled = tt; strict = tt }) refl (inr (inr refl)) refl (λ rest. tt) (omega arith)) e)
    (λ h2. at_code limit _ _ _ c 34 _ _ (λ e. after_read (in_quoted p [] [] [] Machine.plain) (hp, tt, settled_start, tt, tt)
    (ap (λ x. path_text p ++ x ∷ []) e)) (λ h3.
    at_code limit _ _ _ c 91 _ _ (λ e. push_follows limit p (item_in p [] []) (Machine.in_array []) c hp (inl e) refl
    (ap (λ x. path_text p ++ x ∷ []) e) tt (λ i. (hp, tt, tt, i)) fs a) (λ h4.
    at_code limit _ _ _ c 123 _ _ (λ e. push_follows limit p (key_in p [] []) (Machine.at_key no_members) c hp (inr e) refl
    (ap (λ x. path_text p ++ x ∷ []) e) tt (λ i. (hp, tt, tt, i)) fs a) (λ h5.
    at_code limit _ _ _ c 45 _ _ (λ e. after_read (in_digits p part_minus) (hp, tt) (ap (λ x. path_text p ++ x ∷ []) e)) (λ h6.
    either limit _ _ _ c (is_ascii_digit c) _ _ (λ e. after_read (in_digits p (part_integer false c [])) (hp, (e, tt)) refl) (λ h7 more d.
    (((more, refl), hw, none_begins c h0 h1 h2 h3 h4 h5 h6 h7), awaits_value limit p hp)))))))))

pub white_follows : (limit : Option ℕ) (p : Path) → IsPath limit p → (c : ℕ) → IsTrue (is_white c)
    → Spells limit (path_text p ++ c ∷ []) (path_frames p) awaited
white_follows limit p hp c hc = record {
  read = at_awaited (whiter p c);
  is = whiter_path limit p hp c hc;
  whole = whiter_text p c;
  frames = whiter_frames p c;
  phase = refl;
}

pub awaited_follows : (limit : Option ℕ) (p : Path) → IsPath limit p → (c : ℕ)
    → Follows limit (path_text p) (path_frames p) awaited c (step_awaited (strictly limit) (path_frames p) c)
awaited_follows limit p hp c = either limit _ _ _ c (is_white c) _ _ (λ hc. white_follows limit p hp c hc)
    (λ hc. start_follows limit p hp c hc _ _)

pub first_follows : (limit : Option ℕ) (p : Path) → IsPath limit p → IsFresh p → (c : ℕ) → is_white c ≡ false
    → Follows limit (path_text p) (path_frames p) first c (step_first (strictly limit) (path_frames p) c)
first_follows limit (outside w) hp hf c hc = elim hf [ ]
first_follows limit (item_in p [] w) hp hf c hc = at_code limit _ _ _ c 93 _ _
    (λ e. complete_follows limit p hp.0 (empty_array w) (record { spelled = hp.2; strict = tt }) hp.3 (λ rest. tt) _ _ _ c
    (rw e (simp append_assoc))) (λ e. start_follows limit (item_in p [] w) hp c hc _ _)
first_follows limit (key_in p [] w) hp hf c hc = at_code limit _ _ _ c 125 _ _
    (λ e. complete_follows limit p hp.0 (empty_object w) (record { spelled = hp.2; strict = tt }) hp.3 (λ rest. tt) _ _ _ c
    (rw e (simp append_assoc))) (λ e. start_follows limit (key_in p [] w) hp c hc _ _)
first_follows limit _ hp hf c hc = elim hf [ ]

pub at_first_follows : (limit : Option ℕ) (p : Path) → IsPath limit p → IsFresh p → (c : ℕ)
    → Follows limit (path_text p) (path_frames p) first c (step_plain (strictly limit) (path_frames p) first c)
at_first_follows limit p hp hf c = either limit _ _ _ c (is_white c) _ _ (λ hc. record {
  read = at_first (whiter p c);
  is = (whiter_path limit p hp c hc, whiter_fresh p c hf);
  whole = whiter_text p c;
  frames = whiter_frames p c;
  phase = refl;
}) (λ hc. first_follows limit p hp hf c hc)

-- Open containers, and what the events hold meanwhile.
use Rattle.std.proofs.Common.{◌≡◌, ℕ, ◌+◌, ◌-◌, List, [], ◌∷◌, ◌++◌, length, reverse, slice_set, suc}
use Rattle.std.proofs.Common.{refl, sym, ap, ap₂, ◌∙◌, subst, arith, Bool, true, false, true≢false, Option, Some, None, IsSome}
use Rattle.std.proofs.Common.{Result, Ok, Err, inr}
use Rattle.std.specs.Prelude.{OnOk, ◌↔◌, ◌<◌}
use Rattle.std.specs.Option.{option_to_list}
use Rattle.std.proofs.Math.Seq.{set-append_seam}
use Rattle.std.proofs.lemmas.List.{length-append, reverse-append, reverse-reverse}
use Rattle.tinyjson_grammar.specs.Machine.{Frame, in_array, at_key, at_value, complete}
use Rattle.tinyjson_grammar.specs.Tree.{Tree, is_string, literal_tree}
use Rattle.tinyjson_grammar.specs.declared.error.JsonParseErrorKind.{JsonParseErrorKind}
use Rattle.tinyjson_tokens.specs.Steps.{IsNext}
use Rattle.tinyjson.specs.Events.{Puts}
use Rattle.tinyjson.specs.private.Building.{Agree, AgreeAround, Completed, Completes, IsOpen, IsWithin, Joins, Stands, TakesValue}
use Rattle.tinyjson.specs.private.Building.{awaited_of}
use Rattle.tinyjson.specs.declared.parser.nest.Progress.{Progress}
use Rattle.tinyjson.specs.declared.parser.nest.Awaited.{Awaited}
use Rattle.tinyjson.specs.declared.parser.nest.Awaited.TheVariants.{Item, Key, Value}
use Rattle.tinyjson.specs.declared.parser.nest.Nest.{Nest}

pub agree_length : (os : List Awaited) (fs : List Frame) → Agree os fs → length os ≡ length fs
agree_length [] [] h = refl
agree_length [] (f ∷ fs) h = absurd h
agree_length (o ∷ os) [] h = absurd (none o h)
  where
    none : (o : Awaited) → Agree (o ∷ os) [] → ⊥
    none Item k = k
    none Key k = k
    none Value k = k
agree_length (Item ∷ os) (in_array ts ∷ fs) h = ap suc (agree_length os fs h)
agree_length (Item ∷ os) (at_key ms ∷ fs) h = absurd h
agree_length (Item ∷ os) (at_value ms k ∷ fs) h = absurd h
agree_length (Key ∷ os) (in_array ts ∷ fs) h = absurd h
agree_length (Key ∷ os) (at_key ms ∷ fs) h = ap suc (agree_length os fs h)
agree_length (Key ∷ os) (at_value ms k ∷ fs) h = absurd h
agree_length (Value ∷ os) (in_array ts ∷ fs) h = absurd h
agree_length (Value ∷ os) (at_key ms ∷ fs) h = absurd h
agree_length (Value ∷ os) (at_value ms k ∷ fs) h = ap suc (agree_length os fs h)

agree_around : (os : List Awaited) (f : Frame) (fs : List Frame) → Agree os (f ∷ fs) → AgreeAround os fs
agree_around [] f fs h = absurd h
agree_around (Item ∷ os) (in_array ts) fs h = h
agree_around (Item ∷ os) (at_key ms) fs h = absurd h
agree_around (Item ∷ os) (at_value ms k) fs h = absurd h
agree_around (Key ∷ os) (in_array ts) fs h = absurd h
agree_around (Key ∷ os) (at_key ms) fs h = h
agree_around (Key ∷ os) (at_value ms k) fs h = absurd h
agree_around (Value ∷ os) (in_array ts) fs h = absurd h
agree_around (Value ∷ os) (at_key ms) fs h = absurd h
agree_around (Value ∷ os) (at_value ms k) fs h = h

-- the containers around the innermost, once it is closed
pub agree_popped : (n : ℕ) (xs ys : List Awaited) (o : Option Awaited) (fs : List Frame) → n ≡ length xs → xs ≡ ys ++ option_to_list o
    → (IsSome o ↔ (0 < n)) → AgreeAround (reverse xs) fs → Agree (reverse ys) fs
agree_popped n xs ys (Some x) fs l e v h = subst (λ zs. AgreeAround zs fs) (ap reverse e ∙ reverse-append ys (x ∷ [])) h
agree_popped n [] ys None fs l e v h = absurd h
agree_popped n (x ∷ xs) ys None fs l e v h = let k : 0 < n = omega (arith, l) in absurd (true≢false (sym (v.1 k)))

-- another element in the place of the last
pub last_set : {T : Type 0} (n : ℕ) (xs : List T) (o a : T) (os : List T) → n ≡ length xs → reverse xs ≡ o ∷ os
    → reverse (slice_set xs (n - 1) a) ≡ a ∷ os
last_set n xs o a os l e =
    let whole : xs ≡ reverse os ++ o ∷ [] = sym (reverse-reverse xs) ∙ ap reverse e ∙ reverse-append (o ∷ []) os in
    let size : length xs ≡ length (reverse os) + 1 = ap length whole ∙ length-append (reverse os) (o ∷ []) in
    let at : n - 1 ≡ length (reverse os) = omega (arith, l, size) in
    ap reverse (ap₂ (λ ys i. slice_set ys i a) whole at ∙ set-append_seam (reverse os) o [] a) ∙ reverse-append (reverse os) (a ∷ [])
    ∙ ap (λ ys. a ∷ ys) (reverse-reverse os)

module _ {B X : Type 0} (holds : B → List Frame → Type 0) where
  pub within : (s : Nest B X) (f : Frame) (fs : List Frame) → IsOpen holds s (f ∷ fs) → IsWithin holds s f fs
  within s f fs h = (h.0, agree_around (awaited_of s) f fs h.1, h.2)

  -- the innermost container awaits something else
  pub renewed : (old new : Nest B X) (a : Awaited) (f : Frame) (fs : List Frame) → holds new.events (f ∷ fs)
      → AgreeAround (awaited_of old) fs → new.stopped ≡ None
      → ((o : Awaited) (os : List Awaited) → awaited_of old ≡ o ∷ os → awaited_of new ≡ a ∷ os)
      → ((os : List Awaited) → Agree os fs → Agree (a ∷ os) (f ∷ fs)) → IsOpen holds new (f ∷ fs)
  renewed old new a f fs h around n k same = by (awaited_of old) around k
    where
      by : (ps : List Awaited) → AgreeAround ps fs → ((o : Awaited) (os : List Awaited) → ps ≡ o ∷ os → awaited_of new ≡ a ∷ os)
          → IsOpen holds new (f ∷ fs)
      by [] w go = absurd w
      by (o ∷ os) w go = (h, subst (λ ps. Agree ps (f ∷ fs)) (sym (go o os refl)) (same os w), n)

pub literal_no_string : (o : Option Bool) → is_string (literal_tree o) ≡ false
literal_no_string None = refl
literal_no_string (Some b) = refl

module _ {B : Type 0} (holds : B → List Frame → Type 0) (is : B → Tree → Type 0) where
  -- a value is complete, and was put where it belongs, if there was memory
  put_completes : (b : B) (os : List Awaited) (fs : List Frame) (t : Tree) → Agree os fs → TakesValue fs → Puts holds is fs t b
      → Completes holds is b os (complete true fs t true)
  put_completes b [] [] t a v p = (t, refl, p)
  put_completes b [] (f ∷ fs) t a v p = absurd a
  put_completes b (o ∷ os) [] t a v p = absurd (none o a)
    where
      none : (o : Awaited) → Agree (o ∷ os) [] → ⊥
      none Item k = k
      none Key k = k
      none Value k = k
  put_completes b (Item ∷ os) (in_array ts ∷ fs) t a v p = (_, fs, refl, p, a)
  put_completes b (Item ∷ os) (at_key ms ∷ fs) t a v p = absurd a
  put_completes b (Item ∷ os) (at_value ms k ∷ fs) t a v p = absurd a
  put_completes b (Key ∷ os) (in_array ts ∷ fs) t a v p = absurd a
  put_completes b (Key ∷ os) (at_key ms ∷ fs) t a v p = absurd v
  put_completes b (Key ∷ os) (at_value ms k ∷ fs) t a v p = absurd a
  put_completes b (Value ∷ os) (in_array ts ∷ fs) t a v p = absurd a
  put_completes b (Value ∷ os) (at_key ms ∷ fs) t a v p = absurd a
  put_completes b (Value ∷ os) (at_value ms k ∷ fs) t a v p = (_, fs, refl, p, a)

goes_on : (fs : List Frame) (t : Tree) → TakesValue fs → IsNext (complete true fs t true)
goes_on [] t v = tt
goes_on (in_array ts ∷ fs) t v = tt
goes_on (at_key ms ∷ fs) t v = absurd v
goes_on (at_value ms k ∷ fs) t v = tt

module _ {B X : Type 0} (holds : B → List Frame → Type 0) (is : B → Tree → Type 0) where
  pub put_joins : (s new : Nest B X) (fs : List Frame) (t : Tree) (put : Result (Unit {0}) X) (r : Result Progress JsonParseErrorKind)
      → Agree (awaited_of s) fs → s.stopped ≡ None → TakesValue fs → OnOk put (Puts holds is fs t s.events) → Completed put r s new
      → Joins holds is (complete true fs t true) r new
  put_joins s new fs t put (Ok u) a n v p e =
      let told : Puts holds is fs t s.events = subst (λ o. OnOk o (Puts holds is fs t s.events)) e.1 p in
      subst (λ z. Stands holds is z u (complete true fs t true)) (sym e.2) (subst (λ w. Stands holds is s w (complete true fs t true)) (sym e.0)
      (put_completes holds is s.events (awaited_of s) fs t a v told, n))
  put_joins s new fs t put (Err k) a n v p e = inr (e.0, goes_on fs t v)

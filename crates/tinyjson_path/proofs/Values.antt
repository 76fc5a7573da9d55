-- Slices of a tree, and texts that are written.
use Rattle.std.proofs.Common.{◌≡◌, ℕ, ℤ, pos, negsuc, List, [], Option, Some, None, Global, String, string_bytes}
use Rattle.std.proofs.Common.{OnOk, Result, Ok, Err, is_ok}
use Rattle.std.proofs.Common.{if◌then◌else◌, true, reverse, ◌++◌, sym, ap, ◌∙◌, subst, append_assoc, refl}
use Rattle.std.proofs.lemmas.Str.{chars-append, chars-IsAscii}
use Rattle.tinyjson.proofs.Callers.{are_ascii, IsAscii_literal, IsUtf8-string_bytes}
use Rattle.std.specs.Str.{chars}
use Rattle.std.specs.declared.alloc.AllocError.{AllocError}
use Rattle.tinyjson.specs.Tree.{Tree, array, Items, no_items}
use Rattle.tinyjson.specs.View.{text}
use Rattle.tinyjson_document.specs.Parts.{items_in as listed_items}
use Rattle.tinyjson_path.specs.Nodes.{Step, Part}
use Rattle.tinyjson_path.specs.Selecting.{taken, up, down, by_steps, by_slice, items_in}
use Rattle.tinyjson_path.specs.Slices.{clamped, clamped_after, bound_or, is_up, is_down}
use Rattle.tinyjson_path.specs.Seen.{steps_of}
use Rattle.tinyjson_path.specs.declared.slice.Steps.{Steps}
use Rattle.tinyjson_path.specs.declared.slice.Steps.TheVariants.{Up, Down}

-- ---- a slice

abbrev size_of : Steps → ℕ
size_of (Up n) = n
size_of (Down n) = n

steps_up : (path : List Step) (start end step : Option ℤ) (n len : ℕ) (ts : Items) → Up n ≡ steps_of step
    → up path start end n ts len ≡ by_steps path start end step ts len
steps_up path start end None n len ts e = ap (λ m. up path start end m ts len) (ap size_of e)
steps_up path start end (Some (pos m)) n len ts e = ap (λ m. up path start end m ts len) (ap size_of e)
steps_up path start end (Some (negsuc m)) n len ts e = cc

steps_down : (path : List Step) (start end step : Option ℤ) (n len : ℕ) (ts : Items) → Down n ≡ steps_of step
    → down path start end n ts len ≡ by_steps path start end step ts len
steps_down path start end None n len ts e = cc
steps_down path start end (Some (pos m)) n len ts e = cc
steps_down path start end (Some (negsuc m)) n len ts e = ap (λ m. down path start end m ts len) (ap size_of e)

no_steps : (path : List Step) (start end step : Option ℤ) (len : ℕ) → by_steps path start end step no_items len ≡ []
no_steps path start end None len = refl
no_steps path start end (Some (pos n)) len = refl
no_steps path start end (Some (negsuc n)) len = refl

module _ (t : Tree) (path : List Step) (start end step : Option ℤ) where
  slice_is : by_steps path start end step (listed_items t) (items_in t) ≡ by_slice path start end step t
  slice_is = by t
    where
      by : (u : Tree) → by_steps path start end step (listed_items u) (items_in u) ≡ by_slice path start end step u
      by (array ts) = refl
      by _ = no_steps path start end step 0

  pub up_is : (n len low high : ℕ) → Up n ≡ steps_of step → len ≡ items_in t → low ≡ bound_or clamped start len 0
      → high ≡ bound_or clamped end len len → taken (is_up low high n) path 0 (listed_items t) ≡ by_slice path start end step t
  up_is n len low high z k a b =
      (λ i. taken (is_up (a i) (b i) n) path 0 (listed_items t))
      ∙ (ap (λ j. up path start end n (listed_items t) j) k ∙ (steps_up path start end step n (items_in t) (listed_items t) z ∙ slice_is))

  pub down_is : (n len low high : ℕ) → Down n ≡ steps_of step → len ≡ items_in t → low ≡ bound_or clamped_after end len 0
      → high ≡ bound_or clamped_after start len len
      → reverse (taken (is_down low high n) path 0 (listed_items t)) ≡ by_slice path start end step t
  down_is n len low high z k a b =
      (λ i. reverse (taken (is_down (a i) (b i) n) path 0 (listed_items t)))
      ∙ (ap (λ j. down path start end n (listed_items t) j) k
      ∙ (steps_down path start end step n (items_in t) (listed_items t) z ∙ slice_is))

-- ---- texts

pub words_pushed : (r : Result (Unit {0}) AllocError) (new old : String Global) (ws : List ℕ)
    → string_bytes new ≡ if◌then◌else◌ (is_ok r) (string_bytes old ++ ws) (string_bytes old) → OnOk r (text new ≡ text old ++ chars ws)
words_pushed (Ok x) new old ws h = ap chars h ∙ chars-append (string_bytes old) ws (IsUtf8-string_bytes old)
words_pushed (Err e) new old ws h = tt

-- what was appended, in other words
pub pushed_as : (r : Result (Unit {0}) AllocError) (new old x y : List ℕ) → x ≡ y → OnOk r (new ≡ old ++ x) → OnOk r (new ≡ old ++ y)
pushed_as r new old x y e h = subst (λ z. OnOk r (new ≡ old ++ z)) e h

-- the same of a text of ASCII
pub ascii_pushed : (r : Result (Unit {0}) AllocError) (new old bs y : List ℕ) → are_ascii bs ≡ true → bs ≡ y
    → OnOk r (new ≡ old ++ chars bs) → OnOk r (new ≡ old ++ y)
ascii_pushed r new old bs y a e h = pushed_as r new old (chars bs) y (chars-IsAscii bs (IsAscii_literal bs a) ∙ e) h

-- after others
pub pushed_after : (r : Result (Unit {0}) AllocError) (new mid old x y : List ℕ) → mid ≡ old ++ x → OnOk r (new ≡ mid ++ y)
    → OnOk r (new ≡ old ++ (x ++ y))
pushed_after r new mid old x y e h = subst (λ z. OnOk r (new ≡ z)) (ap (λ z. z ++ y) e ∙ append_assoc old x y) h

pub ascii_chars : (bs : List ℕ) → are_ascii bs ≡ true → chars bs ≡ bs
ascii_chars bs a = chars-IsAscii bs (IsAscii_literal bs a)

-- Open containers, as the machine sees them.
use Rattle.std.proofs.Common.{◌≡◌, ℕ, true, false, List, [], ◌∷◌, length, Option, Some, None, IfSome, refl, sym, ap, ◌∙◌}
use Rattle.std.proofs.lemmas.Bool.{ne_eqb}
use Rattle.tinyjson_grammar.specs.Tree.{Tree, items_of, Members, no_members, array, object}
use Rattle.tinyjson_grammar.specs.Characters.{is_white}
use Rattle.tinyjson_grammar.specs.Machine.{step, fits, Frame, in_array, at_key, at_value, colon, first, awaited, after, Next}
use Rattle.tinyjson_grammar.specs.Machine.{next, stop, complete}
use Rattle.tinyjson_grammar.specs.declared.error.JsonParseErrorKind.TheVariants.{TooDeep, ExpectedCommaOrBracket}
use Rattle.tinyjson_grammar.specs.declared.error.JsonParseErrorKind.TheVariants.{ExpectedCommaOrBrace, ExpectedColon}
use Rattle.tinyjson_tokens.specs.Source.{Sight, Takes}
use Rattle.tinyjson_tokens.specs.Steps.{onward, Leads}
use Rattle.tinyjson_tokens.proofs.Callers.{Leads_nil, Leads_one, Leads_shown, Leads_end, end_first, end_awaited}

-- ---- the limit on depth

pub bracket_opens : (limit : Option ℕ) (fs : List Frame) → fits limit (length fs) ≡ true
    → onward limit (next fs awaited) 91 ≡ next (in_array [] ∷ fs) first
unfolding step
bracket_opens limit fs h = rw h refl

pub brace_opens : (limit : Option ℕ) (fs : List Frame) → fits limit (length fs) ≡ true
    → onward limit (next fs awaited) 123 ≡ next (at_key no_members ∷ fs) first
unfolding step
brace_opens limit fs h = rw h refl

pub bracket_too_deep : (limit : Option ℕ) (fs : List Frame) → fits limit (length fs) ≡ false
    → onward limit (next fs awaited) 91 ≡ stop (TooDeep 91) false
unfolding step
bracket_too_deep limit fs h = rw h refl

pub brace_too_deep : (limit : Option ℕ) (fs : List Frame) → fits limit (length fs) ≡ false
    → onward limit (next fs awaited) 123 ≡ stop (TooDeep 123) false
unfolding step
brace_too_deep limit fs h = rw h refl

-- ---- arrays

-- the bracket that closes an array; what follows one that was opened
pub array_closes_first : (limit : Option ℕ) (fs : List Frame) (c : ℕ) → c ≡ 93
    → onward limit (next (in_array [] ∷ fs) first) c ≡ complete true fs (array (items_of [])) true
unfolding step
array_closes_first limit fs c e = rw e refl

pub array_opens : (limit : Option ℕ) (fs : List Frame) (c : ℕ) → is_white c ≡ false → (c ≡ 93 → ⊥)
    → onward limit (next (in_array [] ∷ fs) first) c ≡ onward limit (next (in_array [] ∷ fs) awaited) c
unfolding step
array_opens limit fs c w n = rw (w, ne_eqb c 93 n) refl

pub array_closes : (limit : Option ℕ) (fs : List Frame) (ts : List Tree) (c : ℕ) → c ≡ 93
    → onward limit (next (in_array ts ∷ fs) after) c ≡ complete true fs (array (items_of ts)) true
unfolding step
array_closes limit fs ts c e = rw e refl

pub array_comma : (limit : Option ℕ) (fs : List Frame) (ts : List Tree) (c : ℕ) → c ≡ 44
    → onward limit (next (in_array ts ∷ fs) after) c ≡ next (in_array ts ∷ fs) awaited
unfolding step
array_comma limit fs ts c e = rw e refl

pub array_other : (limit : Option ℕ) (fs : List Frame) (ts : List Tree) (c : ℕ) → is_white c ≡ false → (c ≡ 44 → ⊥) → (c ≡ 93 → ⊥)
    → onward limit (next (in_array ts ∷ fs) after) c ≡ stop (ExpectedCommaOrBracket c) true
unfolding step
array_other limit fs ts c w n m = rw (w, ne_eqb c 44 n, ne_eqb c 93 m) refl

-- no bracket closes the array that was just opened
pub array_goes_on : {S : Type 0} (sight : Sight S) (limit : Option ℕ) (p q : S) {n : Next} (fs : List Frame) (o : Option ℕ)
    → Leads sight limit p n q (next (in_array [] ∷ fs) first) → sight.shows q o → IfSome o (λ c. is_white c ≡ false)
    → IfSome o (λ c. c ≡ 93 → ⊥) → Leads sight limit p n q (next (in_array [] ∷ fs) awaited)
array_goes_on sight limit p q fs None l s w k = Leads_end sight limit p q l s (end_first limit _ ∙ sym (end_awaited limit _)) tt
array_goes_on sight limit p q fs (Some c) l s w k = Leads_shown sight limit p q c l s (array_opens limit fs c w k) tt

-- ---- objects

pub object_closes_first : (limit : Option ℕ) (fs : List Frame) (c : ℕ) → c ≡ 125
    → onward limit (next (at_key no_members ∷ fs) first) c ≡ complete true fs (object no_members) true
unfolding step
object_closes_first limit fs c e = rw e refl

pub object_opens : (limit : Option ℕ) (fs : List Frame) (c : ℕ) → is_white c ≡ false → (c ≡ 125 → ⊥)
    → onward limit (next (at_key no_members ∷ fs) first) c ≡ onward limit (next (at_key no_members ∷ fs) awaited) c
unfolding step
object_opens limit fs c w n = rw (w, ne_eqb c 125 n) refl

pub object_closes : (limit : Option ℕ) (fs : List Frame) (ms : Members) (c : ℕ) → c ≡ 125
    → onward limit (next (at_key ms ∷ fs) after) c ≡ complete true fs (object ms) true
unfolding step
object_closes limit fs ms c e = rw e refl

pub object_comma : (limit : Option ℕ) (fs : List Frame) (ms : Members) (c : ℕ) → c ≡ 44
    → onward limit (next (at_key ms ∷ fs) after) c ≡ next (at_key ms ∷ fs) awaited
unfolding step
object_comma limit fs ms c e = rw e refl

pub object_other : (limit : Option ℕ) (fs : List Frame) (ms : Members) (c : ℕ) → is_white c ≡ false → (c ≡ 44 → ⊥) → (c ≡ 125 → ⊥)
    → onward limit (next (at_key ms ∷ fs) after) c ≡ stop (ExpectedCommaOrBrace c) true
unfolding step
object_other limit fs ms c w n m = rw (w, ne_eqb c 44 n, ne_eqb c 125 m) refl

pub colon_read : (limit : Option ℕ) (fs : List Frame) (ms : Members) (k : List ℕ) (c : ℕ) → c ≡ 58
    → onward limit (next (at_key ms ∷ fs) (colon k)) c ≡ next (at_value ms k ∷ fs) awaited
unfolding step
colon_read limit fs ms k c e = rw e refl

pub colon_other : (limit : Option ℕ) (fs : List Frame) (ms : Members) (k : List ℕ) (c : ℕ) → is_white c ≡ false → (c ≡ 58 → ⊥)
    → onward limit (next (at_key ms ∷ fs) (colon k)) c ≡ stop (ExpectedColon c) true
unfolding step
colon_other limit fs ms k c w n = rw (w, ne_eqb c 58 n) refl

-- no brace closes the object that was just opened
pub object_goes_on : {S : Type 0} (sight : Sight S) (limit : Option ℕ) (p q : S) {n : Next} (fs : List Frame) (o : Option ℕ)
    → Leads sight limit p n q (next (at_key no_members ∷ fs) first) → sight.shows q o → IfSome o (λ c. is_white c ≡ false)
    → IfSome o (λ c. c ≡ 125 → ⊥) → Leads sight limit p n q (next (at_key no_members ∷ fs) awaited)
object_goes_on sight limit p q fs None l s w k = Leads_end sight limit p q l s (end_first limit _ ∙ sym (end_awaited limit _)) tt
object_goes_on sight limit p q fs (Some c) l s w k = Leads_shown sight limit p q c l s (object_opens limit fs c w k) tt

-- ---- a container that begins

module _ {S : Type 0} (sight : Sight S) (limit : Option ℕ) (p q : S) (fs : List Frame) (n : ℕ) (d : n ≡ length fs) where
  pub array_begins : fits limit n ≡ true → Takes sight p (91 ∷ []) q → Leads sight limit p (next fs awaited) q
      (next (in_array [] ∷ fs) first)
  array_begins h t = Leads_one sight limit p p q 91 (Leads_nil sight limit p (next fs awaited)) t tt
      (bracket_opens limit fs (ap (fits limit) (sym d) ∙ h)) tt

  pub object_begins : fits limit n ≡ true → Takes sight p (123 ∷ []) q
      → Leads sight limit p (next fs awaited) q (next (at_key no_members ∷ fs) first)
  object_begins h t = Leads_one sight limit p p q 123 (Leads_nil sight limit p (next fs awaited)) t tt
      (brace_opens limit fs (ap (fits limit) (sym d) ∙ h)) tt

  pub array_too_deep : fits limit n ≡ false → sight.shows p (Some 91) → Leads sight limit p (next fs awaited) p (stop (TooDeep 91) true)
  array_too_deep h s = Leads_shown sight limit p p 91 (Leads_nil sight limit p (next fs awaited)) s
      (bracket_too_deep limit fs (ap (fits limit) (sym d) ∙ h)) tt

  pub object_too_deep : fits limit n ≡ false → sight.shows p (Some 123) → Leads sight limit p (next fs awaited) p (stop (TooDeep 123) true)
  object_too_deep h s = Leads_shown sight limit p p 123 (Leads_nil sight limit p (next fs awaited)) s
      (brace_too_deep limit fs (ap (fits limit) (sym d) ∙ h)) tt

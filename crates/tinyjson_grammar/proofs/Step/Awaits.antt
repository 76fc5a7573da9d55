-- A place where a value is awaited.
use Rattle.std.proofs.Common.{◌≡◌, ℕ, List, [], ◌∷◌, ◌++◌, Option, refl, ap, sym, ◌∙◌, append_assoc, subst, IsTrue}
use Rattle.tinyjson_grammar.specs.Characters.{is_white}
use Rattle.tinyjson_grammar.specs.Syntax.{Syntax}
use Rattle.tinyjson_grammar.specs.Prefix.{IsLooselyViable}
use Rattle.tinyjson_grammar.specs.Refusal.{AwaitsValue, BeginsAt}
use Rattle.tinyjson_grammar.proofs.Trace.Paths.{Path, outside, item_in, key_in, value_in, path_text, IsPath}
use Rattle.tinyjson_grammar.proofs.Trace.State.{ends_loosely, are_white_append}
use Rattle.tinyjson_grammar.proofs.Prefix.Viable.{error_free_place}

-- one more white character
abbrev pub whiter : Path → ℕ → Path
whiter (outside w) c = outside (w ++ c ∷ [])
whiter (item_in p es w) c = item_in p es (w ++ c ∷ [])
whiter (key_in p ps w) c = key_in p ps (w ++ c ∷ [])
whiter (value_in p ps a k b w) c = value_in p ps a k b (w ++ c ∷ [])

pub whiter_text : (p : Path) (c : ℕ) → path_text p ++ c ∷ [] ≡ path_text (whiter p c)
whiter_text (outside w) c = refl
whiter_text _ c = simp append_assoc

pub whiter_path : (limit : Option ℕ) (p : Path) → IsPath limit p → (c : ℕ) → IsTrue (is_white c) → IsPath limit (whiter p c)
whiter_path limit (outside w) h c hc = are_white_append w (c ∷ []) h (hc, tt)
whiter_path limit (item_in p es w) h c hc = (h.0, h.1, are_white_append w (c ∷ []) h.2 (hc, tt), h.3)
whiter_path limit (key_in p ps w) h c hc = (h.0, h.1, are_white_append w (c ∷ []) h.2 (hc, tt), h.3)
whiter_path limit (value_in p ps a k b w) h c hc = (h.0, h.1, h.2, h.3, h.4, h.5, are_white_append w (c ∷ []) h.6 (hc, tt), h.7)

pub awaits_value : (limit : Option ℕ) (p : Path) → IsPath limit p → AwaitsValue limit (path_text p)
awaits_value limit p hp =
    let a : IsLooselyViable limit (path_text (whiter p 10) ++ 34 ∷ []) =
    ends_loosely limit (whiter p 10) (whiter_path limit p hp 10 refl) (34 ∷ [])
    (record { value = Syntax.string []; spelled = tt; flat = refl; rest = 34 ∷ []; whole = refl }) in (
      error_free_place limit p hp,
      subst (IsLooselyViable limit) (ap (λ xs. xs ++ 34 ∷ []) (sym (whiter_text p 10))
          ∙ append_assoc (path_text p) (10 ∷ []) (34 ∷ [])) a,
    )

-- what stands after the place begins there
pub begins_at : (limit : Option ℕ) (p : Path) → IsPath limit p → (used token : List ℕ) → used ≡ path_text p ++ token
    → BeginsAt limit used token
begins_at limit p hp used token e = record { prefix = path_text p; whole = e; awaited = awaits_value limit p hp }

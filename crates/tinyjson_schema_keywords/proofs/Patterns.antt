-- What patterns answer is right.
use Rattle.std.proofs.Common.{◌≡◌, ◌↔◌, ℕ, Bool, true, false, IsTrue, List, Option, Some, None, sym, ap, ◌∙◌}
use Rattle.text_iregexp.proofs.Callers.{matched_as, reads_pattern, reads_found, is_pattern_none, is_found_none}
use Rattle.text_iregexp.specs.Deciding.{matches}
use Rattle.text_regexp.specs.Forms.{Matches}
use Rattle.text_iregexp.specs.PatternDeciding.{is_pattern, is_found}
use Rattle.text_iregexp.specs.PatternReading.{IsNone, IsReading, texts_of}
use Rattle.text_iregexp.specs.declared.pattern.SchemaPattern.{SchemaPattern}
use Rattle.tinyjson_schema_keywords.specs.Patterns.{answer_of}

-- a text that was read
pub answers_read : (ps : List ℕ) (x : SchemaPattern) → IsReading ps x → (cs : List ℕ) → is_found ps cs ≡ answer_of (Some x) cs
answers_read ps x r cs = reads_found ps cs x r

pub is_read : (ps : List ℕ) (x : SchemaPattern) → IsReading ps x → true ≡ is_pattern ps
is_read ps x r = sym (reads_pattern ps x r)

-- a text that is no pattern
pub answers_nothing : (ps : List ℕ) → IsNone ps → (cs : List ℕ) → is_found ps cs ≡ answer_of None cs
answers_nothing ps n cs = is_found_none ps cs n

pub is_nothing : (ps : List ℕ) → IsNone ps → false ≡ is_pattern ps
is_nothing ps n = sym (is_pattern_none ps n)

-- what was answered of a text is right
pub found_right : (ps cs : List ℕ) (o : Option SchemaPattern) (x : SchemaPattern) (b : Bool)
    → ((ds : List ℕ) → is_found ps ds ≡ answer_of o ds) → o ≡ Some x → (IsTrue b ↔ Matches (texts_of x) cs) → b ≡ is_found ps cs
found_right ps cs o x b k e h = matched_as (texts_of x) cs b h ∙ sym (k cs ∙ ap (λ q. answer_of q cs) e)

pub found_nowhere : (ps cs : List ℕ) (o : Option SchemaPattern) → ((ds : List ℕ) → is_found ps ds ≡ answer_of o ds) → o ≡ None
    → false ≡ is_found ps cs
found_nowhere ps cs o k e = sym (k cs ∙ ap (λ q. answer_of q cs) e)

-- the same pattern once more answers the same
pub answers_same : (x y : SchemaPattern) → texts_of y ≡ texts_of x → (cs : List ℕ) → answer_of (Some x) cs ≡ answer_of (Some y) cs
answers_same x y e cs = ap (λ f. matches f cs) (sym e)

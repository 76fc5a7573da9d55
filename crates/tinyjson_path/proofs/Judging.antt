-- What patterns answer is right.
use Rattle.std.proofs.Common.{◌≡◌, ◌↔◌, ℕ, Bool, IsTrue, List, Option, Some, None, Global, String, string_bytes, bytes_eq, sym, ap, ap₂}
use Rattle.std.proofs.Common.{◌∙◌, false, refl}
use Rattle.std.proofs.lemmas.Slice.Eq.{bytes_eq-Decides}
use Rattle.std.specs.Str.{chars}
use Rattle.text_iregexp.proofs.Callers.{matched_as, searched_as, reads_matches, reads_searches, nothing_matches, nothing_searches}
use Rattle.text_iregexp.proofs.Callers.{pattern_matches_sound, pattern_matches_complete}
use Rattle.text_iregexp.proofs.Callers.{pattern_searches_sound, pattern_searches_complete}
use Rattle.text_iregexp.specs.Deciding.{matches, searches}
use Rattle.text_regexp.specs.Forms.{Matches, Searches}
use Rattle.text_iregexp.specs.Grammar.{Regexp, IsText}
use Rattle.text_iregexp.specs.Regexps.{form_in, IsReading}
use Rattle.text_iregexp.specs.declared.regexp.IRegexp.{IRegexp}
use Rattle.tinyjson_path.specs.Patterns.{IsRight, judged, answer_of, holds_of_trees}
use Rattle.tinyjson_path_query.specs.declared.query.PatternFunction.{PatternFunction}
use Rattle.tinyjson.specs.Tree.{Tree, null, boolean, number, string, array, object}
use Rattle.tinyjson.specs.View.{text}
use Rattle.tinyjson_document.specs.Parts.{string_in}
use Rattle.tinyjson_path_query.specs.declared.query.PatternFunction.TheVariants.{Match, Search}

pub judged_right : IsRight judged
judged_right Match ps cs = (pattern_matches_sound ps cs, pattern_matches_complete ps cs)
judged_right Search ps cs = (pattern_searches_sound ps cs, pattern_searches_complete ps cs)

-- a text that was read
pub answers_read : (ps : List ℕ) (x : IRegexp) → IsReading ps x → (f : PatternFunction) (cs : List ℕ)
    → judged f ps cs ≡ answer_of (Some x) f cs
answers_read ps x r Match cs = reads_matches ps cs x r
answers_read ps x r Search cs = reads_searches ps cs x r

-- a text that is no regular expression
pub answers_nothing : (ps : List ℕ) → ((r : Regexp) → IsText ps r → ⊥) → (f : PatternFunction) (cs : List ℕ)
    → judged f ps cs ≡ answer_of None f cs
answers_nothing ps n Match cs = nothing_matches ps cs n
answers_nothing ps n Search cs = nothing_searches ps cs n

-- the same regular expression once more answers the same
pub answers_same : (x y : IRegexp) → form_in y ≡ form_in x → (f : PatternFunction) (cs : List ℕ)
    → answer_of (Some x) f cs ≡ answer_of (Some y) f cs
answers_same x y e Match cs = ap (λ f. matches f cs) (sym e)
answers_same x y e Search cs = ap (λ f. searches f cs) (sym e)

-- what was answered of the whole text, or of a part, is right
pub matched_right : (ps cs : List ℕ) (o : Option IRegexp) (x : IRegexp) (g : PatternFunction) (b : Bool)
    → ((f : PatternFunction) (ds : List ℕ) → judged f ps ds ≡ answer_of o f ds) → o ≡ Some x → g ≡ Match
    → (IsTrue b ↔ Matches (form_in x) cs) → b ≡ judged g ps cs
matched_right ps cs o x g b k e m h =
    matched_as (form_in x) cs b h
    ∙ (sym (k Match cs ∙ ap (λ q. answer_of q Match cs) e) ∙ ap (λ f. judged f ps cs) (sym m))

pub searched_right : (ps cs : List ℕ) (o : Option IRegexp) (x : IRegexp) (g : PatternFunction) (b : Bool)
    → ((f : PatternFunction) (ds : List ℕ) → judged f ps ds ≡ answer_of o f ds) → o ≡ Some x → g ≡ Search
    → (IsTrue b ↔ Searches (form_in x) cs) → b ≡ judged g ps cs
searched_right ps cs o x g b k e m h =
    searched_as (form_in x) cs b h
    ∙ (sym (k Search cs ∙ ap (λ q. answer_of q Search cs) e) ∙ ap (λ f. judged f ps cs) (sym m))

-- of two strings, and of other values
pub strings_judged : (f : PatternFunction) (t u : Tree) (cs ps : List ℕ) → Some cs ≡ string_in t → Some ps ≡ string_in u
    → judged f ps cs ≡ holds_of_trees judged f t u
strings_judged f (string ds) (string qs) cs ps e h =
    let text : cs ≡ ds = cc in let pattern : ps ≡ qs = cc in ap₂ (λ x y. judged f x y) pattern text
strings_judged f (string ds) _ cs ps e h = absurd cc
strings_judged f _ u cs ps e h = absurd cc

pub no_text_judged : (f : PatternFunction) (t u : Tree) → None ≡ string_in t → false ≡ holds_of_trees judged f t u
no_text_judged f (string ds) u e = absurd cc
no_text_judged f _ u e = refl

pub no_pattern_judged : (f : PatternFunction) (t u : Tree) → None ≡ string_in u → false ≡ holds_of_trees judged f t u
no_pattern_judged f (string ds) (string qs) e = absurd cc
no_pattern_judged f _ _ e = refl

-- of a pattern that is kept
pub kept_judged : (f : PatternFunction) (k : String Global) (bs ps vs : List ℕ) → bs ≡ string_bytes k → IsTrue (bytes_eq bs ps)
    → judged f (text k) vs ≡ judged f (chars ps) vs
kept_judged f k bs ps vs e t = ap (λ x. judged f (chars x) vs) (sym e ∙ (bytes_eq-Decides bs ps).0 t)

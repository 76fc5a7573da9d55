-- Lemmas for crates that call this one.
use Rattle.std.proofs.Common.{◌≡◌, ◌↔◌, ℕ, Bool, true, false, IsTrue, List, None, refl, sym, ◌∙◌, subst, true≢false}
use Rattle.text_iregexp.specs.declared.error.IRegexpError.{IRegexpError}
use Rattle.text_iregexp.specs.declared.error.IRegexpErrorKind.TheVariants.{Invalid}
use Rattle.text_iregexp.specs.declared.pattern.SchemaPattern.{SchemaPattern}
use Rattle.text_iregexp.specs.declared.pattern_error.SchemaPatternError.{SchemaPatternError}
use Rattle.text_iregexp.specs.declared.pattern_error.SchemaPatternErrorKind.TheVariants as reason
use Rattle.text_iregexp.specs.declared.regexp.IRegexp.{IRegexp}
use Rattle.text_iregexp.specs.Deciding.{matches, searches, pattern_matches, pattern_searches}
use Rattle.text_regexp.specs.Forms.{Form, MatchesIn, Matches, Searches, next_of, last_of}
use Rattle.text_iregexp.specs.Grammar.{Regexp, IsText, regexp_form}
use Rattle.text_iregexp.specs.PatternDeciding.{is_pattern, is_found}
use Rattle.text_iregexp.specs.PatternCases.{pattern_form}
use Rattle.text_iregexp.specs.PatternReading as patterns
use Rattle.text_iregexp.specs.Reading.{Says, Refused}
use Rattle.text_iregexp.specs.Regexps.{form_in, IsReading}
use Rattle.text_iregexp.proofs.Deciding.{matches_decides, searches_decides}
use Rattle.text_iregexp.proofs.PatternDeciding.{is_found_as}
use Rattle.text_iregexp.proofs.PatternForms.{found_to, found_from}
pub use Rattle.text_iregexp.proofs.Deciding.{pattern_matches_sound, pattern_matches_complete}
pub use Rattle.text_iregexp.proofs.Deciding.{pattern_searches_sound, pattern_searches_complete}
pub use Rattle.text_iregexp.proofs.PatternDeciding.{is_pattern_sound, is_pattern_complete, is_pattern_none}
pub use Rattle.text_iregexp.proofs.PatternDeciding.{is_found_sound, is_found_complete, is_found_none}

same_answer : {A : Type 0} (b c : Bool) → (IsTrue b → A) → (A → IsTrue b) → (IsTrue c → A) → (A → IsTrue c) → b ≡ c
same_answer true c k l m n = sym (n (k refl))
same_answer false true k l m n = l (m refl)
same_answer false false k l m n = refl

-- an answer to whether a text is matched, as the test
pub matched_as : (f : Form) (cs : List ℕ) (b : Bool) → (IsTrue b ↔ Matches f cs) → b ≡ matches f cs
matched_as f cs b h =
    let d = matches_decides f in same_answer b (matches f cs) h.0 h.1 (d.sound cs) (d.complete cs)

pub searched_as : (f : Form) (cs : List ℕ) (b : Bool) → (IsTrue b ↔ Searches f cs) → b ≡ searches f cs
searched_as f cs b h =
    let d = searches_decides f in same_answer b (searches f cs) h.0 h.1 (d.sound cs) (d.complete cs)

-- what a text that was read matches is what the text says
pub reads_matches : (ps cs : List ℕ) (x : IRegexp) → IsReading ps x → pattern_matches ps cs ≡ matches (form_in x) cs
reads_matches ps cs x r =
    let d = matches_decides (form_in x) in
    same_answer (pattern_matches ps cs) (matches (form_in x) cs)
    (λ t. let k = pattern_matches_sound ps cs t in
    r.same.from None cs None (subst (λ q. Matches (regexp_form q) cs) (r.only k.regexp k.text) k.matched))
    (λ m. pattern_matches_complete ps cs (record { regexp = r.regexp; text = r.text; matched = r.same.to None cs None m }))
    (d.sound cs) (d.complete cs)

pub reads_searches : (ps cs : List ℕ) (x : IRegexp) → IsReading ps x → pattern_searches ps cs ≡ searches (form_in x) cs
reads_searches ps cs x r =
    let d = searches_decides (form_in x) in
    same_answer (pattern_searches ps cs) (searches (form_in x) cs)
    (λ t. let k = pattern_searches_sound ps cs t in let m = k.matched in record {
      before = m.before;
      part = m.part;
      after = m.after;
      split = m.split;
      matched = r.same.from (last_of None m.before) m.part (next_of m.after None)
          (subst (λ q. MatchesIn (regexp_form q) (last_of None m.before) m.part (next_of m.after None)) (r.only k.regexp k.text) m.matched);
    })
    (λ s. pattern_searches_complete ps cs (record {
      regexp = r.regexp;
      text = r.text;
      matched = record {
        before = s.before;
        part = s.part;
        after = s.after;
        split = s.split;
        matched = r.same.to (last_of None s.before) s.part (next_of s.after None) s.matched;
      };
    }))
    (d.sound cs) (d.complete cs)

-- what is no regular expression matches nothing
pub nothing_matches : (ps cs : List ℕ) → ((r : Regexp) → IsText ps r → ⊥) → pattern_matches ps cs ≡ false
nothing_matches ps cs n =
    same_answer (pattern_matches ps cs) false (λ t. let m = pattern_matches_sound ps cs t in n m.regexp m.text) (λ k. absurd k)
    (λ t. true≢false (sym t)) (λ k. absurd k)

pub nothing_searches : (ps cs : List ℕ) → ((r : Regexp) → IsText ps r → ⊥) → pattern_searches ps cs ≡ false
nothing_searches ps cs n =
    same_answer (pattern_searches ps cs) false (λ t. let m = pattern_searches_sound ps cs t in n m.regexp m.text) (λ k. absurd k)
    (λ t. true≢false (sym t)) (λ k. absurd k)

-- what is refused as invalid is no regular expression
pub refused_invalid : (ps : List ℕ) (e : IRegexpError) → Refused ps e → e.kind ≡ Invalid → (r : Regexp) → IsText ps r → ⊥
refused_invalid ps e f k = (subst (Says ps f.front f.tokens f.rest) k f.says).0

-- ---- patterns of schemas

-- a text that was read as a pattern is one
pub reads_pattern : (ps : List ℕ) (x : SchemaPattern) → patterns.IsReading ps x → is_pattern ps ≡ true
reads_pattern ps x r = is_pattern_complete ps r.meant r.text

-- and what was read is found where the text is
pub reads_found : (ps cs : List ℕ) (x : SchemaPattern) → patterns.IsReading ps x → is_found ps cs ≡ matches (patterns.texts_of x) cs
reads_found ps cs x r =
    let d = matches_decides (patterns.texts_of x) in
    let e = matches_decides (pattern_form r.meant) in
    is_found_as ps cs r.meant r.text
    ∙ same_answer (matches (pattern_form r.meant) cs) (matches (patterns.texts_of x) cs)
    (λ t. (r.same cs).1 (found_to r.meant cs (e.sound cs t)))
    (λ m. e.complete cs (found_from r.meant cs ((r.same cs).0 m)))
    (d.sound cs) (d.complete cs)

-- what is refused as invalid, or as outside of the dialect, is no pattern
pub refused_pattern : (ps : List ℕ) (e : SchemaPatternError) → patterns.IsRefused ps e → e.kind ≡ reason.Invalid → patterns.IsNone ps
refused_pattern ps e f k = subst (patterns.SaysOf ps f.marks f.rest) k f.says

pub outside_pattern : (ps : List ℕ) (e : SchemaPatternError) → patterns.IsRefused ps e → e.kind ≡ reason.Outside → patterns.IsNone ps
outside_pattern ps e f k = (subst (patterns.SaysOf ps f.marks f.rest) k f.says).0

-- `match` and `search` (RFC 9535, 2.4.6 and 2.4.7).
use Rattle.std.specs.Prelude.{◌↔◌, ℕ, Bool, false, IsTrue, List, Option, Some, None}
use Rattle.text_iregexp.specs.Deciding.{matches, searches, pattern_matches, pattern_searches}
use Rattle.text_iregexp.specs.Regexps.{form_in, PatternMatches, PatternSearches}
use Rattle.text_iregexp.specs.declared.regexp.IRegexp.{IRegexp}
use Rattle.tinyjson_path_query.specs.declared.query.PatternFunction.{PatternFunction}
use Rattle.tinyjson_path_query.specs.declared.query.PatternFunction.TheVariants.{Match, Search}
use Rattle.tinyjson.specs.Tree.{Tree, string}

-- the first text is a regular expression of RFC 9485; it matches the whole of the second text (`match`), or a part
-- of it (`search`)
abbrev pub Holds : PatternFunction → List ℕ → List ℕ → Type 0
Holds Match ps cs = PatternMatches ps cs
Holds Search ps cs = PatternSearches ps cs

-- decides whether that is so
abbrev pub Judge : Type 0
Judge = PatternFunction → (pattern text : List ℕ) → Bool

-- each decision is right
abbrev pub IsRight : Judge → Type 0
IsRight judge = (f : PatternFunction) (ps cs : List ℕ) → IsTrue (judge f ps cs) ↔ Holds f ps cs

-- of two strings, the value and the pattern; false for other values
abbrev pub holds_of_trees : Judge → PatternFunction → Tree → Tree → Bool
holds_of_trees judge f (string cs) (string ps) = judge f ps cs
holds_of_trees judge f _ _ = false

abbrev pub pattern_holds : Judge → PatternFunction → Option Tree → Option Tree → Bool
pattern_holds judge f (Some t) (Some u) = holds_of_trees judge f t u
pattern_holds judge f _ _ = false

-- ---- the code's decision, which is right (`judged_right`, proofs/Callers)

abbrev pub judged : Judge
judged Match = pattern_matches
judged Search = pattern_searches

-- the result of a regular expression that was parsed; false if there is none; for private contracts
abbrev pub answer_of : Option IRegexp → PatternFunction → List ℕ → Bool
answer_of None f cs = false
answer_of (Some x) Match cs = matches (form_in x) cs
answer_of (Some x) Search cs = searches (form_in x) cs

-- The machine accepts each text, with its tree.
use Rattle.std.proofs.Common.{◌≡◌, ℕ, Bool, true, false, List, [], Option, sym, ◌∙◌, append-nil, arith}
use Rattle.std.proofs.lemmas.Bool.{false≢true}
use Rattle.tinyjson_grammar.specs.Tree.{Tree}
use Rattle.tinyjson_grammar.specs.Syntax.{AreWhite, IsStrict, tree_of}
use Rattle.tinyjson_grammar.specs.Grammar.{IsLoose, IsText}
use Rattle.tinyjson_grammar.specs.Machine.{Rules, awaited, accepted, refused, run}
use Rattle.tinyjson_grammar.specs.declared.error.JsonParseErrorKind.{JsonParseErrorKind}
use Rattle.tinyjson_grammar.proofs.Accepts.Runs.{Delimited, delimited_white, run_white, finished_white}
use Rattle.tinyjson_grammar.proofs.Accepts.Value.{run_value, ends}
use Rattle.tinyjson_grammar.proofs.Trace.Paths.{within_le}

abbrev pub rules : Bool → Option ℕ → Rules
rules b limit = record { strict = b; limit = limit }

pub white_delimited : (w : List ℕ) → AreWhite w → Delimited w
white_delimited w h = rw (append-nil w) at (delimited_white w [] h tt)

pub run_text : (b : Bool) (limit : Option ℕ) (xs : List ℕ) (l : IsLoose limit xs) → (b ≡ true → IsStrict l.value)
    → run (rules b limit) [] awaited xs ≡ accepted (tree_of l.value)
run_text b limit xs l h = rw l.whole (run_white (rules b limit) [] l.before _ l.white_before
    ∙ run_value l.value (rules b limit) [] l.after l.spelled h (within_le limit _ _ l.shallow (omega arith))
    (ends l.value l.after (white_delimited l.after l.white_after))
    ∙ finished_white (rules b limit) [] (tree_of l.value) l.after l.white_after)

pub text_accepted : (limit : Option ℕ) (xs : List ℕ) (t : Tree) → IsText limit xs t → run (rules true limit) [] awaited xs ≡ accepted t
text_accepted limit xs t h = rw h.tree (run_text true limit xs h.loose (λ e. h.strict))

-- what is refused is not accepted
pub no_text : (k : JsonParseErrorKind) (xs : List ℕ) (t : Tree) → refused k xs ≡ accepted t → ⊥
no_text k xs t e = cc

pub only_tree : (limit : Option ℕ) (xs : List ℕ) (t u : Tree) → IsText limit xs t → IsText limit xs u → t ≡ u
only_tree limit xs t u h k = let e : accepted t ≡ accepted u = sym (text_accepted limit xs t h) ∙ text_accepted limit xs u k in cc

pub loose_accepted : (limit : Option ℕ) (xs : List ℕ) (l : IsLoose limit xs)
    → run (rules false limit) [] awaited xs ≡ accepted (tree_of l.value)
loose_accepted limit xs l = run_text false limit xs l (λ e. absurd (false≢true e))

-- What is built; `TakesSequence` and `TakesChoice` are for private contracts.
use Rattle.std.specs.Prelude.{◌≡◌, ℕ, false, List, [], ◌∷◌, ◌++◌, length, Option}
use Rattle.text_regexp.specs.declared.expression.Expression.{Expression}
use Rattle.text_regexp.specs.Forms.{Form, empty, class, concat, alternation, MatchesIn}
use Rattle.text_regexp.specs.Marked.{tree_form}

-- The two match the same texts.
pub record Same (f g : Form) : Type 0 where
  pub to : (before : Option ℕ) (cs : List ℕ) (after : Option ℕ) → MatchesIn f before cs after → MatchesIn g before cs after
  pub from : (before : Option ℕ) (cs : List ℕ) (after : Option ℕ) → MatchesIn g before cs after → MatchesIn f before cs after

-- the form of the expression
abbrev pub form_of : Expression → Form
form_of x = tree_form x.root

-- The expression matches the texts that the form matches.
pub record Means (n : Expression) (f : Form) : Type 0 where
  pub sound : (before : Option ℕ) (cs : List ℕ) (after : Option ℕ) → MatchesIn (form_of n) before cs after → MatchesIn f before cs after
  pub complete : (before : Option ℕ) (cs : List ℕ) (after : Option ℕ) → MatchesIn f before cs after → MatchesIn (form_of n) before cs after

-- the expressions match what the forms match, one by one
abbrev pub AllMean : List Expression → List Form → Type 0
AllMean [] [] = Unit {0}
AllMean [] (f ∷ fs) = ⊥
AllMean (n ∷ ns) [] = ⊥
AllMean (n ∷ ns) (f ∷ fs) = Means n f × AllMean ns fs

-- the sequence of all
abbrev pub sequence : List Form → Form
sequence [] = empty
sequence (f ∷ fs) = concat f (sequence fs)

-- a choice among them
abbrev pub choice_from : Form → List Form → Form
choice_from f [] = f
choice_from f (g ∷ gs) = alternation f (choice_from g gs)

-- a choice among them; of none, what matches nothing
abbrev pub choice : List Form → Form
choice [] = class false []
choice (f ∷ fs) = choice_from f fs

-- The last expressions are removed, and n is their sequence.
pub record TakesSequence (old : List Expression) (count : ℕ) (new : List Expression) (n : Expression) : Type 0 where
  pub taken : List Expression
  pub split : old ≡ new ++ taken
  pub counted : length taken ≡ count
  pub means : (fs : List Form) → AllMean taken fs → Means n (sequence fs)

-- The last expressions are removed, and n is a choice among them.
pub record TakesChoice (old : List Expression) (count : ℕ) (new : List Expression) (n : Expression) : Type 0 where
  pub taken : List Expression
  pub split : old ≡ new ++ taken
  pub counted : length taken ≡ count
  pub means : (fs : List Form) → AllMean taken fs → Means n (choice fs)

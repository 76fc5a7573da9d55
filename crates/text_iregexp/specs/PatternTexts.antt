-- The texts of a pattern that was parsed; for private contracts.
use Rattle.std.specs.Prelude.{ℕ, Bool, true, false, List, [], ◌∷◌, map}
use Rattle.text_iregexp.specs.declared.cases.Look.{Look}
use Rattle.text_iregexp.specs.declared.cases.Case.{Case}
use Rattle.text_regexp.specs.Forms.{Form, both, no, Matches}
use Rattle.text_regexp.specs.Automaton.{expression_of}
use Rattle.text_regexp.specs.Building.{form_of}

-- all other texts, if it is negated
abbrev pub unless_form : Bool → Form → Form
unless_form false f = f
unless_form true f = no f

-- what the first ones match, all of them, and the last one too
abbrev pub guarded : List Form → Form → Form
guarded [] f = f
guarded (g ∷ gs) f = both g (guarded gs f)

-- the texts at whose beginning the look-ahead holds
abbrev pub look_text : Look → Form
look_text k = unless_form k.negated (form_of k.root)

-- the texts that the branch is found in
abbrev pub case_text : Case → Form
case_text c = guarded (map look_text c.looks.items) (form_of (expression_of c.root))

-- each of them matches
abbrev pub AllMatch : List Form → List ℕ → Type 0
AllMatch [] cs = Unit {0}
AllMatch (f ∷ fs) cs = Matches f cs × AllMatch fs cs

-- What is printed for a value, and what is reported where nothing is.
use Rattle.std.specs.Prelude.{◌≡◌, ℕ, List, Result, Ok, Err, string_bytes}
use Rattle.tinyjson.specs.Tree.{Tree}
use Rattle.tinyjson_path.specs.Patterns.{Judge, IsRight}
use Rattle.tinyjson_path.specs.Query.{Query}
use Rattle.tinyjson_cli.specs.declared.texts.NoAnswer.{NoAnswer}
use Rattle.tinyjson_cli.specs.declared.texts.NoAnswer.TheVariants as no
use Rattle.json_path.specs.Selected.{GivesNodes, unanswered_message}
use Rattle.json_path.specs.declared.selected.Wanted.{Wanted}
use Rattle.json_path.specs.declared.selected.Unanswered.{Unanswered}
use Rattle.json_path.specs.declared.selected.Unanswered.TheVariants.{NoNode, NothingLeft, Pattern}

-- the message, with the status 1, or 4 where a limit is met
abbrev pub IsNoAnswer : Unanswered → NoAnswer → Type 0
IsNoAnswer (Pattern l) (no.Failed w) = string_bytes w ≡ unanswered_message (Pattern l)
IsNoAnswer NoNode (no.No w) = string_bytes w ≡ unanswered_message NoNode
IsNoAnswer NothingLeft (no.No w) = string_bytes w ≡ unanswered_message NothingLeft
IsNoAnswer why n = ⊥

-- the answer, or what is reported
abbrev pub GivesAnswerBy : Judge → Wanted → Query → Tree → Result (List ℕ) NoAnswer → Type 0
GivesAnswerBy judge wanted q t (Ok bytes) = GivesNodes judge wanted q t (Ok bytes)
GivesAnswerBy judge wanted q t (Err n) = (why : Unanswered) × GivesNodes judge wanted q t (Err why) × IsNoAnswer why n

-- the same with right answers for regular expressions
abbrev pub GivesAnswer : Wanted → Query → Tree → Result (List ℕ) NoAnswer → Type 0
GivesAnswer wanted q t f = (judge : Judge) × IsRight judge × GivesAnswerBy judge wanted q t f

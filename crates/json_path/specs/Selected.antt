-- What is printed, given a query and a value: what is selected, or the rest.
use Rattle.std.specs.Prelude.{◌≡◌, ℕ, Bool, true, false, ◌||◌, cond, List, [], ◌∷◌, ◌++◌, Option, None, Some, Result}
use Rattle.std.specs.Prelude.{Ok, Err, ◌⊎◌, codes, Any}
use Rattle.std.specs.Prelude.{encode_utf8_all}
use Rattle.std.specs.Io.KnownBytes.{Appends, Keeps}
use Rattle.std.specs.IoError.{error_kind as io_kind}
use Rattle.std.specs.declared.io.Error.{Error}
use Rattle.std.specs.declared.io.ErrorKind.TheVariants as io
use Rattle.tinyjson.specs.Characters.{line_feed}
use Rattle.tinyjson.specs.Text.{compact}
use Rattle.tinyjson.specs.Tree.{Tree}
use Rattle.tinyjson.specs.Written.{WrittenPart}
use Rattle.tinyjson_path.specs.Query.{Query}
use Rattle.tinyjson_path.specs.Limits.{limit_message}
use Rattle.tinyjson_path.specs.Nodes.{Part}
use Rattle.tinyjson_path.specs.Patterns.{Judge, IsRight}
use Rattle.tinyjson_path.specs.Queries.{is_some_part, query_parts}
use Rattle.tinyjson_path.specs.Strings.{strings_in, query_strings, Exceeds}
use Rattle.json_path.specs.Shapes.{array_line, lines_of}
use Rattle.json_path.specs.Without.{is_at, without}
use Rattle.json_path.specs.declared.selected.Form.{Form}
use Rattle.json_path.specs.declared.selected.Unanswered.{Unanswered}
use Rattle.json_path.specs.declared.selected.Unanswered.TheVariants.{NoNode, NothingLeft, Pattern}
use Rattle.json_path.specs.declared.selected.Wanted.{Wanted}
use Rattle.json_path.specs.declared.selected.Wanted.TheVariants.{Selected, Rest}

-- the message of a text that has no answer
abbrev pub unanswered_message : Unanswered → List ℕ
unanswered_message NoNode = codes "the query selects no node"
unanswered_message NothingLeft = codes "nothing is left"
unanswered_message (Pattern l) = limit_message l

abbrev pub printed : Form → List Part → List ℕ
printed form ps = cond form.is_array (array_line form.shape ps) (lines_of form.shape ps)

-- whether there is an answer: where no part is selected only with `-e`
abbrev pub is_answer : Form → List Part → Bool
is_answer form ps = form.or_none || is_some_part ps

-- The selected parts are printed. Or there is none, and that is no answer.
abbrev pub GivesSelected : Form → List Part → Result (List ℕ) Unanswered → Type 0
GivesSelected form ps (Ok bytes) = (is_answer form ps ≡ true) × (bytes ≡ printed form ps)
GivesSelected form ps (Err NoNode) = is_answer form ps ≡ false
GivesSelected form ps (Err why) = ⊥

-- The tree without the places of the selected parts is printed on a line. Or the root is one of them, and that is no answer.
abbrev pub GivesRest : Tree → List Part → Result (List ℕ) Unanswered → Type 0
GivesRest t ps (Ok bytes) =
    (is_at ps [] ≡ false) × (bytes ≡ encode_utf8_all (compact (without (is_at ps) [] t)) ++ line_feed ∷ [])
GivesRest t ps (Err NothingLeft) = is_at ps [] ≡ true
GivesRest t ps (Err why) = ⊥

-- what is given for a tree, where these parts of it are selected
abbrev pub GivesParts : Wanted → Tree → List Part → Result (List ℕ) Unanswered → Type 0
GivesParts (Selected form) t ps f = GivesSelected form ps f
GivesParts Rest t ps f = GivesRest t ps f

-- That for the parts which the query selects; or a string of the query or the tree exceeds a limit of regular expressions.
abbrev pub GivesNodes : Judge → Wanted → Query → Tree → Result (List ℕ) Unanswered → Type 0
GivesNodes judge wanted q t (Err (Pattern l)) = Any (Exceeds l) (query_strings q ++ strings_in t)
GivesNodes judge wanted q t f = GivesParts wanted t (query_parts judge q t) f

-- The answer is written; or there is none, and nothing is. After an error of the writer, or if memory runs out, a prefix of
-- the answer is written, or nothing.
abbrev pub Answers : (Result (List ℕ) Unanswered → Type 0) → Option (List ℕ) → Option (List ℕ) → Result (Option Unanswered) Error → Type 0
Answers gives held holds (Ok None) = (bytes : List ℕ) × gives (Ok bytes) × Appends held holds bytes
Answers gives held holds (Ok (Some why)) = gives (Err why) × Keeps held holds
Answers gives held holds (Err e) =
    ((io_kind e ≡ io.OutOfMemory) × Keeps held holds) ⊎ ((bytes : List ℕ) × gives (Ok bytes) × WrittenPart held holds bytes)

-- The answer, with right answers for regular expressions.
abbrev pub AnswersWanted : Wanted → Query → Tree → Option (List ℕ) → Option (List ℕ) → Result (Option Unanswered) Error → Type 0
AnswersWanted wanted q t held holds result =
    (judge : Judge) × IsRight judge × Answers (GivesNodes judge wanted q t) held holds result

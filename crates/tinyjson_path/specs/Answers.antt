-- What filters ask that is the same for each node: of the root alone. Only private contracts use these words.
use Rattle.std.specs.Prelude.{◌≡◌, ℕ, Bool, List, length, map, Option, None, Some, option_and_then}
use Rattle.tinyjson.specs.Tree.{Tree}
use Rattle.tinyjson_path.specs.Comparing.{size_of, value_of}
use Rattle.tinyjson_path.specs.Nodes.{Part}
use Rattle.tinyjson_path.specs.Queries.{comparable_value, found_by, holds_of, is_some_part}
use Rattle.tinyjson_path.specs.Seen.{value_tree}
use Rattle.tinyjson_path.specs.declared.answers.Answer.{Answer}
use Rattle.tinyjson_path.specs.declared.answers.Found.{Found}
use Rattle.tinyjson_path.specs.declared.answers.Question.{Question}
use Rattle.tinyjson_path.specs.declared.answers.Question.TheVariants as question
use Rattle.tinyjson_path.specs.declared.answers.Reply.{Reply}
use Rattle.tinyjson_path.specs.declared.answers.Reply.TheVariants as reply
use Rattle.tinyjson_path_query.specs.declared.query.Comparable.{Comparable}

-- how many parts there are, and the value of the only one
abbrev pub answer_of : List Part → ℕ × Option Tree
answer_of ps = (length ps, value_of ps)

abbrev pub found_view : Found → ℕ × Option Tree
found_view f = (f.count, value_tree f.only)

-- one of three: of nodes, whether something holds, or a length
abbrev pub Known : Type 0
Known = Option (ℕ × Option Tree) × Option Bool × Option (Option ℕ)

abbrev pub reply_view : Reply → Known
reply_view (reply.Found f) = (Some (found_view f), None, None)
reply_view (reply.Holds b) = (None, Some b, None)
reply_view (reply.Size n) = (None, None, Some n)

-- the value of what is compared, where the root is the node that is tested
abbrev pub value_at : Tree → Comparable → Option Tree
value_at root c = comparable_value c root root

-- what the definition gives
abbrev pub due : Tree → Question → Known
due root (question.Query ss) = (Some (answer_of (found_by ss.now root root)), None, None)
due root (question.Any ss) = (None, Some (is_some_part (found_by ss.now root root)), None)
due root (question.Test e) = (None, Some (holds_of e.now root root), None)
due root (question.Length c) = (None, None, Some (option_and_then size_of (value_at root c.now)))

-- each answer is the one that the definition gives
abbrev pub AreKnown : Tree → List Answer → Type 0
AreKnown root xs = map (λ x. reply_view x.reply) xs ≡ map (λ x. due root x.question) xs

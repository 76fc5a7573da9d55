use Rattle.std.proofs.Common.{ap, ◌∙◌, arith}
use Rattle.std.proofs.lemmas.Str.{chars-nil, IsCharBoundary-start}
use Rattle.tinyjson_grammar.specs.Position.{advance, origin}
use Rattle.tinyjson_grammar.proofs.Callers.{advance_nil}
use Rattle.tinyjson_tokens.proofs.text.TextBytes.new.Goals as goal

pub invariant_of-result : goal.invariant_of-result
invariant_of-result c = record { utf8 = ∣ c.utf8.text ∣₁; boundary = IsCharBoundary-start c.args.text.now c.utf8.text }

pub returns-clause-start : goal.returns-clause-start
returns-clause-start c = ap (advance origin) chars-nil ∙ advance_nil 1 0 (omega arith) (omega arith)

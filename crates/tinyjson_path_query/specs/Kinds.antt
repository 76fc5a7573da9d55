-- The kind of an error, from why parsing stops and the text there; for private contracts.
use Rattle.std.specs.Prelude.{ℕ, Bool, false, ◌||◌, cond, List}
use Rattle.tinyjson.specs.Characters.{value_separator}
use Rattle.tinyjson_path_query.specs.declared.error.ParseErrorKind.{ParseErrorKind}
use Rattle.tinyjson_path_query.specs.declared.error.ParseErrorKind.TheVariants as kind
use Rattle.tinyjson_path_query.specs.declared.query.Selector.{Selector}
use Rattle.tinyjson_path_query.specs.declared.query.Selector.TheVariants as selector
use Rattle.tinyjson_path_query.specs.declared.refusal.Cause.{Cause}
use Rattle.tinyjson_path_query.specs.declared.refusal.Cause.TheVariants as missing
use Rattle.tinyjson_path_query.specs.Grammar.{right_parenthesis, begins_with}
use Rattle.tinyjson_path_query.specs.Refusing.{is_unknown_call, is_known_call, is_large, begins_value, begins_condition, begins_operation}

-- the number of arguments, their types, or the grammar
abbrev pub rule : Bool → Bool → ParseErrorKind
rule count types = cond count kind.ArgumentCount (cond types kind.TypeMismatch kind.Syntax)

-- the rule that the text breaks, by what it has in place of what is missing
abbrev pub broken_rule : Cause → List ℕ → ParseErrorKind
broken_rule missing.Character xs = kind.Syntax
broken_rule missing.Integer xs = cond (is_large xs) kind.IndexOutOfRange kind.Syntax
broken_rule missing.Test xs = rule false (begins_value xs)
broken_rule missing.Value xs = rule false (is_known_call xs || begins_condition xs)
broken_rule missing.Nodes xs = rule (begins_with right_parenthesis xs) (begins_value xs || begins_condition xs)
broken_rule missing.Argument xs = rule (begins_with right_parenthesis xs) false
broken_rule missing.Comma xs = rule (begins_with right_parenthesis xs) (begins_operation xs)
broken_rule missing.LastArgument xs = rule (begins_with value_separator xs) (begins_operation xs)
broken_rule missing.ConditionEnd xs = rule false (begins_operation xs)
broken_rule missing.TooDeep xs = kind.Syntax
broken_rule missing.OutOfMemory xs = kind.Syntax

abbrev pub read_kind : Cause → List ℕ → ParseErrorKind
read_kind c xs = cond (is_unknown_call xs) kind.UnknownFunction (broken_rule c xs)

-- a limit, and no rule of the grammar
abbrev pub IsLimit : ParseErrorKind → Type 0
IsLimit kind.NumberOutOfRange = Unit {0}
IsLimit kind.TooDeep = Unit {0}
IsLimit kind.OutOfMemory = Unit {0}
IsLimit _ = ⊥

-- what is missing where neither a comma nor a bracket is behind the selector
abbrev pub end_of : Selector → Cause
end_of (selector.Filter e) = missing.ConditionEnd
end_of selector.Wildcard = missing.Character
end_of (selector.Name s) = missing.Character
end_of (selector.Index i) = missing.Character
end_of (selector.Slice start stop step) = missing.Character

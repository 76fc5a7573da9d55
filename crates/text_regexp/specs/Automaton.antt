-- For callers of an automaton.
use Rattle.text_regexp.specs.declared.automaton.Automaton.{Automaton}
use Rattle.text_regexp.specs.declared.expression.Expression.{Expression}

abbrev pub expression_of : Automaton → Expression
expression_of a = a.expression

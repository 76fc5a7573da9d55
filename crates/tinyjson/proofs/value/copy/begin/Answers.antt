use Rattle.std.proofs.Common.{◌∙◌, sym, ap, arith}
use Rattle.tinyjson.proofs.Values.Copy.{weight_Object}
use Rattle.tinyjson.proofs.value.copy.begin.Goals as goal
use Rattle.tinyjson.specs.private.Copy.{weight}
use Rattle.tinyjson.specs.View.{view}
use Rattle.tinyjson_grammar.specs.Tree.{number}
use Rattle.tinyjson.proofs.Values.View.{view_Number, view_Array, view_Object}

pub returns-in-Object-clause-left : goal.returns-in-Object-clause-left
returns-in-Object-clause-left c = omega (arith, ap weight c.in-Object.is ∙ weight_Object c.in-Object.members)

pub returns-in-Null-clause-view : goal.returns-in-Null-clause-view
returns-in-Null-clause-view c = ap view (sym c.in-Null.is)

pub returns-in-Boolean-clause-view : goal.returns-in-Boolean-clause-view
returns-in-Boolean-clause-view c = ap view (sym c.in-Boolean.is)

pub returns-in_ok-try_clone-in-Number-clause-view : goal.returns-in_ok-try_clone-in-Number-clause-view
returns-in_ok-try_clone-in-Number-clause-view c =
    let copy = c.in_ok-try_clone-in-Number in
    view_Number copy.field-0 ∙ ap number copy.ensures.decimal ∙ sym (view_Number c.in-Number.n) ∙ ap view (sym c.in-Number.is)

pub returns-in-Array-clause-view : goal.returns-in-Array-clause-view
returns-in-Array-clause-view c = sym (view_Array c.in-Array.items) ∙ ap view (sym c.in-Array.is)

pub returns-in-Object-clause-view : goal.returns-in-Object-clause-view
returns-in-Object-clause-view c = sym (view_Object c.in-Object.members) ∙ ap view (sym c.in-Object.is)

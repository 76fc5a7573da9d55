use Rattle.std.proofs.Common.{◌≡◌, ◌-◌, ◌∙◌, false, refl, sym, length, reverse}
use Rattle.tinyjson.specs.Indent.{indent_of}
use Rattle.tinyjson_grammar.specs.Text.{text}
use Rattle.tinyjson_output.proofs.Callers.{enc}
use Rattle.tinyjson_document.specs.Walking.{holds_others}
use Rattle.tinyjson_document.proofs.Writing.{begin_whole, less_leaf, ok_always}
use Rattle.tinyjson_document.proofs.walk.Walk.begin.Goals as goal

pub returns-then-not-holds_others-clause-sent : goal.returns-then-not-holds_others-clause-sent
returns-then-not-holds_others-clause-sent g c = λ t k xs h d l.
    let a = c.args.self.now in
    let w = indent_of a.indent in
    let leaf : holds_others c.args.node ≡ false = sym c.holds_others.ensures ∙ c.if-not-holds_others.true in
    begin_whole w a.store.now _ _ k t xs (enc (text w k t)) _ c.write_leaf.result refl l (c.write_leaf.ensures w k t leaf h)

pub returns-then-not-holds_others-clause-less : goal.returns-then-not-holds_others-clause-less
returns-then-not-holds_others-clause-less g c =
    let a = c.args.self.now in ok_always c.write_leaf.result (less_leaf a.store.now (a.most - length a.stack.items) a.most c.args.node
    (reverse a.stack.items))

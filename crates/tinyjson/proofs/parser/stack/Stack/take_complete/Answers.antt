use Rattle.std.proofs.Common.{rules, ◌≡◌, ◌∷◌, ◌++◌, [], ◌∙◌, ap, sym}
use Rattle.tinyjson.specs.View.{view}
use Rattle.tinyjson.proofs.Reading.Stack.{last_same}
use Rattle.tinyjson.proofs.parser.stack.Stack.take_complete.Goals as goal

pub returns : goal.returns
returns c = λ t w.
    let v = c.in-Some.value in
    let e : c.args.self.now.values.items ≡ c.pop.new.self.items ++ v ∷ [] = search rules in
    ap view (last_same _ _ _ _ (sym e ∙ w.2)) ∙ w.3

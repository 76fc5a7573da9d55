use Rattle.std.proofs.Common.{rules, ◌≡◌, ◌∙◌, length, sym}
use Rattle.std.proofs.lemmas.List.{length-reverse}
use Rattle.tinyjson.specs.private.Building.{awaited_of}
use Rattle.tinyjson.proofs.Reading.Building.{agree_length}
use Rattle.tinyjson.proofs.parser.nest.Nest.depth.Goals as goal

pub returns : goal.returns
returns g c = λ fs h.
    let e : c.len.result ≡ length c.args.self.now.awaited.items = search rules in
    e ∙ sym (length-reverse c.args.self.now.awaited.items) ∙ agree_length (awaited_of c.args.self.now) fs h

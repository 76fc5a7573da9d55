use Rattle.std.proofs.Common.{◌∙◌, ap, ◌∷◌, None}
use Rattle.tinyjson.proofs.Reading.Loop.{after_item, after_member, Continues_from}
use Rattle.tinyjson.proofs.parser.reader.Reader.after.Goals as goal

pub returns-in-Item-clause-reads : goal.returns-in-Item-clause-reads
returns-in-Item-clause-reads g c = λ start limit n h.
    let holds = g.E.Events.holds start in
    let is = g.E.Events.is start in
    let w = after_item holds is g.S.Source.sight limit c.args.nest.now n c.requires.innermost.0 h
    (c.requires.innermost.1 ∙ ap (λ o. o ∷ c.requires.innermost.0) c.in-Item.is) in
    Continues_from holds is g.S.Source.sight limit _ _ _ c.after_item.new.nest w.2 (c.after_item.ensures.reads start limit w.0 w.1 w.3)

pub returns-in-Value-clause-reads : goal.returns-in-Value-clause-reads
returns-in-Value-clause-reads g c = λ start limit n h.
    let holds = g.E.Events.holds start in
    let is = g.E.Events.is start in
    let w = after_member holds is g.S.Source.sight limit c.args.nest.now n c.requires.innermost.0 h
    (c.requires.innermost.1 ∙ ap (λ o. o ∷ c.requires.innermost.0) c.in-Value.is) in
    Continues_from holds is g.S.Source.sight limit _ _ _ c.after_member.new.nest w.2 (c.after_member.ensures.reads start limit w.0 w.1 w.3)

pub returns-in-Item-clause-some : goal.returns-in-Item-clause-some
returns-in-Item-clause-some g c = λ start n h.
    let w = after_item (g.E.Events.holds start) (g.E.Events.is start) g.S.Source.sight None c.args.nest.now n c.requires.innermost.0 h
    (c.requires.innermost.1 ∙ ap (λ o. o ∷ c.requires.innermost.0) c.in-Item.is) in
    c.after_item.ensures.some start w.0 w.1 w.3

pub returns-in-Value-clause-some : goal.returns-in-Value-clause-some
returns-in-Value-clause-some g c = λ start n h.
    let w = after_member (g.E.Events.holds start) (g.E.Events.is start) g.S.Source.sight None c.args.nest.now n c.requires.innermost.0 h
    (c.requires.innermost.1 ∙ ap (λ o. o ∷ c.requires.innermost.0) c.in-Value.is) in
    c.after_member.ensures.some start w.0 w.1 w.3

use Rattle.std.proofs.Common.{rules, ◌≡◌, []}
use Rattle.std.proofs.lemmas.List.{nil_from_length}
use Rattle.tinyjson_tokens.proofs.Reading.Steps.{Leads_nil, Refuses_memory}
use Rattle.tinyjson_tokens.proofs.reader.TokenReader.plain.Goals as goal

pub returns-then-not-is_empty-clause-reads : goal.returns-then-not-is_empty-clause-reads
returns-then-not-is_empty-clause-reads g c = λ limit fs. Leads_nil g.S.Source.sight limit _ _

pub returns-in-Ok-clause-reads : goal.returns-in-Ok-clause-reads
returns-in-Ok-clause-reads g c = λ limit fs.
    let sight = g.S.Source.sight in
    let none : c.args.units.now ≡ [] = nil_from_length c.args.units.now (search rules) in
    rw none (c.in-Ok.ensures.reads limit fs)

pub returns-in-Err-clause-reads : goal.returns-in-Err-clause-reads
returns-in-Err-clause-reads g c = λ limit fs.
    let sight = g.S.Source.sight in
    let none : c.args.units.now ≡ [] = nil_from_length c.args.units.now (search rules) in
    Refuses_memory sight limit _ _ (rw none (c.in-Err.ensures.reads limit fs))

use Rattle.std.proofs.Common.{rules, true, false, Some, None}
use Rattle.tinyjson_tokens.proofs.Reading.Steps.{Reads_after}
use Rattle.tinyjson_tokens.proofs.Reading.Begins.{Leads_literal, literal_false}
use Rattle.tinyjson_tokens.proofs.reader.TokenReader.literal.Goals as goal

pub returns-in-n-clause-reads : goal.returns-in-n-clause-reads
returns-in-n-clause-reads g c = λ limit fs.
    let sight = g.S.Source.sight in
    Reads_after sight limit _ _ _ _ _ (Leads_literal sight limit _ _ fs None c.args.first c.in-n.is c.consume.ensures.takes)
    (c.letters.ensures.reads limit fs)

pub returns-in-t-clause-reads : goal.returns-in-t-clause-reads
returns-in-t-clause-reads g c = λ limit fs.
    let sight = g.S.Source.sight in
    Reads_after sight limit _ _ _ _ _ (Leads_literal sight limit _ _ fs (Some true) c.args.first c.in-t.is c.consume.ensures.takes)
    (c.letters-in-t.ensures.reads limit fs)

pub returns-in_default-clause-reads : goal.returns-in_default-clause-reads
returns-in_default-clause-reads g c = λ limit fs.
    let sight = g.S.Source.sight in
    let f = literal_false c.args.first c.requires.begins (search rules) (search rules) in
    Reads_after sight limit _ _ _ _ _ (Leads_literal sight limit _ _ fs (Some false) c.args.first f c.consume.ensures.takes)
    (c.letters-in_default.ensures.reads limit fs)

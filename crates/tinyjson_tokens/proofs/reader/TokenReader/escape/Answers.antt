use Rattle.std.proofs.Common.{◌∙◌, sym}
use Rattle.tinyjson_grammar.specs.declared.error.JsonParseErrorKind.TheVariants.{UnexpectedEof, InvalidEscape}
use Rattle.tinyjson_tokens.proofs.Reading.Steps.{end_quoted, Leads_nil, Leads_one, Leads_none, Refuses_as, Reads_after}
use Rattle.tinyjson_tokens.proofs.Reading.String.{Reads_add, short_read, u_read, escape_other}
use Rattle.tinyjson_tokens.proofs.reader.TokenReader.escape.Goals as goal

pub returns-in_default-clause-reads : goal.returns-in_default-clause-reads
returns-in_default-clause-reads g c = λ limit fs.
    let sight = g.S.Source.sight in
    Refuses_as sight limit _ _ UnexpectedEof
    (Leads_none sight limit _ _ _ (Leads_nil sight limit _ _) c.in_default.ensures.takes.0 c.in_default.ensures.takes.1
    (end_quoted limit fs _ _ _) tt)

pub returns-in-Some-short_escape-clause-reads : goal.returns-in-Some-short_escape-clause-reads
returns-in-Some-short_escape-clause-reads g c = λ limit fs.
    let sight = g.S.Source.sight in
    Reads_add sight limit _ _ _ fs c.add.result c.args.string.now c.add.new.string c.args.units.now.items c.add.new.units.items c.in-Some.c
    c.in-Some-short_escape.d (Leads_nil sight limit _ _) c.in-Some.ensures.takes tt tt
    (short_read limit fs _ _ c.in-Some.c c.in-Some-short_escape.d (sym c.short_escape.ensures ∙ c.in-Some-short_escape.is)) c.add.ensures

pub returns-in-None-clause-reads : goal.returns-in-None-clause-reads
returns-in-None-clause-reads g c = λ limit fs.
    let sight = g.S.Source.sight in
    Reads_after sight limit _ _ _ _ _ (Leads_one sight limit _ _ _ c.in-Some.c (Leads_nil sight limit _ _) c.in-Some.ensures.takes tt
    (u_read limit fs _ _ c.in-Some.c c.if-c-eq117.true) tt) (c.unit.ensures.reads limit fs _)

pub returns-in-None-2-clause-reads : goal.returns-in-None-2-clause-reads
returns-in-None-2-clause-reads g c = λ limit fs.
    let sight = g.S.Source.sight in
    Refuses_as sight limit _ _ (InvalidEscape c.in-Some.c)
    (Leads_one sight limit _ _ _ c.in-Some.c (Leads_nil sight limit _ _) c.in-Some.ensures.takes tt
    (escape_other limit fs _ _ c.in-Some.c (sym c.short_escape.ensures ∙ c.in-None-2.is) c.if-c-eq117.false) tt)

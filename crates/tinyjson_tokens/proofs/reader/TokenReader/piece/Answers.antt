use Rattle.std.proofs.Common.{rules, true, ◌++◌}
use Rattle.std.proofs.lemmas.Result.{err_from_is_err_and}
use Rattle.tinyjson_grammar.specs.Tree.{string}
use Rattle.tinyjson_grammar.specs.Characters.{text, decode}
use Rattle.tinyjson_grammar.specs.declared.error.JsonParseErrorKind.TheVariants.{UnexpectedEof, ControlCharacter}
use Rattle.tinyjson_grammar.specs.Machine.{complete}
use Rattle.tinyjson_tokens.proofs.Reading.Steps.{end_quoted, Leads_nil, Leads_one, Leads_none, Refuses_as, Reads_after, taken_complete}
use Rattle.tinyjson_tokens.proofs.Reading.String.{Refuses_fails, Reads_add, quote_goes, quote_whole, quote_read, backslash_read}
use Rattle.tinyjson_tokens.proofs.Reading.String.{control_read, plain_read}
use Rattle.tinyjson_tokens.proofs.reader.TokenReader.piece.Goals as goal

pub returns-in_default-clause-reads : goal.returns-in_default-clause-reads
returns-in_default-clause-reads g c = λ limit fs.
    let sight = g.S.Source.sight in
    Refuses_as sight limit _ _ UnexpectedEof
    (Leads_none sight limit _ _ _ (Leads_nil sight limit _ _) c.in_default.ensures.takes.0 c.in_default.ensures.takes.1
    (end_quoted limit fs _ _ _) tt)

pub returns-in_err-flush-in-34-clause-reads : goal.returns-in_err-flush-in-34-clause-reads
returns-in_err-flush-in-34-clause-reads g c = λ limit fs.
    let sight = g.S.Source.sight in
    let p = err_from_is_err_and c.from_residual.result c.from_residual.ensures.1 in
    rw (p.1, p.2)
    (Refuses_fails sight limit _ _ _ (complete true fs (string (text c.args.string.now ++ decode c.args.units.now.items)) true) _ _
    c.in-Some.c (Leads_nil sight limit _ _) c.in-Some.ensures.takes tt tt (quote_goes fs _)
    (quote_read limit fs (text c.args.string.now) c.args.units.now.items c.in-Some.c c.in-34.is) c.in_err-flush-in-34.ensures)

pub returns-in_ok-flush-in-34-clause-reads : goal.returns-in_ok-flush-in-34-clause-reads
returns-in_ok-flush-in-34-clause-reads g c = λ limit fs.
    let sight = g.S.Source.sight in
    Leads_one sight limit _ _ _ c.in-Some.c (Leads_nil sight limit _ _) c.in-Some.ensures.takes tt
    (quote_whole limit fs (text c.args.string.now) c.args.units.now.items _ c.in-Some.c c.in-34.is c.in_ok-flush-in-34.ensures.0
    c.in_ok-flush-in-34.ensures.1) (taken_complete _ _)

pub returns-in-92-clause-reads : goal.returns-in-92-clause-reads
returns-in-92-clause-reads g c = λ limit fs.
    let sight = g.S.Source.sight in
    Reads_after sight limit _ _ _ _ _ (Leads_one sight limit _ _ _ c.in-Some.c (Leads_nil sight limit _ _) c.in-Some.ensures.takes tt
    (backslash_read limit fs (text c.args.string.now) c.args.units.now.items c.in-Some.c c.in-92.is) tt) (c.escape.ensures.reads limit fs)

pub returns-in_default-c-clause-reads : goal.returns-in_default-c-clause-reads
returns-in_default-c-clause-reads g c = λ limit fs.
    let sight = g.S.Source.sight in
    Refuses_as sight limit _ _ (ControlCharacter c.in-Some.c)
    (Leads_one sight limit _ _ _ c.in-Some.c (Leads_nil sight limit _ _) c.in-Some.ensures.takes tt
    (control_read limit fs (text c.args.string.now) c.args.units.now.items c.in-Some.c (search rules) (search rules) c.if-c-lt32.true) tt)

pub returns-in_default-2-clause-reads : goal.returns-in_default-2-clause-reads
returns-in_default-2-clause-reads g c = λ limit fs.
    let sight = g.S.Source.sight in
    Reads_add sight limit _ _ _ fs c.add.result c.args.string.now c.add.new.string c.args.units.now.items c.add.new.units.items c.in-Some.c
    c.in-Some.c (Leads_nil sight limit _ _) c.in-Some.ensures.takes tt tt
    (plain_read limit fs (text c.args.string.now) c.args.units.now.items c.in-Some.c (search rules) (search rules) (search rules))
    c.add.ensures

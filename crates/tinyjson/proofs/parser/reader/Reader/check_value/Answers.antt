use Rattle.std.proofs.Common.{rules, []}
use Rattle.std.specs.Prelude.{⊤}
use Rattle.std.proofs.lemmas.Result.{err_from_is_err_and}
use Rattle.tinyjson_grammar.specs.Tree.{literal_tree}
use Rattle.tinyjson_grammar.specs.declared.error.JsonParseErrorKind.TheVariants.{UnexpectedEof}
use Rattle.tinyjson.proofs.Reading.Memory.{grows_text}
use Rattle.tinyjson.proofs.Reading.Check.{finds_end, finds_built}
use Rattle.tinyjson_tokens.proofs.Callers.{end_awaited, Leads_end, Leads_trans, Leads_whites, Refuses_after, Refuses_as, white_awaited}
use Rattle.tinyjson.proofs.parser.reader.Reader.check_value.Goals as goal

pub returns-in_err-literal-in-Some-n-clause-reads : goal.returns-in_err-literal-in-Some-n-clause-reads
returns-in_err-literal-in-Some-n-clause-reads g c =
    let sight = g.S.Source.sight in
    let limit = c.args.limit in
    let p = err_from_is_err_and c.from_residual.result c.from_residual.ensures.1 in
    let l = Leads_whites sight limit _ _ _ c.skip_white.ensures.white tt (white_awaited limit []) in
    rw (p.1, p.2) (Refuses_after sight limit _ _ _ _ l (c.in_err-literal-in-Some-n.ensures.reads limit []))

pub returns-in_ok-literal-in-Some-n-clause-reads : goal.returns-in_ok-literal-in-Some-n-clause-reads
returns-in_ok-literal-in-Some-n-clause-reads g c =
    let sight = g.S.Source.sight in
    let limit = c.args.limit in
    let l = Leads_whites sight limit _ _ _ c.skip_white.ensures.white tt (white_awaited limit []) in
    let w = c.in_ok-literal-in-Some-n in
    let t = literal_tree w.field-0 in
    finds_end sight limit _ _ _ t c.end.result (Leads_trans sight limit _ _ _ l (w.ensures.reads limit [])) (c.end.ensures.reads limit t)

pub returns-in-Some-clause-reads : goal.returns-in-Some-clause-reads
returns-in-Some-clause-reads g c =
    let sight = g.S.Source.sight in
    let limit = c.args.limit in
    let l = Leads_whites sight limit _ _ _ c.skip_white.ensures.white tt (white_awaited limit []) in
    finds_built sight limit _ _ _ (λ b fs. ⊤) (λ b t. ⊤) c.build.result c.build.new.nest l
    (c.build.ensures.reads c.new-nest.result.events (search rules))

pub returns-in-Some-clause-memory : goal.returns-in-Some-clause-memory
returns-in-Some-clause-memory g c = grows_text g.S.Source.sight _ _ c.in-Some.first c.build.result c.skip_white.ensures.white
    c.in-Some.ensures.shows c.build.ensures.memory

pub returns-in-None-clause-reads : goal.returns-in-None-clause-reads
returns-in-None-clause-reads g c =
    let sight = g.S.Source.sight in
    let limit = c.args.limit in
    Refuses_as sight limit _ _ UnexpectedEof
    (Leads_end sight limit _ _ (Leads_whites sight limit _ _ _ c.skip_white.ensures.white tt (white_awaited limit []))
    c.in-None.ensures.shows (end_awaited limit _) tt)

use Rattle.std.proofs.Common.{rules, []}
use Rattle.tinyjson_grammar.specs.Tree.{literal_tree}
use Rattle.tinyjson_tokens.proofs.Callers.{Halts_here, Leads_trans, Refuses_after, Refuses_memory}
use Rattle.tinyjson.proofs.parser.reader.Reader.tell_literal.Goals as goal

pub returns-in-Err-clause-reads : goal.returns-in-Err-clause-reads
returns-in-Err-clause-reads g c = λ limit. c.in-Err.ensures.reads limit []

pub returns-in-Err-literal-clause-reads : goal.returns-in-Err-literal-clause-reads
returns-in-Err-literal-clause-reads g c = λ limit.
    let sight = g.S.Source.sight in
    Refuses_memory sight limit _ _ (Halts_here sight limit _ _ (c.in-Ok.ensures.reads limit []) tt tt)

pub returns-in-Err-end-clause-reads : goal.returns-in-Err-end-clause-reads
returns-in-Err-end-clause-reads g c = λ limit.
    let sight = g.S.Source.sight in
    let t = literal_tree c.in-Ok.literal in
    Refuses_after sight limit _ _ _ _ (c.in-Ok.ensures.reads limit []) (c.in-Err-end.ensures.reads limit t)

pub returns-in-Ok-end-clause-reads : goal.returns-in-Ok-end-clause-reads
returns-in-Ok-end-clause-reads g c = λ limit.
    let sight = g.S.Source.sight in
    let t = literal_tree c.in-Ok.literal in
    (t, Leads_trans sight limit _ _ _ (c.in-Ok.ensures.reads limit []) (c.in-Ok-end.ensures.reads limit t), search rules)

use Rattle.std.proofs.Common.{[], ap, refl, true, append-nil, ◌∙◌}
use Rattle.tinyjson_grammar.specs.Characters.{text}
use Rattle.tinyjson_grammar.specs.Machine.{complete}
use Rattle.tinyjson_grammar.specs.Tree.{string}
use Rattle.tinyjson_tokens.proofs.Reading.Steps.{Leads_nil, Leads_one, Leads_peek, Reads_after, taken_complete}
use Rattle.tinyjson_tokens.proofs.Reading.String.{quote_read}
use Rattle.tinyjson_tokens.proofs.reader.TokenReader.rest.Goals as goal

pub returns-in-Some-clause-reads : goal.returns-in-Some-clause-reads
returns-in-Some-clause-reads g c = λ limit fs.
    let sight = g.S.Source.sight in
    let cs = text c.args.buffer.now in
    Leads_one sight limit _ _ _ 34 (Leads_peek sight limit _ _ _ (Leads_nil sight limit _ _) c.in-Some.ensures.takes)
    c.consume.ensures.takes tt (quote_read limit fs cs [] 34 refl ∙ ap (λ xs. complete true fs (string xs) true) (append-nil cs))
    (taken_complete fs (string cs))

pub returns-in_default-clause-reads : goal.returns-in_default-clause-reads
returns-in_default-clause-reads g c = λ limit fs.
    let sight = g.S.Source.sight in
    Reads_after sight limit _ _ _ _ _ (Leads_peek sight limit _ _ _ (Leads_nil sight limit _ _) c.peek.ensures.takes)
    (c.pieces.ensures.reads limit fs)

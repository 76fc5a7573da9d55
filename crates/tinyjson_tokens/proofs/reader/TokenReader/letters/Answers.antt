use Rattle.std.specs.Str.{chars}
use Rattle.tinyjson_grammar.specs.Tree.{literal_tree}
use Rattle.tinyjson_tokens.proofs.Reading.Steps.{Leads_letters}
use Rattle.tinyjson_tokens.proofs.reader.TokenReader.letters.Goals as goal

pub returns-then-word-clause-reads : goal.returns-then-word-clause-reads
returns-then-word-clause-reads g c = λ limit fs.
    Leads_letters g.S.Source.sight limit _ _ fs (literal_tree c.args.value) (chars c.args.letters.now) c.if-word.ensures.takes

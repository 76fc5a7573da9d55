use Rattle.std.proofs.Common.{rules}
use Rattle.std.proofs.lemmas.List.{take_rest}
use Rattle.text_iregexp.proofs.PatternProperties.{no_name, name_at}
use Rattle.text_iregexp.proofs.letter.name.Goals as goal

pub returns-in-Some : goal.returns-in-Some
returns-in-Some c =
    let found = name_at c.args.last c.args.text.now c.in-Some.place (search rules) (search rules) (search rules) in
    rw (found, take_rest)

pub returns-in-None : goal.returns-in-None
returns-in-None c = no_name c.args.last c.args.text.now (search rules)

use Rattle.std.proofs.Common.{[], ◌∷◌}
use Rattle.tinyjson_tokens.proofs.Sources.{Takes_append}
use Rattle.tinyjson_tokens.proofs.cursor.CharactersSource.bump.Goals as goal

pub returns-in-Some-clause-takes : goal.returns-in-Some-clause-takes
returns-in-Some-clause-takes g c = Takes_append _ _ _ _ [] (c.in-Some.c ∷ []) c.peek-next.ensures.takes
    (record { gives = c.pass.ensures.takes.gives; moves = c.pass.ensures.takes.moves })

use Rattle.std.proofs.Common.{rules, ◌∷◌, [], Some}
use Rattle.tinyjson_tokens.proofs.Sources.{Takes_append, Takes_shown}
use Rattle.tinyjson_tokens.proofs.reader.TokenReader.accept.Goals as goal

pub returns-in-Some-clause-accepts : goal.returns-in-Some-clause-accepts
returns-in-Some-clause-accepts g c =
    let x = c.in-Some.c in
    let sight = g.S.Source.sight in
    record {
      c = x;
      one = search rules;
      takes = Takes_append sight _ _ _ [] (x ∷ []) c.peek.ensures.takes
          (Takes_shown sight _ _ x _ (c.bump.ensures.shown (Some x) c.in-Some.ensures.shows) c.bump.ensures.takes);
    }

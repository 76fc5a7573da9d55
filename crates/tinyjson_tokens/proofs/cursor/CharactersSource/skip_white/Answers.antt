use Rattle.std.proofs.Common.{rules, ◌≡◌, ◌∷◌, [], true}
use Rattle.tinyjson_grammar.specs.Characters.{is_white}
use Rattle.tinyjson_tokens.proofs.Cursors.{Goes_append}
use Rattle.tinyjson_tokens.proofs.Sources.{Takes_append}
use Rattle.tinyjson_tokens.proofs.cursor.CharactersSource.skip_white.Goals as goal

pub returns-in-Some-clause-white : goal.returns-in-Some-clause-white
returns-in-Some-clause-white g c =
    let x = c.in-Some.c in
    let t = c.take_white.ensures.white in
    let white : is_white x ≡ true = search rules in
    let goes = Goes_append g.I.Iterator.next_gives _ _ _ (x ∷ []) t.taken c.pass.ensures.takes t.goes in
    record {
      taken = x ∷ t.taken;
      white = (white, t.pass);
      takes = Takes_append _ _ _ _ [] (x ∷ t.taken) c.peek-next.ensures.takes (record { gives = goes.gives; moves = goes.moves });
    }

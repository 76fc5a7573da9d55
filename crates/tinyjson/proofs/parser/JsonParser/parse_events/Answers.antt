use Rattle.std.proofs.Common.{subst}
use Rattle.std.specs.Prelude.{All}
use Rattle.std.specs.Char.{IsScalar}
use Rattle.tinyjson.proofs.Reading.Events.{heard}
use Rattle.tinyjson.proofs.Reading.Parse.{all_rest}
use Rattle.tinyjson.proofs.Reading.Cursors.{follows_gives, gives_follows}
use Rattle.tinyjson.proofs.parser.JsonParser.parse_events.Goals as goal

pub returns-clause-parses : goal.returns-clause-parses
returns-clause-parses g c = rw (← c.self.view_is) (λ xs r.
    let limit = c.self.inside.limit in
    let steps = g.I.Iterator.next_gives in
    let gives = follows_gives steps c.self.inside.reader.tokens.source.cursor xs r.later r.whole r.follows in
    let t = c.told.ensures in
    let a = heard _ limit (g.E.Events.is c.args.events) _ _ c.told.result t.reads t.end t.memory xs gives r.scalars in
    let l = gives_follows steps c.told.new.self.tokens.source.cursor a.rest a.gives in
    record {
      consumed = a.consumed;
      rest = a.rest;
      whole = a.whole;
      remains = record {
        later = l.0;
        whole = l.1;
        follows = l.2;
        scalars = all_rest a.consumed a.rest (subst (All IsScalar) a.whole r.scalars);
      };
      position = a.moves;
      answer = a.answer;
      refused = a.refused;
      broken_off = a.broken_off;
    })

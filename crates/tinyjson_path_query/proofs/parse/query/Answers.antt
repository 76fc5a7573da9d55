use Rattle.std.proofs.Common.{◌≡◌, ◌∙◌, length, rules}
use Rattle.tinyjson_path_query.proofs.Levels.{query_at, ended_nothing}
use Rattle.tinyjson_path_query.proofs.parse.query.Goals as goal

pub returns : goal.returns
returns c =
    let s = c.in_ok-segments.ensures in
    let nothing : length c.in_ok-segments.after.now ≡ 0 = search rules in (
      s.0,
      query_at c.args.levels c.args.text.now _ c.in-Some.first.now s.0 _ c.in-Some.ensures.cases.0 c.if-first-ne36.false s.1
          ∙ ended_nothing s.0 _ nothing,
      s.2,
    )

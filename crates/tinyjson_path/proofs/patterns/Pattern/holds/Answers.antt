use Rattle.std.specs.Str.{chars}
use Rattle.tinyjson.specs.View.{text}
use Rattle.tinyjson_path.proofs.Judging.{matched_right, searched_right}
use Rattle.tinyjson_path.proofs.patterns.Pattern.holds.Goals as goal

pub returns-in-Match : goal.returns-in-Match
returns-in-Match c =
    matched_right (text c.args.self.now.pattern) (chars c.args.value.now) c.args.self.now.regexp c.in-Some.regexp c.args.function
    c.matches.result c.args.self.now.read c.in-Some.is c.in-Match.is c.matches.ensures.matched

pub returns-in-Search : goal.returns-in-Search
returns-in-Search c =
    searched_right (text c.args.self.now.pattern) (chars c.args.value.now) c.args.self.now.regexp c.in-Some.regexp c.args.function
    c.searches.result c.args.self.now.read c.in-Some.is c.in-Search.is c.searches.ensures.matched

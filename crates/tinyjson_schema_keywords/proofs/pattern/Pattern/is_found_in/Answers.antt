use Rattle.std.specs.Str.{chars}
use Rattle.tinyjson.specs.View.{text}
use Rattle.tinyjson_schema_keywords.proofs.Patterns.{found_right, found_nowhere}
use Rattle.tinyjson_schema_keywords.proofs.pattern.Pattern.is_found_in.Goals as goal

pub returns-in-Some-found-clause-found : goal.returns-in-Some-found-clause-found
returns-in-Some-found-clause-found c =
    found_right (text c.args.self.now.pattern) (chars c.args.value.now) c.args.self.now.code c.in-Some.code c.in-Some-found.is_found
    c.args.self.now.read c.in-Some.is c.in-Some-found.ensures.found

pub returns-in_default-clause-found : goal.returns-in_default-clause-found
returns-in_default-clause-found c =
    found_nowhere (text c.args.self.now.pattern) (chars c.args.value.now) c.args.self.now.code c.args.self.now.read c.in_default.is

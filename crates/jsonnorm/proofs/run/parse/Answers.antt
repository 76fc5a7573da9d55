use Rattle.std.specs.Str.{chars}
use Rattle.tinyjson_document.specs.Document.{HasTree as HasNodes}
use Rattle.jsonnorm.proofs.Running.{same_error}
use Rattle.jsonnorm.specs.Parsed.{IsParsed}
use Rattle.jsonnorm.proofs.run.parse.Goals as goal

pub returns-in-Err : goal.returns-in-Err
returns-in-Err c = same_error HasNodes (IsParsed c.args.options.indented) c.args.options.limit (chars c.args.text.now)
    c.in-Err.error c.in-Err.ensures

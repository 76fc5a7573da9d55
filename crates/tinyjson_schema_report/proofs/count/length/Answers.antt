use Rattle.std.proofs.Common.{◌∙◌, Some, ap}
use Rattle.std.specs.Str.{chars}
use Rattle.tinyjson_view.proofs.Callers.{string_is}
use Rattle.tinyjson_view.specs.Views.{tree_of}
use Rattle.tinyjson_schema_report.specs.Counts.{length_of}
use Rattle.tinyjson_schema_report.proofs.Telling.{no_length}
use Rattle.tinyjson_schema_report.proofs.count.length.Goals as goal

pub returns-in-Some : goal.returns-in-Some
returns-in-Some c = ap Some c.character_count.ensures
    ∙ ap length_of (string_is (tree_of c.args.value.now) (chars c.in-Some.text.now) c.in-Some.ensures)

pub returns-in-None : goal.returns-in-None
returns-in-None c = no_length (tree_of c.args.value.now) c.in-None.ensures

use Rattle.std.proofs.Common.{map}
use Rattle.tinyjson.specs.View.{text}
use Rattle.tinyjson.specs.Written.{Written}
use Rattle.json_schema.specs.Told.{told_names}
use Rattle.json_schema.proofs.unknown.tell_names.Given as goal

abbrev pub invariant-loop-name : goal.invariant-loop-name
invariant-loop-name g l =
    Written (g.E.Write.contents l.initial.errors) (g.E.Write.contents l.errors) (told_names l.unknown (map text l.names.keys))
    (told_names l.unknown (map text l.name-iterator))

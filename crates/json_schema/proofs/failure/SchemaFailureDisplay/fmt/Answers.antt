use Rattle.std.proofs.Common.{◌++◌, codes, sym, subst}
use Rattle.std.specs.Fmt.{HasWritten, decimal}
use Rattle.std.specs.Str.{chars}
use Rattle.tinyjson.specs.Error.{kind_message}
use Rattle.tinyjson_cli.specs.Shown.{shown}
use Rattle.json_schema.specs.Failures.{schema_message}
use Rattle.json_schema.proofs.failure.SchemaFailureDisplay.fmt.Goals as goal

pub returns-in-Document-clause-writes : goal.returns-in-Document-clause-writes
returns-in-Document-clause-writes g c plain ok =
    let file = c.in-Document.file.now in
    subst (λ e. HasWritten g.W.Write.write_str_gives c.args.f.now (schema_message e) c.write-in-Document.new.self) (sym c.in-Document.is)
    (subst (λ ws. HasWritten g.W.Write.write_str_gives c.args.f.now ws c.write-in-Document.new.self)
    (λ i. shown (chars file) ++ (codes ":" ++ (decimal (c.line-line.ensures i) ++ (codes ":" ++ (decimal (c.column-column.ensures i)
    ++ (codes ": " ++ kind_message (c.kind.ensures i)))))))
    (c.write-in-Document.ensures.writes plain ok))

pub returns-in-NoDraft-clause-writes : goal.returns-in-NoDraft-clause-writes
returns-in-NoDraft-clause-writes g c plain ok =
    subst (λ e. HasWritten g.W.Write.write_str_gives c.args.f.now (schema_message e) c.write-in-NoDraft.new.self) (sym c.in-NoDraft.is)
    (c.write-in-NoDraft.ensures.writes plain ok)

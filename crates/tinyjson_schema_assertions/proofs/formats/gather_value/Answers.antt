use Rattle.std.proofs.Common.{subst}
use Rattle.std.specs.Prelude.{OnOk}
use Rattle.tinyjson_schema_keywords.specs.Unknown.{Gathers}
use Rattle.tinyjson_schema_assertions.proofs.Formatted.{value_unknown}
use Rattle.tinyjson_schema_assertions.proofs.formats.gather_value.Goals as goal

pub returns-in-String : goal.returns-in-String
returns-in-String c = subst (λ ks. OnOk c.gather_name.result (Gathers ks c.args.names.now c.gather_name.new.names))
    (value_unknown c.args.value.now c.in-String.name c.as_str.result.now c.in-String.is c.as_str.ensures.value) c.gather_name.ensures

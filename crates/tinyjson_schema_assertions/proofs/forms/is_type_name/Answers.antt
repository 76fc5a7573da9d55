use Rattle.std.proofs.Common.{◌∙◌, sym, ap}
use Rattle.tinyjson.proofs.Callers.{view_String}
use Rattle.tinyjson.specs.View.{view}
use Rattle.tinyjson_schema_keywords.proofs.Callers.{text_bytes}
use Rattle.tinyjson_schema_assertions.specs.Operands.{is_name_of_type, is_type_name}
use Rattle.tinyjson_schema_assertions.proofs.forms.is_type_name.Goals as goal

pub returns-in-String : goal.returns-in-String
returns-in-String c =
    let s = c.in-String.name in
    c.is_name_of_type.ensures
    ∙ (ap is_name_of_type (text_bytes s c.as_str.result.now c.as_str.ensures.value)
    ∙ ap is_type_name (sym (ap view c.in-String.is ∙ view_String s)))

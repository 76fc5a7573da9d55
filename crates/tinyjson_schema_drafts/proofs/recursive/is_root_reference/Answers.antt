use Rattle.std.proofs.Common.{◌∙◌, bytes_eq, codes, refl}
use Rattle.tinyjson_schema_drafts.specs.Recursion.{is_root_reference}
use Rattle.tinyjson_schema_drafts.proofs.Wording.{said}
use Rattle.tinyjson_schema_drafts.proofs.recursive.is_root_reference.Goals as goal

pub returns-in-String : goal.returns-in-String
returns-in-String c = c.eq.ensures
    ∙ said c.args.reference.now c.in-String.text c.as_str.result.now c.in-String.is c.as_str.ensures.value
    (λ bs. bytes_eq bs (codes "#")) is_root_reference refl

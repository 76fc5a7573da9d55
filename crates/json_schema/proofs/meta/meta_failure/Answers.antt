use Rattle.std.proofs.Common.{subst, sym}
use Rattle.json_schema.specs.Meta.{FailsMeta, TellsUnknown}
use Rattle.json_schema.proofs.meta.meta_failure.Goals as goal

pub returns-in-Unknown : goal.returns-in-Unknown
returns-in-Unknown c =
    subst (λ e. FailsMeta e c.unknown_failure.result) (sym c.in-Unknown.is)
    (subst (λ u. TellsUnknown u c.unknown_failure.result) c.as_str.ensures.value c.unknown_failure.ensures)

use Rattle.std.proofs.Common.{◌∙◌, sym}
use Rattle.tinyjson_number.specs.Number.{decimal_eq}
use Rattle.tinyjson_document.specs.Comparing.{both}
use Rattle.tinyjson_document.specs.Document.{tree}
use Rattle.tinyjson_document.proofs.Comparing.{number_scalars}
use Rattle.tinyjson_document.proofs.equality.is_same_scalar.Goals as goal

pub returns-in-Number : goal.returns-in-Number
returns-in-Number c u k b n s =
    c.is_same_number.ensures ∙ (λ i. both decimal_eq (c.number-in-Number.ensures i) (n i))
    ∙ number_scalars (tree c.args.node) u (sym c.in-Number.ensures)

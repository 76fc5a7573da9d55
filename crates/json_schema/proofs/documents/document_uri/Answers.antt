use Rattle.std.proofs.Common.{◌≡◌, option_map, string_bytes, sym, ap₂, subst}
use Rattle.std.specs.Prelude.{IfOk}
use Rattle.text_uri.specs.Relative.{relative_reference}
use Rattle.json_schema.specs.Meta.{document_uri}
use Rattle.json_schema.proofs.documents.document_uri.Goals as goal

pub returns-in-Some : goal.returns-in-Some
returns-in-Some c =
    subst (λ u. IfOk c.from_str.result
    (λ s. string_bytes s ≡ document_uri c.args.schema.now (option_map (λ b. b.now) u) c.args.file.now))
    (sym c.in-Some.is) c.from_str.ensures.ok

pub returns-in-None : goal.returns-in-None
returns-in-None c =
    subst (λ u. IfOk c.relative_reference.result
    (λ s. string_bytes s ≡ document_uri c.args.schema.now (option_map (λ b. b.now) u) c.args.file.now))
    (sym c.in-None.is)
    (subst (λ bs. IfOk c.relative_reference.result (λ s. string_bytes s ≡ bs))
    (ap₂ relative_reference c.plain.ensures c.plain-in-None.ensures) c.relative_reference.ensures)

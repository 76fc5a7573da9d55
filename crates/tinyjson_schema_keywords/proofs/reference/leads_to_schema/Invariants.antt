use Rattle.std.proofs.Common.{◌≡◌, drop, map}
use Rattle.tinyjson.specs.View.{text}
use Rattle.tinyjson_schema_keywords.specs.References.{form_after}
use Rattle.tinyjson_schema_keywords.specs.declared.keyword.Form.TheVariants as form
use Rattle.tinyjson_schema_keywords.proofs.reference.leads_to_schema.Given as goal

abbrev pub invariant-loop-token : goal.invariant-loop-token
invariant-loop-token l = form_after l.form (map text (drop l.token-index l.tokens)) ≡ form_after form.Schema (map text l.tokens)

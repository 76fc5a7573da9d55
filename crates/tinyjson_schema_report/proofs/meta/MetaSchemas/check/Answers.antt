use Rattle.std.proofs.Common.{inl, inr, refl, chars}
use Rattle.std.proofs.lemmas.Bool.{false≢true}
use Rattle.std.proofs.lemmas.Result.{IfOk-weaker}
use Rattle.tinyjson.specs.View.{view}
use Rattle.tinyjson_schema_drafts.specs.References.{meta_schema_of}
use Rattle.tinyjson_schema_report.specs.Meta.{GivesBy, SchemaGives}
use Rattle.tinyjson_schema_report.proofs.meta.MetaSchemas.check.Goals as goal

pub returns-in-Ok : goal.returns-in-Ok
returns-in-Ok c =
    let m = c.args.self.now in
    let xs = chars c.args.text.now in
    let t = view c.in-Ok.schema in
    IfOk-weaker c.check_schema.result (GivesBy m (meta_schema_of m.draft t) xs) (SchemaGives m xs)
    (λ v h. inl (t, c.in-Ok.ensures.answer.1, h)) c.check_schema.ensures

pub returns-else-is_out_of_memory : goal.returns-else-is_out_of_memory
returns-else-is_out_of_memory c = inr (
  c.in-Err.error,
  (
    c.in-Err.ensures,
    (λ k. false≢true (c.if-is_out_of_memory.ensures.1 k)),
    c.in-Err.ensures.refused (λ k. false≢true (c.if-is_out_of_memory.ensures.1 k)),
  ),
  refl,
)

use Rattle.std.proofs.Common.{◌≡◌, ◌∙◌, Err, inr, subst, sym}
use Rattle.std.proofs.KnownBytes.{Keeps-refl}
use Rattle.std.proofs.lemmas.Bool.{false≢true}
use Rattle.tinyjson.specs.Error.{error_kind}
use Rattle.tinyjson.specs.Events.{TellsText}
use Rattle.tinyjson.specs.Grammar.{IsText}
use Rattle.tinyjson.specs.JsonParseErrorKind.TheVariants as kind
use Rattle.tinyjson_document.specs.Document.{tree, HasTree}
use Rattle.tinyjson_cli.proofs.Valuing.{of_text}
use Rattle.tinyjson_cli.proofs.values.answer_read.Goals as goal

pub returns-in-Ok : goal.returns-in-Ok
returns-in-Ok g c = λ limit text told n.
    let h = (subst (TellsText HasTree limit text) c.in-Ok.is told).answer in
    of_text (g.T.ValueTool.gives c.args.tool.now) limit text (tree c.root.result)
    (subst (IsText limit text) (sym (c.root.ensures ∙ h.3)) h.2) _ _ c.args.len c.answer_value.result n c.answer_value.ensures

pub returns-else-is_out_of_memory : goal.returns-else-is_out_of_memory
returns-else-is_out_of_memory g c = λ limit text told n.
    let error = c.in-Err.error in
    let h : TellsText HasTree limit text (Err error) = subst (TellsText HasTree limit text) c.in-Err.is told in
    let other : ¬ (error_kind error ≡ kind.OutOfMemory) = λ k. false≢true (c.if-is_out_of_memory.ensures.1 k) in (
      inr (
        record {
          consumed = h.consumed;
          rest = h.rest;
          whole = h.whole;
          answer = (h.answer.0, h.answer.1 other);
          refused = h.refused;
        },
        other,
        h.refused other,
      ),
      Keeps-refl _,
    )

use Rattle.std.proofs.Common.{refl, sym, subst}
use Rattle.tinyjson.specs.View.{view}
use Rattle.tinyjson_schema_keywords.specs.Anchors.{Gathers, own_anchors}
use Rattle.tinyjson_schema_keywords.proofs.Naming.{own_gathered}
use Rattle.tinyjson_schema_keywords.proofs.anchor.gather_own.Goals as goal

pub returns-in_ok-push-in-String : goal.returns-in_ok-push-in-String
returns-in_ok-push-in-String c =
    subst (λ xs. Gathers (own_anchors (view c.args.schema.now) (view c.args.operand.now)) c.args.anchors.now.items xs)
    (sym c.in_ok-push-in-String.ensures.items)
    (own_gathered c.args.operand.now c.in-String.name _ (view c.args.schema.now) c.args.anchors.now.items c.in-String.is refl)

use Rattle.std.proofs.Common.{cond, Ok, Err, map, sym, ap, ◌∙◌}
use Rattle.std.specs.Box.{box_value}
use Rattle.tinyjson.specs.Equality.{tree_eq}
use Rattle.tinyjson.specs.View.{view}
use Rattle.tinyjson_pointer.specs.Tokens.{tokens_of}
use Rattle.tinyjson_patch.proofs.Siblings.{at_part, at_none}
use Rattle.tinyjson_patch.specs.Running.{with_boxes}
use Rattle.tinyjson_patch.specs.declared.operation.Reason.TheVariants.{NoTarget, Different}
use Rattle.tinyjson_patch.proofs.among.test_item.Goals as goal

pub returns-in_default : goal.returns-in_default
returns-in_default c = λ t ks s there among.
    let bs = c.args.items.now.items in
    at_none t ks (tokens_of c.args.path.now) s there among (map box_value bs) NoTarget
    (λ part. cond (tree_eq part (view c.args.expected.now)) (Ok (with_boxes t ks bs)) (Err Different)) (sym c.in_default.ensures)

pub returns-then-eq : goal.returns-then-eq
returns-then-eq c = λ t ks s there among.
    let here = with_boxes t ks c.args.items.now.items in
    at_part t ks (tokens_of c.args.path.now) s there among (map box_value c.args.items.now.items) (view c.in-Some.part.now) NoTarget
    (λ part. cond (tree_eq part (view c.args.expected.now)) (Ok here) (Err Different)) c.in-Some.ensures
    ∙ ap (λ b. cond b (Ok here) (Err Different)) (sym c.eq.ensures ∙ c.if-eq.true)

pub returns : goal.returns
returns c = λ t ks s there among.
    let here = with_boxes t ks c.args.items.now.items in
    at_part t ks (tokens_of c.args.path.now) s there among (map box_value c.args.items.now.items) (view c.in-Some.part.now) NoTarget
    (λ part. cond (tree_eq part (view c.args.expected.now)) (Ok here) (Err Different)) c.in-Some.ensures
    ∙ ap (λ b. cond b (Ok here) (Err Different)) (sym c.eq.ensures ∙ c.if-eq.false)

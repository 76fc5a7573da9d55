use Rattle.std.proofs.Common.{◌≡◌, ◌∙◌, length, sym, ap, Some, arith}
use Rattle.tinyjson.specs.View.{view}
use Rattle.tinyjson_schema_table.proofs.Links.{nothing_added, link_added}
use Rattle.tinyjson_schema_table.proofs.table.add_link.Goals as goal

pub returns-then-at-ge-MOST : goal.returns-then-at-ge-MOST
returns-then-at-ge-MOST c s leads = nothing_added s c.args.shapes.now.items c.args.links.now.items

pub returns : goal.returns
returns c s leads =
    let xs = c.args.shapes.now.items in
    let last : c.len-at.result ≡ length xs = omega (arith, c.args.shapes.now.ok.0, c.len-at.ensures) in
    link_added s xs _ c.in_ok-shape.shape c.args.links.now.items _ (record { way = c.args.way; at = c.len-at.result }) last
    (leads ∙ ap (λ x. Some (view x.now)) (sym c.in_ok-shape.ensures)) c.in_ok-push.ensures.items c.in_ok-push-2.ensures.items

use Rattle.std.proofs.Common.{subst, sym}
use Rattle.std.specs.Prelude.{encode_utf8_all}
use Rattle.tinyjson.proofs.Callers.{begins, ends, fails, goes}
use Rattle.tinyjson.specs.Written.{WritesPrefix}
use Rattle.tinyjson_path.specs.Nodes.{part_view}
use Rattle.json_path.specs.Shapes.{item_text, next_text}
use Rattle.json_path.proofs.array.write_next.Goals as goal

pub returns-then-is_first : goal.returns-then-is_first
returns-then-is_first g c =
    subst (λ b. WritesPrefix (g.W.Write.contents c.args.output.now) (g.W.Write.contents c.write_item.new.output)
    (next_text c.args.shape b (part_view c.args.node.now)) c.write_item.result) (sym c.if-is_first.true) c.write_item.ensures

pub returns-in_err-write_all : goal.returns-in_err-write_all
returns-in_err-write_all g c =
    subst (λ b. WritesPrefix (g.W.Write.contents c.args.output.now) (g.W.Write.contents c.write_all.new.out)
    (next_text c.args.shape b (part_view c.args.node.now)) c.from_residual.result) (sym c.if-is_first.false)
    (fails _ (encode_utf8_all (item_text c.args.shape (part_view c.args.node.now))) c.from_residual.ensures.0
    c.in_err-write_all.ensures begins)

pub returns : goal.returns
returns g c =
    subst (λ b. WritesPrefix (g.W.Write.contents c.args.output.now) (g.W.Write.contents c.write_item-2.new.output)
    (next_text c.args.shape b (part_view c.args.node.now)) c.write_item-2.result) (sym c.if-is_first.false)
    (ends _ _ _ _ _ c.write_item-2.result c.write_item-2.ensures
    (goes (encode_utf8_all (item_text c.args.shape (part_view c.args.node.now))) c.in_ok-write_all.ensures begins))

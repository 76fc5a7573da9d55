use Rattle.std.proofs.Common.{◌≡◌, arith, length, map, refl}
use Rattle.std.proofs.lemmas.List.{length-map}
use Rattle.std.specs.Box.{box_value}
use Rattle.std.specs.Str.{chars}
use Rattle.tinyjson.specs.View.{view}
use Rattle.tinyjson_pointer.proofs.Beside.{boxes_inserted}
use Rattle.tinyjson_pointer.proofs.Children.{not_placed, placed}
use Rattle.tinyjson_pointer.proofs.siblings.insert_at.Goals as goal

pub returns-in_default : goal.returns-in_default
returns-in_default c =
    let q = c.args.items.now in
    let vs = map box_value q.items in
    let count : c.len.result ≡ length vs = omega (arith, length-map q.items box_value, q.small, q.ok, c.len.ensures) in
    (not_placed vs (chars c.args.token.now) (view (box_value c.args.part)) c.len.result count c.in_default.ensures, refl)

pub returns-in-Ok : goal.returns-in-Ok
returns-in-Ok c =
    let q = c.args.items.now in
    let vs = map box_value q.items in
    let count : c.len.result ≡ length vs = omega (arith, length-map q.items box_value, q.small, q.ok, c.len.ensures) in
    placed vs (map box_value c.insert.new.self.items) (chars c.args.token.now) (box_value c.args.part) c.len.result c.in-Some.at count
    c.in-Some.ensures.0 c.in-Some.ensures.1
    (boxes_inserted q.items c.insert.new.self.items c.in-Some.at c.args.part c.in-Ok.ensures.items)

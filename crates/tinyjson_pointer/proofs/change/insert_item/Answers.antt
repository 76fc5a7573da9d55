use Rattle.std.proofs.Common.{◌≡◌, arith, length, refl}
use Rattle.std.specs.Str.{chars}
use Rattle.tinyjson.specs.View.{view}
use Rattle.tinyjson_pointer.proofs.Children.{not_placed, placed}
use Rattle.tinyjson_pointer.proofs.change.insert_item.Goals as goal

pub returns-in_default : goal.returns-in_default
returns-in_default c =
    let l = c.args.items.now in
    let count : c.len.result ≡ length l.items = omega (arith, l.small, l.ok) in
    (not_placed l.items (chars c.args.token.now) (view c.args.part) c.len.result count c.in_default.ensures, refl)

pub returns-in-Ok : goal.returns-in-Ok
returns-in-Ok c =
    let l = c.args.items.now in
    let count : c.len.result ≡ length l.items = omega (arith, l.small, l.ok) in
    placed l.items c.insert.new.self.items (chars c.args.token.now) c.args.part c.len.result c.in-Some.at count
    c.in-Some.ensures.0 c.in-Some.ensures.1 c.in-Ok.ensures.items

use Rattle.std.proofs.Common.{◌≡◌, arith, length, ap}
use Rattle.std.specs.Str.{chars}
use Rattle.tinyjson_patch.specs.private.Edited.{tree}
use Rattle.tinyjson_patch.proofs.Editing.Steps.{not_placed, placed_of}
use Rattle.tinyjson_patch.proofs.edit.change.insert_item.Goals as goal

pub returns-in_default : goal.returns-in_default
returns-in_default c =
    let l = c.args.items.now in
    let count : c.len.result ≡ length l.items = omega (arith, l.small, l.ok, c.len.ensures) in
    not_placed l.items (chars c.args.token.now) (tree c.args.child) c.len.result count c.in_default.ensures

pub returns-in-Ok-insert : goal.returns-in-Ok-insert
returns-in-Ok-insert c =
    let l = c.args.items.now in
    let count : c.len.result ≡ length l.items = omega (arith, l.small, l.ok, c.len.ensures) in
    placed_of l.items c.insert.new.self.items (chars c.args.token.now) c.in-Ok.item c.args.child c.len.result c.in-Some.at count
    c.in-Some.ensures.0 c.in-Some.ensures.1 c.in-Ok-insert.ensures.items (ap tree c.in-Ok.ensures.ok)

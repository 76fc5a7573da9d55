use Rattle.std.proofs.Common.{map}
use Rattle.tinyjson.specs.View.{text}
use Rattle.tinyjson_patch.specs.private.Edited.{tree}
use Rattle.tinyjson_patch.specs.private.Opening.{closed}
use Rattle.tinyjson_patch.proofs.Editing.Changing.{changes_from, changes_nothing}
use Rattle.tinyjson_patch.proofs.Editing.Opening.{closed_none}
use Rattle.tinyjson_patch.proofs.edit.change.change_below.Goals as goal

pub returns-in-Ok : goal.returns-in-Ok
returns-in-Ok c =
    let p' = tree c.change_here.new.part in
    changes_from c.args.change (tree c.args.part.now) (tree c.go_down.new.part) p' (closed c.go_down.new.opened.items p')
    (map text c.args.tokens.now) c.change_here.result c.in-Ok.ensures.0 c.change_here.ensures
    (closed_none c.args.opened.now.items _ c.requires (c.in-Ok.ensures.1 p'))

pub returns-in-Err : goal.returns-in-Err
returns-in-Err c =
    changes_nothing c.args.change (tree c.args.part.now) (tree c.go_down.new.part) (closed c.go_down.new.opened.items (tree c.go_down.new.part))
    (map text c.args.tokens.now) c.args.opened.now.items c.go_down.new.opened.items c.in-Err.error c.refused.result c.in-Err.ensures c.refused.ensures

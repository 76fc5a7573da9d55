use Rattle.std.proofs.Common.{◌≡◌, ◌∙◌, arith, false, sym, true}
use Rattle.tinyjson_cli.proofs.Progress.{replaces_begin, replaces_end, replaces_go_on, replaces_stop}
use Rattle.tinyjson_cli.proofs.in_place.replace_each.Goals as goal

pub loop-name-init : goal.loop-name-init
loop-name-init g c = replaces_begin g.T.Tool.gives _ c.args.tool.now

pub returns-then-not-goes_on : goal.returns-then-not-goes_on
returns-then-not-goes_on g c =
    let off : c.reported-of_file.result.1 ≡ false = let t = c.if-not-goes_on.true in cc in
    replaces_stop g.T.Tool.gives c.args.files.now c.loop-name.name-index _ c.loop-name-test.true _ c.file_named-file.ensures
    c.args.tool.now c.loop-name.tool _ c.loop-name.status c.reported-of_file.result.0 c.and-status.result c.loop-name.invariant
    c.and-status.ensures c.replace_file-replaced.result c.replace_file-replaced.ensures c.reported-of_file.ensures.status
    (sym c.reported-of_file.ensures.goes ∙ off)

pub loop-name-preserved : goal.loop-name-preserved
loop-name-preserved g c =
    let on : c.reported-of_file.result.1 ≡ true = let t = c.if-not-goes_on.false in cc in
    replaces_go_on g.T.Tool.gives c.args.files.now c.loop-name.name-index _ c.loop-name-test.true _ c.file_named-file.ensures
    c.args.tool.now c.loop-name.tool _ c.loop-name.status c.reported-of_file.result.0 c.and-status.result c.loop-name.invariant
    c.and-status.ensures c.replace_file-replaced.result c.replace_file-replaced.ensures c.reported-of_file.ensures.status
    (sym c.reported-of_file.ensures.goes ∙ on)

pub returns : goal.returns
returns g c =
    replaces_end g.T.Tool.gives c.args.files.now c.loop-name.name-index c.args.tool.now c.loop-name.tool _
    (omega (arith, c.loop-name.auto.name-index-end, c.loop-name-test.false)) c.loop-name.invariant

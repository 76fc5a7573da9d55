use Rattle.std.proofs.Common.{◌≡◌, ◌∙◌, ap, arith, false, sym, true}
use Rattle.tinyjson_cli.proofs.Progress.{answers_begin, answers_end, answers_go_on, answers_stop}
use Rattle.tinyjson_cli.proofs.files.answer_each.Goals as goal

pub loop-name-init : goal.loop-name-init
loop-name-init g c = λ empty. answers_begin g.T.Tool.gives _ c.args.tool.now _ _ empty

pub returns-then-not-goes_on : goal.returns-then-not-goes_on
returns-then-not-goes_on g c = λ empty.
    let h = c.loop-name.invariant empty in
    let off : c.reported-of_file.result.1 ≡ false = let t = c.if-not-goes_on.true in cc in
    answers_stop g.T.Tool.gives c.args.files.now c.loop-name.name-index _ c.loop-name-test.true _ c.file_named-file.ensures
    c.args.tool.now c.loop-name.tool _ _ _ _ _ _ c.loop-name.status h c.reported-of_file.result.0 c.and-status.result c.and-status.ensures
    c.answer_file-answered.result (c.answer_file-answered.ensures h.flushed) c.reported-of_file.ensures.status
    (sym c.reported-of_file.ensures.goes ∙ off)

pub loop-name-preserved : goal.loop-name-preserved
loop-name-preserved g c = λ empty.
    let h = c.loop-name.invariant empty in
    let on : c.reported-of_file.result.1 ≡ true = let t = c.if-not-goes_on.false in cc in
    answers_go_on g.T.Tool.gives c.args.files.now c.loop-name.name-index _ c.loop-name-test.true _ c.file_named-file.ensures
    c.args.tool.now c.loop-name.tool _ _ _ _ _ _ c.loop-name.status h c.reported-of_file.result.0 c.and-status.result c.and-status.ensures
    c.answer_file-answered.result (c.answer_file-answered.ensures h.flushed) c.reported-of_file.ensures.status
    (sym c.reported-of_file.ensures.goes ∙ on)

pub returns : goal.returns
returns g c = λ empty.
    answers_end g.T.Tool.gives c.args.files.now c.loop-name.name-index c.args.tool.now c.loop-name.tool _ _ _ _
    (omega (arith, c.loop-name.auto.name-index-end, c.loop-name-test.false)) (c.loop-name.invariant empty)

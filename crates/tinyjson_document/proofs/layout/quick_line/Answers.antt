use Rattle.tinyjson_document.proofs.Lines.{line_at, line_none}
use Rattle.tinyjson_document.proofs.Buffering.{same_bytes}
use Rattle.tinyjson_document.proofs.layout.quick_line.Goals as goal

pub returns-in-None : goal.returns-in-None
returns-in-None c =
    same_bytes c.quick_word.result _ _ _ _ (line_none c.args.indent c.args.first c.args.level c.in-None.is) c.quick_word.ensures

pub returns-in-Some : goal.returns-in-Some
returns-in-Some c =
    let line = line_at c.args.indent c.in-Some.indent c.args.first c.args.level c.in-Some.is
    (c.is_two_spaces.ensures c.if-is_two_spaces.true) c.if-level-le-LEVELS.true in
    same_bytes c.quick_word-in-Some.result _ _ _ _ line c.quick_word-in-Some.ensures

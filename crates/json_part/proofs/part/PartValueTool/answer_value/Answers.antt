use Rattle.std.proofs.Common.{◌≡◌, None, ap, option_map, sym, ◌∙◌}
use Rattle.tinyjson_document.specs.Document.{tree}
use Rattle.tinyjson_pointer.specs.Tokens.{tokens_of}
use Rattle.tinyjson_pointer.specs.Walk.{part_at}
use Rattle.json_part.proofs.Finding.{missing}
use Rattle.json_part.proofs.part.PartValueTool.answer_value.Goals as goal

pub returns-in_default : goal.returns-in_default
returns-in_default g c =
    let ks = tokens_of c.args.self.now.pointer.now in
    let none : part_at (tree c.args.value) ks ≡ None = sym c.find_part.ensures ∙ ap (option_map tree) c.in_default.is in
    missing c.args.self.now.form ks (tree c.args.value) _ _ c.answer_missing.result none c.answer_missing.ensures

use Rattle.std.proofs.Common.{subst, string_bytes}
use Rattle.std.specs.Prelude.{IfOk}
use Rattle.tinyjson.specs.View.{view}
use Rattle.tinyjson_view.specs.Views.{tree_of}
use Rattle.tinyjson_pointer.specs.Tokens.{tokens_of}
use Rattle.tinyjson_schema_keywords.specs.declared.document.Whole.{Whole}
use Rattle.tinyjson_schema_report.specs.Nearest.{IsWords}
use Rattle.tinyjson_schema_report.proofs.every.words_of.Goals as goal

pub returns : goal.returns
returns c =
    let v = c.args.violation.now in
    subst (λ (w : Whole). IfOk c.words.result (λ s. IsWords (view w.root.now) (tree_of c.args.value.now)
    (tokens_of v.keyword_location) (tokens_of v.instance_location) (string_bytes s))) c.whole.ensures c.words.ensures

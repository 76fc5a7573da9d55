use Rattle.std.proofs.Common.{subst, string_bytes}
use Rattle.tinyjson.specs.View.{view}
use Rattle.tinyjson_view.specs.Views.{tree_of}
use Rattle.tinyjson_pointer.specs.Tokens.{tokens_of}
use Rattle.tinyjson_schema_keywords.specs.declared.document.Whole.{Whole}
use Rattle.tinyjson_schema_report.specs.Nearest.{IsWords}
use Rattle.tinyjson_schema_report.proofs.found.with_words.Goals as goal

pub returns-in-Ok : goal.returns-in-Ok
returns-in-Ok c =
    let v = c.args.violation in (
      c.requires,
      subst (λ (w : Whole). IsWords (view w.root.now) (tree_of c.args.value.now)
          (tokens_of v.keyword_location) (tokens_of v.instance_location) (string_bytes c.in-Ok.words)) c.whole.ensures c.in-Ok.ensures,
    )

use Rattle.std.proofs.Common.{◌≡◌, ◌∙◌, ap, subst, string_bytes}
use Rattle.std.specs.Prelude.{IfOk}
use Rattle.tinyjson.proofs.Callers.{view_String}
use Rattle.tinyjson.specs.Tree.{string}
use Rattle.tinyjson.specs.View.{view}
use Rattle.tinyjson.specs.declared.value.JsonValue.TheVariants as is
use Rattle.tinyjson_pointer.proofs.Callers.{place_text}
use Rattle.tinyjson_pointer.specs.Text.{pointer_text}
use Rattle.tinyjson_pointer.specs.Tokens.{tokens_of}
use Rattle.tinyjson_schema_report.specs.Brief.{brief}
use Rattle.tinyjson_schema_report.proofs.nearest.brief_place.Goals as goal

pub returns : goal.returns
returns c =
    let text = c.in_ok-text.text in
    let tree : view (is.String text) ≡ string (pointer_text (tokens_of c.args.place.now))
    = view_String text ∙ ap string (place_text c.args.place.now text c.in_ok-text.ensures.ok) in
    subst (λ t. IfOk c.brief.result (λ s. string_bytes s ≡ brief t)) tree c.brief.ensures

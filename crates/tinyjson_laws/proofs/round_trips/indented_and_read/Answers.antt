use Rattle.std.proofs.Common.{◌≡◌, Some, sym, ap, ◌∙◌, subst, rules}
use Rattle.std.specs.Str.{IsUtf8, chars}
use Rattle.tinyjson_grammar.specs.Text.{indented}
use Rattle.tinyjson.specs.View.{view}
use Rattle.tinyjson.proofs.Callers.{text_of_scalars, encoded_utf8, encoded_chars, view_IsTree}
use Rattle.tinyjson_laws.proofs.CallLaws.{reads_back}
use Rattle.tinyjson_laws.proofs.TextScalars.{white_scalars}
use Rattle.tinyjson_laws.proofs.round_trips.indented_and_read.Goals as goal

pub unreachable-requires : goal.unreachable-requires
unreachable-requires c =
    let v = c.args.value.now in
    let i = chars c.args.indent.now in
    let scalars = text_of_scalars (Some i) (white_scalars i c.requires) 0 (view v) (view_IsTree v) in
    let fits = c.in-Err.ensures.succeeds (subst IsUtf8 (sym c.in_ok-bytes.ensures) (encoded_utf8 (indented (view v) i 0) scalars)) in
    cc

pub returns : goal.returns
returns c =
    let v = c.args.value.now in
    let i = chars c.args.indent.now in
    let scalars = text_of_scalars (Some i) (white_scalars i c.requires) 0 (view v) (view_IsTree v) in
    let bytes : chars c.in_ok-bytes.bytes.items ≡ indented (view v) i 0 = ap chars c.in_ok-bytes.ensures
    ∙ encoded_chars (indented (view v) i 0) scalars in
    let same : chars c.as_str.result.now ≡ chars c.in_ok-bytes.bytes.items = search rules in
    reads_back v (Some i) (chars c.as_str.result.now) c.from_str.result c.requires (same ∙ bytes) c.from_str.ensures

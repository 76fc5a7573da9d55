use Rattle.std.proofs.Common.{ap, ◌∙◌, refl, subst}
use Rattle.std.specs.Prelude.{false}
use Rattle.tinyjson_lines.proofs.Passing.{begun, cut, ends_input, ends_whole, finish_broken, goes_on, passes_err, tells_utf8}
use Rattle.tinyjson_lines.specs.Lines.{content}
use Rattle.tinyjson_lines.specs.private.Beginnings.{IsCutAfter, IsNoUtf8, TellsUtf8}
use Rattle.tinyjson_lines.proofs.checked.pass_over.Goals as goal

pub loop-init : goal.loop-init
loop-init g c = record { passing = λ unread p. begun unread _ _ p }

pub returns-in_default : goal.returns-in_default
returns-in_default g c = λ unread some p.
    let broken = subst IsNoUtf8 c.as_slice.ensures.value c.in_default.ensures in
    finish_broken unread _ _ _ (c.loop.invariant.passing unread p) _ false broken c.in_ok-skip_until.ensures.rest refl

pub returns-in_err-take_piece : goal.returns-in_err-take_piece
returns-in_err-take_piece g c = λ unread some p.
    let text = subst (IsCutAfter c.in-Some.text.now) c.as_slice.ensures.value c.in-Some.ensures in
    let q = cut unread _ _ _ (c.loop.invariant.passing unread p) c.in-Some.text.now c.in_ok-part.field-0.items text
    c.in_ok-part.ensures.tail in
    passes_err unread _ _ c.in_err-take_piece.field-0.0 c.from_residual-in_err-take_piece.result
    c.from_residual-in_err-take_piece.ensures.1 (c.in_err-take_piece.ensures.reads q.middle q.piece).kind

pub returns-in-Some-Whole : goal.returns-in-Some-Whole
returns-in-Some-Whole g c = λ unread some p.
    let text = subst (IsCutAfter c.in-Some.text.now) c.as_slice.ensures.value c.in-Some.ensures in
    let q = cut unread _ _ _ (c.loop.invariant.passing unread p) c.in-Some.text.now c.in_ok-part.field-0.items text
    c.in_ok-part.ensures.tail in
    let told = subst (λ l. TellsUtf8 l c.is_ok.result) (c.content.ensures ∙ ap content c.as_slice-in-Some-Whole.ensures.value)
    (tells_utf8 c.content.result.now _ _ c.from_utf8.result c.is_ok.result c.is_ok.ensures.value c.from_utf8.ensures.cases) in
    ends_whole unread _ _ _ q _ _ c.in_ok-take_piece.field-0 c.in-Some-Whole.field-0 c.is_ok.result c.in-Some-Whole.is
    c.in-Some-Whole.field-0-is (c.in_ok-take_piece.ensures.reads q.middle q.piece) c.in_ok-take_piece.ensures.extends told

pub returns-in-Some-End : goal.returns-in-Some-End
returns-in-Some-End g c = λ unread some p.
    let text = subst (IsCutAfter c.in-Some.text.now) c.as_slice.ensures.value c.in-Some.ensures in
    let q = cut unread _ _ _ (c.loop.invariant.passing unread p) c.in-Some.text.now c.in_ok-part.field-0.items text
    c.in_ok-part.ensures.tail in
    ends_input unread _ _ _ q _ _ c.in_ok-take_piece.field-0 c.in-Some-End.field-0 c.in-Some-End.is c.in-Some-End.field-0-is
    (c.in_ok-take_piece.ensures.reads q.middle q.piece) c.in_ok-take_piece.ensures.extends some

pub loop-preserved : goal.loop-preserved
loop-preserved g c =
    record {
      passing
          = λ unread p.
          let text = subst (IsCutAfter c.in-Some.text.now) c.as_slice.ensures.value c.in-Some.ensures in
          let q = cut unread _ _ _ (c.loop.invariant.passing unread p) c.in-Some.text.now c.in_ok-part.field-0.items text
          c.in_ok-part.ensures.tail in
          goes_on unread _ _ _ q _ _ c.in_ok-take_piece.field-0 c.in-None.is
          (c.in_ok-take_piece.ensures.reads q.middle q.piece) c.in_ok-take_piece.ensures.extends;
    }

use Rattle.std.proofs.Common.{◌≡◌, ◌∙◌, None, Err, refl, subst}
use Rattle.std.proofs.KnownBytes.{Keeps-refl}
use Rattle.std.proofs.lemmas.Bool.{false≢true}
use Rattle.std.specs.Str.{chars}
use Rattle.tinyjson.specs.Error.{error_kind}
use Rattle.tinyjson.specs.Events.{TellsText}
use Rattle.tinyjson.specs.Grammar.{IsText}
use Rattle.tinyjson.specs.JsonParseErrorKind.TheVariants as kind
use Rattle.tinyjson_cli.specs.Tools.{text_bytes}
use Rattle.tinyjson_normal.specs.Normal.{HasTree}
use Rattle.json_store.proofs.Printing.{count_cut, line_cut, printed}
use Rattle.json_store.proofs.count.CounterTool.answer.Goals as goal

pub returns-in_err-write_all-in-Ok : goal.returns-in_err-write_all-in-Ok
returns-in_err-write_all-in-Ok g c =
    let h = c.in-Ok.ensures.answer in
    let k = c.in_ok-count-in-Ok.ensures h.1 h.3 in
    count_cut c.args.self.now.store c.count.new.self (chars (text_bytes c.args.input.text)) h.1
    (subst (λ bs. IsText None (chars bs) h.1) c.as_str.ensures h.2) k.0 _ (c.as_bytes.ensures.value ∙ k.1) _ _
    c.from_residual-in_err-write_all-in-Ok.result c.from_residual-in_err-write_all-in-Ok.ensures.0 c.in_err-write_all-in-Ok.ensures

pub returns-in_err-write_line_to-in-Ok : goal.returns-in_err-write_line_to-in-Ok
returns-in_err-write_line_to-in-Ok g c =
    let h = c.in-Ok.ensures.answer in
    let k = c.in_ok-count-in-Ok.ensures h.1 h.3 in
    line_cut c.args.self.now.store c.count.new.self (chars (text_bytes c.args.input.text)) h.1
    (subst (λ bs. IsText None (chars bs) h.1) c.as_str.ensures h.2) k.0 _ (c.as_bytes.ensures.value ∙ k.1) _ _ _
    c.from_residual-in_err-write_line_to-in-Ok.result c.from_residual-in_err-write_line_to-in-Ok.ensures.0
    c.in_ok-write_all-in-Ok.ensures (c.in_err-write_line_to-in-Ok.ensures.line h.1 h.3)

pub returns-in-Ok : goal.returns-in-Ok
returns-in-Ok g c =
    let h = c.in-Ok.ensures.answer in
    let k = c.in_ok-count-in-Ok.ensures h.1 h.3 in
    printed c.args.self.now.store c.count.new.self (chars (text_bytes c.args.input.text)) h.1
    (subst (λ bs. IsText None (chars bs) h.1) c.as_str.ensures h.2) k.0 _ (c.as_bytes.ensures.value ∙ k.1) _ _ _
    c.in_ok-write_all-in-Ok.ensures (c.in_ok-write_line_to-in-Ok.ensures.line h.1 h.3)

pub returns : goal.returns
returns g c =
    let error = c.in-Err.error in
    let other : ¬ (error_kind error ≡ kind.OutOfMemory) = λ k. false≢true (c.if-is_out_of_memory.ensures.1 k) in
    let h : TellsText HasTree None (chars (text_bytes c.args.input.text)) (Err error) =
    subst (λ bs. TellsText HasTree None (chars bs) (Err error)) c.as_str.ensures c.in-Err.ensures in (
      (
        record {
          consumed = h.consumed;
          rest = h.rest;
          whole = h.whole;
          answer = (h.answer.0, h.answer.1 other);
          refused = h.refused;
        },
        h.refused other,
        λ u. refl,
      ),
      Keeps-refl _,
    )

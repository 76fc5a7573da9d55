use Rattle.std.proofs.Common.{◌∙◌, ap, rules, w64, SFits}
use Rattle.std.proofs.lemmas.Int.{to_z-of_z}
use Rattle.tinyjson_path_query.specs.declared.query.Selector.TheVariants as is
use Rattle.tinyjson_path_query.specs.Forms as form
use Rattle.tinyjson_path_query.specs.Forms.{IsPlain}
use Rattle.tinyjson_path_query.proofs.Refusals.{fronts_from}
use Rattle.tinyjson_path_query.proofs.Steps.{index_at, index_nothing, index_other, index_colon}
use Rattle.tinyjson_path_query.proofs.parse.index_or_slice.Goals as goal

pub returns-in_default : goal.returns-in_default
returns-in_default c =
    let i = c.in_ok-index.index in
    let fits : SFits w64 i = search rules in (
      form.index i,
      index_at c.args.text.now _ _ i c.in_ok-index.ensures c.after_blanks-after.ensures ∙ index_nothing i _ c.in_default.ensures.cases,
      ap is.Index (to_z-of_z w64 i fits),
    )

pub returns-then-next-ne58 : goal.returns-then-next-ne58
returns-then-next-ne58 c =
    let i = c.in_ok-index.index in
    let fits : SFits w64 i = search rules in (
      form.index i,
      index_at c.args.text.now _ _ i c.in_ok-index.ensures c.after_blanks-after.ensures
          ∙ index_other i _ _ c.in-Some.next.now c.in-Some.ensures.cases.0 c.if-next-ne58.true,
      ap is.Index (to_z-of_z w64 i fits),
    )

pub returns : goal.returns
returns c =
    let i = c.in_ok-index.index in
    let fits : SFits w64 i = search rules in
    fronts_from IsPlain _ _ c.slice.result
    (index_at c.args.text.now _ _ i c.in_ok-index.ensures c.after_blanks-after.ensures
    ∙ index_colon i _ _ _ c.in-Some.next.now c.in-Some.ensures.cases.0 c.if-next-ne58.false (to_z-of_z w64 i fits)) c.slice.ensures

use Rattle.std.proofs.Common.{◌&&◌, sym, ap, ◌∙◌}
use Rattle.tinyjson.specs.View.{view}
use Rattle.tinyjson_schema_assertions.specs.Assertions.{meets_all}
use Rattle.tinyjson_schema_keywords.proofs.Callers.{drop_end}
use Rattle.tinyjson_schema_table.specs.Givens.{are_had, meets_given}
use Rattle.tinyjson_schema_table.proofs.Givens.{keyword_next, keywords_end}
use Rattle.tinyjson_schema_table.proofs.constraints.given_of.Goals as goal

pub loop-keyword-init : goal.loop-keyword-init
loop-keyword-init c =
    let s = view c.args.schema.now in
    let ks = c.assertions-keywords.result.now in (
      ap (are_had s) c.new-given.ensures.items,
      λ t. ap (λ gs. meets_given gs t && meets_all ks s t) c.new-given.ensures.items,
    )

pub loop-keyword-preserved : goal.loop-keyword-preserved
loop-keyword-preserved c =
    let s = view c.args.schema.now in
    let a = c.in_ok-add_given.ensures in (
      a.had c.loop-keyword.invariant.0,
      λ t. keyword_next s t _ c.assertions-keywords.result.now c.loop-keyword.keyword-index c.loop-keyword.given.items _
          c.loop-keyword-test.true a (c.loop-keyword.invariant.1 t),
    )

pub returns-clause-had : goal.returns-clause-had
returns-clause-had c = c.loop-keyword.invariant.0

pub returns-clause-all : goal.returns-clause-all
returns-clause-all c t =
    let s = view c.args.schema.now in
    let ks = c.assertions-keywords.result.now in
    let gs = c.loop-keyword.given.items in
    keywords_end s t ks gs (sym (ap (λ xs. meets_given gs t && meets_all xs s t) (drop_end ks c.loop-keyword.keyword-index
    c.loop-keyword-test.false)) ∙ c.loop-keyword.invariant.1 t)
    ∙ ap (λ xs. meets_all xs s t) c.assertions-keywords.ensures

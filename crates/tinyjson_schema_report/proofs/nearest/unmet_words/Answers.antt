use Rattle.std.proofs.Common.{None, refl, sym, ap, ◌∙◌, option_map, string_bytes}
use Rattle.tinyjson.specs.View.{view}
use Rattle.tinyjson_view.specs.Views.{tree_of}
use Rattle.tinyjson_schema_keywords.proofs.Callers.{turn_end}
use Rattle.tinyjson_schema_report.specs.Nearest.{unmet_at, unmet_words}
use Rattle.tinyjson_schema_report.proofs.Nearing.{stop_at, next_at}
use Rattle.tinyjson_schema_report.proofs.nearest.unmet_words.Goals as goal

pub returns-in-Some : goal.returns-in-Some
returns-in-Some c =
    let s = view c.args.schema.now in
    let t = tree_of c.args.value.now in
    stop_at (λ k. unmet_at k s t) (λ ks. unmet_words ks s t) c.args.keywords.now c.loop-keyword.keyword-index _
    (string_bytes c.in-Some.words) (λ k. refl) c.loop-keyword-test.true
    (ap (option_map string_bytes) (sym c.in-Some.is) ∙ c.in_ok-words.ensures) c.loop-keyword.invariant

pub loop-keyword-preserved : goal.loop-keyword-preserved
loop-keyword-preserved c =
    let s = view c.args.schema.now in
    let t = tree_of c.args.value.now in
    next_at (λ k. unmet_at k s t) (λ ks. unmet_words ks s t) c.args.keywords.now c.loop-keyword.keyword-index _
    (λ k. refl) c.loop-keyword-test.true
    (ap (option_map string_bytes) (sym c.in_default.is) ∙ c.in_ok-words.ensures) c.loop-keyword.invariant

pub returns : goal.returns
returns c =
    let s = view c.args.schema.now in
    let t = tree_of c.args.value.now in
    sym (turn_end (λ ks. unmet_words ks s t) c.args.keywords.now c.loop-keyword.keyword-index None c.loop-keyword-test.false refl
    c.loop-keyword.invariant)

use Rattle.std.proofs.Common.{◌++◌, ◌∙◌, map, refl, ap}
use Rattle.std.specs.Str.{chars}
use Rattle.tinyjson.specs.View.{view, text, members_listed}
use Rattle.tinyjson_view.specs.Views.{members_of}
use Rattle.tinyjson_schema.specs.Every.{found_uses, pattern_uses}
use Rattle.tinyjson_schema.specs.Steps.{use_of}
use Rattle.tinyjson_schema.proofs.Adding.{gather_next, gather_end, uses_as}
use Rattle.tinyjson_schema.specs.declared.walk.CheckError.TheVariants.{OutOfMemory}
use Rattle.tinyjson_schema.proofs.Deep.{raised}
use Rattle.std.proofs.Common.{◌≡◌, Some, sym, subst}
use Rattle.tinyjson.specs.Soundness.{IsSorted}
use Rattle.tinyjson.specs.Tree.{find}
use Rattle.tinyjson_schema_keywords.proofs.Callers.{listed_found}
use Rattle.tinyjson_schema_keywords.specs.Applied.{schema_map_at}
use Rattle.tinyjson_schema_table.specs.Links.{keyed}
use Rattle.tinyjson_schema_table.specs.Places.{LeadsTo}
use Rattle.tinyjson_schema.proofs.Alternatives.{key_known}
use Rattle.tinyjson_schema_keywords.specs.declared.keyword.Keyword.TheVariants as kw
use Rattle.tinyjson_schema.proofs.validate.uses.add_patterned.Goals as goal

pub add_found-requires : goal.add_found-requires
add_found-requires c =
    let here = c.args.here.now in
    let s = view here.schema.now in
    let ps = c.as_slice-patterns.result.now in
    let p = c.loop-pattern-item.result in
    let k = text p.0.now in
    let r = view p.1.now in
    let n = c.known_part-known.result in
    let sorted = subst (λ xs. IsSorted (members_listed xs)) (sym c.as_slice-patterns.ensures.value) c.in_ok-listed.ensures.sorted in
    let at : find k (schema_map_at s kw.PatternProperties) ≡ Some r
    = ap (find k) (sym (ap members_listed c.as_slice-patterns.ensures.value ∙ c.in_ok-listed.ensures.listed))
    ∙ listed_found ps c.loop-pattern.pattern-index p sorted c.loop-pattern-test.true c.loop-pattern-item.is in
    let leads : LeadsTo (keyed s kw.PatternProperties k) n
    = subst (λ bs. LeadsTo (keyed s kw.PatternProperties (chars bs)) n) c.as_str-text.ensures.value
    (c.known_part-known.ensures s here.same) in
    key_known s kw.PatternProperties k r n at leads

pub loop-pattern-preserved : goal.loop-pattern-preserved
loop-pattern-preserved c =
    let ms = members_of c.args.members.now in
    let p = c.loop-pattern-item.result in
    let r = view p.1.now in
    gather_next (λ xs. pattern_uses (members_listed xs) ms) c.as_slice-patterns.result.now c.loop-pattern.pattern-index _ p _ _
    (found_uses (text p.0.now) r ms) c.loop-pattern-test.true c.loop-pattern-item.is refl
    (uses_as _ _ _ _ (ap (λ bs. found_uses (chars bs) r ms) c.as_str-text.ensures.value) c.in_ok-add_found.ensures)
    c.loop-pattern.invariant

pub returns : goal.returns
returns c =
    let ms = members_of c.args.members.now in
    gather_end (λ xs. pattern_uses (members_listed xs) ms) c.as_slice-patterns.result.now c.loop-pattern.pattern-index _ _
    c.loop-pattern-test.false refl c.loop-pattern.invariant
    ∙ ap (λ rs. map use_of c.args.pending.now.items ++ pattern_uses rs ms)
    (ap members_listed c.as_slice-patterns.ensures.value ∙ c.in_ok-listed.ensures.listed)

pub returns-in_err-listed : goal.returns-in_err-listed
returns-in_err-listed c =
    raised _ _ OutOfMemory c.from_residual.result c.from_residual.ensures.1 tt

pub returns-in_err-add_found : goal.returns-in_err-add_found
returns-in_err-add_found c =
    raised _ _ c.in_err-add_found.field-0.0 c.from_residual-in_err-add_found.result c.from_residual-in_err-add_found.ensures.1 c.in_err-add_found.ensures

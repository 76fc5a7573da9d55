use Rattle.std.proofs.Common.{◌≡◌, ◌==◌, ◌<◌, ◌≤◌, ◌+◌, ◌*◌, ◌∙◌, ◌∷◌, ◌++◌, [], not, ◌&&◌, ◌||◌, Bool, true, false, Ok}
use Rattle.std.proofs.Common.{Some, None, drop, is_some, option_map, suc, arith, rules, refl}
use Rattle.std.proofs.Common.{sym, ap, subst, cond}
use Rattle.std.proofs.lemmas.Bool.{or_left, or_right}
use Rattle.std.specs.Option.{option_map_or}
use Rattle.std.specs.Prelude.{option_and_then, MatchResult}
use Rattle.std.specs.Str.{chars}
use Rattle.tinyjson.specs.Index.{nth, tree_at_key}
use Rattle.tinyjson.specs.JsonKind.TheVariants as kind
use Rattle.tinyjson.specs.Kind.{kind_of}
use Rattle.tinyjson.specs.Tree.{object, array, find}
use Rattle.tinyjson.specs.View.{view, text, items_view, members_listed}
use Rattle.tinyjson_document.specs.Parts as part
use Rattle.tinyjson_view.proofs.Callers.{array_is, object_is, member_found, nth_tree}
use Rattle.tinyjson_view.specs.Views.{tree_of, trees_of, members_of}
use Rattle.tinyjson.specs.Soundness.{IsSorted}
use Rattle.tinyjson_pointer.specs.Index.{index_of}
use Rattle.tinyjson_pointer.specs.Tokens.{tokens_of}
use Rattle.tinyjson_pointer.specs.Walk.{item_of}
use Rattle.tinyjson_schema_keywords.specs.Applied.{schema_at, schemas_at, schema_map_at, items_in, members_in}
use Rattle.tinyjson_schema_keywords.specs.declared.keyword.Keyword.TheVariants as kw
use Rattle.tinyjson_schema_keywords.proofs.Callers.{listed_found, turn_next, turn_stop, turn_end, count_next, count_end}
use Rattle.tinyjson_schema_keywords.proofs.Callers.{nth_item}
use Rattle.tinyjson_schema.specs.Applicators.{all_accept, dependents_accept, members_accepted, items_accepted, found_pass, patterns_accept}
use Rattle.tinyjson_schema.specs.Applicators.{applies, apply_all, demands, parts_accepted, tests, contains_some}
use Rattle.tinyjson_schema.specs.Applicators.{contains_at_most, contains_at_least, any_of}
use Rattle.tinyjson_schema.specs.Applicators.{one_of, branch_accepts, some_accepts, accepting, keys_pass, passing, items_passing}
use Rattle.tinyjson_schema.specs.Evaluated.{Answers, Child, member_at, item_at, value_of, others_evaluate, rest_accepted, members_pass}
use Rattle.tinyjson_schema.specs.Evaluated.{some_evaluate, accepting_evaluate, branch_evaluates, dependents_evaluate, target_evaluates}
use Rattle.tinyjson_schema_assertions.specs.Assertions.{IsUnmet}
use Rattle.tinyjson_schema.specs.Parts.{item_schema}
use Rattle.tinyjson_schema.specs.Places.{IsMemberPart, IsUnderKey, place}
use Rattle.tinyjson_schema.specs.Deep.{root_tree, Descends, DescendsIn, DescendsAmong, DescendsAtItem, DescendsAtKey}
use Rattle.tinyjson_schema.specs.Deep.{DescendsAtFound, DescendsBy, DescendsForKey}
use Rattle.tinyjson_schema.specs.Nested.{within, by_list, by_not, by_if, by_branch, by_key, by_reference, by_pattern, by_member, by_item}
use Rattle.tinyjson_schema.specs.Nested.{by_name, by_contains, by_rest, IfDeep}
use Rattle.tinyjson_schema.specs.Sources.{sources_evaluate, AreWithin, AreReached, Adds, FindsLeft}
use Rattle.tinyjson_schema_table.specs.Links.{keyed}
use Rattle.tinyjson_schema.specs.declared.walk.CheckError.TheVariants.{OutOfMemory}
use Rattle.tinyjson_schema.proofs.Alternatives.{key_there}
use Rattle.tinyjson_schema.proofs.Deep.{at_error, at_shallow, raised, raised_alone, if_deep, not_deep, at_last, one_deeper, of_list}
use Rattle.tinyjson_schema.proofs.Deep.{of_target, has_own_key}
use Rattle.tinyjson_schema.proofs.Deep.{reached_pushed, reached_at}
use Rattle.tinyjson_schema.specs.Valid.{answers_in, FindsRest, reference_accepts, target_accepts, says, Judges, Finds, IsUnapplied, refused}
use Rattle.tinyjson_schema.specs.Valid.{unmet, not_applied, in_all_of, in_dependent, in_patterned, in_reference, in_part, IsInvalidAt}
use Rattle.tinyjson_schema.specs.Valid.{FindsFound, Follows, root_of}
use Rattle.tinyjson_schema.specs.declared.validate.unevaluated.Source.{Source}
use Rattle.tinyjson_schema.proofs.Leaves.{decided_alone, untested, undemanded, unreferred}
use Rattle.tinyjson_schema.proofs.Loops.{items_turn, items_end, item_passes, item_free, members_turn, member_passes}
use Rattle.tinyjson_schema.proofs.Loops.{member_free, same_members}
use Rattle.tinyjson_schema.proofs.Loops.{dependents_turn, dependent_passes, dependent_free, no_parts, found_holds, not_found, found_turn}
use Rattle.tinyjson_schema.proofs.Sourcing.{adds_none, adds_both, adds_as, adds_turn, adds_end, within_pushed, within_at, schema_added}
use Rattle.tinyjson_schema.proofs.Sourcing.{inner_added, asking_added, branch_none, branch_some, no_branch_added, target_added}
use Rattle.tinyjson_schema.proofs.Sourcing.{no_target_added, left_turn, left_end, no_member_rest, no_item_rest, no_rest}
use Rattle.tinyjson_schema.proofs.Sourcing.{members_found, items_found}
use Rattle.tinyjson_schema.proofs.Sourcing.{evaluated_by, item_applied}
use Rattle.tinyjson_schema.proofs.Validity.{reported, reported_there, flipped, verdict, placed, last_tested, last_found, before}
use Rattle.tinyjson_schema.proofs.Validity.{no_branch, branch_met, branch_place}
use Rattle.tinyjson_schema.proofs.Validity.{reference_met, no_reference, both_met, last_demanded}
use Rattle.tinyjson_schema.proofs.validate.+validate.Goals.{in_dependents-then-has_key+in_ok-found+in_default, in_dependents-else-has_key}
use Rattle.tinyjson_schema.proofs.validate.+validate.Goals.{in_found-then-is_found+in_ok-found+in_default, in_found-else-is_found}
use Rattle.tinyjson_schema.proofs.validate.+validate.Goals.{in_members-in-Some+in_ok-found+in_default-2, in_members-in_default}
use Rattle.tinyjson_schema.proofs.validate.+validate.Goals.{tested::count_accepting-then-accepted, tested::count_accepting-else-accepted}
use Rattle.tinyjson_schema.proofs.validate.+validate.Goals.{tested::count_passing-then-accepted, tested::count_passing-else-accepted}
use Rattle.tinyjson_schema.proofs.validate.+validate.Goals.{in_items-in-Some+in_ok-found+in_default-2, in_items-in_default}
use Rattle.tinyjson_schema.proofs.validate.+validate.Goals.{unevaluated::in_members_left-then-not-evaluated+in_ok-found+in_default}
use Rattle.tinyjson_schema.proofs.validate.+validate.Goals.{unevaluated::in_members_left-else-not-evaluated}
use Rattle.tinyjson_schema.proofs.validate.+validate.Goals.{unevaluated::in_items_left-then-not-evaluated+in_ok-found+in_default}
use Rattle.tinyjson_schema.proofs.validate.+validate.Goals.{unevaluated::in_items_left-else-not-evaluated}
use Rattle.tinyjson_schema.proofs.validate.+validate.Goals as goal

-- ---- each step takes one of the walk's

pub violation_of-unmet_test-requires : goal.violation_of-unmet_test-requires
violation_of-unmet_test-requires t c =
    let fewer : 16 * c.in_ok-inner.inner.steps + 15 < 16 * c.args.walk.steps + 6 = omega (arith, c.in_ok-inner.ensures.1) in
    search rules

pub violation_of-in_demands-requires : goal.violation_of-in_demands-requires
violation_of-in_demands-requires t c =
    let fewer : 16 * c.in_ok-inner.inner.steps + 11 < 16 * c.args.walk.steps + 6 = omega (arith, c.in_ok-inner.ensures.1) in
    search rules

pub violation_of-in_reference-requires : goal.violation_of-in_reference-requires
violation_of-in_reference-requires t c =
    let fewer : 16 * c.in_ok-inner.inner.steps + 11 < 16 * c.args.walk.steps + 6 = omega (arith, c.in_ok-inner.ensures.1) in
    search rules

pub violation_of-in_parts-requires : goal.violation_of-in_parts-requires
violation_of-in_parts-requires t c =
    let fewer : 16 * c.in_ok-inner.inner.steps + 12 < 16 * c.args.walk.steps + 6 = omega (arith, c.in_ok-inner.ensures.1) in
    search rules

pub violation_of-in_rest-requires : goal.violation_of-in_rest-requires
violation_of-in_rest-requires t c =
    let fewer : 16 * c.in_ok-inner.inner.steps + 15 < 16 * c.args.walk.steps + 6 = omega (arith, c.in_ok-inner.ensures.1) in
    search rules

pub unevaluated::add_schema-add_inner-requires : goal.unevaluated::add_schema-add_inner-requires
unevaluated::add_schema-add_inner-requires t c =
    let fewer : 16 * c.in_ok-inner.inner.steps + 12 < 16 * c.args.walk.steps + 7 = omega (arith, c.in_ok-inner.ensures.1) in
    search rules

-- ---- the whole check

pub violation_of-returns-then-refuses_all : goal.violation_of-returns-then-refuses_all
violation_of-returns-then-refuses_all t c =
    let inner = c.in_ok-inner.inner in
    let s = view c.args.here.now.schema.now in
    let v = tree_of c.args.value.now in
    before c.args.walk inner c.in_ok-inner.ensures s v (Ok (Some c.of_schema.result))
    (reported (root_of inner) (suc inner.steps) s v c.of_schema.result _ _ c.of_schema.ensures
    (refused (sym c.refuses_all.ensures ∙ c.if-refuses_all.true)))

pub violation_of-returns-in-Some : goal.violation_of-returns-in-Some
violation_of-returns-in-Some t c =
    let inner = c.in_ok-inner.inner in
    let s = view c.args.here.now.schema.now in
    let v = tree_of c.args.value.now in
    before c.args.walk inner c.in_ok-inner.ensures s v c.at_keyword.result
    (reported_there (root_of inner) (suc inner.steps) s v c.at_keyword.result _ _ c.at_keyword.ensures
    (unmet c.in-Some.keyword (subst (λ f. IsUnmet f s v (Some c.in-Some.keyword)) (sym (ap (λ g. g.now.formats) c.in_ok-inner.ensures.0))
    (subst (λ o. IsUnmet c.args.walk.ground.now.formats s v o) c.in-Some.is
    c.in_ok-keyword.ensures))))

pub violation_of-returns-then-not-may_apply : goal.violation_of-returns-then-not-may_apply
violation_of-returns-then-not-may_apply t c =
    let inner = c.in_ok-inner.inner in
    let s = view c.args.here.now.schema.now in
    let v = tree_of c.args.value.now in
    before c.args.walk inner c.in_ok-inner.ensures s v (Ok None)
    (decided_alone s (c.may_apply.ensures c.if-not-may_apply.true) inner v (sym c.refuses_all.ensures ∙ c.if-refuses_all.false)
    (subst (λ f. IsUnmet f s v None) (sym (ap (λ g. g.now.formats) c.in_ok-inner.ensures.0))
    (subst (λ o. IsUnmet c.args.walk.ground.now.formats s v o) c.in_default.is
    c.in_ok-keyword.ensures)))

pub violation_of-returns-in-Some-2 : goal.violation_of-returns-in-Some-2
violation_of-returns-in-Some-2 t c =
    let inner = c.in_ok-inner.inner in
    let s = view c.args.here.now.schema.now in
    let v = tree_of c.args.value.now in
    before c.args.walk inner c.in_ok-inner.ensures s v c.at_keyword-in-Some-2.result
    (reported_there (root_of inner) (suc inner.steps) s v c.at_keyword-in-Some-2.result _ _ c.at_keyword-in-Some-2.ensures
    (not_applied c.in-Some-2.keyword (subst (λ o. IsUnapplied inner tests s v o) c.in-Some-2.is c.in_ok-keyword-2.ensures)))

pub violation_of-returns-in-Some-3 : goal.violation_of-returns-in-Some-3
violation_of-returns-in-Some-3 t c =
    let inner = c.in_ok-inner.inner in
    let s = view c.args.here.now.schema.now in
    let v = tree_of c.args.value.now in
    before c.args.walk inner c.in_ok-inner.ensures s v (Ok (Some c.in-Some-3.found))
    (subst (λ o. Finds inner (λ f. apply_all f demands s v) s v (Ok o)) c.in-Some-3.is c.in_ok-found.ensures)

pub violation_of-returns-in-Some-4 : goal.violation_of-returns-in-Some-4
violation_of-returns-in-Some-4 t c =
    let inner = c.in_ok-inner.inner in
    let s = view c.args.here.now.schema.now in
    let v = tree_of c.args.value.now in
    before c.args.walk inner c.in_ok-inner.ensures s v (Ok (Some c.in-Some-4.found))
    (subst (λ o. Finds inner (λ f. reference_accepts (view inner.ground.now.whole.now.root.now) f s v) s v (Ok o)) c.in-Some-4.is
    c.in_ok-found-2.ensures)

pub violation_of-returns-in-Some-5 : goal.violation_of-returns-in-Some-5
violation_of-returns-in-Some-5 t c =
    let inner = c.in_ok-inner.inner in
    let s = view c.args.here.now.schema.now in
    let v = tree_of c.args.value.now in
    before c.args.walk inner c.in_ok-inner.ensures s v (Ok (Some c.in-Some-5.found))
    (subst (λ o. Finds inner (λ f. parts_accepted f s v) s v (Ok o)) c.in-Some-5.is c.in_ok-found-3.ensures)

pub violation_of-returns : goal.violation_of-returns
violation_of-returns t c =
    let inner = c.in_ok-inner.inner in
    let s = view c.args.here.now.schema.now in
    let v = tree_of c.args.value.now in
    before c.args.walk inner c.in_ok-inner.ensures s v c.in_rest.result
    (last_found inner s v c.in_rest.result (sym c.refuses_all.ensures ∙ c.if-refuses_all.false)
    (subst (λ f. IsUnmet f s v None) (sym (ap (λ g. g.now.formats) c.in_ok-inner.ensures.0))
    (subst (λ o. IsUnmet c.args.walk.ground.now.formats s v o) c.in_default.is
    c.in_ok-keyword.ensures))
    (subst (λ o. IsUnapplied inner tests s v o) c.in_default-2.is c.in_ok-keyword-2.ensures)
    (subst (λ o. Finds inner (λ f. apply_all f demands s v) s v (Ok o)) c.in_default-3.is c.in_ok-found.ensures)
    (subst (λ o. Finds inner (λ f. reference_accepts (view inner.ground.now.whole.now.root.now) f s v) s v (Ok o)) c.in_default-4.is
    c.in_ok-found-2.ensures)
    (subst (λ o. Finds inner (λ f. parts_accepted f s v) s v (Ok o)) c.in_default-5.is c.in_ok-found-3.ensures)
    c.in_rest.ensures)

pub is_accepted-returns-then-not-may_apply : goal.is_accepted-returns-then-not-may_apply
is_accepted-returns-then-not-may_apply t c = c.is_accepted_alone.ensures

pub is_accepted-returns : goal.is_accepted-returns
is_accepted-returns t c g = flipped c.is_none.result _ c.is_none.ensures
    ∙ verdict (root_of c.args.walk) c.args.walk.steps (view c.args.part.now.schema.now) (tree_of c.args.value.now) c.in_ok-found.found
    c.in_ok-found.ensures g

pub tested::unmet_test-returns-then-not-may_test : goal.tested::unmet_test-returns-then-not-may_test
tested::unmet_test-returns-then-not-may_test t c g =
    untested (says c.args.walk g) (view c.args.here.now.schema.now) (tree_of c.args.value.now)
    (c.may_test.ensures c.if-not-may_test.true)

pub tested::unmet_test-returns-then-not-any : goal.tested::unmet_test-returns-then-not-any
tested::unmet_test-returns-then-not-any t c g = sym (c.in_ok-any.ensures g) ∙ c.if-not-any.true

pub tested::unmet_test-returns-then-not-one : goal.tested::unmet_test-returns-then-not-one
tested::unmet_test-returns-then-not-one t c g = sym (c.in_ok-one.ensures g) ∙ c.if-not-one.true

pub tested::unmet_test-returns-then-not-other : goal.tested::unmet_test-returns-then-not-other
tested::unmet_test-returns-then-not-other t c g = sym (c.in_ok-other.ensures g) ∙ c.if-not-other.true

pub tested::unmet_test-returns-then-not-names : goal.tested::unmet_test-returns-then-not-names
tested::unmet_test-returns-then-not-names t c g = sym (c.in_ok-names.ensures g) ∙ c.if-not-names.true

pub tested::unmet_test-returns : goal.tested::unmet_test-returns
tested::unmet_test-returns t c =
    let w = c.args.walk in
    let s = view c.args.here.now.schema.now in
    let v = tree_of c.args.value.now in
    last_tested w s v c.unmet_count.result (λ g. (
      sym (c.in_ok-any.ensures g) ∙ c.if-not-any.false,
      sym (c.in_ok-one.ensures g) ∙ c.if-not-one.false,
      sym (c.in_ok-other.ensures g) ∙ c.if-not-other.false,
      sym (c.in_ok-names.ensures g) ∙ c.if-not-names.false,
    )) c.unmet_count.ensures

pub tested::unmet_count-returns : goal.tested::unmet_count-returns
tested::unmet_count-returns t c g =
    let s = view c.args.here.now.schema.now in
    let counted = c.in_ok-count.ensures g in
    let some : contains_some c.in_ok-count.count s ≡ true = sym c.contains_some-some.ensures ∙ c.if-not-some.false in
    let most : contains_at_most c.in_ok-count.count s ≡ true = sym c.in_ok-most.ensures ∙ c.if-not-most.false in
    let least : contains_at_least c.in_ok-count.count s ≡ true = sym c.in_ok-least.ensures ∙ c.if-not-least.false in
    let all : (contains_some c.in_ok-count.count s && (contains_at_most c.in_ok-count.count s
    && (contains_at_least c.in_ok-count.count s && true))) ≡ true = λ i. some i && (most i && (least i && true)) in
    ap (λ n. contains_some n s && (contains_at_most n s && (contains_at_least n s && true))) (sym counted) ∙ all

-- ---- schemas and items that are counted

pub tested::is_any_met-returns : goal.tested::is_any_met-returns
tested::is_any_met-returns t c g =
    let f = says c.args.walk g in
    let v = tree_of c.args.value.now in
    let rs = items_view c.schemas_at-schemas.result.now in
    c.in_ok-accepted.ensures g ∙ (sym (ap (λ b. not b || some_accepts f rs v) (sym c.is_some_item.ensures ∙ c.if-not-is_some_item.false))
    ∙ ap (λ xs. any_of f xs v) c.schemas_at-schemas.ensures)

pub tested::is_some_met-listed_part-part-requires : goal.tested::is_some_met-listed_part-part-requires
tested::is_some_met-listed_part-part-requires t c =
    ap (λ ts. nth ts c.loop-index.index) (sym c.requires)
    ∙ nth_item c.args.schemas.now c.loop-index.index c.index-schemas-index.result c.loop-index-test.true c.index-schemas-index.is

pub tested::count_accepting-listed_part-part-requires : goal.tested::count_accepting-listed_part-part-requires
tested::count_accepting-listed_part-part-requires t c =
    ap (λ ts. nth ts c.loop-index.index) (sym c.requires)
    ∙ nth_item c.args.schemas.now c.loop-index.index c.index-schemas-index.result c.loop-index-test.true c.index-schemas-index.is

pub tested::is_some_met-returns-then-accepted : goal.tested::is_some_met-returns-then-accepted
tested::is_some_met-returns-then-accepted t c g =
    let f = says c.args.walk g in
    let v = tree_of c.args.value.now in
    let vs = c.args.schemas.now in
    let i = c.loop-index.index in
    turn_stop (λ xs. some_accepts f (items_view xs) v) vs i true c.index-schemas-index.result c.loop-index-test.true c.index-schemas-index.is
    (ap (λ b. b || some_accepts f (items_view (drop (i + 1) vs)) v)
    (sym (c.in_ok-accepted.ensures g ∙ ap (λ s. f s v) c.listed_part-part.ensures) ∙ c.if-accepted.true))
    (c.loop-index.invariant g)

pub tested::is_some_met-loop-index-preserved : goal.tested::is_some_met-loop-index-preserved
tested::is_some_met-loop-index-preserved t c g =
    let f = says c.args.walk g in
    let v = tree_of c.args.value.now in
    let vs = c.args.schemas.now in
    let i = c.loop-index.index in
    turn_next (λ xs. some_accepts f (items_view xs) v) vs i c.index-schemas-index.result c.loop-index-test.true c.index-schemas-index.is
    (ap (λ b. b || some_accepts f (items_view (drop (i + 1) vs)) v)
    (sym (c.in_ok-accepted.ensures g ∙ ap (λ s. f s v) c.listed_part-part.ensures) ∙ c.if-accepted.false))
    (c.loop-index.invariant g)

pub tested::is_some_met-returns : goal.tested::is_some_met-returns
tested::is_some_met-returns t c g =
    let v = tree_of c.args.value.now in
    sym (turn_end (λ xs. some_accepts (says c.args.walk g) (items_view xs) v) c.args.schemas.now c.loop-index.index false
    c.loop-index-test.false refl (c.loop-index.invariant g))

pub tested::is_one_met-returns : goal.tested::is_one_met-returns
tested::is_one_met-returns t c g =
    let f = says c.args.walk g in
    let v = tree_of c.args.value.now in
    let rs = items_view c.schemas_at-schemas.result.now in
    ap (λ n. n == 1) (c.in_ok-count.ensures g)
    ∙ (sym (ap (λ b. not b || accepting f rs v == 1) (sym c.is_some_item.ensures ∙ c.if-not-is_some_item.false))
    ∙ ap (λ xs. one_of f xs v) c.schemas_at-schemas.ensures)

pub tested::count_accepting-loop-index-preserved : goal.tested::count_accepting-loop-index-preserved
tested::count_accepting-loop-index-preserved t c =
    let v = tree_of c.args.value.now in
    let vs = c.args.schemas.now in
    let i = c.loop-index.index in
    let n = c.loop-index.count in
    let x = c.index-schemas-index.result in
    elim c.if-accepted.branch [
      | tested::count_accepting-then-accepted w ↦ (
        omega (arith, w.count-is, c.loop-index.invariant.0),
        λ g. count_next (λ xs. accepting (says c.args.walk g) (items_view xs) v) vs i n x 1 c.if-accepted.count c.loop-index-test.true
            c.index-schemas-index.is (ap (λ b. cond b 1 0 + accepting (says c.args.walk g) (items_view (drop (i + 1) vs)) v)
            (sym (c.in_ok-accepted.ensures g ∙ ap (λ s. says c.args.walk g s v) c.listed_part-part.ensures) ∙ w.if-accepted.true))
            w.count-is (c.loop-index.invariant.1 g),
      )
      | tested::count_accepting-else-accepted w ↦ (
        omega (arith, w.count-is, c.loop-index.invariant.0),
        λ g. count_next (λ xs. accepting (says c.args.walk g) (items_view xs) v) vs i n x 0 c.if-accepted.count c.loop-index-test.true
            c.index-schemas-index.is (ap (λ b. cond b 1 0 + accepting (says c.args.walk g) (items_view (drop (i + 1) vs)) v)
            (sym (c.in_ok-accepted.ensures g ∙ ap (λ s. says c.args.walk g s v) c.listed_part-part.ensures) ∙ w.if-accepted.false))
            (omega (arith, w.count-is)) (c.loop-index.invariant.1 g),
      )
    ]

pub tested::count_accepting-returns : goal.tested::count_accepting-returns
tested::count_accepting-returns t c g =
    let v = tree_of c.args.value.now in
    count_end (λ xs. accepting (says c.args.walk g) (items_view xs) v) c.args.schemas.now c.loop-index.index c.loop-index.count
    c.loop-index-test.false refl (c.loop-index.invariant.1 g)

pub tested::are_names_met-returns-in_ok-accepted-in-Some : goal.tested::are_names_met-returns-in_ok-accepted-in-Some
tested::are_names_met-returns-in_ok-accepted-in-Some t c g =
    let f = says c.args.walk g in
    let v = tree_of c.args.value.now in
    c.in_ok-accepted-in-Some.ensures g
    ∙ (ap (keys_pass (f (view c.in-Some.part.schema.now)))
    (ap members_of c.as_slice.ensures.value ∙ (c.in_ok-members-in-Some.ensures.listed ∙ same_members v))
    ∙ ap (λ o. option_map_or (λ r. keys_pass (f r) (members_in v)) o true) c.in-Some.ensures)

pub tested::are_keys_met-returns-then-not-accepted : goal.tested::are_keys_met-returns-then-not-accepted
tested::are_keys_met-returns-then-not-accepted t c g =
    let f = says c.args.walk g in
    let s = view c.args.part.now.schema.now in
    let ps = c.args.members.now in
    let i = c.loop-member.member-index in
    turn_stop (λ xs. keys_pass (f s) (members_of xs)) ps i false c.member-item.result c.loop-member-test.true c.member-item.is
    (ap (λ b. b && keys_pass (f s) (members_of (drop (i + 1) ps)))
    (ap (f s) (sym c.in_ok-name.ensures) ∙ (sym (c.in_ok-accepted.ensures g) ∙ c.if-not-accepted.true)))
    (c.loop-member.invariant g)

pub tested::are_keys_met-loop-member-preserved : goal.tested::are_keys_met-loop-member-preserved
tested::are_keys_met-loop-member-preserved t c g =
    let f = says c.args.walk g in
    let s = view c.args.part.now.schema.now in
    let ps = c.args.members.now in
    let i = c.loop-member.member-index in
    turn_next (λ xs. keys_pass (f s) (members_of xs)) ps i c.member-item.result c.loop-member-test.true c.member-item.is
    (ap (λ b. b && keys_pass (f s) (members_of (drop (i + 1) ps)))
    (ap (f s) (sym c.in_ok-name.ensures) ∙ (sym (c.in_ok-accepted.ensures g) ∙ c.if-not-accepted.false)))
    (c.loop-member.invariant g)

pub tested::are_keys_met-returns : goal.tested::are_keys_met-returns
tested::are_keys_met-returns t c g =
    let s = view c.args.part.now.schema.now in
    sym (turn_end (λ xs. keys_pass (says c.args.walk g s) (members_of xs)) c.args.members.now c.loop-member.member-index true
    c.loop-member-test.false refl (c.loop-member.invariant g))

pub tested::contained-returns-in_ok-count-in-Array : goal.tested::contained-returns-in_ok-count-in-Array
tested::contained-returns-in_ok-count-in-Array t c g =
    let f = says c.args.walk g in
    let v = tree_of c.args.value.now in
    let same : array (trees_of c.as_slice.result.now) ≡ v
    = ap array (ap trees_of c.as_slice.ensures.value ∙ c.in_ok-items-in-Array.ensures) ∙ array_is v (sym c.in-Array.is ∙ c.kind.ensures) in
    ap Some (c.in_ok-count-in-Array.ensures g) ∙ (ap (items_passing (f (view c.in-Some.part.schema.now))) same
    ∙ ap (option_and_then (λ r. items_passing (f r) v)) c.in-Some.ensures)

pub tested::count_passing-loop-item-preserved : goal.tested::count_passing-loop-item-preserved
tested::count_passing-loop-item-preserved t c =
    let s = view c.args.part.now.schema.now in
    let vs = c.args.items.now in
    let i = c.loop-item.item-index in
    let n = c.loop-item.count in
    let x = c.item-item.result in
    elim c.if-accepted.branch [
      | tested::count_passing-then-accepted w ↦ (
        omega (arith, w.count-is, c.loop-item.invariant.0),
        λ g. count_next (λ xs. passing (says c.args.walk g s) (trees_of xs)) vs i n x 1 c.if-accepted.count c.loop-item-test.true
            c.item-item.is (ap (λ b. cond b 1 0 + passing (says c.args.walk g s) (trees_of (drop (i + 1) vs)))
            (sym (c.in_ok-accepted.ensures g) ∙ w.if-accepted.true)) w.count-is (c.loop-item.invariant.1 g),
      )
      | tested::count_passing-else-accepted w ↦ (
        omega (arith, w.count-is, c.loop-item.invariant.0),
        λ g. count_next (λ xs. passing (says c.args.walk g s) (trees_of xs)) vs i n x 0 c.if-accepted.count c.loop-item-test.true
            c.item-item.is (ap (λ b. cond b 1 0 + passing (says c.args.walk g s) (trees_of (drop (i + 1) vs)))
            (sym (c.in_ok-accepted.ensures g) ∙ w.if-accepted.false)) (omega (arith, w.count-is)) (c.loop-item.invariant.1 g),
      )
    ]

pub tested::count_passing-returns : goal.tested::count_passing-returns
tested::count_passing-returns t c g =
    let s = view c.args.part.now.schema.now in
    count_end (λ xs. passing (says c.args.walk g s) (trees_of xs)) c.args.items.now c.loop-item.item-index c.loop-item.count
    c.loop-item-test.false refl (c.loop-item.invariant.1 g)

pub tested::unmet_count-returns-then-not-some : goal.tested::unmet_count-returns-then-not-some
tested::unmet_count-returns-then-not-some t c g =
    let s = view c.args.here.now.schema.now in
    ap (λ n. contains_some n s) (sym (c.in_ok-count.ensures g)) ∙ (sym c.contains_some-some.ensures ∙ c.if-not-some.true)

pub tested::unmet_count-returns-then-not-most : goal.tested::unmet_count-returns-then-not-most
tested::unmet_count-returns-then-not-most t c g =
    let s = view c.args.here.now.schema.now in
    ap (λ n. contains_at_most n s) (sym (c.in_ok-count.ensures g)) ∙ (sym c.in_ok-most.ensures ∙ c.if-not-most.true)

pub tested::unmet_count-returns-then-not-least : goal.tested::unmet_count-returns-then-not-least
tested::unmet_count-returns-then-not-least t c g =
    let s = view c.args.here.now.schema.now in
    ap (λ n. contains_at_least n s) (sym (c.in_ok-count.ensures g)) ∙ (sym c.in_ok-least.ensures ∙ c.if-not-least.true)

-- ---- where a schema in this one is not met

pub in_demands-returns-then-not-may_demand : goal.in_demands-returns-then-not-may_demand
in_demands-returns-then-not-may_demand t c g =
    undemanded (says c.args.walk g) (view c.args.here.now.schema.now) (tree_of c.args.value.now)
    (c.may_demand.ensures c.if-not-may_demand.true)

pub in_demands-returns : goal.in_demands-returns
in_demands-returns t c =
    let w = c.args.walk in
    let s = view c.args.here.now.schema.now in
    let v = tree_of c.args.value.now in
    last_demanded w s v c.in_patterned.result
    (subst (λ o. Finds w (λ f. applies f kw.AllOf s v) s v (Ok o)) c.in_default.is c.in_ok-found.ensures)
    (subst (λ o. Finds w (λ f. applies f kw.If s v) s v (Ok o)) c.in_default-2.is c.in_ok-found-2.ensures)
    (subst (λ o. Finds w (λ f. applies f kw.DependentSchemas s v) s v (Ok o)) c.in_default-3.is c.in_ok-found-3.ensures)
    c.in_patterned.ensures

pub in_all_of-listed_part-applied-requires : goal.in_all_of-listed_part-applied-requires
in_all_of-listed_part-applied-requires t c =
    ap (λ ts. nth ts c.loop-index.index) (sym c.schemas_at-parts.ensures)
    ∙ nth_item c.schemas_at-parts.result.now c.loop-index.index c.index-parts-index.result c.loop-index-test.true c.index-parts-index.is

pub in_all_of-returns-in-Some : goal.in_all_of-returns-in-Some
in_all_of-returns-in-Some t c =
    let s = view c.args.here.now.schema.now in
    let v = tree_of c.args.value.now in
    let vs = c.schemas_at-parts.result.now in
    let i = c.loop-index.index in
    let x = c.index-parts-index.result in
    let old = c.in-Some.found in
    let told = subst (λ s. Judges c.args.walk s v (Ok c.in_ok-found.field-0)) c.listed_part-applied.ensures c.in_ok-found.ensures in
    let inner = subst (λ o. Judges c.args.walk (view x) v (Ok o)) c.in-Some.is told in
    let entered = c.in_ok-enter_listed.ensures in
    let at : nth (schemas_at s kw.AllOf) i ≡ Some (view x)
    = ap (λ ts. nth ts i) (sym c.schemas_at-parts.ensures) ∙ nth_item vs i x c.loop-index-test.true c.index-parts-index.is in
    placed c.args.walk (λ f. applies f kw.AllOf s v) s v c.enter_listed.new.self _ _ entered.entered
    (in_all_of {k = entered.token} (ap (item_of (schemas_at s kw.AllOf)) entered.named ∙ at) inner)

pub in_all_of-loop-index-preserved : goal.in_all_of-loop-index-preserved
in_all_of-loop-index-preserved t c g =
    let v = tree_of c.args.value.now in
    let vs = c.schemas_at-parts.result.now in
    let i = c.loop-index.index in
    let x = c.index-parts-index.result in
    let f = says c.args.walk g in
    let told = subst (λ s. Judges c.args.walk s v (Ok c.in_ok-found.field-0)) c.listed_part-applied.ensures c.in_ok-found.ensures in
    let good = subst (λ o. Judges c.args.walk (view x) v (Ok o)) c.in_default.is told in
    turn_next (λ xs. all_accept f (items_view xs) v) vs i x c.loop-index-test.true c.index-parts-index.is
    (ap (λ b. b && all_accept f (items_view (drop (i + 1) vs)) v) (good g)) (c.loop-index.invariant g)

pub in_all_of-returns : goal.in_all_of-returns
in_all_of-returns t c g =
    let f = says c.args.walk g in
    let v = tree_of c.args.value.now in
    ap (λ rs. all_accept f rs v) (sym c.schemas_at-parts.ensures)
    ∙ turn_end (λ xs. all_accept f (items_view xs) v) c.schemas_at-parts.result.now c.loop-index.index true
    c.loop-index-test.false refl (c.loop-index.invariant g)

pub in_branch-returns-in_default : goal.in_branch-returns-in_default
in_branch-returns-in_default t c g =
    let f = says c.args.walk g in
    let s = view c.args.here.now.schema.now in
    let v = tree_of c.args.value.now in
    ap (λ o. option_map_or (λ r. branch_accepts f s v (f r v)) o true) (sym c.in_default.ensures)

pub in_branch-returns-in_default-part : goal.in_branch-returns-in_default-part
in_branch-returns-in_default-part t c =
    no_branch c.args.walk (view c.args.here.now.schema.now) (tree_of c.args.value.now) (view c.in-Some.test.schema.now)
    c.in_ok-accepted.accepted c.branch-chosen.result c.in-Some.ensures c.in_ok-accepted.ensures c.branch-chosen.ensures
    c.in_default-part.ensures

pub in_branch-returns-in_default-2 : goal.in_branch-returns-in_default-2
in_branch-returns-in_default-2 t c =
    let v = tree_of c.args.value.now in
    let r = view c.in-Some-part.part.schema.now in
    branch_met c.args.walk (view c.args.here.now.schema.now) v (view c.in-Some.test.schema.now) c.in_ok-accepted.accepted
    c.branch-chosen.result c.in-Some.ensures c.in_ok-accepted.ensures c.branch-chosen.ensures r c.in-Some-part.ensures
    (subst (λ o. Judges c.args.walk r v (Ok o)) c.in_default-2.is c.in_ok-found.ensures)

pub in_branch-returns : goal.in_branch-returns
in_branch-returns t c =
    let s = view c.args.here.now.schema.now in
    let v = tree_of c.args.value.now in
    let r = view c.in-Some-part.part.schema.now in
    let inner = subst (λ o. Judges c.args.walk r v (Ok o)) c.in-Some-2.is c.in_ok-found.ensures in
    placed c.args.walk (λ f. applies f kw.If s v) s v c.enter_keyword.new.self _ _ c.in_ok-enter_keyword.ensures
    (branch_place c.args.walk s v (view c.in-Some.test.schema.now) c.in_ok-accepted.accepted c.branch-chosen.result c.in-Some.ensures
    c.in_ok-accepted.ensures c.branch-chosen.ensures r _ _ c.in-Some-part.ensures inner)

pub in_dependents-keyed_part-applied-requires : goal.in_dependents-keyed_part-applied-requires
in_dependents-keyed_part-applied-requires t c =
    let s = view c.args.here.now.schema.now in
    let ps = c.as_slice-dependents.result.now in
    let p = c.loop-key-item.result in
    let k = text p.0.now in
    let r = view p.1.now in
    let sorted = subst (λ xs. IsSorted (members_listed xs)) (sym c.as_slice-dependents.ensures.value) c.in_ok-listed.ensures.sorted in
    let at : find k (schema_map_at s kw.DependentSchemas) ≡ Some r
    = ap (find k) (sym (ap members_listed c.as_slice-dependents.ensures.value ∙ c.in_ok-listed.ensures.listed))
    ∙ listed_found ps c.loop-key.key-index p sorted c.loop-key-test.true c.loop-key-item.is in
    subst (λ bs. keyed s kw.DependentSchemas (chars bs) ≡ Some r) (sym c.as_str-name.ensures.value)
    (key_there s kw.DependentSchemas k r at)

pub in_dependents-returns-in-Some : goal.in_dependents-returns-in-Some
in_dependents-returns-in-Some t c =
    let s = view c.args.here.now.schema.now in
    let v = tree_of c.args.value.now in
    let ps = c.as_slice-dependents.result.now in
    let i = c.loop-key.key-index in
    let p = c.loop-key-item.result in
    let r = view p.1.now in
    let k = text p.0.now in
    let old = c.in-Some.found in
    let told = subst (λ x. Judges c.args.walk x v (Ok c.in_ok-found.field-0)) c.keyed_part-applied.ensures c.in_ok-found.ensures in
    let inner = subst (λ o. Judges c.args.walk r v (Ok o)) c.in-Some.is told in
    let entered = subst (λ bs. IsUnderKey kw.DependentSchemas (chars bs) old c.enter_keyed.new.self) c.as_str-name.ensures.value
    c.in_ok-enter_keyed.ensures in
    let here : is_some (tree_at_key v k) ≡ true = ap (λ bs. is_some (tree_at_key v (chars bs))) (sym c.as_str-name.ensures.value)
    ∙ (sym c.has_key.ensures ∙ c.if-has_key.true) in
    let sorted = subst (λ xs. IsSorted (members_listed xs)) (sym c.as_slice-dependents.ensures.value) c.in_ok-listed.ensures.sorted in
    let at : find k (schema_map_at s kw.DependentSchemas) ≡ Some r
    = ap (find k) (sym (ap members_listed c.as_slice-dependents.ensures.value ∙ c.in_ok-listed.ensures.listed))
    ∙ listed_found ps i p sorted c.loop-key-test.true c.loop-key-item.is in
    placed c.args.walk (λ f. applies f kw.DependentSchemas s v) s v c.enter_keyed.new.self _ _ entered
    (in_dependent here at inner)

pub in_dependents-loop-key-preserved : goal.in_dependents-loop-key-preserved
in_dependents-loop-key-preserved t c g =
    let v = tree_of c.args.value.now in
    let ps = c.as_slice-dependents.result.now in
    let i = c.loop-key.key-index in
    let p = c.loop-key-item.result in
    let r = view p.1.now in
    let k = text p.0.now in
    elim c.if-has_key.branch [
      | in_dependents-then-has_key+in_ok-found+in_default w ↦
          dependents_turn (says c.args.walk g) v ps i p c.loop-key-test.true c.loop-key-item.is
          (dependent_passes (says c.args.walk g) v k r (subst (λ o. Judges c.args.walk r v (Ok o)) w.in_default.is
          (subst (λ x. Judges c.args.walk x v (Ok w.in_ok-found.field-0)) w.keyed_part-applied.ensures w.in_ok-found.ensures) g))
          (c.loop-key.invariant g)
      | in_dependents-else-has_key w ↦
          dependents_turn (says c.args.walk g) v ps i p c.loop-key-test.true c.loop-key-item.is
          (dependent_free (says c.args.walk g) v k r (ap (λ bs. is_some (tree_at_key v (chars bs))) (sym c.as_str-name.ensures.value)
          ∙ (sym c.has_key.ensures ∙ w.if-has_key.false))) (c.loop-key.invariant g)
    ]

pub in_dependents-returns : goal.in_dependents-returns
in_dependents-returns t c g =
    let v = tree_of c.args.value.now in
    ap (λ rs. dependents_accept (says c.args.walk g) rs v)
    (sym (ap members_listed c.as_slice-dependents.ensures.value ∙ c.in_ok-listed.ensures.listed))
    ∙ turn_end (λ xs. dependents_accept (says c.args.walk g) (members_listed xs) v) c.as_slice-dependents.result.now c.loop-key.key-index
    true c.loop-key-test.false refl (c.loop-key.invariant g)

pub in_patterned-keyed_part-applied-requires : goal.in_patterned-keyed_part-applied-requires
in_patterned-keyed_part-applied-requires t c =
    let s = view c.args.here.now.schema.now in
    let ps = c.as_slice-patterns.result.now in
    let p = c.loop-pattern-item.result in
    let k = text p.0.now in
    let r = view p.1.now in
    let sorted = subst (λ xs. IsSorted (members_listed xs)) (sym c.as_slice-patterns.ensures.value) c.in_ok-listed.ensures.sorted in
    let at : find k (schema_map_at s kw.PatternProperties) ≡ Some r
    = ap (find k) (sym (ap members_listed c.as_slice-patterns.ensures.value ∙ c.in_ok-listed.ensures.listed))
    ∙ listed_found ps c.loop-pattern.pattern-index p sorted c.loop-pattern-test.true c.loop-pattern-item.is in
    subst (λ bs. keyed s kw.PatternProperties (chars bs) ≡ Some r) (sym c.as_str-text.ensures.value)
    (key_there s kw.PatternProperties k r at)

pub in_patterned-returns-in-Some : goal.in_patterned-returns-in-Some
in_patterned-returns-in-Some t c =
    let s = view c.args.here.now.schema.now in
    let v = tree_of c.args.value.now in
    let ps = c.as_slice-patterns.result.now in
    let i = c.loop-pattern.pattern-index in
    let p = c.loop-pattern-item.result in
    let r = view p.1.now in
    let k = text p.0.now in
    let old = c.in-Some.found in
    let first = subst (λ x. FindsFound c.args.walk (chars c.as_str-text.result.now) x (members_in v) (Ok c.in_ok-found.field-0))
    c.keyed_part-applied.ensures c.in_ok-found.ensures in
    let told = subst (λ o. FindsFound c.args.walk (chars c.as_str-text.result.now) r (members_in v) (Ok o)) c.in-Some.is first in
    let inner = subst (λ bs. FindsFound c.args.walk (chars bs) r (members_in v) (Ok (Some old))) c.as_str-text.ensures.value told in
    let entered = subst (λ bs. IsUnderKey kw.PatternProperties (chars bs) old c.enter_keyed.new.self) c.as_str-text.ensures.value
    c.in_ok-enter_keyed.ensures in
    let sorted = subst (λ xs. IsSorted (members_listed xs)) (sym c.as_slice-patterns.ensures.value) c.in_ok-listed.ensures.sorted in
    let at : find k (schema_map_at s kw.PatternProperties) ≡ Some r
    = ap (find k) (sym (ap members_listed c.as_slice-patterns.ensures.value ∙ c.in_ok-listed.ensures.listed))
    ∙ listed_found ps i p sorted c.loop-pattern-test.true c.loop-pattern-item.is in
    placed c.args.walk (λ f. applies f kw.PatternProperties s v) s v c.enter_keyed.new.self _ _ (entered.0, entered.1 ∙ inner.placed)
    (in_patterned at inner.found inner.at inner.invalid)

pub in_patterned-loop-pattern-preserved : goal.in_patterned-loop-pattern-preserved
in_patterned-loop-pattern-preserved t c g =
    let v = tree_of c.args.value.now in
    let ps = c.as_slice-patterns.result.now in
    let i = c.loop-pattern.pattern-index in
    let p = c.loop-pattern-item.result in
    let r = view p.1.now in
    let first = subst (λ x. FindsFound c.args.walk (chars c.as_str-text.result.now) x (members_in v) (Ok c.in_ok-found.field-0))
    c.keyed_part-applied.ensures c.in_ok-found.ensures in
    let told = subst (λ o. FindsFound c.args.walk (chars c.as_str-text.result.now) r (members_in v) (Ok o)) c.in_default.is first in
    let good = subst (λ bs. FindsFound c.args.walk (chars bs) r (members_in v) (Ok None)) c.as_str-text.ensures.value told in
    turn_next (λ xs. patterns_accept (says c.args.walk g) (members_listed xs) (members_in v)) ps i p c.loop-pattern-test.true
    c.loop-pattern-item.is
    (ap (λ b. b && patterns_accept (says c.args.walk g) (members_listed (drop (i + 1) ps)) (members_in v)) (good g))
    (c.loop-pattern.invariant g)

pub in_patterned-returns : goal.in_patterned-returns
in_patterned-returns t c g =
    let ms = members_in (tree_of c.args.value.now) in
    ap (λ rs. patterns_accept (says c.args.walk g) rs ms)
    (sym (ap members_listed c.as_slice-patterns.ensures.value ∙ c.in_ok-listed.ensures.listed))
    ∙ turn_end (λ xs. patterns_accept (says c.args.walk g) (members_listed xs) ms) c.as_slice-patterns.result.now
    c.loop-pattern.pattern-index true c.loop-pattern-test.false refl (c.loop-pattern.invariant g)

pub in_found-returns-in-Some : goal.in_found-returns-in-Some
in_found-returns-in-Some t c =
    let w = c.args.walk in
    let r = view c.args.part.now.schema.now in
    let v = tree_of c.args.value.now in
    let ps = c.as_slice-members.result.now in
    let i = c.loop-member.member-index in
    let p = c.member-item.result in
    let k = chars p.key.now in
    let old = c.in-Some.found in
    let inner = subst (λ o. Judges w r (tree_of p.value) (Ok o)) c.in-Some.is c.in_ok-found.ensures in
    let entered = c.in_ok-enter_value.ensures in
    let sorted = subst (λ xs. IsSorted (members_of xs)) (sym c.as_slice-members.ensures.value) c.in_ok-listed.ensures.sorted in
    record {
      key = k;
      value = tree_of p.value;
      rest = tokens_of old.instance_location;
      found = sym c.in_ok-is_found.ensures ∙ c.if-is_found.true;
      at = ap (find k) (sym (ap members_of c.as_slice-members.ensures.value ∙ (c.in_ok-listed.ensures.listed ∙ same_members v)))
          ∙ member_found ps i p sorted c.loop-member-test.true c.member-item.is;
      placed = entered.1;
      invalid = subst (λ xs. IsInvalidAt (root_of w) w.steps r (tree_of p.value) xs (tokens_of old.instance_location))
          (sym entered.0) inner;
    }

pub in_found-loop-member-preserved : goal.in_found-loop-member-preserved
in_found-loop-member-preserved t c =
    let r = view c.args.part.now.schema.now in
    let pattern = chars c.args.pattern.now in
    let ps = c.as_slice-members.result.now in
    let i = c.loop-member.member-index in
    let p = c.member-item.result in
    let k = chars p.key.now in
    let u = tree_of p.value in
    λ g. elim c.if-is_found.branch [
      | in_found-then-is_found+in_ok-found+in_default w ↦
          found_turn (says c.args.walk g r) pattern ps i p c.loop-member-test.true c.member-item.is
          (found_holds (says c.args.walk g r) pattern k u
          (subst (λ o. Judges c.args.walk r u (Ok o)) w.in_default.is w.in_ok-found.ensures g)) (c.loop-member.invariant g)
      | in_found-else-is_found w ↦
          found_turn (says c.args.walk g r) pattern ps i p c.loop-member-test.true c.member-item.is
          (not_found (says c.args.walk g r) pattern k u (sym c.in_ok-is_found.ensures ∙ w.if-is_found.false)) (c.loop-member.invariant g)
    ]

pub in_found-returns : goal.in_found-returns
in_found-returns t c g =
    let q = says c.args.walk g (view c.args.part.now.schema.now) in
    let ps = chars c.args.pattern.now in
    ap (found_pass q ps) (sym (ap members_of c.as_slice-members.ensures.value
    ∙ (c.in_ok-listed.ensures.listed ∙ same_members (tree_of c.args.value.now))))
    ∙ turn_end (λ xs. found_pass q ps (members_of xs)) c.as_slice-members.result.now c.loop-member.member-index true
    c.loop-member-test.false refl (c.loop-member.invariant g)

pub in_reference-returns-then-not-may_refer : goal.in_reference-returns-then-not-may_refer
in_reference-returns-then-not-may_refer t c g =
    unreferred (view c.args.walk.ground.now.whole.now.root.now) (says c.args.walk g) (view c.args.here.now.schema.now)
    (tree_of c.args.value.now) (c.may_refer.ensures c.if-not-may_refer.true)

pub in_reference-returns : goal.in_reference-returns
in_reference-returns t c =
    let w = c.args.walk in
    let s = view c.args.here.now.schema.now in
    let v = tree_of c.args.value.now in
    both_met w s v c.in_target-2.result
    (subst (λ o. Finds w (λ f. target_accepts (view w.ground.now.whole.now.root.now) kw.Ref f s v) s v
    (Ok o)) c.in_default.is c.in_ok-found.ensures)
    c.in_target-2.ensures

pub in_target-returns-in_default : goal.in_target-returns-in_default
in_target-returns-in_default t c g =
    let w = c.args.walk in
    no_reference (view w.ground.now.whole.now.root.now) (says w g) (view c.args.here.now.schema.now)
    (tree_of c.args.value.now) c.args.keyword
    (ap (option_map (λ x. view x.schema.now)) (sym c.in_default.is) ∙ c.in_ok-part.ensures)

pub in_target-returns-in_default-2 : goal.in_target-returns-in_default-2
in_target-returns-in_default-2 t c g =
    let w = c.args.walk in
    let v = tree_of c.args.value.now in
    let r = view c.in-Some.part.schema.now in
    reference_met (view w.ground.now.whole.now.root.now) (says w g) (view c.args.here.now.schema.now) v r c.args.keyword
    (ap (option_map (λ x. view x.schema.now)) (sym c.in-Some.is) ∙ c.in_ok-part.ensures)
    (subst (λ o. Judges w r v (Ok o)) c.in_default-2.is c.in_ok-found.ensures g)

pub in_target-returns : goal.in_target-returns
in_target-returns t c =
    let w = c.args.walk in
    let s = view c.args.here.now.schema.now in
    let v = tree_of c.args.value.now in
    let r = view c.in-Some.part.schema.now in
    let inner = subst (λ o. Judges w r v (Ok o)) c.in-Some-2.is c.in_ok-found.ensures in
    placed w (λ f. target_accepts (view w.ground.now.whole.now.root.now) c.args.keyword f s v) s v c.enter_keyword.new.self _ _
    c.in_ok-enter_keyword.ensures
    (in_reference c.args.keyword c.requires (sym (ap (option_map (λ x. view x.schema.now)) (sym c.in-Some.is)
    ∙ c.in_ok-part.ensures)) inner)

pub in_members-returns-in-Some-2 : goal.in_members-returns-in-Some-2
in_members-returns-in-Some-2 t c =
    let s = view c.args.here.now.schema.now in
    let ps = c.args.members.now in
    let i = c.loop-near.near in
    let p = c.index-members-near.result in
    let k = chars p.key.now in
    let part = c.in-Some.part in
    let r = view part.to.schema.now in
    let applied = subst (λ o. IsMemberPart s k o) c.in-Some.is (c.in_ok-part.ensures c.schema_at-properties.ensures) in
    let inner = subst (λ o. Judges c.args.walk r (tree_of p.value) (Ok o)) c.in-Some-2.is c.in_ok-found.ensures in
    placed c.args.walk (λ f. members_accepted f s (members_of ps)) s (object (members_of ps)) c.enter_member.new.self _
    _ c.in_ok-enter_member.ensures
    (in_part (place part.applicator k) applied.0 (member_found ps i p c.requires c.loop-near-test.true c.index-members-near.is) applied.1 inner)

pub in_members-loop-near-preserved : goal.in_members-loop-near-preserved
in_members-loop-near-preserved t c g =
    let s = view c.args.here.now.schema.now in
    let ps = c.args.members.now in
    let i = c.loop-near.near in
    let p = c.index-members-near.result in
    let u = tree_of p.value in
    let k = chars p.key.now in
    elim c.match-branch-2.branch [
      | in_members-in-Some+in_ok-found+in_default-2 w ↦
          let part = w.in-Some.part in
          let r = view part.to.schema.now in
          let applied = subst (λ o. IsMemberPart s k o) w.in-Some.is (c.in_ok-part.ensures c.schema_at-properties.ensures) in
          members_turn (says c.args.walk g) s ps i p c.loop-near-test.true c.index-members-near.is
          (member_passes (says c.args.walk g) s k r u applied.0
          (subst (λ o. Judges c.args.walk r u (Ok o)) w.in_default-2.is w.in_ok-found.ensures g))
          (c.loop-near.invariant g)
      | in_members-in_default w ↦
          members_turn (says c.args.walk g) s ps i p c.loop-near-test.true c.index-members-near.is
          (member_free (says c.args.walk g) s k u (subst (λ o. IsMemberPart s k o) w.in_default.is
          (c.in_ok-part.ensures c.schema_at-properties.ensures)))
          (c.loop-near.invariant g)
    ]

pub in_members-returns : goal.in_members-returns
in_members-returns t c g =
    let s = view c.args.here.now.schema.now in
    turn_end (λ xs. members_accepted (says c.args.walk g) s (members_of xs)) c.args.members.now c.loop-near.near true
    c.loop-near-test.false refl (c.loop-near.invariant g)

pub in_items-returns-in-Some-2 : goal.in_items-returns-in-Some-2
in_items-returns-in-Some-2 t c =
    let s = view c.args.here.now.schema.now in
    let vs = c.args.items.now in
    let i = c.loop-index.index in
    let x = c.index-items-index.result in
    let part = c.in-Some.part in
    let r = view part.to.schema.now in
    let old = c.in-Some-2.found in
    let applied = c.in-Some.ensures in
    let inner = subst (λ o. Judges c.args.walk r (tree_of x) (Ok o)) c.in-Some-2.is c.in_ok-found.ensures in
    let entered = c.in_ok-enter_item.ensures in
    let at : item_of (trees_of vs) (index_of entered.token) ≡ Some (tree_of x)
    = ap (item_of (trees_of vs)) entered.named ∙ nth_tree vs i x c.loop-index-test.true c.index-items-index.is in
    placed c.args.walk (λ f. items_accepted f s 0 (trees_of vs)) s (array (trees_of vs)) c.enter_item.new.self _ _
    entered.entered
    (in_part {k = entered.token} (place part.applicator entered.schema_token)
    (ap (option_and_then (item_schema s)) entered.named ∙ applied.0) at
    (applied.1 entered.schema_token entered.schema_named) inner)

pub in_items-loop-index-preserved : goal.in_items-loop-index-preserved
in_items-loop-index-preserved t c g =
    let s = view c.args.here.now.schema.now in
    let vs = c.args.items.now in
    let i = c.loop-index.index in
    let x = c.index-items-index.result in
    elim c.match-item_part.branch [
      | in_items-in-Some+in_ok-found+in_default-2 w ↦
          let r = view w.in-Some.part.to.schema.now in
          items_turn (says c.args.walk g) s vs i x c.loop-index-test.true c.index-items-index.is
          (item_passes (says c.args.walk g) s i r (tree_of x) w.in-Some.ensures.0
          (subst (λ o. Judges c.args.walk r (tree_of x) (Ok o)) w.in_default-2.is w.in_ok-found.ensures g))
          (c.loop-index.invariant g)
      | in_items-in_default w ↦
          items_turn (says c.args.walk g) s vs i x c.loop-index-test.true c.index-items-index.is
          (item_free (says c.args.walk g) s i (tree_of x) w.in_default.ensures)
          (c.loop-index.invariant g)
    ]

pub in_items-returns : goal.in_items-returns
in_items-returns t c g = items_end (says c.args.walk g) (view c.args.here.now.schema.now) c.args.items.now c.loop-index.index
    c.loop-index-test.false (c.loop-index.invariant g)

pub in_parts-in_members-requires : goal.in_parts-in_members-requires
in_parts-in_members-requires t c =
    let rises : IsSorted (members_of c.as_slice.result.now) = subst (λ xs. IsSorted (members_of xs)) (sym c.as_slice.ensures.value)
    c.in_ok-members-in-Object.ensures.sorted in
    search rules

pub in_parts-returns-in_ok-members-in-Object : goal.in_parts-returns-in_ok-members-in-Object
in_parts-returns-in_ok-members-in-Object t c =
    let s = view c.args.here.now.schema.now in
    let v = tree_of c.args.value.now in
    let same : object (members_of c.as_slice.result.now) ≡ v
    = ap object (ap members_of c.as_slice.ensures.value ∙ c.in_ok-members-in-Object.ensures.listed)
    ∙ object_is v (sym c.in-Object.is ∙ c.kind.ensures) in
    subst (λ x. Finds c.args.walk (λ f. parts_accepted f s x) s x c.in_members.result) same c.in_members.ensures

pub in_parts-returns-in_ok-items-in-Array : goal.in_parts-returns-in_ok-items-in-Array
in_parts-returns-in_ok-items-in-Array t c =
    let s = view c.args.here.now.schema.now in
    let v = tree_of c.args.value.now in
    let same : array (trees_of c.as_slice-in-Array.result.now) ≡ v
    = ap array (ap trees_of c.as_slice-in-Array.ensures.value ∙ c.in_ok-items-in-Array.ensures)
    ∙ array_is v (sym c.in-Array.is ∙ c.kind.ensures) in
    subst (λ x. Finds c.args.walk (λ f. parts_accepted f s x) s x c.in_items.result) same c.in_items.ensures

pub in_parts-returns-in_default : goal.in_parts-returns-in_default
in_parts-returns-in_default t c g = no_parts (says c.args.walk g) (view c.args.here.now.schema.now) (tree_of c.args.value.now)
    (λ e. c.in_default.not-Object (c.kind.ensures ∙ sym e)) (λ e. c.in_default.not-Array (c.kind.ensures ∙ sym e))

-- ---- what is not evaluated

pub unevaluated::in_members_left-returns-in-Some : goal.unevaluated::in_members_left-returns-in-Some
unevaluated::in_members_left-returns-in-Some t c =
    let w = c.args.walk in
    let xs = c.args.sources.now in
    let ps = c.args.members.now in
    let p = c.member-item.result in
    let k = chars p.key.now in
    let u = tree_of p.value in
    let r = view c.args.rest.now.schema.now in
    let old = c.in-Some.found in
    record {
      child = member_at k u;
      token = k;
      location = tokens_of old.keyword_location;
      within = tokens_of old.instance_location;
      keyword = refl;
      named = (refl, member_found ps c.loop-member.member-index p c.requires c.loop-member-test.true c.member-item.is);
      left = λ g. sym (c.in_ok-evaluated.ensures g u) ∙ c.if-not-evaluated.true;
      placed = c.in_ok-enter_member.ensures;
      invalid = subst (λ o. Judges w r u (Ok o)) c.in-Some.is c.in_ok-found.ensures;
    }

pub unevaluated::in_members_left-loop-member-preserved : goal.unevaluated::in_members_left-loop-member-preserved
unevaluated::in_members_left-loop-member-preserved t c g =
    let w = c.args.walk in
    let xs = c.args.sources.now in
    let ps = c.args.members.now in
    let i = c.loop-member.member-index in
    let p = c.member-item.result in
    let k = chars p.key.now in
    let u = tree_of p.value in
    let r = view c.args.rest.now.schema.now in
    let q : Child → Bool = λ k. sources_evaluate g xs k || says w g r (value_of k) in
    let told : c.in_ok-evaluated.evaluated ≡ sources_evaluate g xs (member_at k u) = c.in_ok-evaluated.ensures g u in
    elim c.if-not-evaluated.branch [
      | unevaluated::in_members_left-then-not-evaluated+in_ok-found+in_default w ↦
          turn_next (λ ys. members_pass q (members_of ys)) ps i p c.loop-member-test.true c.member-item.is
          (ap (λ b. b && members_pass q (members_of (drop (i + 1) ps))) (or_right _ _
          (subst (λ o. Judges c.args.walk r u (Ok o)) w.in_default.is w.in_ok-found.ensures g))) (c.loop-member.invariant g)
      | unevaluated::in_members_left-else-not-evaluated w ↦
          turn_next (λ ys. members_pass q (members_of ys)) ps i p c.loop-member-test.true c.member-item.is
          (ap (λ b. b && members_pass q (members_of (drop (i + 1) ps))) (or_left _ _ (sym told ∙ w.if-not-evaluated.false)))
          (c.loop-member.invariant g)
    ]

pub unevaluated::in_members_left-returns : goal.unevaluated::in_members_left-returns
unevaluated::in_members_left-returns t c g =
    let q : Child → Bool
    = λ k. sources_evaluate g c.args.sources.now k || says c.args.walk g (view c.args.rest.now.schema.now) (value_of k) in
    turn_end (λ ys. members_pass q (members_of ys)) c.args.members.now c.loop-member.member-index true c.loop-member-test.false refl
    (c.loop-member.invariant g)

pub unevaluated::in_items_left-returns-in-Some : goal.unevaluated::in_items_left-returns-in-Some
unevaluated::in_items_left-returns-in-Some t c =
    let w = c.args.walk in
    let vs = c.args.items.now in
    let i = c.loop-index.index in
    let x = c.index-items-index.result in
    let r = view c.args.rest.now.schema.now in
    let old = c.in-Some.found in
    let entered = c.in_ok-enter_item.ensures in
    record {
      child = item_at i (tree_of x);
      token = entered.token;
      location = tokens_of old.keyword_location;
      within = tokens_of old.instance_location;
      keyword = refl;
      named = (entered.named, nth_tree vs i x c.loop-index-test.true c.index-items-index.is);
      left = λ g. sym (c.in_ok-evaluated.ensures g) ∙ c.if-not-evaluated.true;
      placed = entered.entered;
      invalid = subst (λ o. Judges w r (tree_of x) (Ok o)) c.in-Some.is c.in_ok-found.ensures;
    }

pub unevaluated::in_items_left-loop-index-preserved : goal.unevaluated::in_items_left-loop-index-preserved
unevaluated::in_items_left-loop-index-preserved t c g =
    let vs = c.args.items.now in
    let i = c.loop-index.index in
    let x = c.index-items-index.result in
    let r = view c.args.rest.now.schema.now in
    let q : Child → Bool = λ k. sources_evaluate g c.args.sources.now k || says c.args.walk g r (value_of k) in
    elim c.if-not-evaluated.branch [
      | unevaluated::in_items_left-then-not-evaluated+in_ok-found+in_default w ↦
          left_turn q vs i x c.loop-index-test.true c.index-items-index.is
          (or_right _ _ (subst (λ o. Judges c.args.walk r (tree_of x) (Ok o)) w.in_default.is w.in_ok-found.ensures g))
          (c.loop-index.invariant g)
      | unevaluated::in_items_left-else-not-evaluated w ↦
          left_turn q vs i x c.loop-index-test.true c.index-items-index.is
          (or_left _ _ (sym (c.in_ok-evaluated.ensures g) ∙ w.if-not-evaluated.false)) (c.loop-index.invariant g)
    ]

pub unevaluated::in_items_left-returns : goal.unevaluated::in_items_left-returns
unevaluated::in_items_left-returns t c g =
    let q : Child → Bool
    = λ k. sources_evaluate g c.args.sources.now k || says c.args.walk g (view c.args.rest.now.schema.now) (value_of k) in
    left_end q c.args.items.now c.loop-index.index c.loop-index-test.false (c.loop-index.invariant g)

pub unevaluated::is_item_evaluated-evaluates_item-requires : goal.unevaluated::is_item_evaluated-evaluates_item-requires
unevaluated::is_item_evaluated-evaluates_item-requires t c =
    let x = c.source-item.result in
    let within : x.walk.steps ≤ c.args.walk.steps
    = within_at c.args.walk.steps c.args.sources.now c.loop-source.source-index x c.requires c.loop-source-test.true c.source-item.is in
    let fewer : 16 * x.walk.steps + 11 < 16 * c.args.walk.steps + 12 = omega (arith, within) in
    search rules

pub unevaluated::is_item_evaluated-returns-then-evaluates : goal.unevaluated::is_item_evaluated-returns-then-evaluates
unevaluated::is_item_evaluated-returns-then-evaluates t c g =
    let k = item_at c.args.index (tree_of c.args.item.now) in
    let xs = c.args.sources.now in
    let i = c.loop-source.source-index in
    turn_stop (λ ys. sources_evaluate g ys k) xs i true c.source-item.result c.loop-source-test.true c.source-item.is
    (ap (λ b. b || sources_evaluate g (drop (i + 1) xs) k) (sym (c.in_ok-evaluates.ensures g) ∙ c.if-evaluates.true))
    (c.loop-source.invariant g)

pub unevaluated::is_item_evaluated-loop-source-preserved : goal.unevaluated::is_item_evaluated-loop-source-preserved
unevaluated::is_item_evaluated-loop-source-preserved t c g =
    let k = item_at c.args.index (tree_of c.args.item.now) in
    let xs = c.args.sources.now in
    let i = c.loop-source.source-index in
    turn_next (λ ys. sources_evaluate g ys k) xs i c.source-item.result c.loop-source-test.true c.source-item.is
    (ap (λ b. b || sources_evaluate g (drop (i + 1) xs) k) (sym (c.in_ok-evaluates.ensures g) ∙ c.if-evaluates.false))
    (c.loop-source.invariant g)

pub unevaluated::is_item_evaluated-returns : goal.unevaluated::is_item_evaluated-returns
unevaluated::is_item_evaluated-returns t c g =
    let k = item_at c.args.index (tree_of c.args.item.now) in
    sym (turn_end (λ ys. sources_evaluate g ys k) c.args.sources.now c.loop-source.source-index false c.loop-source-test.false refl
    (c.loop-source.invariant g))

pub unevaluated::evaluates_item-returns-then-has_rest : goal.unevaluated::evaluates_item-returns-then-has_rest
unevaluated::evaluates_item-returns-then-has_rest t c g =
    sym (or_left _ _ (sym c.counts_rest-has_rest.ensures ∙ c.if-has_rest.true))

pub unevaluated::evaluates_item-returns-then-is_some : goal.unevaluated::evaluates_item-returns-then-is_some
unevaluated::evaluates_item-returns-then-is_some t c g =
    let x = c.args.source.now in
    let s = view x.applied.schema.now in
    sym (or_right _ _ (or_left _ _ (sym (item_applied s c.args.index c.item_part-applied.result c.item_part-applied.ensures)
    ∙ (sym c.is_some.ensures ∙ c.if-is_some.true))))

pub unevaluated::evaluates_item-returns-in_default : goal.unevaluated::evaluates_item-returns-in_default
unevaluated::evaluates_item-returns-in_default t c g =
    let x = c.args.source.now in
    let s = view x.applied.schema.now in
    evaluated_by _ _ _ false (sym c.counts_rest-has_rest.ensures ∙ c.if-has_rest.false)
    (sym (item_applied s c.args.index c.item_part-applied.result c.item_part-applied.ensures)
    ∙ (sym c.is_some.ensures ∙ c.if-is_some.false))
    (ap (λ o. option_map_or (λ r. says x.walk g r (tree_of c.args.item.now)) o false) c.in_default.ensures)

pub unevaluated::evaluates_item-returns : goal.unevaluated::evaluates_item-returns
unevaluated::evaluates_item-returns t c g =
    let x = c.args.source.now in
    let s = view x.applied.schema.now in
    evaluated_by _ _ _ c.in_ok-accepted.accepted (sym c.counts_rest-has_rest.ensures ∙ c.if-has_rest.false)
    (sym (item_applied s c.args.index c.item_part-applied.result c.item_part-applied.ensures)
    ∙ (sym c.is_some.ensures ∙ c.if-is_some.false))
    (c.in_ok-accepted.ensures g ∙ ap (λ o. option_map_or (λ r. says x.walk g r (tree_of c.args.item.now)) o false) c.in-Some.ensures)

-- ---- the whole of it

pub unevaluated::in_rest-in_members_rest-requires : goal.unevaluated::in_rest-in_members_rest-requires
unevaluated::in_rest-in_members_rest-requires t c =
    let is : kind_of (tree_of c.args.value.now) ≡ kind.Object = sym c.kind.ensures ∙ c.in-Object.is in
    let fewer : 16 * c.args.walk.steps + 14 < 16 * c.args.walk.steps + 15 = omega arith in
    search rules

pub unevaluated::in_rest-in_items_rest-requires : goal.unevaluated::in_rest-in_items_rest-requires
unevaluated::in_rest-in_items_rest-requires t c =
    let is : kind_of (tree_of c.args.value.now) ≡ kind.Array = sym c.kind.ensures ∙ c.in-Array.is in
    let fewer : 16 * c.args.walk.steps + 14 < 16 * c.args.walk.steps + 15 = omega arith in
    search rules

pub unevaluated::in_members_rest-in_members_left-requires : goal.unevaluated::in_members_rest-in_members_left-requires
unevaluated::in_members_rest-in_members_left-requires t c =
    let rises : IsSorted (members_of c.as_slice.result.now) = subst (λ xs. IsSorted (members_of xs)) (sym c.as_slice.ensures.value)
    c.in_ok-members.ensures.sorted in
    let fewer : 16 * c.args.walk.steps + 13 < 16 * c.args.walk.steps + 14 = omega arith in
    search rules

pub unevaluated::in_items_rest-in_items_left-requires : goal.unevaluated::in_items_rest-in_items_left-requires
unevaluated::in_items_rest-in_items_left-requires t c =
    let inside : AreWithin c.args.walk.steps c.as_slice-2.result.now
    = subst (AreWithin c.args.walk.steps) (sym c.as_slice-2.ensures.value) c.in_ok-sources.ensures.within in
    let fewer : 16 * c.args.walk.steps + 13 < 16 * c.args.walk.steps + 14 = omega arith in
    search rules

pub unevaluated::in_members_rest-returns-in_default : goal.unevaluated::in_members_rest-returns-in_default
unevaluated::in_members_rest-returns-in_default t c g =
    let w = c.args.walk in
    let s = view c.args.here.now.schema.now in
    let v = tree_of c.args.value.now in
    subst (λ x. rest_accepted (view w.ground.now.whole.now.root.now) (answers_in w g) s x ≡ true)
    (object_is v (sym c.requires))
    (no_member_rest (view w.ground.now.whole.now.root.now) (answers_in w g) s (part.members_in v) c.in_default.ensures)

pub unevaluated::in_items_rest-returns-in_default : goal.unevaluated::in_items_rest-returns-in_default
unevaluated::in_items_rest-returns-in_default t c g =
    let w = c.args.walk in
    let s = view c.args.here.now.schema.now in
    let v = tree_of c.args.value.now in
    subst (λ x. rest_accepted (view w.ground.now.whole.now.root.now) (answers_in w g) s x ≡ true)
    (array_is v (sym c.requires))
    (no_item_rest (view w.ground.now.whole.now.root.now) (answers_in w g) s (part.items_in v) c.in_default.ensures)

pub unevaluated::in_rest-returns-in_default : goal.unevaluated::in_rest-returns-in_default
unevaluated::in_rest-returns-in_default t c g =
    let w = c.args.walk in
    no_rest (view w.ground.now.whole.now.root.now) (answers_in w g) (view c.args.here.now.schema.now) (tree_of c.args.value.now)
    (λ e. c.in_default.not-Object (c.kind.ensures ∙ sym e)) (λ e. c.in_default.not-Array (c.kind.ensures ∙ sym e))

pub unevaluated::in_members_rest-returns : goal.unevaluated::in_members_rest-returns
unevaluated::in_members_rest-returns t c =
    let w = c.args.walk in
    let s = view c.args.here.now.schema.now in
    let v = tree_of c.args.value.now in
    let xs = c.as_slice-2.result.now in
    let ms = members_of c.as_slice.result.now in
    let same : object ms ≡ v = ap object (ap members_of c.as_slice.ensures.value ∙ c.in_ok-members.ensures.listed)
    ∙ object_is v (sym c.requires) in
    let told : (g : Answers) (k : Child) → sources_evaluate g xs k ≡ others_evaluate (view w.ground.now.whole.now.root.now)
    (answers_in w g) s v k
    = λ g k. ap (λ l. sources_evaluate g l k) c.as_slice-2.ensures.value ∙ c.in_ok-sources.ensures.evaluated g k in
    subst (λ x. FindsRest w s x c.in_members_left.result) same
    (members_found w s (view c.in-Some.rest.schema.now) ms xs c.in_members_left.result
    (subst (λ x. (g : Answers) (k : Child) → sources_evaluate g xs k ≡ others_evaluate (view w.ground.now.whole.now.root.now)
    (answers_in w g) s x k)
    (sym same)
    told)
    (subst (λ x. AreReached (root_tree w) (suc w.steps) s x xs) (sym same)
    (subst (AreReached (root_tree w) (suc w.steps) s v) (sym c.as_slice-2.ensures.value) c.in_ok-sources.ensures.reached))
    c.in-Some.ensures c.in_members_left.ensures)

pub unevaluated::in_items_rest-returns : goal.unevaluated::in_items_rest-returns
unevaluated::in_items_rest-returns t c =
    let w = c.args.walk in
    let s = view c.args.here.now.schema.now in
    let v = tree_of c.args.value.now in
    let xs = c.as_slice-2.result.now in
    let us = trees_of c.as_slice.result.now in
    let same : array us ≡ v = ap array (ap trees_of c.as_slice.ensures.value ∙ c.in_ok-items.ensures)
    ∙ array_is v (sym c.requires) in
    let told : (g : Answers) (k : Child) → sources_evaluate g xs k ≡ others_evaluate (view w.ground.now.whole.now.root.now)
    (answers_in w g) s v k
    = λ g k. ap (λ l. sources_evaluate g l k) c.as_slice-2.ensures.value ∙ c.in_ok-sources.ensures.evaluated g k in
    subst (λ x. FindsRest w s x c.in_items_left.result) same
    (items_found w s (view c.in-Some.rest.schema.now) us xs c.in_items_left.result
    (subst (λ x. (g : Answers) (k : Child) → sources_evaluate g xs k ≡ others_evaluate (view w.ground.now.whole.now.root.now)
    (answers_in w g) s x k)
    (sym same)
    told)
    (subst (λ x. AreReached (root_tree w) (suc w.steps) s x xs) (sym same)
    (subst (AreReached (root_tree w) (suc w.steps) s v) (sym c.as_slice-2.ensures.value) c.in_ok-sources.ensures.reached))
    c.in-Some.ensures c.in_items_left.ensures)

-- ---- schemas that evaluate

pub unevaluated::sources_of-returns-clause-evaluated : goal.unevaluated::sources_of-returns-clause-evaluated
unevaluated::sources_of-returns-clause-evaluated t c =
    let x : Source = record { applied = c.args.here.now; walk = c.args.walk; asks = true } in
    asking_added c.args.walk x (tree_of c.args.value.now) c.push.new.self.items c.add_inner.new.sources.items refl refl
    (c.in_ok-push.ensures.items ∙ ap (λ ys. ys ++ x ∷ []) c.new-sources.ensures.items) c.in_ok-add_inner.ensures.evaluated

pub unevaluated::sources_of-returns-clause-within : goal.unevaluated::sources_of-returns-clause-within
unevaluated::sources_of-returns-clause-within t c =
    let w = c.args.walk in
    let x : Source = record { applied = c.args.here.now; walk = w; asks = true } in
    let one : c.push.new.self.items ≡ x ∷ [] = c.in_ok-push.ensures.items ∙ ap (λ ys. ys ++ x ∷ []) c.new-sources.ensures.items in
    let same : w.steps ≤ w.steps = omega arith in
    c.in_ok-add_inner.ensures.within w.steps same (subst (AreWithin w.steps) (sym one) (same, tt))

pub unevaluated::add_schema-returns-clause-evaluated : goal.unevaluated::add_schema-returns-clause-evaluated
unevaluated::add_schema-returns-clause-evaluated t c =
    let inner = c.in_ok-inner.inner in
    schema_added c.args.walk inner _ (tree_of c.args.value.now)
    c.args.sources.now.items c.push.new.self.items c.add_inner.new.sources.items c.in_ok-inner.ensures refl refl
    c.in_ok-push.ensures.items c.in_ok-add_inner.ensures.evaluated

pub unevaluated::add_schema-returns-clause-within : goal.unevaluated::add_schema-returns-clause-within
unevaluated::add_schema-returns-clause-within t c n h k =
    let inner = c.in_ok-inner.inner in
    let less : inner.steps ≤ n = omega (arith, c.in_ok-inner.ensures.1, h) in
    c.in_ok-add_inner.ensures.within n less
    (subst (AreWithin n) (sym c.in_ok-push.ensures.items) (within_pushed n c.args.sources.now.items _ k less))

pub unevaluated::add_inner-returns-clause-evaluated : goal.unevaluated::add_inner-returns-clause-evaluated
unevaluated::add_inner-returns-clause-evaluated t c =
    inner_added c.args.walk (view c.args.here.now.schema.now) (tree_of c.args.value.now) (items_view c.schemas_at-all.result.now)
    (items_view c.schemas_at-any.result.now) (items_view c.schemas_at-one.result.now) c.args.sources.now.items
    c.add_listed.new.sources.items c.add_accepting.new.sources.items c.add_accepting-2.new.sources.items
    c.add_branch.new.sources.items c.add_dependents.new.sources.items c.add_reference.new.sources.items c.schemas_at-all.ensures
    c.schemas_at-any.ensures c.schemas_at-one.ensures c.in_ok-add_listed.ensures.evaluated c.in_ok-add_accepting.ensures.evaluated
    c.in_ok-add_accepting-2.ensures.evaluated c.in_ok-add_branch.ensures.evaluated c.in_ok-add_dependents.ensures.evaluated
    c.in_ok-add_reference.ensures.evaluated

pub unevaluated::add_inner-returns-clause-within : goal.unevaluated::add_inner-returns-clause-within
unevaluated::add_inner-returns-clause-within t c n h k =
    c.in_ok-add_reference.ensures.within n h (c.in_ok-add_dependents.ensures.within n h (c.in_ok-add_branch.ensures.within n h
    (c.in_ok-add_accepting-2.ensures.within n h (c.in_ok-add_accepting.ensures.within n h (c.in_ok-add_listed.ensures.within n h k)))))

pub unevaluated::add_listed-listed_part-part-requires : goal.unevaluated::add_listed-listed_part-part-requires
unevaluated::add_listed-listed_part-part-requires t c =
    ap (λ ts. nth ts c.loop-index.index) (sym c.requires)
    ∙ nth_item c.args.schemas.now c.loop-index.index c.index-schemas-index.result c.loop-index-test.true c.index-schemas-index.is

pub unevaluated::add_listed-loop-index-preserved : goal.unevaluated::add_listed-loop-index-preserved
unevaluated::add_listed-loop-index-preserved t c = (
  λ g k. adds_turn (λ ys. some_evaluate (answers_in c.args.walk g) (items_view ys) (tree_of c.args.value.now) k) c.args.schemas.now
      c.loop-index.index c.index-schemas-index.result _ _ _ _ c.loop-index-test.true c.index-schemas-index.is refl
      (subst (λ s. Adds c.args.walk (λ a k. a.evaluates s (tree_of c.args.value.now) k) c.loop-index.sources.items
      c.add_schema.new.sources.items) c.listed_part-part.ensures c.in_ok-add_schema.ensures.evaluated g k) (c.loop-index.invariant.0 g k),
  λ n h k. c.in_ok-add_schema.ensures.within n h (c.loop-index.invariant.1 n h k),
  λ root s n lead q. c.in_ok-add_schema.ensures.reached root s n
      (λ h. lead (
        c.loop-index.index,
        view c.index-schemas-index.result,
        nth_item c.args.schemas.now c.loop-index.index c.index-schemas-index.result c.loop-index-test.true c.index-schemas-index.is,
        subst (λ x. Descends c.args.walk x (tree_of c.args.value.now)) c.listed_part-part.ensures h,
      ))
      (c.loop-index.invariant.2 root s n lead q),
)

pub unevaluated::add_listed-returns-clause-evaluated : goal.unevaluated::add_listed-returns-clause-evaluated
unevaluated::add_listed-returns-clause-evaluated t c g k =
    adds_end (λ ys. some_evaluate (answers_in c.args.walk g) (items_view ys) (tree_of c.args.value.now) k) c.args.schemas.now
    c.loop-index.index _ _ c.loop-index-test.false refl (c.loop-index.invariant.0 g k)

pub unevaluated::add_accepting-listed_part-part-requires : goal.unevaluated::add_accepting-listed_part-part-requires
unevaluated::add_accepting-listed_part-part-requires t c =
    ap (λ ts. nth ts c.loop-index.index) (sym c.requires)
    ∙ nth_item c.args.schemas.now c.loop-index.index c.index-schemas-index.result c.loop-index-test.true c.index-schemas-index.is

pub unevaluated::add_accepting-loop-index-preserved : goal.unevaluated::add_accepting-loop-index-preserved
unevaluated::add_accepting-loop-index-preserved t c = (
  λ g k. adds_turn (λ ys. accepting_evaluate (answers_in c.args.walk g) (items_view ys) (tree_of c.args.value.now) k) c.args.schemas.now
      c.loop-index.index c.index-schemas-index.result _ _ _ _ c.loop-index-test.true c.index-schemas-index.is refl
      (subst (λ s. Adds c.args.walk (λ a k. a.accepts s (tree_of c.args.value.now) && a.evaluates s (tree_of c.args.value.now) k)
      c.loop-index.sources.items c.add_if_accepting.new.sources.items) c.listed_part-part.ensures
      c.in_ok-add_if_accepting.ensures.evaluated g k) (c.loop-index.invariant.0 g k),
  λ n h k. c.in_ok-add_if_accepting.ensures.within n h (c.loop-index.invariant.1 n h k),
  λ root s n lead q. c.in_ok-add_if_accepting.ensures.reached root s n
      (λ h. lead (
        c.loop-index.index,
        view c.index-schemas-index.result,
        nth_item c.args.schemas.now c.loop-index.index c.index-schemas-index.result c.loop-index-test.true c.index-schemas-index.is,
        subst (λ x. Descends c.args.walk x (tree_of c.args.value.now)) c.listed_part-part.ensures h,
      ))
      (c.loop-index.invariant.2 root s n lead q),
)

pub unevaluated::add_accepting-returns-clause-evaluated : goal.unevaluated::add_accepting-returns-clause-evaluated
unevaluated::add_accepting-returns-clause-evaluated t c g k =
    adds_end (λ ys. accepting_evaluate (answers_in c.args.walk g) (items_view ys) (tree_of c.args.value.now) k) c.args.schemas.now
    c.loop-index.index _ _ c.loop-index-test.false refl (c.loop-index.invariant.0 g k)

pub unevaluated::add_if_accepting-returns-then-not-accepted-clause-accepted
    : goal.unevaluated::add_if_accepting-returns-then-not-accepted-clause-accepted
unevaluated::add_if_accepting-returns-then-not-accepted-clause-accepted t c g = sym c.if-not-accepted.true ∙ c.in_ok-accepted.ensures g

pub unevaluated::add_if_accepting-returns-then-not-accepted-clause-evaluated
    : goal.unevaluated::add_if_accepting-returns-then-not-accepted-clause-evaluated
unevaluated::add_if_accepting-returns-then-not-accepted-clause-evaluated t c =
    let s = view c.args.part.now.schema.now in
    let v = tree_of c.args.value.now in
    adds_none c.args.walk (λ a k. a.accepts s v && a.evaluates s v k) _
    (λ g k. ap (λ b. b && (answers_in c.args.walk g).evaluates s v k) (sym (c.in_ok-accepted.ensures g) ∙ c.if-not-accepted.true))

pub unevaluated::add_if_accepting-returns-clause-accepted : goal.unevaluated::add_if_accepting-returns-clause-accepted
unevaluated::add_if_accepting-returns-clause-accepted t c g = sym c.if-not-accepted.false ∙ c.in_ok-accepted.ensures g

pub unevaluated::add_if_accepting-returns-clause-evaluated : goal.unevaluated::add_if_accepting-returns-clause-evaluated
unevaluated::add_if_accepting-returns-clause-evaluated t c =
    let s = view c.args.part.now.schema.now in
    let v = tree_of c.args.value.now in
    adds_as c.args.walk (λ a k. a.evaluates s v k) (λ a k. a.accepts s v && a.evaluates s v k) _ _
    (λ g k. sym (ap (λ b. b && (answers_in c.args.walk g).evaluates s v k) (sym (c.in_ok-accepted.ensures g) ∙ c.if-not-accepted.false)))
    c.in_ok-add_schema.ensures.evaluated

pub unevaluated::add_branch-returns-in_default-clause-evaluated : goal.unevaluated::add_branch-returns-in_default-clause-evaluated
unevaluated::add_branch-returns-in_default-clause-evaluated t c =
    let s = view c.args.here.now.schema.now in
    let v = tree_of c.args.value.now in
    adds_none c.args.walk (λ a k. branch_evaluates a s v k) _
    (λ g k. no_branch_added (answers_in c.args.walk g) s v k c.in_default.ensures)

pub unevaluated::add_branch-returns-in_default-part-clause-evaluated
    : goal.unevaluated::add_branch-returns-in_default-part-clause-evaluated
unevaluated::add_branch-returns-in_default-part-clause-evaluated t c =
    let w = c.args.walk in
    let s = view c.args.here.now.schema.now in
    let v = tree_of c.args.value.now in
    let r = view c.in-Some.test.schema.now in
    let b = c.in_ok-accepted.accepted in
    adds_as w (λ a k. a.accepts r v && a.evaluates r v k) (λ a k. branch_evaluates a s v k) _ _
    (branch_none w s v r c.in-Some.ensures b c.in_ok-accepted.ensures.accepted
    (c.in_default-part.ensures ∙ ap (schema_at s) c.branch-chosen.ensures)) c.in_ok-accepted.ensures.evaluated

pub unevaluated::add_branch-returns-clause-evaluated : goal.unevaluated::add_branch-returns-clause-evaluated
unevaluated::add_branch-returns-clause-evaluated t c =
    let w = c.args.walk in
    let s = view c.args.here.now.schema.now in
    let v = tree_of c.args.value.now in
    let r = view c.in-Some.test.schema.now in
    let u = view c.in-Some-part.part.schema.now in
    let b = c.in_ok-accepted.accepted in
    adds_as w (λ a k. (a.accepts r v && a.evaluates r v k) || a.evaluates u v k) (λ a k. branch_evaluates a s v k) _ _
    (branch_some w s v r c.in-Some.ensures b c.in_ok-accepted.ensures.accepted u
    (c.in-Some-part.ensures ∙ ap (schema_at s) c.branch-chosen.ensures))
    (adds_both w (λ a k. a.accepts r v && a.evaluates r v k) (λ a k. a.evaluates u v k) c.args.sources.now.items
    c.add_if_accepting.new.sources.items c.add_schema.new.sources.items c.in_ok-accepted.ensures.evaluated
    c.in_ok-add_schema.ensures.evaluated)

pub unevaluated::add_branch-returns-clause-within : goal.unevaluated::add_branch-returns-clause-within
unevaluated::add_branch-returns-clause-within t c n h k = c.in_ok-add_schema.ensures.within n h (c.in_ok-accepted.ensures.within n h k)

pub unevaluated::add_dependents-keyed_part-applied-requires : goal.unevaluated::add_dependents-keyed_part-applied-requires
unevaluated::add_dependents-keyed_part-applied-requires t c =
    let s = view c.args.here.now.schema.now in
    let ps = c.as_slice-dependents.result.now in
    let p = c.loop-key-item.result in
    let k = text p.0.now in
    let r = view p.1.now in
    let sorted = subst (λ xs. IsSorted (members_listed xs)) (sym c.as_slice-dependents.ensures.value) c.in_ok-listed.ensures.sorted in
    let at : find k (schema_map_at s kw.DependentSchemas) ≡ Some r
    = ap (find k) (sym (ap members_listed c.as_slice-dependents.ensures.value ∙ c.in_ok-listed.ensures.listed))
    ∙ listed_found ps c.loop-key.key-index p sorted c.loop-key-test.true c.loop-key-item.is in
    subst (λ bs. keyed s kw.DependentSchemas (chars bs) ≡ Some r) (sym c.as_str-name.ensures.value)
    (key_there s kw.DependentSchemas k r at)

pub unevaluated::add_dependents-loop-key-preserved : goal.unevaluated::add_dependents-loop-key-preserved
unevaluated::add_dependents-loop-key-preserved t c =
    let w = c.args.walk in
    let v = tree_of c.args.value.now in
    let ps = c.as_slice-dependents.result.now in
    let i = c.loop-key.key-index in
    let p = c.loop-key-item.result in
    let r = view p.1.now in
    let s = view c.args.here.now.schema.now in
    let sorted = subst (λ xs. IsSorted (members_listed xs)) (sym c.as_slice-dependents.ensures.value) c.in_ok-listed.ensures.sorted in
    let at : find (text p.0.now) (schema_map_at s kw.DependentSchemas) ≡ Some r
    = ap (find (text p.0.now)) (sym (ap members_listed c.as_slice-dependents.ensures.value ∙ c.in_ok-listed.ensures.listed))
    ∙ listed_found ps i p sorted c.loop-key-test.true c.loop-key-item.is in (
      λ g k. adds_turn (λ ys. dependents_evaluate (answers_in w g) (members_listed ys) v k) ps i p _ _ _ _ c.loop-key-test.true
          c.loop-key-item.is (ap (λ bs. (is_some (tree_at_key v (chars bs)) && (answers_in w g).evaluates r v k)
          || dependents_evaluate (answers_in w g) (members_listed (drop (i + 1) ps)) v k) (sym c.as_str-name.ensures.value))
          (subst (λ x. Adds w (λ a k. is_some (tree_at_key v (chars c.as_str-name.result.now)) && a.evaluates x v k)
          c.loop-key.sources.items c.add_dependent.new.sources.items) c.keyed_part-applied.ensures
          c.in_ok-add_dependent.ensures.evaluated g k) (c.loop-key.invariant.0 g k),
      λ n h k. c.in_ok-add_dependent.ensures.within n h (c.loop-key.invariant.1 n h k),
      λ root x n lead q. c.in_ok-add_dependent.ensures.reached root x n
          (λ h. let y = subst (λ bs. DescendsForKey w (chars bs) r v) c.as_str-name.ensures.value
          (subst (λ x. DescendsForKey w (chars c.as_str-name.result.now) x v) c.keyed_part-applied.ensures h) in
          lead (within (by_key (text p.0.now) y.0 at) y.1)) (c.loop-key.invariant.2 root x n lead q),
    )

pub unevaluated::add_dependents-returns-clause-evaluated : goal.unevaluated::add_dependents-returns-clause-evaluated
unevaluated::add_dependents-returns-clause-evaluated t c g k =
    let v = tree_of c.args.value.now in
    adds_end (λ ys. dependents_evaluate (answers_in c.args.walk g) (members_listed ys) v k) c.as_slice-dependents.result.now
    c.loop-key.key-index _ _ c.loop-key-test.false refl (c.loop-key.invariant.0 g k)
    ∙ ap (λ rs. sources_evaluate g c.args.sources.now.items k || dependents_evaluate (answers_in c.args.walk g) rs v k)
    (ap members_listed c.as_slice-dependents.ensures.value ∙ c.in_ok-listed.ensures.listed)

pub unevaluated::add_dependent-returns-then-not-has_key-clause-evaluated
    : goal.unevaluated::add_dependent-returns-then-not-has_key-clause-evaluated
unevaluated::add_dependent-returns-then-not-has_key-clause-evaluated t c =
    let s = view c.args.part.now.schema.now in
    let v = tree_of c.args.value.now in
    let here = is_some (tree_at_key v (chars c.args.key.now)) in
    adds_none c.args.walk (λ a k. here && a.evaluates s v k) _
    (λ g k. ap (λ b. b && (answers_in c.args.walk g).evaluates s v k) (sym c.has_key.ensures ∙ c.if-not-has_key.true))

pub unevaluated::add_dependent-returns-clause-evaluated : goal.unevaluated::add_dependent-returns-clause-evaluated
unevaluated::add_dependent-returns-clause-evaluated t c =
    let s = view c.args.part.now.schema.now in
    let v = tree_of c.args.value.now in
    let here = is_some (tree_at_key v (chars c.args.key.now)) in
    adds_as c.args.walk (λ a k. a.evaluates s v k) (λ a k. here && a.evaluates s v k) _ _
    (λ g k. sym (ap (λ b. b && (answers_in c.args.walk g).evaluates s v k) (sym c.has_key.ensures ∙ c.if-not-has_key.false)))
    c.in_ok-add_schema.ensures.evaluated

pub unevaluated::add_reference-returns-clause-evaluated : goal.unevaluated::add_reference-returns-clause-evaluated
unevaluated::add_reference-returns-clause-evaluated t c =
    let root = view c.args.walk.ground.now.whole.now.root.now in
    let s = view c.args.here.now.schema.now in
    let v = tree_of c.args.value.now in
    adds_both c.args.walk (λ a k. target_evaluates root kw.Ref a s v k) (λ a k. target_evaluates root kw.DynamicRef a s v k)
    c.args.sources.now.items c.add_target.new.sources.items c.add_target-2.new.sources.items c.in_ok-add_target.ensures.evaluated
    c.in_ok-add_target-2.ensures.evaluated

pub unevaluated::add_reference-returns-clause-within : goal.unevaluated::add_reference-returns-clause-within
unevaluated::add_reference-returns-clause-within t c n h k =
    c.in_ok-add_target-2.ensures.within n h (c.in_ok-add_target.ensures.within n h k)

pub unevaluated::add_target-returns-in_default-clause-evaluated : goal.unevaluated::add_target-returns-in_default-clause-evaluated
unevaluated::add_target-returns-in_default-clause-evaluated t c =
    let root = view c.args.walk.ground.now.whole.now.root.now in
    let s = view c.args.here.now.schema.now in
    let v = tree_of c.args.value.now in
    adds_none c.args.walk (λ a k. target_evaluates root c.args.keyword a s v k) _
    (λ g k. no_target_added root (answers_in c.args.walk g) s v c.args.keyword k
    (ap (option_map (λ x. view x.schema.now)) (sym c.in_default.is) ∙ c.in_ok-part.ensures))

pub unevaluated::add_target-returns-clause-evaluated : goal.unevaluated::add_target-returns-clause-evaluated
unevaluated::add_target-returns-clause-evaluated t c =
    let root = view c.args.walk.ground.now.whole.now.root.now in
    let s = view c.args.here.now.schema.now in
    let v = tree_of c.args.value.now in
    let r = view c.in-Some.part.schema.now in
    adds_as c.args.walk (λ a k. a.evaluates r v k) (λ a k. target_evaluates root c.args.keyword a s v k) _ _
    (λ g k. target_added root (answers_in c.args.walk g) s v r c.args.keyword k
    (ap (option_map (λ x. view x.schema.now)) (sym c.in-Some.is) ∙ c.in_ok-part.ensures)) c.in_ok-add_schema.ensures.evaluated

-- ---- schemas that are nested too deep

pub violation_of-returns-in_err-inner : goal.violation_of-returns-in_err-inner
violation_of-returns-in_err-inner t c =
    let w = c.args.walk in
    let s = view c.args.here.now.schema.now in
    let v = tree_of c.args.value.now in
    at_error (Judges w s v) c.in_err-inner.field-0.0 c.from_residual.result c.from_residual.ensures.1
    (if_deep c.in_err-inner.field-0.0
    (at_last w s v)
    c.in_err-inner.ensures)

pub violation_of-returns-in_err-keyword : goal.violation_of-returns-in_err-keyword
violation_of-returns-in_err-keyword t c =
    let w = c.args.walk in
    let s = view c.args.here.now.schema.now in
    let v = tree_of c.args.value.now in
    at_shallow (Judges w s v) c.from_residual-in_err-keyword.result c.from_residual-in_err-keyword.ensures.1 (not_deep _)

pub violation_of-returns-in_err-keyword-2 : goal.violation_of-returns-in_err-keyword-2
violation_of-returns-in_err-keyword-2 t c =
    let w = c.args.walk in
    let s = view c.args.here.now.schema.now in
    let v = tree_of c.args.value.now in
    at_error (Judges w s v) c.in_err-keyword-2.field-0.0 c.from_residual-in_err-keyword-2.result c.from_residual-in_err-keyword-2.ensures.1
    (if_deep c.in_err-keyword-2.field-0.0
    (one_deeper w c.in_ok-inner.inner c.in_ok-inner.ensures s v)
    c.in_err-keyword-2.ensures)

pub violation_of-returns-in_err-found : goal.violation_of-returns-in_err-found
violation_of-returns-in_err-found t c =
    let w = c.args.walk in
    let s = view c.args.here.now.schema.now in
    let v = tree_of c.args.value.now in
    at_error (Judges w s v) c.in_err-found.field-0.0 c.from_residual-in_err-found.result c.from_residual-in_err-found.ensures.1
    (if_deep c.in_err-found.field-0.0
    (one_deeper w c.in_ok-inner.inner c.in_ok-inner.ensures s v)
    c.in_err-found.ensures)

pub violation_of-returns-in_err-found-2 : goal.violation_of-returns-in_err-found-2
violation_of-returns-in_err-found-2 t c =
    let w = c.args.walk in
    let s = view c.args.here.now.schema.now in
    let v = tree_of c.args.value.now in
    at_error (Judges w s v) c.in_err-found-2.field-0.0 c.from_residual-in_err-found-2.result c.from_residual-in_err-found-2.ensures.1
    (if_deep c.in_err-found-2.field-0.0
    (one_deeper w c.in_ok-inner.inner c.in_ok-inner.ensures s v)
    c.in_err-found-2.ensures)

pub violation_of-returns-in_err-found-3 : goal.violation_of-returns-in_err-found-3
violation_of-returns-in_err-found-3 t c =
    let w = c.args.walk in
    let s = view c.args.here.now.schema.now in
    let v = tree_of c.args.value.now in
    at_error (Judges w s v) c.in_err-found-3.field-0.0 c.from_residual-in_err-found-3.result c.from_residual-in_err-found-3.ensures.1
    (if_deep c.in_err-found-3.field-0.0
    (one_deeper w c.in_ok-inner.inner c.in_ok-inner.ensures s v)
    c.in_err-found-3.ensures)

pub is_accepted-returns-in_err-found : goal.is_accepted-returns-in_err-found
is_accepted-returns-in_err-found t c =
    raised _ _ c.in_err-found.field-0.0 c.from_residual.result c.from_residual.ensures.1 c.in_err-found.ensures

pub in_all_of-returns-in_err-found : goal.in_all_of-returns-in_err-found
in_all_of-returns-in_err-found t c =
    let w = c.args.walk in
    let s = view c.args.here.now.schema.now in
    let v = tree_of c.args.value.now in
    let vs = c.schemas_at-parts.result.now in
    let i = c.loop-index.index in
    let x = c.index-parts-index.result in
    let at : nth (schemas_at s kw.AllOf) i ≡ Some (view x)
    = ap (λ ts. nth ts i) (sym c.schemas_at-parts.ensures) ∙ nth_item vs i x c.loop-index-test.true c.index-parts-index.is in
    at_error (Finds w (λ f. applies f kw.AllOf s v) s v) c.in_err-found.field-0.0 c.from_residual.result c.from_residual.ensures.1
    (if_deep c.in_err-found.field-0.0
    (λ h. within (by_list kw.AllOf i refl at) (subst (λ r. Descends w r v) c.listed_part-applied.ensures h))
    c.in_err-found.ensures)

pub in_all_of-returns-in_err-enter_listed : goal.in_all_of-returns-in_err-enter_listed
in_all_of-returns-in_err-enter_listed t c =
    let w = c.args.walk in
    let s = view c.args.here.now.schema.now in
    let v = tree_of c.args.value.now in
    at_error (Finds w (λ f. applies f kw.AllOf s v) s v) OutOfMemory
    c.from_residual-in_err-enter_listed.result c.from_residual-in_err-enter_listed.ensures.1 tt

pub in_branch-returns-in_err-accepted : goal.in_branch-returns-in_err-accepted
in_branch-returns-in_err-accepted t c =
    let w = c.args.walk in
    let s = view c.args.here.now.schema.now in
    let v = tree_of c.args.value.now in
    at_error (Finds w (λ f. applies f kw.If s v) s v) c.in_err-accepted.field-0.0 c.from_residual.result c.from_residual.ensures.1
    (if_deep c.in_err-accepted.field-0.0
    (λ h. within (by_if (sym c.in-Some.ensures)) h)
    c.in_err-accepted.ensures)

pub in_branch-returns-in_err-found : goal.in_branch-returns-in_err-found
in_branch-returns-in_err-found t c =
    let w = c.args.walk in
    let s = view c.args.here.now.schema.now in
    let v = tree_of c.args.value.now in
    at_error (Finds w (λ f. applies f kw.If s v) s v) c.in_err-found.field-0.0 c.from_residual-in_err-found.result c.from_residual-in_err-found.ensures.1
    (if_deep c.in_err-found.field-0.0
    (λ h. within (by_branch c.in_ok-accepted.accepted (ap is_some (sym c.in-Some.ensures))
    (sym (c.in-Some-part.ensures ∙ ap (schema_at s) c.branch-chosen.ensures))) h)
    c.in_err-found.ensures)

pub in_branch-returns-in_err-enter_keyword : goal.in_branch-returns-in_err-enter_keyword
in_branch-returns-in_err-enter_keyword t c =
    let w = c.args.walk in
    let s = view c.args.here.now.schema.now in
    let v = tree_of c.args.value.now in
    at_error (Finds w (λ f. applies f kw.If s v) s v) OutOfMemory
    c.from_residual-in_err-enter_keyword.result c.from_residual-in_err-enter_keyword.ensures.1 tt

pub in_dependents-returns-in_err-listed : goal.in_dependents-returns-in_err-listed
in_dependents-returns-in_err-listed t c =
    let w = c.args.walk in
    let s = view c.args.here.now.schema.now in
    let v = tree_of c.args.value.now in
    at_error (Finds w (λ f. applies f kw.DependentSchemas s v) s v) OutOfMemory
    c.from_residual.result c.from_residual.ensures.1 tt

pub in_dependents-returns-in_err-found : goal.in_dependents-returns-in_err-found
in_dependents-returns-in_err-found t c =
    let w = c.args.walk in
    let s = view c.args.here.now.schema.now in
    let v = tree_of c.args.value.now in
    let ps = c.as_slice-dependents.result.now in
    let i = c.loop-key.key-index in
    let p = c.loop-key-item.result in
    let r = view p.1.now in
    let k = text p.0.now in
    let here : is_some (tree_at_key v k) ≡ true = ap (λ bs. is_some (tree_at_key v (chars bs))) (sym c.as_str-name.ensures.value)
    ∙ (sym c.has_key.ensures ∙ c.if-has_key.true) in
    let sorted = subst (λ xs. IsSorted (members_listed xs)) (sym c.as_slice-dependents.ensures.value) c.in_ok-listed.ensures.sorted in
    let at : find k (schema_map_at s kw.DependentSchemas) ≡ Some r
    = ap (find k) (sym (ap members_listed c.as_slice-dependents.ensures.value ∙ c.in_ok-listed.ensures.listed))
    ∙ listed_found ps i p sorted c.loop-key-test.true c.loop-key-item.is in
    at_error (Finds w (λ f. applies f kw.DependentSchemas s v) s v) c.in_err-found.field-0.0 c.from_residual-in_err-found.result c.from_residual-in_err-found.ensures.1
    (if_deep c.in_err-found.field-0.0
    (λ h. within (by_key k here at) (subst (λ x. Descends w x v) c.keyed_part-applied.ensures h))
    c.in_err-found.ensures)

pub in_dependents-returns-in_err-enter_keyed : goal.in_dependents-returns-in_err-enter_keyed
in_dependents-returns-in_err-enter_keyed t c =
    let w = c.args.walk in
    let s = view c.args.here.now.schema.now in
    let v = tree_of c.args.value.now in
    at_error (Finds w (λ f. applies f kw.DependentSchemas s v) s v) OutOfMemory
    c.from_residual-in_err-enter_keyed.result c.from_residual-in_err-enter_keyed.ensures.1 tt

pub in_patterned-returns-in_err-listed : goal.in_patterned-returns-in_err-listed
in_patterned-returns-in_err-listed t c =
    let w = c.args.walk in
    let s = view c.args.here.now.schema.now in
    let v = tree_of c.args.value.now in
    at_error (Finds w (λ f. applies f kw.PatternProperties s v) s v) OutOfMemory
    c.from_residual.result c.from_residual.ensures.1 tt

pub in_patterned-returns-in_err-found : goal.in_patterned-returns-in_err-found
in_patterned-returns-in_err-found t c =
    let w = c.args.walk in
    let s = view c.args.here.now.schema.now in
    let v = tree_of c.args.value.now in
    let ps = c.as_slice-patterns.result.now in
    let i = c.loop-pattern.pattern-index in
    let p = c.loop-pattern-item.result in
    let r = view p.1.now in
    let k = text p.0.now in
    let sorted = subst (λ xs. IsSorted (members_listed xs)) (sym c.as_slice-patterns.ensures.value) c.in_ok-listed.ensures.sorted in
    let at : find k (schema_map_at s kw.PatternProperties) ≡ Some r
    = ap (find k) (sym (ap members_listed c.as_slice-patterns.ensures.value ∙ c.in_ok-listed.ensures.listed))
    ∙ listed_found ps i p sorted c.loop-pattern-test.true c.loop-pattern-item.is in
    at_error (Finds w (λ f. applies f kw.PatternProperties s v) s v) c.in_err-found.field-0.0 c.from_residual-in_err-found.result c.from_residual-in_err-found.ensures.1
    (if_deep c.in_err-found.field-0.0
    (λ h. let y = subst (λ bs. DescendsAtFound w (chars bs) r (members_in v)) c.as_str-text.ensures.value
    (subst (λ x. DescendsAtFound w (chars c.as_str-text.result.now) x (members_in v)) c.keyed_part-applied.ensures h) in
    within (by_pattern k y.0 at y.2 y.3) y.4)
    c.in_err-found.ensures)

pub in_patterned-returns-in_err-enter_keyed : goal.in_patterned-returns-in_err-enter_keyed
in_patterned-returns-in_err-enter_keyed t c =
    let w = c.args.walk in
    let s = view c.args.here.now.schema.now in
    let v = tree_of c.args.value.now in
    at_error (Finds w (λ f. applies f kw.PatternProperties s v) s v) OutOfMemory
    c.from_residual-in_err-enter_keyed.result c.from_residual-in_err-enter_keyed.ensures.1 tt

pub in_found-returns-in_err-listed : goal.in_found-returns-in_err-listed
in_found-returns-in_err-listed t c =
    let w = c.args.walk in
    let r = view c.args.part.now.schema.now in
    let v = tree_of c.args.value.now in
    at_error (FindsFound w (chars c.args.pattern.now) r (members_in v)) OutOfMemory
    c.from_residual.result c.from_residual.ensures.1 tt

pub in_found-returns-in_err-is_found : goal.in_found-returns-in_err-is_found
in_found-returns-in_err-is_found t c =
    let w = c.args.walk in
    let r = view c.args.part.now.schema.now in
    let v = tree_of c.args.value.now in
    at_error (FindsFound w (chars c.args.pattern.now) r (members_in v)) c.in_err-is_found.field-0.0
    c.from_residual-in_err-is_found.result c.from_residual-in_err-is_found.ensures.1
    (not_deep _ c.in_err-is_found.field-0.0 c.in_err-is_found.ensures)

pub in_found-returns-in_err-found : goal.in_found-returns-in_err-found
in_found-returns-in_err-found t c =
    let w = c.args.walk in
    let r = view c.args.part.now.schema.now in
    let v = tree_of c.args.value.now in
    let ps = c.as_slice-members.result.now in
    let i = c.loop-member.member-index in
    let p = c.member-item.result in
    let k = chars p.key.now in
    let sorted = subst (λ xs. IsSorted (members_of xs)) (sym c.as_slice-members.ensures.value) c.in_ok-listed.ensures.sorted in
    let at : find k (members_in v) ≡ Some (tree_of p.value)
    = ap (find k) (sym (ap members_of c.as_slice-members.ensures.value ∙ (c.in_ok-listed.ensures.listed ∙ same_members v)))
    ∙ member_found ps i p sorted c.loop-member-test.true c.member-item.is in
    at_error (FindsFound w (chars c.args.pattern.now) r (members_in v)) c.in_err-found.field-0.0 c.from_residual-in_err-found.result c.from_residual-in_err-found.ensures.1
    (if_deep c.in_err-found.field-0.0
    (λ h. (k, tree_of p.value, sym c.in_ok-is_found.ensures ∙ c.if-is_found.true, at, h))
    c.in_err-found.ensures)

pub in_found-returns-in_err-enter_value : goal.in_found-returns-in_err-enter_value
in_found-returns-in_err-enter_value t c =
    let w = c.args.walk in
    let r = view c.args.part.now.schema.now in
    let v = tree_of c.args.value.now in
    at_error (FindsFound w (chars c.args.pattern.now) r (members_in v)) OutOfMemory
    c.from_residual-in_err-enter_value.result c.from_residual-in_err-enter_value.ensures.1 tt

pub in_reference-returns-in_err-found : goal.in_reference-returns-in_err-found
in_reference-returns-in_err-found t c =
    let w = c.args.walk in
    let s = view c.args.here.now.schema.now in
    let v = tree_of c.args.value.now in
    at_error (Finds w (λ f. reference_accepts (root_tree w) f s v) s v) c.in_err-found.field-0.0
    c.from_residual.result c.from_residual.ensures.1 c.in_err-found.ensures

pub in_target-returns-in_err-part : goal.in_target-returns-in_err-part
in_target-returns-in_err-part t c =
    let w = c.args.walk in
    let s = view c.args.here.now.schema.now in
    let v = tree_of c.args.value.now in
    at_error (Finds w (λ f. target_accepts (root_tree w) c.args.keyword f s v) s v)
    OutOfMemory
    c.from_residual.result c.from_residual.ensures.1 tt

pub in_target-returns-in_err-found : goal.in_target-returns-in_err-found
in_target-returns-in_err-found t c =
    let w = c.args.walk in
    let s = view c.args.here.now.schema.now in
    let v = tree_of c.args.value.now in
    at_error (Finds w (λ f. target_accepts (root_tree w) c.args.keyword f s v) s v)
    c.in_err-found.field-0.0 c.from_residual-in_err-found.result c.from_residual-in_err-found.ensures.1
    (if_deep c.in_err-found.field-0.0
    (λ h. within (by_reference c.args.keyword c.requires
    (sym (ap (option_map (λ x. view x.schema.now)) (sym c.in-Some.is) ∙ c.in_ok-part.ensures))) h)
    c.in_err-found.ensures)

pub in_target-returns-in_err-enter_keyword : goal.in_target-returns-in_err-enter_keyword
in_target-returns-in_err-enter_keyword t c =
    let w = c.args.walk in
    let s = view c.args.here.now.schema.now in
    let v = tree_of c.args.value.now in
    at_error (Finds w (λ f. target_accepts (root_tree w) c.args.keyword f s v) s v)
    OutOfMemory
    c.from_residual-in_err-enter_keyword.result c.from_residual-in_err-enter_keyword.ensures.1 tt

pub in_parts-returns-in_err-members-in-Object : goal.in_parts-returns-in_err-members-in-Object
in_parts-returns-in_err-members-in-Object t c =
    let w = c.args.walk in
    let s = view c.args.here.now.schema.now in
    let v = tree_of c.args.value.now in
    at_error (Finds w (λ f. parts_accepted f s v) s v) OutOfMemory c.from_residual.result c.from_residual.ensures.1 tt

pub in_parts-returns-in_err-items-in-Array : goal.in_parts-returns-in_err-items-in-Array
in_parts-returns-in_err-items-in-Array t c =
    let w = c.args.walk in
    let s = view c.args.here.now.schema.now in
    let v = tree_of c.args.value.now in
    at_error (Finds w (λ f. parts_accepted f s v) s v) OutOfMemory
    c.from_residual-in_err-items-in-Array.result c.from_residual-in_err-items-in-Array.ensures.1 tt

pub in_members-returns-in_err-part : goal.in_members-returns-in_err-part
in_members-returns-in_err-part t c =
    let w = c.args.walk in
    let s = view c.args.here.now.schema.now in
    let ps = c.args.members.now in
    at_error (Finds w (λ f. members_accepted f s (members_of ps)) s (object (members_of ps)))
    c.in_err-part.field-0.0
    c.from_residual.result c.from_residual.ensures.1 (not_deep _ c.in_err-part.field-0.0 c.in_err-part.ensures)

pub in_members-returns-in_err-found : goal.in_members-returns-in_err-found
in_members-returns-in_err-found t c =
    let w = c.args.walk in
    let s = view c.args.here.now.schema.now in
    let ps = c.args.members.now in
    let i = c.loop-near.near in
    let p = c.index-members-near.result in
    let k = chars p.key.now in
    let applied = subst (λ o. IsMemberPart s k o) c.in-Some.is (c.in_ok-part.ensures c.schema_at-properties.ensures) in
    at_error (Finds w (λ f. members_accepted f s (members_of ps)) s (object (members_of ps)))
    c.in_err-found.field-0.0 c.from_residual-in_err-found.result c.from_residual-in_err-found.ensures.1
    (if_deep c.in_err-found.field-0.0
    (λ h. within (by_member k applied.0 (member_found ps i p c.requires c.loop-near-test.true c.index-members-near.is)) h)
    c.in_err-found.ensures)

pub in_members-returns-in_err-enter_member : goal.in_members-returns-in_err-enter_member
in_members-returns-in_err-enter_member t c =
    let w = c.args.walk in
    let s = view c.args.here.now.schema.now in
    let ps = c.args.members.now in
    at_error (Finds w (λ f. members_accepted f s (members_of ps)) s (object (members_of ps)))
    OutOfMemory
    c.from_residual-in_err-enter_member.result c.from_residual-in_err-enter_member.ensures.1 tt

pub in_items-returns-in_err-found : goal.in_items-returns-in_err-found
in_items-returns-in_err-found t c =
    let w = c.args.walk in
    let s = view c.args.here.now.schema.now in
    let vs = c.args.items.now in
    let i = c.loop-index.index in
    let x = c.index-items-index.result in
    at_error (Finds w (λ f. items_accepted f s 0 (trees_of vs)) s (array (trees_of vs)))
    c.in_err-found.field-0.0 c.from_residual.result c.from_residual.ensures.1
    (if_deep c.in_err-found.field-0.0
    (λ h. within (by_item i c.in-Some.ensures.0 (nth_tree vs i x c.loop-index-test.true c.index-items-index.is)) h)
    c.in_err-found.ensures)

pub in_items-returns-in_err-enter_item : goal.in_items-returns-in_err-enter_item
in_items-returns-in_err-enter_item t c =
    let w = c.args.walk in
    let s = view c.args.here.now.schema.now in
    let vs = c.args.items.now in
    at_error (Finds w (λ f. items_accepted f s 0 (trees_of vs)) s (array (trees_of vs)))
    OutOfMemory
    c.from_residual-in_err-enter_item.result c.from_residual-in_err-enter_item.ensures.1 tt

pub tested::unmet_test-returns-in_err-any : goal.tested::unmet_test-returns-in_err-any
tested::unmet_test-returns-in_err-any t c =
    let w = c.args.walk in
    let s = view c.args.here.now.schema.now in
    let v = tree_of c.args.value.now in
    raised _ _ c.in_err-any.field-0.0 c.from_residual.result c.from_residual.ensures.1
    (if_deep c.in_err-any.field-0.0
    (of_list w s v kw.AnyOf (schemas_at s kw.AnyOf) refl refl)
    c.in_err-any.ensures)

pub tested::unmet_test-returns-in_err-one : goal.tested::unmet_test-returns-in_err-one
tested::unmet_test-returns-in_err-one t c =
    let w = c.args.walk in
    let s = view c.args.here.now.schema.now in
    let v = tree_of c.args.value.now in
    raised _ _ c.in_err-one.field-0.0 c.from_residual-in_err-one.result c.from_residual-in_err-one.ensures.1
    (if_deep c.in_err-one.field-0.0
    (of_list w s v kw.OneOf (schemas_at s kw.OneOf) refl refl)
    c.in_err-one.ensures)

pub tested::unmet_test-returns-in_err-other : goal.tested::unmet_test-returns-in_err-other
tested::unmet_test-returns-in_err-other t c =
    raised _ _ c.in_err-other.field-0.0
    c.from_residual-in_err-other.result c.from_residual-in_err-other.ensures.1 c.in_err-other.ensures

pub tested::unmet_test-returns-in_err-names : goal.tested::unmet_test-returns-in_err-names
tested::unmet_test-returns-in_err-names t c =
    raised _ _ c.in_err-names.field-0.0
    c.from_residual-in_err-names.result c.from_residual-in_err-names.ensures.1 c.in_err-names.ensures

pub tested::unmet_count-returns-in_err-count : goal.tested::unmet_count-returns-in_err-count
tested::unmet_count-returns-in_err-count t c =
    raised _ _ c.in_err-count.field-0.0 c.from_residual.result c.from_residual.ensures.1 c.in_err-count.ensures

pub tested::unmet_count-returns-in_err-most : goal.tested::unmet_count-returns-in_err-most
tested::unmet_count-returns-in_err-most t c =
    raised _ _ OutOfMemory c.from_residual-in_err-most.result c.from_residual-in_err-most.ensures.1 tt

pub tested::unmet_count-returns-in_err-least : goal.tested::unmet_count-returns-in_err-least
tested::unmet_count-returns-in_err-least t c =
    raised _ _ OutOfMemory c.from_residual-in_err-least.result c.from_residual-in_err-least.ensures.1 tt

pub tested::is_any_met-returns-in_err-accepted : goal.tested::is_any_met-returns-in_err-accepted
tested::is_any_met-returns-in_err-accepted t c =
    raised _ _ c.in_err-accepted.field-0.0 c.from_residual.result c.from_residual.ensures.1
    (subst (λ rs. IfDeep c.in_err-accepted.field-0.0 (DescendsAmong c.args.walk rs (tree_of c.args.value.now))) c.schemas_at-schemas.ensures
    c.in_err-accepted.ensures)

pub tested::is_some_met-returns-in_err-accepted : goal.tested::is_some_met-returns-in_err-accepted
tested::is_some_met-returns-in_err-accepted t c =
    let vs = c.args.schemas.now in
    let i = c.loop-index.index in
    let x = c.index-schemas-index.result in
    raised _ _ c.in_err-accepted.field-0.0 c.from_residual.result c.from_residual.ensures.1
    (if_deep c.in_err-accepted.field-0.0
    (λ h. (
      i,
      view x,
      nth_item vs i x c.loop-index-test.true c.index-schemas-index.is,
      subst (λ s. Descends c.args.walk s (tree_of c.args.value.now)) c.listed_part-part.ensures h,
    ))
    c.in_err-accepted.ensures)

pub tested::is_one_met-returns-in_err-count : goal.tested::is_one_met-returns-in_err-count
tested::is_one_met-returns-in_err-count t c =
    raised _ _ c.in_err-count.field-0.0 c.from_residual.result c.from_residual.ensures.1
    (subst (λ rs. IfDeep c.in_err-count.field-0.0 (DescendsAmong c.args.walk rs (tree_of c.args.value.now))) c.schemas_at-schemas.ensures
    c.in_err-count.ensures)

pub tested::count_accepting-returns-in_err-accepted : goal.tested::count_accepting-returns-in_err-accepted
tested::count_accepting-returns-in_err-accepted t c =
    let vs = c.args.schemas.now in
    let i = c.loop-index.index in
    let x = c.index-schemas-index.result in
    raised _ _ c.in_err-accepted.field-0.0 c.from_residual.result c.from_residual.ensures.1
    (if_deep c.in_err-accepted.field-0.0
    (λ h. (
      i,
      view x,
      nth_item vs i x c.loop-index-test.true c.index-schemas-index.is,
      subst (λ s. Descends c.args.walk s (tree_of c.args.value.now)) c.listed_part-part.ensures h,
    ))
    c.in_err-accepted.ensures)

pub tested::is_not_met-returns-in_err-accepted-in-Some : goal.tested::is_not_met-returns-in_err-accepted-in-Some
tested::is_not_met-returns-in_err-accepted-in-Some t c =
    raised _ _ c.in_err-accepted-in-Some.field-0.0 c.from_residual.result c.from_residual.ensures.1
    (if_deep c.in_err-accepted-in-Some.field-0.0
    (λ h. within (by_not (sym c.in-Some.ensures)) h)
    c.in_err-accepted-in-Some.ensures)

pub tested::are_names_met-returns-in_err-members-in-Some : goal.tested::are_names_met-returns-in_err-members-in-Some
tested::are_names_met-returns-in_err-members-in-Some t c =
    raised _ _ OutOfMemory c.from_residual.result c.from_residual.ensures.1 tt

pub tested::are_names_met-returns-in_err-accepted-in-Some : goal.tested::are_names_met-returns-in_err-accepted-in-Some
tested::are_names_met-returns-in_err-accepted-in-Some t c =
    let v = tree_of c.args.value.now in
    let same = ap members_of c.as_slice.ensures.value ∙ (c.in_ok-members-in-Some.ensures.listed ∙ same_members v) in
    raised _ _ c.in_err-accepted-in-Some.field-0.0 c.from_residual-in_err-accepted-in-Some.result c.from_residual-in_err-accepted-in-Some.ensures.1
    (if_deep c.in_err-accepted-in-Some.field-0.0
    (λ h. within (by_name h.0 (sym c.in-Some.ensures) (ap (λ ms. is_some (find h.0 ms)) (sym same) ∙ h.1)) h.2)
    c.in_err-accepted-in-Some.ensures)

pub tested::are_keys_met-returns-in_err-name : goal.tested::are_keys_met-returns-in_err-name
tested::are_keys_met-returns-in_err-name t c =
    raised _ _ OutOfMemory c.from_residual.result c.from_residual.ensures.1 tt

pub tested::are_keys_met-returns-in_err-accepted : goal.tested::are_keys_met-returns-in_err-accepted
tested::are_keys_met-returns-in_err-accepted t c =
    let w = c.args.walk in
    let s = view c.args.part.now.schema.now in
    let ps = c.args.members.now in
    let i = c.loop-member.member-index in
    let p = c.member-item.result in
    raised _ _ c.in_err-accepted.field-0.0 c.from_residual-in_err-accepted.result c.from_residual-in_err-accepted.ensures.1
    (if_deep c.in_err-accepted.field-0.0
    (λ h. (chars p.key.now, has_own_key ps i p c.loop-member-test.true c.member-item.is, subst (Descends w s) c.in_ok-name.ensures h))
    c.in_err-accepted.ensures)

pub tested::contained-returns-in_err-items-in-Array : goal.tested::contained-returns-in_err-items-in-Array
tested::contained-returns-in_err-items-in-Array t c =
    raised _ _ OutOfMemory c.from_residual.result c.from_residual.ensures.1 tt

pub tested::contained-returns-in_err-count-in-Array : goal.tested::contained-returns-in_err-count-in-Array
tested::contained-returns-in_err-count-in-Array t c =
    let v = tree_of c.args.value.now in
    let same : array (trees_of c.as_slice.result.now) ≡ v
    = ap array (ap trees_of c.as_slice.ensures.value ∙ c.in_ok-items-in-Array.ensures) ∙ array_is v (sym c.in-Array.is ∙ c.kind.ensures) in
    raised _ _ c.in_err-count-in-Array.field-0.0 c.from_residual-in_err-count-in-Array.result c.from_residual-in_err-count-in-Array.ensures.1
    (if_deep c.in_err-count-in-Array.field-0.0
    (λ h. within (by_contains h.0 (sym c.in-Some.ensures) (ap (λ y. nth (items_in y) h.0) (sym same) ∙ h.2)) h.3)
    c.in_err-count-in-Array.ensures)

pub tested::count_passing-returns-in_err-accepted : goal.tested::count_passing-returns-in_err-accepted
tested::count_passing-returns-in_err-accepted t c =
    let vs = c.args.items.now in
    let i = c.loop-item.item-index in
    let x = c.item-item.result in
    raised _ _ c.in_err-accepted.field-0.0 c.from_residual.result c.from_residual.ensures.1
    (if_deep c.in_err-accepted.field-0.0
    (λ h. (i, tree_of x, nth_tree vs i x c.loop-item-test.true c.item-item.is, h))
    c.in_err-accepted.ensures)

pub unevaluated::in_members_rest-returns-in_err-sources : goal.unevaluated::in_members_rest-returns-in_err-sources
unevaluated::in_members_rest-returns-in_err-sources t c =
    let w = c.args.walk in
    let s = view c.args.here.now.schema.now in
    let v = tree_of c.args.value.now in
    at_error (FindsRest w s v) c.in_err-sources.field-0.0
    c.from_residual.result c.from_residual.ensures.1 c.in_err-sources.ensures.deep

pub unevaluated::in_members_rest-returns-in_err-members : goal.unevaluated::in_members_rest-returns-in_err-members
unevaluated::in_members_rest-returns-in_err-members t c =
    let w = c.args.walk in
    let s = view c.args.here.now.schema.now in
    let v = tree_of c.args.value.now in
    at_error (FindsRest w s v) OutOfMemory
    c.from_residual-in_err-members.result c.from_residual-in_err-members.ensures.1 tt

pub unevaluated::in_items_rest-returns-in_err-sources : goal.unevaluated::in_items_rest-returns-in_err-sources
unevaluated::in_items_rest-returns-in_err-sources t c =
    let w = c.args.walk in
    let s = view c.args.here.now.schema.now in
    let v = tree_of c.args.value.now in
    at_error (FindsRest w s v) c.in_err-sources.field-0.0
    c.from_residual.result c.from_residual.ensures.1 c.in_err-sources.ensures.deep

pub unevaluated::in_items_rest-returns-in_err-items : goal.unevaluated::in_items_rest-returns-in_err-items
unevaluated::in_items_rest-returns-in_err-items t c =
    let w = c.args.walk in
    let s = view c.args.here.now.schema.now in
    let v = tree_of c.args.value.now in
    at_error (FindsRest w s v) OutOfMemory
    c.from_residual-in_err-items.result c.from_residual-in_err-items.ensures.1 tt

pub unevaluated::in_members_left-returns-in_err-evaluated : goal.unevaluated::in_members_left-returns-in_err-evaluated
unevaluated::in_members_left-returns-in_err-evaluated t c =
    let w = c.args.walk in
    let xs = c.args.sources.now in
    let r = view c.args.rest.now.schema.now in
    let ps = c.args.members.now in
    at_error (FindsLeft w kw.UnevaluatedProperties xs r (object (members_of ps)))
    c.in_err-evaluated.field-0.0
    c.from_residual.result c.from_residual.ensures.1 (not_deep _ c.in_err-evaluated.field-0.0 c.in_err-evaluated.ensures)

pub unevaluated::in_members_left-returns-in_err-found : goal.unevaluated::in_members_left-returns-in_err-found
unevaluated::in_members_left-returns-in_err-found t c =
    let w = c.args.walk in
    let xs = c.args.sources.now in
    let r = view c.args.rest.now.schema.now in
    let ps = c.args.members.now in
    let p = c.member-item.result in
    at_error (FindsLeft w kw.UnevaluatedProperties xs r (object (members_of ps)))
    c.in_err-found.field-0.0 c.from_residual-in_err-found.result c.from_residual-in_err-found.ensures.1
    (if_deep c.in_err-found.field-0.0
    (λ h s e q. within (by_rest (member_at (chars p.key.now) (tree_of p.value)) e
    (member_found ps c.loop-member.member-index p c.requires c.loop-member-test.true c.member-item.is)) h)
    c.in_err-found.ensures)

pub unevaluated::in_members_left-returns-in_err-enter_member : goal.unevaluated::in_members_left-returns-in_err-enter_member
unevaluated::in_members_left-returns-in_err-enter_member t c =
    let w = c.args.walk in
    let xs = c.args.sources.now in
    let r = view c.args.rest.now.schema.now in
    let ps = c.args.members.now in
    at_error (FindsLeft w kw.UnevaluatedProperties xs r (object (members_of ps)))
    OutOfMemory
    c.from_residual-in_err-enter_member.result c.from_residual-in_err-enter_member.ensures.1 tt

pub unevaluated::in_items_left-returns-in_err-evaluated : goal.unevaluated::in_items_left-returns-in_err-evaluated
unevaluated::in_items_left-returns-in_err-evaluated t c =
    let w = c.args.walk in
    let xs = c.args.sources.now in
    let r = view c.args.rest.now.schema.now in
    let vs = c.args.items.now in
    let i = c.loop-index.index in
    let x = c.index-items-index.result in
    at_error (FindsLeft w kw.UnevaluatedItems xs r (array (trees_of vs))) c.in_err-evaluated.field-0.0 c.from_residual.result c.from_residual.ensures.1
    (if_deep c.in_err-evaluated.field-0.0
    (λ h s e q. h (root_tree w) s (array (trees_of vs)) (suc w.steps) (nth_tree vs i x c.loop-index-test.true c.index-items-index.is) q)
    c.in_err-evaluated.ensures)

pub unevaluated::in_items_left-returns-in_err-found : goal.unevaluated::in_items_left-returns-in_err-found
unevaluated::in_items_left-returns-in_err-found t c =
    let w = c.args.walk in
    let xs = c.args.sources.now in
    let r = view c.args.rest.now.schema.now in
    let vs = c.args.items.now in
    let i = c.loop-index.index in
    let x = c.index-items-index.result in
    at_error (FindsLeft w kw.UnevaluatedItems xs r (array (trees_of vs))) c.in_err-found.field-0.0 c.from_residual-in_err-found.result c.from_residual-in_err-found.ensures.1
    (if_deep c.in_err-found.field-0.0
    (λ h s e q. within (by_rest (item_at i (tree_of x)) e (nth_tree vs i x c.loop-index-test.true c.index-items-index.is)) h)
    c.in_err-found.ensures)

pub unevaluated::in_items_left-returns-in_err-enter_item : goal.unevaluated::in_items_left-returns-in_err-enter_item
unevaluated::in_items_left-returns-in_err-enter_item t c =
    let w = c.args.walk in
    let xs = c.args.sources.now in
    let r = view c.args.rest.now.schema.now in
    let vs = c.args.items.now in
    at_error (FindsLeft w kw.UnevaluatedItems xs r (array (trees_of vs))) OutOfMemory
    c.from_residual-in_err-enter_item.result c.from_residual-in_err-enter_item.ensures.1 tt

pub unevaluated::is_item_evaluated-returns-in_err-evaluates : goal.unevaluated::is_item_evaluated-returns-in_err-evaluates
unevaluated::is_item_evaluated-returns-in_err-evaluates t c =
    let xs = c.args.sources.now in
    let x = c.source-item.result in
    raised _ _ c.in_err-evaluates.field-0.0 c.from_residual.result c.from_residual.ensures.1
    (if_deep c.in_err-evaluates.field-0.0
    (λ h root s t n at q. reached_at root n s t xs c.loop-source.source-index x q c.loop-source-test.true c.source-item.is (h t at))
    c.in_err-evaluates.ensures)

pub unevaluated::evaluates_item-returns-in_err-accepted : goal.unevaluated::evaluates_item-returns-in_err-accepted
unevaluated::evaluates_item-returns-in_err-accepted t c =
    let i = c.args.index in
    raised _ _ c.in_err-accepted.field-0.0 c.from_residual.result c.from_residual.ensures.1
    (if_deep c.in_err-accepted.field-0.0
    (λ h t at. within (by_contains i (sym c.in-Some.ensures) at) h)
    c.in_err-accepted.ensures)

pub unevaluated::sources_of-returns-in_err-push-clause-deep : goal.unevaluated::sources_of-returns-in_err-push-clause-deep
unevaluated::sources_of-returns-in_err-push-clause-deep t c =
    raised_alone _ OutOfMemory c.from_residual.result c.from_residual.ensures.1 tt

pub unevaluated::sources_of-returns-in_err-add_inner-clause-deep : goal.unevaluated::sources_of-returns-in_err-add_inner-clause-deep
unevaluated::sources_of-returns-in_err-add_inner-clause-deep t c =
    raised_alone _ c.in_err-add_inner.field-0.0
    c.from_residual-in_err-add_inner.result c.from_residual-in_err-add_inner.ensures.1 c.in_err-add_inner.ensures.deep

pub unevaluated::add_schema-returns-in_err-inner-clause-deep : goal.unevaluated::add_schema-returns-in_err-inner-clause-deep
unevaluated::add_schema-returns-in_err-inner-clause-deep t c =
    let w = c.args.walk in
    let r = view c.args.part.now.schema.now in
    let v = tree_of c.args.value.now in
    raised_alone _ c.in_err-inner.field-0.0 c.from_residual.result c.from_residual.ensures.1
    (if_deep c.in_err-inner.field-0.0
    (at_last w r v)
    c.in_err-inner.ensures)

pub unevaluated::add_schema-returns-in_err-push-clause-deep : goal.unevaluated::add_schema-returns-in_err-push-clause-deep
unevaluated::add_schema-returns-in_err-push-clause-deep t c =
    raised_alone _ OutOfMemory c.from_residual-in_err-push.result c.from_residual-in_err-push.ensures.1 tt

pub unevaluated::add_schema-returns-in_err-add_inner-clause-deep : goal.unevaluated::add_schema-returns-in_err-add_inner-clause-deep
unevaluated::add_schema-returns-in_err-add_inner-clause-deep t c =
    let w = c.args.walk in
    let r = view c.args.part.now.schema.now in
    let v = tree_of c.args.value.now in
    raised_alone _ c.in_err-add_inner.field-0.0 c.from_residual-in_err-add_inner.result c.from_residual-in_err-add_inner.ensures.1
    (if_deep c.in_err-add_inner.field-0.0
    (one_deeper w c.in_ok-inner.inner c.in_ok-inner.ensures r v)
    c.in_err-add_inner.ensures.deep)

pub unevaluated::add_inner-returns-in_err-add_listed-clause-deep : goal.unevaluated::add_inner-returns-in_err-add_listed-clause-deep
unevaluated::add_inner-returns-in_err-add_listed-clause-deep t c =
    let w = c.args.walk in
    let s = view c.args.here.now.schema.now in
    let v = tree_of c.args.value.now in
    raised_alone _ c.in_err-add_listed.field-0.0 c.from_residual.result c.from_residual.ensures.1
    (if_deep c.in_err-add_listed.field-0.0
    (of_list w s v kw.AllOf (items_view c.schemas_at-all.result.now) refl c.schemas_at-all.ensures)
    c.in_err-add_listed.ensures.deep)

pub unevaluated::add_inner-returns-in_err-add_accepting-clause-deep : goal.unevaluated::add_inner-returns-in_err-add_accepting-clause-deep
unevaluated::add_inner-returns-in_err-add_accepting-clause-deep t c =
    let w = c.args.walk in
    let s = view c.args.here.now.schema.now in
    let v = tree_of c.args.value.now in
    raised_alone _ c.in_err-add_accepting.field-0.0 c.from_residual-in_err-add_accepting.result c.from_residual-in_err-add_accepting.ensures.1
    (if_deep c.in_err-add_accepting.field-0.0
    (of_list w s v kw.AnyOf (items_view c.schemas_at-any.result.now) refl c.schemas_at-any.ensures)
    c.in_err-add_accepting.ensures.deep)

pub unevaluated::add_inner-returns-in_err-add_accepting-2-clause-deep : goal.unevaluated::add_inner-returns-in_err-add_accepting-2-clause-deep
unevaluated::add_inner-returns-in_err-add_accepting-2-clause-deep t c =
    let w = c.args.walk in
    let s = view c.args.here.now.schema.now in
    let v = tree_of c.args.value.now in
    raised_alone _ c.in_err-add_accepting-2.field-0.0 c.from_residual-in_err-add_accepting-2.result c.from_residual-in_err-add_accepting-2.ensures.1
    (if_deep c.in_err-add_accepting-2.field-0.0
    (of_list w s v kw.OneOf (items_view c.schemas_at-one.result.now) refl c.schemas_at-one.ensures)
    c.in_err-add_accepting-2.ensures.deep)

pub unevaluated::add_inner-returns-in_err-add_branch-clause-deep : goal.unevaluated::add_inner-returns-in_err-add_branch-clause-deep
unevaluated::add_inner-returns-in_err-add_branch-clause-deep t c =
    raised_alone _ c.in_err-add_branch.field-0.0
    c.from_residual-in_err-add_branch.result c.from_residual-in_err-add_branch.ensures.1 c.in_err-add_branch.ensures.deep

pub unevaluated::add_inner-returns-in_err-add_dependents-clause-deep : goal.unevaluated::add_inner-returns-in_err-add_dependents-clause-deep
unevaluated::add_inner-returns-in_err-add_dependents-clause-deep t c =
    raised_alone _ c.in_err-add_dependents.field-0.0
    c.from_residual-in_err-add_dependents.result c.from_residual-in_err-add_dependents.ensures.1 c.in_err-add_dependents.ensures.deep

pub unevaluated::add_inner-returns-in_err-add_reference-clause-deep : goal.unevaluated::add_inner-returns-in_err-add_reference-clause-deep
unevaluated::add_inner-returns-in_err-add_reference-clause-deep t c =
    raised_alone _ c.in_err-add_reference.field-0.0
    c.from_residual-in_err-add_reference.result c.from_residual-in_err-add_reference.ensures.1 c.in_err-add_reference.ensures.deep

pub unevaluated::add_listed-returns-in_err-add_schema-clause-deep : goal.unevaluated::add_listed-returns-in_err-add_schema-clause-deep
unevaluated::add_listed-returns-in_err-add_schema-clause-deep t c =
    let vs = c.args.schemas.now in
    let i = c.loop-index.index in
    let x = c.index-schemas-index.result in
    raised_alone _ c.in_err-add_schema.field-0.0 c.from_residual.result c.from_residual.ensures.1
    (if_deep c.in_err-add_schema.field-0.0
    (λ h. (
      i,
      view x,
      nth_item vs i x c.loop-index-test.true c.index-schemas-index.is,
      subst (λ s. Descends c.args.walk s (tree_of c.args.value.now)) c.listed_part-part.ensures h,
    ))
    c.in_err-add_schema.ensures.deep)

pub unevaluated::add_accepting-returns-in_err-add_if_accepting-clause-deep : goal.unevaluated::add_accepting-returns-in_err-add_if_accepting-clause-deep
unevaluated::add_accepting-returns-in_err-add_if_accepting-clause-deep t c =
    let vs = c.args.schemas.now in
    let i = c.loop-index.index in
    let x = c.index-schemas-index.result in
    raised_alone _ c.in_err-add_if_accepting.field-0.0 c.from_residual.result c.from_residual.ensures.1
    (if_deep c.in_err-add_if_accepting.field-0.0
    (λ h. (
      i,
      view x,
      nth_item vs i x c.loop-index-test.true c.index-schemas-index.is,
      subst (λ s. Descends c.args.walk s (tree_of c.args.value.now)) c.listed_part-part.ensures h,
    ))
    c.in_err-add_if_accepting.ensures.deep)

pub unevaluated::add_if_accepting-returns-in_err-accepted-clause-deep : goal.unevaluated::add_if_accepting-returns-in_err-accepted-clause-deep
unevaluated::add_if_accepting-returns-in_err-accepted-clause-deep t c =
    raised_alone _ c.in_err-accepted.field-0.0
    c.from_residual.result c.from_residual.ensures.1 c.in_err-accepted.ensures

pub unevaluated::add_if_accepting-returns-in_err-add_schema-clause-deep : goal.unevaluated::add_if_accepting-returns-in_err-add_schema-clause-deep
unevaluated::add_if_accepting-returns-in_err-add_schema-clause-deep t c =
    raised_alone _ c.in_err-add_schema.field-0.0
    c.from_residual-in_err-add_schema.result c.from_residual-in_err-add_schema.ensures.1 c.in_err-add_schema.ensures.deep

pub unevaluated::add_branch-returns-in_err-accepted-clause-deep : goal.unevaluated::add_branch-returns-in_err-accepted-clause-deep
unevaluated::add_branch-returns-in_err-accepted-clause-deep t c =
    raised_alone _ c.in_err-accepted.field-0.0 c.from_residual.result c.from_residual.ensures.1
    (if_deep c.in_err-accepted.field-0.0
    (λ h. within (by_if (sym c.in-Some.ensures)) h)
    c.in_err-accepted.ensures.deep)

pub unevaluated::add_branch-returns-in_err-add_schema-clause-deep : goal.unevaluated::add_branch-returns-in_err-add_schema-clause-deep
unevaluated::add_branch-returns-in_err-add_schema-clause-deep t c =
    let s = view c.args.here.now.schema.now in
    raised_alone _ c.in_err-add_schema.field-0.0 c.from_residual-in_err-add_schema.result c.from_residual-in_err-add_schema.ensures.1
    (if_deep c.in_err-add_schema.field-0.0
    (λ h. within (by_branch c.in_ok-accepted.accepted (ap is_some (sym c.in-Some.ensures))
    (sym (c.in-Some-part.ensures ∙ ap (schema_at s) c.branch-chosen.ensures))) h)
    c.in_err-add_schema.ensures.deep)

pub unevaluated::add_dependents-returns-in_err-listed-clause-deep : goal.unevaluated::add_dependents-returns-in_err-listed-clause-deep
unevaluated::add_dependents-returns-in_err-listed-clause-deep t c =
    raised_alone _ OutOfMemory c.from_residual.result c.from_residual.ensures.1 tt

pub unevaluated::add_dependents-returns-in_err-add_dependent-clause-deep : goal.unevaluated::add_dependents-returns-in_err-add_dependent-clause-deep
unevaluated::add_dependents-returns-in_err-add_dependent-clause-deep t c =
    let w = c.args.walk in
    let s = view c.args.here.now.schema.now in
    let v = tree_of c.args.value.now in
    let ps = c.as_slice-dependents.result.now in
    let i = c.loop-key.key-index in
    let p = c.loop-key-item.result in
    let r = view p.1.now in
    let k = text p.0.now in
    let sorted = subst (λ xs. IsSorted (members_listed xs)) (sym c.as_slice-dependents.ensures.value) c.in_ok-listed.ensures.sorted in
    let at : find k (schema_map_at s kw.DependentSchemas) ≡ Some r
    = ap (find k) (sym (ap members_listed c.as_slice-dependents.ensures.value ∙ c.in_ok-listed.ensures.listed))
    ∙ listed_found ps i p sorted c.loop-key-test.true c.loop-key-item.is in
    raised_alone _ c.in_err-add_dependent.field-0.0 c.from_residual-in_err-add_dependent.result c.from_residual-in_err-add_dependent.ensures.1
    (if_deep c.in_err-add_dependent.field-0.0
    (λ h. let y = subst (λ bs. DescendsForKey w (chars bs) r v) c.as_str-name.ensures.value
    (subst (λ x. DescendsForKey w (chars c.as_str-name.result.now) x v) c.keyed_part-applied.ensures h) in within (by_key k y.0 at) y.1)
    c.in_err-add_dependent.ensures.deep)

pub unevaluated::add_dependent-returns-in_err-add_schema-clause-deep : goal.unevaluated::add_dependent-returns-in_err-add_schema-clause-deep
unevaluated::add_dependent-returns-in_err-add_schema-clause-deep t c =
    let v = tree_of c.args.value.now in
    let k = chars c.args.key.now in
    let here : is_some (tree_at_key v k) ≡ true = sym c.has_key.ensures ∙ c.if-not-has_key.false in
    raised_alone _ c.in_err-add_schema.field-0.0 c.from_residual.result c.from_residual.ensures.1
    (if_deep c.in_err-add_schema.field-0.0
    (λ h. (here, h))
    c.in_err-add_schema.ensures.deep)

pub unevaluated::add_reference-returns-in_err-add_target-clause-deep : goal.unevaluated::add_reference-returns-in_err-add_target-clause-deep
unevaluated::add_reference-returns-in_err-add_target-clause-deep t c =
    let w = c.args.walk in
    let s = view c.args.here.now.schema.now in
    let v = tree_of c.args.value.now in
    raised_alone _ c.in_err-add_target.field-0.0 c.from_residual.result c.from_residual.ensures.1
    (if_deep c.in_err-add_target.field-0.0
    (of_target w s v kw.Ref refl)
    c.in_err-add_target.ensures.deep)

pub unevaluated::add_reference-returns-in_err-add_target-2-clause-deep : goal.unevaluated::add_reference-returns-in_err-add_target-2-clause-deep
unevaluated::add_reference-returns-in_err-add_target-2-clause-deep t c =
    let w = c.args.walk in
    let s = view c.args.here.now.schema.now in
    let v = tree_of c.args.value.now in
    raised_alone _ c.in_err-add_target-2.field-0.0 c.from_residual-in_err-add_target-2.result c.from_residual-in_err-add_target-2.ensures.1
    (if_deep c.in_err-add_target-2.field-0.0
    (of_target w s v kw.DynamicRef refl)
    c.in_err-add_target-2.ensures.deep)

pub unevaluated::add_target-returns-in_err-part-clause-deep : goal.unevaluated::add_target-returns-in_err-part-clause-deep
unevaluated::add_target-returns-in_err-part-clause-deep t c =
    raised_alone _ OutOfMemory c.from_residual.result c.from_residual.ensures.1 tt

pub unevaluated::add_target-returns-in_err-add_schema-clause-deep : goal.unevaluated::add_target-returns-in_err-add_schema-clause-deep
unevaluated::add_target-returns-in_err-add_schema-clause-deep t c =
    let r = view c.in-Some.part.schema.now in
    raised_alone _ c.in_err-add_schema.field-0.0 c.from_residual-in_err-add_schema.result c.from_residual-in_err-add_schema.ensures.1
    (if_deep c.in_err-add_schema.field-0.0
    (λ h. (r, sym (ap (option_map (λ x. view x.schema.now)) (sym c.in-Some.is) ∙ c.in_ok-part.ensures), h))
    c.in_err-add_schema.ensures.deep)

pub unevaluated::sources_of-returns-clause-reached : goal.unevaluated::sources_of-returns-clause-reached
unevaluated::sources_of-returns-clause-reached t c =
    let w = c.args.walk in
    let s = view c.args.here.now.schema.now in
    let v = tree_of c.args.value.now in
    let x : Source = record { applied = c.args.here.now; walk = w; asks = true } in
    let put : c.push.new.self.items ≡ x ∷ [] = c.in_ok-push.ensures.items ∙ ap (λ ys. ys ++ x ∷ []) c.new-sources.ensures.items in
    c.in_ok-add_inner.ensures.reached (root_tree w) s (suc w.steps) (λ h. h)
    (subst (AreReached (root_tree w) (suc w.steps) s v) (sym put) ((λ h. h), tt))

pub unevaluated::add_schema-returns-clause-reached : goal.unevaluated::add_schema-returns-clause-reached
unevaluated::add_schema-returns-clause-reached t c =
    let w = c.args.walk in
    let r = view c.args.part.now.schema.now in
    let v = tree_of c.args.value.now in
    let inner = c.in_ok-inner.inner in
    let d = c.in_ok-inner.ensures in
    λ root s n lead q. c.in_ok-add_inner.ensures.reached root s n (λ h. lead (one_deeper w inner d r v h))
    (subst (AreReached root n s v) (sym c.in_ok-push.ensures.items)
    (reached_pushed root n s v c.args.sources.now.items _ q (λ h. lead (one_deeper w inner d r v h))))

pub unevaluated::add_inner-returns-clause-reached : goal.unevaluated::add_inner-returns-clause-reached
unevaluated::add_inner-returns-clause-reached t c =
    let w = c.args.walk in
    let s = view c.args.here.now.schema.now in
    let v = tree_of c.args.value.now in
    λ root x n lead q. c.in_ok-add_reference.ensures.reached root x n lead (c.in_ok-add_dependents.ensures.reached root x n lead
    (c.in_ok-add_branch.ensures.reached root x n lead
    (c.in_ok-add_accepting-2.ensures.reached root x n
    (λ h. lead (of_list w s v kw.OneOf (items_view c.schemas_at-one.result.now) refl c.schemas_at-one.ensures h))
    (c.in_ok-add_accepting.ensures.reached root x n
    (λ h. lead (of_list w s v kw.AnyOf (items_view c.schemas_at-any.result.now) refl c.schemas_at-any.ensures h))
    (c.in_ok-add_listed.ensures.reached root x n
    (λ h. lead (of_list w s v kw.AllOf (items_view c.schemas_at-all.result.now) refl c.schemas_at-all.ensures h)) q)))))

pub unevaluated::add_branch-returns-in_default-part-clause-reached : goal.unevaluated::add_branch-returns-in_default-part-clause-reached
unevaluated::add_branch-returns-in_default-part-clause-reached t c =
    let w = c.args.walk in
    let s = view c.args.here.now.schema.now in
    let v = tree_of c.args.value.now in
    λ root x n lead q. c.in_ok-accepted.ensures.reached root x n (λ h. lead (within (by_if (sym c.in-Some.ensures)) h)) q

pub unevaluated::add_branch-returns-clause-reached : goal.unevaluated::add_branch-returns-clause-reached
unevaluated::add_branch-returns-clause-reached t c =
    let w = c.args.walk in
    let s = view c.args.here.now.schema.now in
    let v = tree_of c.args.value.now in
    λ root x n lead q. c.in_ok-add_schema.ensures.reached root x n
    (λ h. lead (within (by_branch c.in_ok-accepted.accepted (ap is_some (sym c.in-Some.ensures))
    (sym (c.in-Some-part.ensures ∙ ap (schema_at s) c.branch-chosen.ensures))) h))
    (c.in_ok-accepted.ensures.reached root x n (λ h. lead (within (by_if (sym c.in-Some.ensures)) h)) q)

pub unevaluated::add_dependent-returns-clause-reached : goal.unevaluated::add_dependent-returns-clause-reached
unevaluated::add_dependent-returns-clause-reached t c =
    let w = c.args.walk in
    let r = view c.args.part.now.schema.now in
    let v = tree_of c.args.value.now in
    let k = chars c.args.key.now in
    let here : is_some (tree_at_key v k) ≡ true = sym c.has_key.ensures ∙ c.if-not-has_key.false in
    λ root x n lead q. c.in_ok-add_schema.ensures.reached root x n (λ h. lead (here, h)) q

pub unevaluated::add_reference-returns-clause-reached : goal.unevaluated::add_reference-returns-clause-reached
unevaluated::add_reference-returns-clause-reached t c =
    let w = c.args.walk in
    let s = view c.args.here.now.schema.now in
    let v = tree_of c.args.value.now in
    λ root x n lead q. c.in_ok-add_target-2.ensures.reached root x n (λ h. lead (of_target w s v kw.DynamicRef refl h))
    (c.in_ok-add_target.ensures.reached root x n (λ h. lead (of_target w s v kw.Ref refl h)) q)

pub unevaluated::add_target-returns-clause-reached : goal.unevaluated::add_target-returns-clause-reached
unevaluated::add_target-returns-clause-reached t c =
    let w = c.args.walk in
    let s = view c.args.here.now.schema.now in
    let v = tree_of c.args.value.now in
    let r = view c.in-Some.part.schema.now in
    λ root x n lead q. c.in_ok-add_schema.ensures.reached root x n
    (λ h. lead (r, sym (ap (option_map (λ x. view x.schema.now)) (sym c.in-Some.is) ∙ c.in_ok-part.ensures), h)) q

pub unevaluated::add_listed-returns-clause-reached : goal.unevaluated::add_listed-returns-clause-reached
unevaluated::add_listed-returns-clause-reached t c =
    c.loop-index.invariant.2

pub unevaluated::add_accepting-returns-clause-reached : goal.unevaluated::add_accepting-returns-clause-reached
unevaluated::add_accepting-returns-clause-reached t c =
    c.loop-index.invariant.2

pub unevaluated::add_dependents-returns-clause-reached : goal.unevaluated::add_dependents-returns-clause-reached
unevaluated::add_dependents-returns-clause-reached t c =
    c.loop-key.invariant.2

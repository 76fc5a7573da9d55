use Rattle.std.proofs.Common.{◌≡◌, ◌<◌, ◌≤◌, ◌+◌, ◌*◌, ◌++◌, ◌∷◌, [], ◌∙◌, cond, length, map, arith, rules, refl, sym, ap}
use Rattle.std.proofs.lemmas.List.{map-append}
use Rattle.tinyjson.specs.View.{view}
use Rattle.tinyjson_view.specs.Views.{tree_of}
use Rattle.tinyjson_schema_assertions.specs.Assertions.{meets, assertions}
use Rattle.tinyjson_schema.specs.Applicators.{applies, tests}
use Rattle.tinyjson_schema.specs.Every.{here, at_keyword, failing, own, Use, under, spread, uses, every}
use Rattle.tinyjson_schema.specs.Steps.{placed, use_of, AddsEvery}
use Rattle.tinyjson_schema.specs.Valid.{root_of, answers_in, says}
use Rattle.tinyjson_schema.proofs.Adding.{first_both, first_as, first_next, first_end, first_enough, every_before, map_map}
use Rattle.std.proofs.Common.{subst, true}
use Rattle.tinyjson_schema.specs.Deep.{root_tree, Descends}
use Rattle.tinyjson_schema.specs.Evaluated.{Answers}
use Rattle.tinyjson_schema.specs.Nested.{within, IfDeep}
use Rattle.tinyjson_schema.specs.Steps.{AreApplied}
use Rattle.tinyjson_schema.specs.declared.walk.CheckError.TheVariants.{OutOfMemory}
use Rattle.tinyjson_schema.proofs.Applying.{applied_by, pending_applied}
use Rattle.tinyjson_schema.proofs.Deep.{raised_shallow, raised, if_deep, at_last, one_deeper}
use Rattle.tinyjson_schema.proofs.validate.every.+every.Goals as goal

pub add_violations-add_further-requires : goal.add_violations-add_further-requires
add_violations-add_further-requires t c =
    let fewer : 2 * c.in_ok-inner.inner.steps + 1 < 2 * c.args.walk.steps = omega (arith, c.in_ok-inner.ensures.1) in
    search rules

pub add_violations-returns-then-refuses_all : goal.add_violations-returns-then-refuses_all
add_violations-returns-then-refuses_all t c g =
    let s = view c.args.here.now.schema.now in
    let v = tree_of c.args.value.now in
    let w = c.args.walk in
    let inner = c.in_ok-inner.inner in
    let refused = sym c.refuses_all.ensures ∙ c.if-refuses_all.true in
    first_as c.args.limit _ _ _ _
    (ap (map (placed c.args.path.now))
    (ap (λ b. cond b (here ∷ []) (map at_keyword (own (root_of inner) (says inner g) s v)
    ++ spread (λ u. every (root_of inner) inner.steps g u.schema u.value) (uses (root_of inner).tree (answers_in inner g) s v)))
    (sym refused) ∙ every_before w inner c.in_ok-inner.ensures g s v)) c.in_ok-add_place.ensures

pub add_violations-returns : goal.add_violations-returns
add_violations-returns t c g =
    let s = view c.args.here.now.schema.now in
    let v = tree_of c.args.value.now in
    let w = c.args.walk in
    let inner = c.in_ok-inner.inner in
    let p = placed c.args.path.now in
    let f = λ (u : Use). every (root_of inner) inner.steps g u.schema u.value in
    let accepted = sym c.refuses_all.ensures ∙ c.if-refuses_all.false in
    let more = failing (λ k. applies (says inner g) k s v) tests in
    let keywords : c.as_slice.result.now ≡ own (root_of inner) (says inner g) s v
    = c.as_slice.ensures.value ∙ (c.in_ok-add_tests.ensures g
    ∙ ap (λ ks. ks ++ more) (c.in_ok-add_unmet.ensures
    ∙ (ap (λ ks. ks ++ failing (λ k. meets k s v) c.assertions.result.now) c.new-keywords.ensures.items
    ∙ (ap (failing (λ k. meets k s v)) c.assertions.ensures
    ∙ ap (λ b. failing (λ k. meets k s v) (assertions b)) (sym (ap (λ r. r.now.formats) c.in_ok-inner.ensures.0)))))) in
    let applied : map use_of c.as_slice-2.result.now ≡ uses (root_of inner).tree (answers_in inner g) s v
    = ap (map use_of) c.as_slice-2.ensures.value ∙ c.in_ok-uses.ensures g in
    let all : map at_keyword c.as_slice.result.now ++ spread f (map use_of c.as_slice-2.result.now)
    ≡ every (root_of w) w.steps g s v
    = (λ i. map at_keyword (keywords i) ++ spread f (applied i))
    ∙ (ap (λ b. cond b (here ∷ []) (map at_keyword (own (root_of inner) (says inner g) s v)
    ++ spread f (uses (root_of inner).tree (answers_in inner g) s v))) (sym accepted)
    ∙ every_before w inner c.in_ok-inner.ensures g s v) in
    first_as c.args.limit _ _ _ _
    (sym (map-append p (map at_keyword c.as_slice.result.now) (spread f (map use_of c.as_slice-2.result.now))) ∙ ap (map p) all)
    (first_both c.args.limit (map p (map at_keyword c.as_slice.result.now)) (map p (spread f (map use_of c.as_slice-2.result.now)))
    c.args.found.now.items c.add_places.new.found.items c.add_further.new.found.items c.in_ok-add_places.ensures
    (c.in_ok-add_further.ensures g))

pub add_further-returns-then-as_slice-limit : goal.add_further-returns-then-as_slice-limit
add_further-returns-then-as_slice-limit t c g =
    let w = c.args.walk in
    let vs = c.loop-used.found.items in
    let enough : c.args.limit ≤ length vs = omega (arith, c.if-as_slice-limit.true, ap length c.as_slice.ensures.value) in
    first_enough c.args.limit (λ ps. map (placed c.args.path.now)
    (spread (λ u. every (root_of w) w.steps g u.schema u.value) (map use_of ps)))
    c.args.pending.now c.loop-used.used-index _ vs enough (c.loop-used.invariant g)

pub add_further-by-part-requires : goal.add_further-by-part-requires
add_further-by-part-requires t c = c.used-item.result.same

pub add_further-loop-used-preserved : goal.add_further-loop-used-preserved
add_further-loop-used-preserved t c g =
    let w = c.args.walk in
    let p = placed c.args.path.now in
    let f = λ (u : Use). every (root_of w) w.steps g u.schema u.value in
    let x = c.used-item.result in
    let e = map p (map (under (use_of x)) (f (use_of x))) in
    let further : c.as_slice-in-loop-used.result.now ≡ x.step ∷ c.args.path.now
    = c.as_slice-in-loop-used.ensures.value ∙ (c.in_ok-extend_from_slice.ensures.items
    ∙ ap (λ ps. ps ++ c.args.path.now) (c.in_ok-push.ensures.items ∙ ap (λ ps. ps ++ x.step ∷ []) c.new-further.ensures.items)) in
    first_next c.args.limit (λ ps. map p (spread f (map use_of ps))) c.args.pending.now c.loop-used.used-index _ x _ _ e
    c.loop-used-test.true c.used-item.is (map-append p (map (under (use_of x)) (f (use_of x))) _)
    (first_as c.args.limit _ _ _ _ (ap (λ ps. map (placed ps) (f (use_of x))) further ∙ sym (map_map p (under (use_of x)) (f (use_of x))))
    (subst (λ s. AddsEvery c.args.limit w c.as_slice-in-loop-used.result.now s (tree_of x.value) c.loop-used.found.items
    c.add_violations.new.found.items) c.by-part.ensures c.in_ok-add_violations.ensures g)) (c.loop-used.invariant g)

pub add_further-returns : goal.add_further-returns
add_further-returns t c g =
    let w = c.args.walk in
    first_end c.args.limit (λ ps. map (placed c.args.path.now)
    (spread (λ u. every (root_of w) w.steps g u.schema u.value) (map use_of ps)))
    c.args.pending.now c.loop-used.used-index _ c.loop-used.found.items c.loop-used-test.false refl (c.loop-used.invariant g)

pub add_violations-returns-in_err-inner : goal.add_violations-returns-in_err-inner
add_violations-returns-in_err-inner t c =
    let w = c.args.walk in
    let s = view c.args.here.now.schema.now in
    let v = tree_of c.args.value.now in
    raised _ _ c.in_err-inner.field-0.0 c.from_residual.result c.from_residual.ensures.1
    (if_deep c.in_err-inner.field-0.0
    (at_last w s v)
    c.in_err-inner.ensures)

pub add_violations-returns-in_err-add_place : goal.add_violations-returns-in_err-add_place
add_violations-returns-in_err-add_place t c =
    raised _ _ OutOfMemory c.from_residual-in_err-add_place.result c.from_residual-in_err-add_place.ensures.1 tt

pub add_violations-returns-in_err-add_unmet : goal.add_violations-returns-in_err-add_unmet
add_violations-returns-in_err-add_unmet t c =
    raised_shallow _ _ c.from_residual-in_err-add_unmet.result c.from_residual-in_err-add_unmet.ensures.1

pub add_violations-returns-in_err-add_places : goal.add_violations-returns-in_err-add_places
add_violations-returns-in_err-add_places t c =
    raised _ _ OutOfMemory c.from_residual-in_err-add_places.result c.from_residual-in_err-add_places.ensures.1 tt

pub add_violations-returns-in_err-add_tests : goal.add_violations-returns-in_err-add_tests
add_violations-returns-in_err-add_tests t c =
    let w = c.args.walk in
    let s = view c.args.here.now.schema.now in
    let v = tree_of c.args.value.now in
    raised _ _ c.in_err-add_tests.field-0.0 c.from_residual-in_err-add_tests.result c.from_residual-in_err-add_tests.ensures.1
    (if_deep c.in_err-add_tests.field-0.0
    (one_deeper w c.in_ok-inner.inner c.in_ok-inner.ensures s v)
    c.in_err-add_tests.ensures)

pub add_violations-returns-in_err-uses : goal.add_violations-returns-in_err-uses
add_violations-returns-in_err-uses t c =
    let w = c.args.walk in
    let s = view c.args.here.now.schema.now in
    let v = tree_of c.args.value.now in
    raised _ _ c.in_err-uses.field-0.0 c.from_residual-in_err-uses.result c.from_residual-in_err-uses.ensures.1
    (if_deep c.in_err-uses.field-0.0
    (one_deeper w c.in_ok-inner.inner c.in_ok-inner.ensures s v)
    c.in_err-uses.ensures)

pub add_violations-returns-in_err-add_further : goal.add_violations-returns-in_err-add_further
add_violations-returns-in_err-add_further t c =
    let w = c.args.walk in
    let s = view c.args.here.now.schema.now in
    let v = tree_of c.args.value.now in
    let inner = c.in_ok-inner.inner in
    let g : Answers = record { accepts = λ r u. true; evaluates = λ r u k. true } in
    let applied : AreApplied (root_tree inner) s v (map use_of c.as_slice-2.result.now)
    = subst (AreApplied (root_tree inner) s v) (sym (ap (map use_of) c.as_slice-2.ensures.value ∙ c.in_ok-uses.ensures g))
    (applied_by (root_tree inner) c.args.here.now.schema.now c.args.value.now (answers_in inner g)) in
    raised _ _ c.in_err-add_further.field-0.0 c.from_residual-in_err-add_further.result c.from_residual-in_err-add_further.ensures.1
    (if_deep c.in_err-add_further.field-0.0
    (λ h. one_deeper w inner c.in_ok-inner.ensures s v (h s v applied))
    c.in_err-add_further.ensures)

pub add_further-returns-in_err-push : goal.add_further-returns-in_err-push
add_further-returns-in_err-push t c =
    raised _ _ OutOfMemory c.from_residual.result c.from_residual.ensures.1 tt

pub add_further-returns-in_err-extend_from_slice : goal.add_further-returns-in_err-extend_from_slice
add_further-returns-in_err-extend_from_slice t c =
    raised _ _ OutOfMemory c.from_residual-in_err-extend_from_slice.result c.from_residual-in_err-extend_from_slice.ensures.1 tt

pub add_further-returns-in_err-add_violations : goal.add_further-returns-in_err-add_violations
add_further-returns-in_err-add_violations t c =
    let w = c.args.walk in
    let x = c.used-item.result in
    raised _ _ c.in_err-add_violations.field-0.0 c.from_residual-in_err-add_violations.result c.from_residual-in_err-add_violations.ensures.1
    (if_deep c.in_err-add_violations.field-0.0
    (λ h s v a. within (pending_applied (root_tree w) s v c.args.pending.now c.loop-used.used-index c.used-item.result a
    c.loop-used-test.true c.used-item.is) h)
    (subst (λ s. IfDeep c.in_err-add_violations.field-0.0 (Descends w s (tree_of x.value))) c.by-part.ensures
    c.in_err-add_violations.ensures))

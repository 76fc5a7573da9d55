use Rattle.std.proofs.Common.{◌≡◌, ◌<◌, ◌+◌, ◌*◌, ◌∙◌, ℕ, true, true≢false, Vec, Global, option_map, arith, rules, refl, sym, ap, subst}
use Rattle.std.specs.Option.{option_map_or}
use Rattle.std.specs.Prelude.{IfOk, option_and_then}
use Rattle.tinyjson.specs.View.{view, members_listed}
use Rattle.tinyjson_schema_keywords.specs.References.{target, at_fragment}
use Rattle.tinyjson_schema_keywords.proofs.References.{no_text}
use Rattle.tinyjson_schema.specs.Circles.{map_passes, reference_passes, settles_in}
use Rattle.tinyjson_schema.specs.Settled.{IsRightIn}
use Rattle.tinyjson_schema.proofs.Remembering.{stays, moved, back, known_end, ends_at, some_or, none_or, no_fragment, at_its_fragment}
use Rattle.tinyjson_schema.proofs.Settling.{no_steps, no_lists, no_singles, no_map, all_settled}
use Rattle.tinyjson_schema.proofs.circles.+circles.Goals as goal

pub settles-lists_settle-requires : goal.settles-lists_settle-requires
settles-lists_settle-requires t c =
    let fewer : 8 * c.in-Ok.inner.steps + 6 < 8 * c.args.walk.steps + 3 = omega (arith, c.in-Ok.ensures.1) in
    let right : IsRightIn c.in-Ok.inner c.reach.new.self
    = moved c.args.walk c.in-Ok.inner c.args.known.now c.reach.new.self c.in-Ok.ensures.0 c.reach.ensures c.requires in
    search rules

pub settles-singles_settle-requires : goal.settles-singles_settle-requires
settles-singles_settle-requires t c =
    let fewer : 8 * c.in-Ok.inner.steps + 6 < 8 * c.args.walk.steps + 3 = omega (arith, c.in-Ok.ensures.1) in
    search rules

pub settles-dependents_settle-requires : goal.settles-dependents_settle-requires
settles-dependents_settle-requires t c =
    let fewer : 8 * c.in-Ok.inner.steps + 6 < 8 * c.args.walk.steps + 3 = omega (arith, c.in-Ok.ensures.1) in
    search rules

pub settles-reference_settles-requires : goal.settles-reference_settles-requires
settles-reference_settles-requires t c =
    let fewer : 8 * c.in-Ok.inner.steps + 8 < 8 * c.args.walk.steps + 3 = omega (arith, c.in-Ok.ensures.1) in
    search rules

pub settles-returns-in_default-clause-is : goal.settles-returns-in_default-clause-is
settles-returns-in_default-clause-is t c = no_steps c.args.walk (view c.args.schema.now) c.in_default.ensures

pub settles-returns-then-not-lists-clause-is : goal.settles-returns-then-not-lists-clause-is
settles-returns-then-not-lists-clause-is t c = no_lists c.args.walk c.in-Ok.inner c.in-Ok.ensures (view c.args.schema.now)
    c.in_ok-lists.lists c.in_ok-lists.ensures.is c.if-not-lists.true

pub settles-returns-then-not-lists-clause-right : goal.settles-returns-then-not-lists-clause-right
settles-returns-then-not-lists-clause-right t c = back c.args.walk c.in-Ok.inner c.lists_settle.new.known c.in-Ok.ensures.0
    c.in_ok-lists.ensures.right

pub settles-returns-then-not-singles-clause-is : goal.settles-returns-then-not-singles-clause-is
settles-returns-then-not-singles-clause-is t c = no_singles c.args.walk c.in-Ok.inner c.in-Ok.ensures (view c.args.schema.now)
    c.in_ok-lists.lists c.in_ok-singles.singles c.in_ok-lists.ensures.is c.in_ok-singles.ensures.is c.if-not-lists.false
    c.if-not-singles.true

pub settles-returns-then-not-singles-clause-right : goal.settles-returns-then-not-singles-clause-right
settles-returns-then-not-singles-clause-right t c = back c.args.walk c.in-Ok.inner c.singles_settle.new.known c.in-Ok.ensures.0
    c.in_ok-singles.ensures.right

pub settles-returns-then-not-dependents-clause-is : goal.settles-returns-then-not-dependents-clause-is
settles-returns-then-not-dependents-clause-is t c = no_map c.args.walk c.in-Ok.inner c.in-Ok.ensures (view c.args.schema.now)
    c.in_ok-lists.lists c.in_ok-singles.singles c.in_ok-dependents.dependents c.in_ok-lists.ensures.is c.in_ok-singles.ensures.is
    c.in_ok-dependents.ensures.is c.if-not-lists.false c.if-not-singles.false c.if-not-dependents.true

pub settles-returns-then-not-dependents-clause-right : goal.settles-returns-then-not-dependents-clause-right
settles-returns-then-not-dependents-clause-right t c = back c.args.walk c.in-Ok.inner c.dependents_settle.new.known
    c.in-Ok.ensures.0 c.in_ok-dependents.ensures.right

pub settles-returns-clause-is : goal.settles-returns-clause-is
settles-returns-clause-is t c =
    let w = c.args.walk in
    let inner = c.in-Ok.inner in
    let s = view c.args.schema.now in
    subst (λ b. IfOk c.reference_settles.result (λ is. is ≡ b)) (all_settled w inner c.in-Ok.ensures s c.in_ok-lists.lists
    c.in_ok-singles.singles c.in_ok-dependents.dependents (reference_passes (view inner.whole.now.root.now) (settles_in inner) s)
    c.in_ok-lists.ensures.is c.in_ok-singles.ensures.is c.in_ok-dependents.ensures.is refl c.if-not-lists.false
    c.if-not-singles.false c.if-not-dependents.false) c.reference_settles.ensures.is

pub settles-returns-clause-right : goal.settles-returns-clause-right
settles-returns-clause-right t c = back c.args.walk c.in-Ok.inner c.reference_settles.new.known c.in-Ok.ensures.0
    c.reference_settles.ensures.right

pub dependents_settle-returns-clause-is : goal.dependents_settle-returns-clause-is
dependents_settle-returns-clause-is t c = subst (λ b. IfOk c.map_settles.result (λ is. is ≡ b))
    (ap (map_passes (settles_in c.args.walk)) (ap members_listed c.as_slice.ensures.value ∙ c.in_ok-listed.ensures.listed))
    c.map_settles.ensures.is

pub keyword_settles-returns-in_default-clause-is : goal.keyword_settles-returns-in_default-clause-is
keyword_settles-returns-in_default-clause-is t c =
    let root = view c.args.walk.whole.now.root.now in
    ap (λ o. option_map_or (settles_in c.args.walk) (option_and_then (target root) o) true)
    (ap (option_map (λ x. view x.now)) (sym c.in_default.is) ∙ c.schema_at.ensures)

pub keyword_settles-returns-in-Some-2-clause-is : goal.keyword_settles-returns-in-Some-2-clause-is
keyword_settles-returns-in-Some-2-clause-is t c =
    let root = view c.args.walk.whole.now.root.now in
    let there = ap (option_map (λ x. view x.now)) (sym c.in-Some.is) ∙ c.schema_at.ensures in
    some_or (settles_in c.args.walk) _ _ true (sym c.in-Some-2.is ∙ (c.in_ok-settled.ensures.is
    ∙ ap (λ o. option_map (settles_in c.args.walk) (option_and_then (target root) o)) there))

pub keyword_settles-returns-in-None-clause-is : goal.keyword_settles-returns-in-None-clause-is
keyword_settles-returns-in-None-clause-is t c =
    let root = view c.args.walk.whole.now.root.now in
    let there = ap (option_map (λ x. view x.now)) (sym c.in-Some.is) ∙ c.schema_at.ensures in
    none_or (settles_in c.args.walk) _ true (sym c.in-None.is ∙ (c.in_ok-settled.ensures.is
    ∙ ap (λ o. option_map (settles_in c.args.walk) (option_and_then (target root) o)) there))

pub target_settles-returns-in_default-clause-is : goal.target_settles-returns-in_default-clause-is
target_settles-returns-in_default-clause-is t c =
    no_fragment (view c.args.walk.whole.now.root.now) (view c.args.reference.now) (settles_in c.args.walk)
    (ap (option_map (λ (v : Vec ℕ Global). v.items)) (sym c.in_default.is) ∙ c.in_ok-bytes.ensures)

pub target_settles-returns-in_default-from_utf8-clause-is : goal.target_settles-returns-in_default-from_utf8-clause-is
target_settles-returns-in_default-from_utf8-clause-is t c =
    let root = view c.args.walk.whole.now.root.now in
    let read = ap (option_map (λ (v : Vec ℕ Global). v.items)) (sym c.in-Some.is) ∙ c.in_ok-bytes.ensures in
    ap (option_map (settles_in c.args.walk)) (no_text root c.in-Some.bytes.items (λ u. true≢false (sym (c.in_default-from_utf8.ensures.succeeds u)))
    ∙ sym (at_its_fragment root (view c.args.reference.now) c.in-Some.bytes.items read))

pub target_settles-returns-then-knows-clause-is : goal.target_settles-returns-then-knows-clause-is
target_settles-returns-then-knows-clause-is t c =
    let root = view c.args.walk.whole.now.root.now in
    let read = ap (option_map (λ (v : Vec ℕ Global). v.items)) (sym c.in-Some.is) ∙ c.in_ok-bytes.ensures in
    let same = c.as_str.ensures.value ∙ ap (λ (v : Vec ℕ Global). v.items) c.in-Ok.ensures.ok in
    known_end root c.args.walk.steps c.as_str.result.now (c.knows.ensures.is c.if-knows.true root c.requires)
    ∙ (ap (λ bs. option_map (settles_in c.args.walk) (at_fragment root bs)) same
    ∙ ap (option_map (settles_in c.args.walk)) (sym (at_its_fragment root (view c.args.reference.now) c.in-Some.bytes.items read)))

pub target_settles-returns-then-knows-clause-right : goal.target_settles-returns-then-knows-clause-right
target_settles-returns-then-knows-clause-right t c =
    stays (view c.args.walk.whole.now.root.now) c.args.known.now c.knows.new.self c.knows.ensures.same c.requires

pub target_settles-fragment_settles-requires : goal.target_settles-fragment_settles-requires
target_settles-fragment_settles-requires t c =
    let root = view c.args.walk.whole.now.root.now in
    let read = ap (option_map (λ (v : Vec ℕ Global). v.items)) (sym c.in-Some.is) ∙ c.in_ok-bytes.ensures in
    let same = at_its_fragment root (view c.args.reference.now) c.in-Some.bytes.items read
    ∙ ap (λ (v : Vec ℕ Global). at_fragment root v.items) (sym c.in-Ok.ensures.ok) in
    let right = stays root c.args.known.now c.knows.new.self c.knows.ensures.same c.requires in
    search rules

pub fragment_settles-settles-requires : goal.fragment_settles-settles-requires
fragment_settles-settles-requires t c =
    let right = stays (view c.args.walk.whole.now.root.now) c.args.known.now c.put_least-before.new.self c.put_least-before.ensures c.requires.known in
    search rules

pub fragment_settles-keep-requires : goal.fragment_settles-keep-requires
fragment_settles-keep-requires t c =
    let leads = sym c.requires.same ∙ (sym c.in_ok-schema.ensures ∙ ap (option_map (λ x. view x.now)) c.in-Some.is) in
    let good = sym c.in_ok-settled.ensures.is ∙ c.if-settled.true in
    search rules

pub keep-settles-requires : goal.keep-settles-requires
keep-settles-requires t c =
    let fewer : 8 * c.taken.result + 3 < 8 * c.args.walk.steps + 4 = omega (arith, c.taken.ensures) in
    let right = stays (view c.args.walk.whole.now.root.now) c.args.known.now c.put_least-least.new.self c.put_least-least.ensures c.requires.known in
    search rules

pub keep-returns-then-enough : goal.keep-returns-then-enough
keep-returns-then-enough t c =
    let root = view c.args.walk.whole.now.root.now in
    c.keep.ensures root
    (stays root c.settles.new.known c.put_least.new.self c.put_least.ensures c.in_ok-enough.ensures.right)
    (ends_at root c.taken.result _ (view c.args.schema.now) c.requires.leads (sym c.in_ok-enough.ensures.is ∙ c.if-enough.true))

pub keep-returns-else-enough : goal.keep-returns-else-enough
keep-returns-else-enough t c =
    let root = view c.args.walk.whole.now.root.now in
    c.keep-else-enough.ensures root
    (stays root c.settles.new.known c.put_least.new.self c.put_least.ensures c.in_ok-enough.ensures.right)
    (ends_at root c.args.walk.steps _ (view c.args.schema.now) c.requires.leads c.requires.settled)

use Rattle.std.proofs.Common.{◌≡◌, ◌+◌, ◌*◌, ◌≤◌, ◌||◌, drop}
use Rattle.std.specs.Str.{chars}
use Rattle.tinyjson.specs.View.{view, items_view, members_listed}
use Rattle.tinyjson_view.specs.Views.{tree_of, trees_of, members_of}
use Rattle.tinyjson_schema_keywords.specs.Applied.{members_in}
use Rattle.tinyjson_schema.specs.Applicators.{all_accept, some_accepts, accepting, keys_pass, passing, dependents_accept, members_accepted}
use Rattle.tinyjson_schema.specs.Applicators.{items_accepted, found_pass, patterns_accept}
use Rattle.tinyjson_schema.specs.Deep.{DescendsIn, DescendsAmong}
use Rattle.tinyjson_schema.specs.Evaluated.{Answers, Child, item_at, value_of, some_evaluate, accepting_evaluate, dependents_evaluate}
use Rattle.tinyjson_schema.specs.Evaluated.{members_pass, items_pass}
use Rattle.tinyjson_schema.specs.Sources.{sources_evaluate, StaysWithin, StaysReached}
use Rattle.tinyjson_schema.specs.Valid.{says, answers_in}
use Rattle.tinyjson_schema.proofs.validate.+validate.Given as goal

abbrev pub decreases-violation_of : goal.decreases-violation_of
decreases-violation_of l = 16 * l.walk.steps + 6

abbrev pub decreases-is_accepted : goal.decreases-is_accepted
decreases-is_accepted l = 16 * l.walk.steps + 8

abbrev pub decreases-tested::unmet_test : goal.decreases-tested::unmet_test
decreases-tested::unmet_test l = 16 * l.walk.steps + 15

abbrev pub decreases-tested::is_any_met : goal.decreases-tested::is_any_met
decreases-tested::is_any_met l = 16 * l.walk.steps + 14

abbrev pub decreases-tested::is_some_met : goal.decreases-tested::is_some_met
decreases-tested::is_some_met l = 16 * l.walk.steps + 13

abbrev pub decreases-tested::is_one_met : goal.decreases-tested::is_one_met
decreases-tested::is_one_met l = 16 * l.walk.steps + 14

abbrev pub decreases-tested::count_accepting : goal.decreases-tested::count_accepting
decreases-tested::count_accepting l = 16 * l.walk.steps + 13

abbrev pub decreases-tested::is_not_met : goal.decreases-tested::is_not_met
decreases-tested::is_not_met l = 16 * l.walk.steps + 10

abbrev pub decreases-tested::are_names_met : goal.decreases-tested::are_names_met
decreases-tested::are_names_met l = 16 * l.walk.steps + 10

abbrev pub decreases-tested::are_keys_met : goal.decreases-tested::are_keys_met
decreases-tested::are_keys_met l = 16 * l.walk.steps + 9

abbrev pub decreases-tested::unmet_count : goal.decreases-tested::unmet_count
decreases-tested::unmet_count l = 16 * l.walk.steps + 14

abbrev pub decreases-tested::contained : goal.decreases-tested::contained
decreases-tested::contained l = 16 * l.walk.steps + 13

abbrev pub decreases-tested::count_passing : goal.decreases-tested::count_passing
decreases-tested::count_passing l = 16 * l.walk.steps + 12

abbrev pub decreases-in_demands : goal.decreases-in_demands
decreases-in_demands l = 16 * l.walk.steps + 11

abbrev pub decreases-in_all_of : goal.decreases-in_all_of
decreases-in_all_of l = 16 * l.walk.steps + 10

abbrev pub decreases-in_branch : goal.decreases-in_branch
decreases-in_branch l = 16 * l.walk.steps + 10

abbrev pub decreases-in_dependents : goal.decreases-in_dependents
decreases-in_dependents l = 16 * l.walk.steps + 10

abbrev pub decreases-in_patterned : goal.decreases-in_patterned
decreases-in_patterned l = 16 * l.walk.steps + 10

abbrev pub decreases-in_found : goal.decreases-in_found
decreases-in_found l = 16 * l.walk.steps + 9

abbrev pub decreases-in_reference : goal.decreases-in_reference
decreases-in_reference l = 16 * l.walk.steps + 11

abbrev pub decreases-in_target : goal.decreases-in_target
decreases-in_target l = 16 * l.walk.steps + 10

abbrev pub decreases-in_parts : goal.decreases-in_parts
decreases-in_parts l = 16 * l.walk.steps + 12

abbrev pub decreases-in_members : goal.decreases-in_members
decreases-in_members l = 16 * l.walk.steps + 11

abbrev pub decreases-in_items : goal.decreases-in_items
decreases-in_items l = 16 * l.walk.steps + 11

abbrev pub invariant-tested::is_some_met-loop-index : goal.invariant-tested::is_some_met-loop-index
invariant-tested::is_some_met-loop-index l = (g : Answers) →
    some_accepts (says l.walk g) (items_view (drop l.index l.schemas)) (tree_of l.value)
    ≡ some_accepts (says l.walk g) (items_view l.schemas) (tree_of l.value)

abbrev pub invariant-tested::count_accepting-loop-index : goal.invariant-tested::count_accepting-loop-index
invariant-tested::count_accepting-loop-index l = (l.count ≤ l.index)
    × ((g : Answers) → l.count + accepting (says l.walk g) (items_view (drop l.index l.schemas)) (tree_of l.value)
    ≡ accepting (says l.walk g) (items_view l.schemas) (tree_of l.value))

abbrev pub invariant-tested::are_keys_met-loop-member : goal.invariant-tested::are_keys_met-loop-member
invariant-tested::are_keys_met-loop-member l = (g : Answers) →
    keys_pass (says l.walk g (view l.part.schema.now)) (members_of (drop l.member-index l.members))
    ≡ keys_pass (says l.walk g (view l.part.schema.now)) (members_of l.members)

abbrev pub invariant-tested::count_passing-loop-item : goal.invariant-tested::count_passing-loop-item
invariant-tested::count_passing-loop-item l = (l.count ≤ l.item-index)
    × ((g : Answers) → l.count + passing (says l.walk g (view l.part.schema.now)) (trees_of (drop l.item-index l.items))
    ≡ passing (says l.walk g (view l.part.schema.now)) (trees_of l.items))

abbrev pub invariant-in_all_of-loop-index : goal.invariant-in_all_of-loop-index
invariant-in_all_of-loop-index l = (g : Answers) → all_accept (says l.walk g) (items_view (drop l.index l.parts)) (tree_of l.value)
    ≡ all_accept (says l.walk g) (items_view l.parts) (tree_of l.value)

abbrev pub invariant-in_dependents-loop-key : goal.invariant-in_dependents-loop-key
invariant-in_dependents-loop-key l = (g : Answers) →
    dependents_accept (says l.walk g) (members_listed (drop l.key-index l.dependents)) (tree_of l.value)
    ≡ dependents_accept (says l.walk g) (members_listed l.dependents) (tree_of l.value)

abbrev pub invariant-in_patterned-loop-pattern : goal.invariant-in_patterned-loop-pattern
invariant-in_patterned-loop-pattern l = (g : Answers) →
    patterns_accept (says l.walk g) (members_listed (drop l.pattern-index l.patterns)) (members_in (tree_of l.value))
    ≡ patterns_accept (says l.walk g) (members_listed l.patterns) (members_in (tree_of l.value))

abbrev pub invariant-in_found-loop-member : goal.invariant-in_found-loop-member
invariant-in_found-loop-member l = (g : Answers) →
    found_pass (says l.walk g (view l.part.schema.now)) (chars l.pattern) (members_of (drop l.member-index l.members))
    ≡ found_pass (says l.walk g (view l.part.schema.now)) (chars l.pattern) (members_of l.members)

abbrev pub invariant-in_members-loop-near : goal.invariant-in_members-loop-near
invariant-in_members-loop-near l = (g : Answers) →
    members_accepted (says l.walk g) (view l.here.schema.now) (members_of (drop l.near l.members))
    ≡ members_accepted (says l.walk g) (view l.here.schema.now) (members_of l.members)

abbrev pub invariant-in_items-loop-index : goal.invariant-in_items-loop-index
invariant-in_items-loop-index l = (g : Answers) →
    items_accepted (says l.walk g) (view l.here.schema.now) l.index (trees_of (drop l.index l.items))
    ≡ items_accepted (says l.walk g) (view l.here.schema.now) 0 (trees_of l.items)

-- ---- what is not evaluated

abbrev pub decreases-unevaluated::in_rest : goal.decreases-unevaluated::in_rest
decreases-unevaluated::in_rest l = 16 * l.walk.steps + 15

abbrev pub decreases-unevaluated::in_members_rest : goal.decreases-unevaluated::in_members_rest
decreases-unevaluated::in_members_rest l = 16 * l.walk.steps + 14

abbrev pub decreases-unevaluated::in_items_rest : goal.decreases-unevaluated::in_items_rest
decreases-unevaluated::in_items_rest l = 16 * l.walk.steps + 14

abbrev pub decreases-unevaluated::in_members_left : goal.decreases-unevaluated::in_members_left
decreases-unevaluated::in_members_left l = 16 * l.walk.steps + 13

abbrev pub decreases-unevaluated::in_items_left : goal.decreases-unevaluated::in_items_left
decreases-unevaluated::in_items_left l = 16 * l.walk.steps + 13

abbrev pub decreases-unevaluated::is_item_evaluated : goal.decreases-unevaluated::is_item_evaluated
decreases-unevaluated::is_item_evaluated l = 16 * l.walk.steps + 12

abbrev pub decreases-unevaluated::evaluates_item : goal.decreases-unevaluated::evaluates_item
decreases-unevaluated::evaluates_item l = 16 * l.source.now.walk.steps + 11

abbrev pub decreases-unevaluated::sources_of : goal.decreases-unevaluated::sources_of
decreases-unevaluated::sources_of l = 16 * l.walk.steps + 13

abbrev pub decreases-unevaluated::add_inner : goal.decreases-unevaluated::add_inner
decreases-unevaluated::add_inner l = 16 * l.walk.steps + 12

abbrev pub decreases-unevaluated::add_listed : goal.decreases-unevaluated::add_listed
decreases-unevaluated::add_listed l = 16 * l.walk.steps + 11

abbrev pub decreases-unevaluated::add_accepting : goal.decreases-unevaluated::add_accepting
decreases-unevaluated::add_accepting l = 16 * l.walk.steps + 11

abbrev pub decreases-unevaluated::add_if_accepting : goal.decreases-unevaluated::add_if_accepting
decreases-unevaluated::add_if_accepting l = 16 * l.walk.steps + 10

abbrev pub decreases-unevaluated::add_branch : goal.decreases-unevaluated::add_branch
decreases-unevaluated::add_branch l = 16 * l.walk.steps + 11

abbrev pub decreases-unevaluated::add_dependents : goal.decreases-unevaluated::add_dependents
decreases-unevaluated::add_dependents l = 16 * l.walk.steps + 11

abbrev pub decreases-unevaluated::add_dependent : goal.decreases-unevaluated::add_dependent
decreases-unevaluated::add_dependent l = 16 * l.walk.steps + 10

abbrev pub decreases-unevaluated::add_reference : goal.decreases-unevaluated::add_reference
decreases-unevaluated::add_reference l = 16 * l.walk.steps + 11

abbrev pub decreases-unevaluated::add_target : goal.decreases-unevaluated::add_target
decreases-unevaluated::add_target l = 16 * l.walk.steps + 10

abbrev pub decreases-unevaluated::add_schema : goal.decreases-unevaluated::add_schema
decreases-unevaluated::add_schema l = 16 * l.walk.steps + 7

abbrev pub invariant-unevaluated::in_members_left-loop-member : goal.invariant-unevaluated::in_members_left-loop-member
invariant-unevaluated::in_members_left-loop-member l = (g : Answers) →
    members_pass (λ c. sources_evaluate g l.sources c || says l.walk g (view l.rest.schema.now) (value_of c))
    (members_of (drop l.member-index l.members))
    ≡ members_pass (λ c. sources_evaluate g l.sources c || says l.walk g (view l.rest.schema.now) (value_of c)) (members_of l.members)

abbrev pub invariant-unevaluated::in_items_left-loop-index : goal.invariant-unevaluated::in_items_left-loop-index
invariant-unevaluated::in_items_left-loop-index l = (g : Answers) →
    items_pass (λ c. sources_evaluate g l.sources c || says l.walk g (view l.rest.schema.now) (value_of c)) l.index
    (trees_of (drop l.index l.items))
    ≡ items_pass (λ c. sources_evaluate g l.sources c || says l.walk g (view l.rest.schema.now) (value_of c)) 0 (trees_of l.items)

abbrev pub invariant-unevaluated::is_item_evaluated-loop-source : goal.invariant-unevaluated::is_item_evaluated-loop-source
invariant-unevaluated::is_item_evaluated-loop-source l = (g : Answers) →
    sources_evaluate g (drop l.source-index l.sources) (item_at l.index (tree_of l.item))
    ≡ sources_evaluate g l.sources (item_at l.index (tree_of l.item))

abbrev pub invariant-unevaluated::add_listed-loop-index : goal.invariant-unevaluated::add_listed-loop-index
invariant-unevaluated::add_listed-loop-index l = ((g : Answers) (c : Child) →
    (sources_evaluate g l.sources.items c
    || some_evaluate (answers_in l.walk g) (items_view (drop l.index l.schemas)) (tree_of l.value) c)
    ≡ (sources_evaluate g l.initial.sources.items c
    || some_evaluate (answers_in l.walk g) (items_view l.schemas) (tree_of l.value) c))
    × StaysWithin l.walk l.initial.sources.items l.sources.items
    × StaysReached (DescendsAmong l.walk (items_view l.schemas) (tree_of l.value)) (tree_of l.value) l.initial.sources.items l.sources.items

abbrev pub invariant-unevaluated::add_accepting-loop-index : goal.invariant-unevaluated::add_accepting-loop-index
invariant-unevaluated::add_accepting-loop-index l = ((g : Answers) (c : Child) →
    (sources_evaluate g l.sources.items c
    || accepting_evaluate (answers_in l.walk g) (items_view (drop l.index l.schemas)) (tree_of l.value) c)
    ≡ (sources_evaluate g l.initial.sources.items c
    || accepting_evaluate (answers_in l.walk g) (items_view l.schemas) (tree_of l.value) c))
    × StaysWithin l.walk l.initial.sources.items l.sources.items
    × StaysReached (DescendsAmong l.walk (items_view l.schemas) (tree_of l.value)) (tree_of l.value) l.initial.sources.items l.sources.items

abbrev pub invariant-unevaluated::add_dependents-loop-key : goal.invariant-unevaluated::add_dependents-loop-key
invariant-unevaluated::add_dependents-loop-key l = ((g : Answers) (c : Child) →
    (sources_evaluate g l.sources.items c
    || dependents_evaluate (answers_in l.walk g) (members_listed (drop l.key-index l.dependents)) (tree_of l.value) c)
    ≡ (sources_evaluate g l.initial.sources.items c
    || dependents_evaluate (answers_in l.walk g) (members_listed l.dependents) (tree_of l.value) c))
    × StaysWithin l.walk l.initial.sources.items l.sources.items
    × StaysReached (DescendsIn l.walk (view l.here.schema.now) (tree_of l.value)) (tree_of l.value) l.initial.sources.items l.sources.items

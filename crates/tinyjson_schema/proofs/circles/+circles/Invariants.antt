use Rattle.std.proofs.Common.{◌≡◌, ◌+◌, ◌*◌, drop}
use Rattle.tinyjson.specs.View.{view, items_view, members_listed}
use Rattle.tinyjson_schema.specs.Circles.{settles_in, all_pass, map_passes, lists_pass, singles_pass}
use Rattle.tinyjson_schema.specs.Settled.{IsRightIn}
use Rattle.tinyjson_schema.proofs.circles.+circles.Given as goal

abbrev pub decreases-settles : goal.decreases-settles
decreases-settles l = 8 * l.walk.steps + 3

abbrev pub decreases-lists_settle : goal.decreases-lists_settle
decreases-lists_settle l = 8 * l.walk.steps + 6

abbrev pub decreases-list_settles : goal.decreases-list_settles
decreases-list_settles l = 8 * l.walk.steps + 5

abbrev pub decreases-singles_settle : goal.decreases-singles_settle
decreases-singles_settle l = 8 * l.walk.steps + 6

abbrev pub decreases-single_settles : goal.decreases-single_settles
decreases-single_settles l = 8 * l.walk.steps + 5

abbrev pub decreases-dependents_settle : goal.decreases-dependents_settle
decreases-dependents_settle l = 8 * l.walk.steps + 6

abbrev pub decreases-map_settles : goal.decreases-map_settles
decreases-map_settles l = 8 * l.walk.steps + 5

abbrev pub decreases-keep : goal.decreases-keep
decreases-keep l = 8 * l.walk.steps + 4

abbrev pub decreases-fragment_settles : goal.decreases-fragment_settles
decreases-fragment_settles l = 8 * l.walk.steps + 5

abbrev pub decreases-target_settles : goal.decreases-target_settles
decreases-target_settles l = 8 * l.walk.steps + 6

abbrev pub decreases-keyword_settles : goal.decreases-keyword_settles
decreases-keyword_settles l = 8 * l.walk.steps + 7

abbrev pub decreases-reference_settles : goal.decreases-reference_settles
decreases-reference_settles l = 8 * l.walk.steps + 8

abbrev pub invariant-lists_settle-loop-keyword : goal.invariant-lists_settle-loop-keyword
invariant-lists_settle-loop-keyword l = (lists_pass (settles_in l.walk) (drop l.keyword-index l.keywords) (view l.schema)
    ≡ lists_pass (settles_in l.walk) l.keywords (view l.schema))
    × IsRightIn l.walk l.known

abbrev pub invariant-list_settles-loop-schema : goal.invariant-list_settles-loop-schema
invariant-list_settles-loop-schema l = (all_pass (settles_in l.walk) (items_view (drop l.schema-index l.schemas))
    ≡ all_pass (settles_in l.walk) (items_view l.schemas))
    × IsRightIn l.walk l.known

abbrev pub invariant-singles_settle-loop-keyword : goal.invariant-singles_settle-loop-keyword
invariant-singles_settle-loop-keyword l = (singles_pass (settles_in l.walk) (drop l.keyword-index l.keywords) (view l.schema)
    ≡ singles_pass (settles_in l.walk) l.keywords (view l.schema))
    × IsRightIn l.walk l.known

abbrev pub invariant-map_settles-loop-schema : goal.invariant-map_settles-loop-schema
invariant-map_settles-loop-schema l = (map_passes (settles_in l.walk) (members_listed (drop l.schema-index l.schemas))
    ≡ map_passes (settles_in l.walk) (members_listed l.schemas))
    × IsRightIn l.walk l.known

use Rattle.std.proofs.Common.{◌≡◌, ◌≤◌, ◌+◌, ◌*◌, drop, length}
use Rattle.tinyjson.specs.Tree.{tree_depth, items_depth, members_depth}
use Rattle.tinyjson.specs.View.{view, items_view, members_view, members_listed}
use Rattle.tinyjson_schema_bundle.specs.Bundles.{pointed_among, pointed_members}
use Rattle.tinyjson_schema_bundle.specs.Scopes.{guided}
use Rattle.tinyjson_schema_bundle.proofs.Pointing.{AreMade}
use Rattle.tinyjson_schema_bundle.proofs.bundle.+bundle.Given as goal

abbrev pub decreases-pointed : goal.decreases-pointed
decreases-pointed l = 3 * tree_depth (view l.schema.now) + 1

abbrev pub decreases-pointed_named : goal.decreases-pointed_named
decreases-pointed_named l = 3 * members_depth (members_listed l.keywords.now) + 3

abbrev pub decreases-kept_of : goal.decreases-kept_of
decreases-kept_of l = 3 * tree_depth (view l.operand.now) + 2

abbrev pub decreases-pointed_list : goal.decreases-pointed_list
decreases-pointed_list l = 3 * tree_depth (view l.schemas.now) + 1

abbrev pub decreases-pointed_items : goal.decreases-pointed_items
decreases-pointed_items l = 3 * items_depth (items_view l.schemas.now) + 2

abbrev pub decreases-pointed_map : goal.decreases-pointed_map
decreases-pointed_map l = 3 * tree_depth (view l.schemas.now) + 1

abbrev pub decreases-pointed_members : goal.decreases-pointed_members
decreases-pointed_members l = 3 * members_depth (members_listed l.schemas.now) + 2

abbrev pub invariant-pointed_named-loop-left : goal.invariant-pointed_named-loop-left
invariant-pointed_named-loop-left l = (l.left ≤ length l.keywords) × (members_view l.members.entries
    ≡ pointed_among (guided l.guide) l.spot.base.now l.spot.place.now (members_listed (drop l.left l.keywords)))

abbrev pub decreases-pointed_named-loop-left : goal.decreases-pointed_named-loop-left
decreases-pointed_named-loop-left l = l.left

abbrev pub invariant-pointed_items-loop-index : goal.invariant-pointed_items-loop-index
invariant-pointed_items-loop-index l = AreMade (guided l.guide) l.spot.base.now l.spot.place.now l.schemas l.items.items l.index

abbrev pub invariant-pointed_members-loop-left : goal.invariant-pointed_members-loop-left
invariant-pointed_members-loop-left l = (l.left ≤ length l.schemas) × (members_view l.members.entries
    ≡ pointed_members (guided l.guide) l.spot.base.now l.spot.place.now (members_listed (drop l.left l.schemas)))

abbrev pub decreases-pointed_members-loop-left : goal.decreases-pointed_members-loop-left
decreases-pointed_members-loop-left l = l.left

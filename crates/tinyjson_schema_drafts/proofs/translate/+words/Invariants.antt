use Rattle.std.proofs.Common.{◌≡◌, ◌≤◌, ◌+◌, ◌*◌, drop, length}
use Rattle.tinyjson.specs.Tree.{tree_depth, items_depth, members_depth}
use Rattle.tinyjson.specs.View.{view, items_view, members_view, members_listed}
use Rattle.tinyjson_schema_drafts.specs.Translated.{words_among, members_in_words}
use Rattle.tinyjson_schema_drafts.proofs.Wording.{AreMade}
use Rattle.tinyjson_schema_drafts.proofs.translate.+words.Given as goal

abbrev pub decreases-in_words : goal.decreases-in_words
decreases-in_words l = 3 * tree_depth (view l.schema.now) + 1

abbrev pub decreases-words_among : goal.decreases-words_among
decreases-words_among l = 3 * members_depth (members_listed l.keywords.now) + 3

abbrev pub decreases-value_of : goal.decreases-value_of
decreases-value_of l = 3 * tree_depth (view l.operand.now) + 2

abbrev pub decreases-list_in_words : goal.decreases-list_in_words
decreases-list_in_words l = 3 * tree_depth (view l.schemas.now) + 1

abbrev pub decreases-items_in_words : goal.decreases-items_in_words
decreases-items_in_words l = 3 * items_depth (items_view l.schemas.now) + 2

abbrev pub decreases-map_in_words : goal.decreases-map_in_words
decreases-map_in_words l = 3 * tree_depth (view l.schemas.now) + 1

abbrev pub decreases-members_in_words : goal.decreases-members_in_words
decreases-members_in_words l = 3 * members_depth (members_listed l.schemas.now) + 2

abbrev pub invariant-words_among-loop-left : goal.invariant-words_among-loop-left
invariant-words_among-loop-left l = (l.left ≤ length l.keywords) × (members_view l.members.entries
    ≡ words_among l.traits l.reading.draft (view l.reading.resource.now) (members_listed (drop l.left l.keywords)))

abbrev pub decreases-words_among-loop-left : goal.decreases-words_among-loop-left
decreases-words_among-loop-left l = l.left

abbrev pub invariant-items_in_words-loop-schema : goal.invariant-items_in_words-loop-schema
invariant-items_in_words-loop-schema l = AreMade l.reading.draft (view l.reading.resource.now) l.schemas l.items.items l.schema-index

abbrev pub invariant-members_in_words-loop-left : goal.invariant-members_in_words-loop-left
invariant-members_in_words-loop-left l = (l.left ≤ length l.schemas) × (members_view l.members.entries
    ≡ members_in_words l.has_lists l.reading.draft (view l.reading.resource.now) (members_listed (drop l.left l.schemas)))

abbrev pub decreases-members_in_words-loop-left : goal.decreases-members_in_words-loop-left
decreases-members_in_words-loop-left l = l.left

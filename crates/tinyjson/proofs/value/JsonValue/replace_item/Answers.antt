use Rattle.std.proofs.Common.{Some, refl, ap, sym, ◌∙◌}
use Rattle.std.proofs.lemmas.Option.{slice_get_read}
use Rattle.std.specs.Option.{option_map_or}
use Rattle.std.specs.Vec.{with_item}
use Rattle.tinyjson.proofs.Values.Index.{is_item_at, tree_with_item, within_array}
use Rattle.tinyjson.specs.View.{view}
use Rattle.tinyjson.specs.declared.value.JsonValue as made
use Rattle.tinyjson.proofs.value.JsonValue.replace_item.Goals as goal

pub returns-clause-old : goal.returns-clause-old
returns-clause-old c =
    let v = c.args.self.now in
    let list = c.array_mut.result.now in
    let held = c.array_mut.ensures.value in
    is_item_at v c.args.index list c.replace.result held
    (slice_get_read list.items _ c.args.index _ refl (within_array v c.args.index list c.requires held) c.index_mut.ensures.value
    ∙ ap Some (sym c.replace.ensures.value))

pub returns-clause-new : goal.returns-clause-new
returns-clause-new c = ap (λ w. made.Array (with_item c.array_mut.result.now c.args.index w)) c.replace.ensures.after
    ∙ ap (λ o. option_map_or (λ m. made.Array (with_item m c.args.index c.args.value)) o c.args.self.now) (sym c.array_mut.ensures.value)

pub returns-clause-tree : goal.returns-clause-tree
returns-clause-tree c = ap (λ w. view (made.Array (with_item c.array_mut.result.now c.args.index w))) c.replace.ensures.after
    ∙ tree_with_item c.args.self.now c.array_mut.result.now c.args.index c.args.value c.array_mut.ensures.value

use Rattle.std.proofs.Common.{◌≡◌, Some, rules, refl}
use Rattle.std.proofs.lemmas.Option.{slice_get_read}
use Rattle.tinyjson.proofs.Values.Index.{is_item_at, within_array}
use Rattle.tinyjson.proofs.value.index.JsonValueIndexUsize.index.Goals as goal
use Rattle.tinyjson.specs.Access.{array_part}

pub returns : goal.returns
returns c =
    let v = c.args.self.now in
    let list = c.unwrap-items.result.now in
    let held : array_part v ≡ Some list = search rules in
    is_item_at v c.args.index list c.index.result.now held (slice_get_read list.items _ c.args.index _ refl
    (within_array v c.args.index list c.requires held) c.index.ensures)

use Rattle.std.proofs.Common.{◌≡◌, drop, map}
use Rattle.tinyjson.specs.View.{view, members_view}
use Rattle.tinyjson_schema_bundle.specs.Bundles.{all_marked, places_in}
use Rattle.tinyjson_schema_bundle.specs.Scopes.{copy_of, put_copies, reached_of}
use Rattle.tinyjson_schema_bundle.proofs.copies.put_copies.Given as goal

abbrev pub invariant-loop-index : goal.invariant-loop-index
invariant-loop-index l =
    let g = l.guide in
    let copies = map reached_of g.copies.now in
    let copy = copy_of (places_in g.places.now) (all_marked g.marks.now) g.root.now g.letters.now g.contested copies (view l.document) in
    put_copies copy g.letters.now l.index-counter (map reached_of (drop l.index-counter g.copies.now)) (members_view l.defs.entries)
    ≡ put_copies copy g.letters.now 0 copies (members_view l.initial.defs.entries)

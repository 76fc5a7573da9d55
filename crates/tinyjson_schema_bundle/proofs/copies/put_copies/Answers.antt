use Rattle.std.proofs.Common.{◌∙◌, ap, map, option_map, chars}
use Rattle.tinyjson.specs.View.{view, members_view}
use Rattle.tinyjson_schema_bundle.specs.Bundles.{all_marked, places_in, put_some}
use Rattle.tinyjson_schema_bundle.specs.Scopes.{copy_of, reached_of}
use Rattle.tinyjson_schema_bundle.proofs.Scoping.{put_next}
use Rattle.tinyjson_schema_bundle.proofs.copies.put_copies.Goals as goal

pub loop-index-preserved : goal.loop-index-preserved
loop-index-preserved c =
    let g = c.args.guide.now in
    let ss = g.copies.now in
    let copy = copy_of (places_in g.places.now) (all_marked g.marks.now) g.root.now g.letters.now g.contested (map reached_of ss)
    (view c.args.document.now) in
    let o = option_map view c.in_ok-copy.copy in
    put_next copy g.letters.now c.loop-index.index-counter ss c.from-item.result (members_view c.loop-index.defs.entries)
    (members_view c.put_some.new.members.entries) o c.loop-index-test.true c.from-item.is c.in_ok-copy.ensures
    (c.in_ok-put_some.ensures ∙ ap (λ k. put_some (chars k) o (members_view c.loop-index.defs.entries))
    (c.as_str.ensures.value ∙ c.in_ok-key.ensures.ok)) ∙ c.loop-index.invariant

use Rattle.std.proofs.Common.{◌≡◌, ℕ, List, Some, sym, subst}
use Rattle.tinyjson.specs.View.{view}
use Rattle.tinyjson_pointer.specs.Index.{index_of}
use Rattle.tinyjson_pointer.specs.Walk.{part_at}
use Rattle.tinyjson_schema_keywords.specs.declared.keyword.Keyword.TheVariants as kw
use Rattle.tinyjson_schema.specs.Parts.{item_schema}
use Rattle.tinyjson_schema.specs.Places.{place}
use Rattle.tinyjson_schema.proofs.Alternatives.{prefix_known}
use Rattle.tinyjson_schema.proofs.Parts.{by_prefix, by_items, no_item}
use Rattle.tinyjson_schema.proofs.part.item_part.Goals as goal

pub by-requires : goal.by-requires
by-requires c =
    let here = c.args.here.now in
    let s = view here.schema.now in
    prefix_known s c.args.index (view c.in-Some.part.now) c.known_part-known.result (sym c.in-Some.ensures)
    (c.known_part-known.ensures s here.same)

pub returns-in-Some : goal.returns-in-Some
returns-in-Some c =
    let s = view c.args.here.now.schema.now in
    let i = c.args.index in
    subst (λ r. (item_schema s i ≡ Some r)
    × ((k : List ℕ) → index_of k ≡ Some i → part_at s (place kw.PrefixItems k) ≡ Some r))
    (sym c.by.ensures) (by_prefix s i (view c.in-Some.part.now) (sym c.in-Some.ensures))

pub returns-in-Some-known_part : goal.returns-in-Some-known_part
returns-in-Some-known_part c =
    let here = c.args.here.now in
    let s = view here.schema.now in
    let i = c.args.index in
    let r = view c.in-Some-known_part.known.shape.now.schema.now in
    subst (λ x. (item_schema s i ≡ Some (view x.now))
    × ((k : List ℕ) → index_of k ≡ Some i → part_at s (place kw.Items k) ≡ Some (view x.now)))
    (sym c.known.ensures) (by_items s i r (sym c.in_default.ensures) (c.in-Some-known_part.ensures s here.same))

pub returns-in-Some-schema_at : goal.returns-in-Some-schema_at
returns-in-Some-schema_at c =
    let s = view c.args.here.now.schema.now in
    let i = c.args.index in
    let r = view c.in-Some-schema_at.part.now in
    subst (λ x. (item_schema s i ≡ Some (view x.now))
    × ((k : List ℕ) → index_of k ≡ Some i → part_at s (place kw.Items k) ≡ Some (view x.now)))
    (sym c.of.ensures) (by_items s i r (sym c.in_default.ensures) (sym c.in-Some-schema_at.ensures))

pub returns-in-None : goal.returns-in-None
returns-in-None c =
    let s = view c.args.here.now.schema.now in
    no_item s c.args.index (sym c.in_default.ensures)
    (sym c.in-None.ensures)

-- What a schema comes to, by what those come to that it applies to the value itself.
use Rattle.std.proofs.Common.{◌≡◌, suc, Bool, true, false, ◌&&◌, sym, ap, ◌∙◌}
use Rattle.tinyjson.specs.Tree.{Tree}
use Rattle.tinyjson.specs.View.{view}
use Rattle.tinyjson_schema_keywords.specs.Applied.{schema_map_at}
use Rattle.tinyjson_schema_keywords.specs.Walks.{IsDeeper}
use Rattle.tinyjson_schema_keywords.specs.declared.keyword.Keyword.TheVariants as kw
use Rattle.tinyjson_schema_keywords.specs.declared.walk.Walk.{Walk}
use Rattle.tinyjson_schema.specs.Circles.{in_lists, in_place, map_passes, lists_pass, singles_pass, reference_passes, settles, settles_in}

pub no_steps : (w : Walk) (s : Tree) → w.steps ≡ 0 → false ≡ settles_in w s
no_steps w s e = sym (ap (λ n. settles (view w.whole.now.root.now) n s) e)

module _ (w inner : Walk) (d : IsDeeper w inner) (s : Tree) where
  inside : settles_in w s ≡ settles (view inner.whole.now.root.now) (suc inner.steps) s
  inside = ap (λ n. settles (view w.whole.now.root.now) n s) d.1 ∙ sym (ap (λ r. settles (view r.now.root.now) (suc inner.steps) s) d.0)

  pub no_lists : (a : Bool) → a ≡ lists_pass (settles_in inner) in_lists s → a ≡ false → false ≡ settles_in w s
  no_lists a lists f = ap (λ x. x && (singles_pass (settles_in inner) in_place s && (map_passes (settles_in inner)
      (schema_map_at s kw.DependentSchemas) && reference_passes (view inner.whole.now.root.now) (settles_in inner) s))) (sym f ∙ lists)
      ∙ sym inside

  pub no_singles : (a b : Bool) → a ≡ lists_pass (settles_in inner) in_lists s → b ≡ singles_pass (settles_in inner) in_place s → a ≡ true
      → b ≡ false → false ≡ settles_in w s
  no_singles a b lists singles g f = (λ i. (sym g ∙ lists) i && ((sym f ∙ singles) i && (map_passes (settles_in inner)
      (schema_map_at s kw.DependentSchemas) && reference_passes (view inner.whole.now.root.now) (settles_in inner) s))) ∙ sym inside

  pub no_map : (a b c : Bool) → a ≡ lists_pass (settles_in inner) in_lists s → b ≡ singles_pass (settles_in inner) in_place s
      → c ≡ map_passes (settles_in inner) (schema_map_at s kw.DependentSchemas) → a ≡ true → b ≡ true → c ≡ false → false ≡ settles_in w s
  no_map a b c lists singles map g h f = (λ i. (sym g ∙ lists) i && ((sym h ∙ singles) i && ((sym f ∙ map) i
      && reference_passes (view inner.whole.now.root.now) (settles_in inner) s))) ∙ sym inside

  pub all_settled : (a b c e : Bool) → a ≡ lists_pass (settles_in inner) in_lists s → b ≡ singles_pass (settles_in inner) in_place s
      → c ≡ map_passes (settles_in inner) (schema_map_at s kw.DependentSchemas) → e ≡ reference_passes (view inner.whole.now.root.now)
      (settles_in inner) s
      → a ≡ true → b ≡ true → c ≡ true → e ≡ settles_in w s
  all_settled a b c e lists singles map reference g h k = (λ i. (sym g ∙ lists) i && ((sym h ∙ singles) i && ((sym k ∙ map) i
      && reference i))) ∙ sym inside

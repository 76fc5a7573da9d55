-- Meta-schemas that are embedded one after the other, or none.
use Rattle.std.proofs.Common.{◌≡◌, ◌∙◌, [], ◌∷◌, Bool, true, ◌==◌, ℕ, ◌<◌, ◌+◌, List}
use Rattle.std.proofs.Common.{length, get_or, drop, map, refl, sym, ap, subst, arith}
use Rattle.std.proofs.lemmas.Bool.{eqb-true}
use Rattle.tinyjson.specs.Tree.{Tree}
use Rattle.tinyjson_schema_bundle.specs.Scopes.{Reached, AreCopies, bundled}
use Rattle.tinyjson_schema_drafts.specs.Meta.{published}
use Rattle.tinyjson_schema_drafts.specs.declared.meta.MetaSchema.{MetaSchema}
use Rattle.tinyjson_schema_drafts.specs.References.{EmbedsAll, EmbedsOne, HasMetaSchemas, Seen, wanted}
use Rattle.tinyjson_schema_drafts.proofs.Gathering.{drop_at}

module _ (c : Seen) (b : Tree) (ms : List MetaSchema) (copies : List Reached) (k : b ≡ bundled copies c.0)
    (are : AreCopies c.0 copies) (w : map published ms ≡ wanted c.0 b) where
  pub none_wanted : ms ≡ [] → HasMetaSchemas c (b, c.1)
  none_wanted n = (
    copies,
    copies,
    c,
    subst (λ ds. EmbedsAll ds c c) (sym (ap (map published) n) ∙ (w ∙ ap (wanted c.0) k)) refl,
    ap (λ t. (t, c.1)) k,
    are,
    are,
  )

  pub some_wanted : (e : Seen) (t : Tree) (all : List Reached) → EmbedsAll (map published ms) c e → t ≡ bundled all e.0
      → AreCopies e.0 all → HasMetaSchemas c (t, e.1)
  some_wanted e t all h i g =
      (copies, all, e, subst (λ ds. EmbedsAll ds c e) (w ∙ ap (wanted c.0) k) h, ap (λ x. (x, e.1)) i, are, g)

pub none_left : {A : Type 0} (b : Bool) (xs : List A) → b ≡ (length xs == 0) → b ≡ true → xs ≡ []
none_left b [] e h = refl
none_left b (x ∷ xs) e h = let none = eqb-true (length (x ∷ xs)) 0 (sym e ∙ h) in absurd (omega arith)

pub next_embedded : (ds : List MetaSchema) (i : ℕ) (d : MetaSchema) (w e r : Seen) → i < length ds
    → EmbedsOne (published (get_or ds i d)) w e → EmbedsAll (map published (drop (i + 1) ds)) e r
    → EmbedsAll (map published (drop i ds)) w r
next_embedded ds i d w e r h one rest =
    subst (λ xs. EmbedsAll (map published xs) w r) (sym (drop_at ds i d h)) (e, one, rest)

-- The documents that are wanted of a draft.
use Rattle.std.proofs.Common.{◌≡◌, ◌∙◌, [], Bool, true, false, cond, List, sym, ap}
use Rattle.tinyjson.specs.Tree.{Tree}
use Rattle.tinyjson_schema_keywords.specs.Subschemas.{InSchema}
use Rattle.tinyjson_schema_drafts.specs.Meta.{Published}
use Rattle.tinyjson_schema_drafts.specs.declared.draft.Draft.{Draft}
use Rattle.tinyjson_schema_drafts.specs.References.{documents_of, lacking, led_into, wanted_of}

module _ (s : Tree) (ms : List InSchema) (d : Draft) (ds : List Published) (b : Bool) (e : ds ≡ documents_of d)
    (l : b ≡ led_into ds ms) where
  pub led : b ≡ true → lacking s ds ≡ wanted_of s ms d
  led h = ap (λ c. cond c (lacking s ds) []) (sym h ∙ l) ∙ ap (λ xs. cond (led_into xs ms) (lacking s xs) []) e

  pub not_led : b ≡ false → [] ≡ wanted_of s ms d
  not_led h = ap (λ c. cond c (lacking s ds) []) (sym h ∙ l) ∙ ap (λ xs. cond (led_into xs ms) (lacking s xs) []) e

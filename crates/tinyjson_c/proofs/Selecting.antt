-- What a query selects in a text.
use Rattle.std.proofs.Common.{◌≡◌, ℕ, Bool, List, [], ◌∷◌, ◌++◌, Option, Some, inl, inr, refl, sym, ap, ◌∙◌, append_assoc}
use Rattle.tinyjson_c.proofs.Stopping.{stops}
use Rattle.tinyjson_c.specs.Place.{length_place, memory_place}
use Rattle.tinyjson_c.specs.Select.{IsBadQuery, IsNotFound, IsQueryOf, IsUnselected, Selects}
use Rattle.tinyjson_c.specs.Select.{part_line, part_lines, unselected_place, unselected_status}
use Rattle.tinyjson_c.specs.Stop.{IsTextOf, Stops}
use Rattle.tinyjson_c.specs.declared.place.TinyjsonPlace.{TinyjsonPlace}
use Rattle.tinyjson_c.specs.declared.select.Unselected.{Unselected}
use Rattle.tinyjson_c.specs.declared.select.Unselected.TheVariants as un
use Rattle.tinyjson_c.specs.declared.status.TheConstants.{BAD_QUERY, OUT_OF_MEMORY, PATTERN_LIMIT}
use Rattle.tinyjson_c.specs.declared.stop.Stop.TheVariants as stop
use Rattle.tinyjson_grammar.specs.Tree.{Tree}
use Rattle.tinyjson_path.proofs.Callers.{judged_right}
use Rattle.tinyjson_path.specs.Nodes.{Part, part_view, parts_view}
use Rattle.tinyjson_path.specs.Patterns.{judged}
use Rattle.tinyjson_path.specs.Queries.{query_parts}
use Rattle.tinyjson_path.specs.Query.{Query}
use Rattle.tinyjson_path.specs.declared.node.Located.{Located}

-- one line more
pub one_more_node : (paths : Bool) (n : Located) (rest later : List Located) (whole old new : List ℕ) → rest ≡ n ∷ later
    → whole ≡ old ++ part_lines paths (parts_view rest) → new ≡ old ++ part_line paths (part_view n)
    → whole ≡ new ++ part_lines paths (parts_view later)
one_more_node paths n rest later whole old new split i w =
    i ∙ (ap (λ z. old ++ part_lines paths (parts_view z)) split
    ∙ (sym (append_assoc old (part_line paths (part_view n)) (part_lines paths (parts_view later)))
    ∙ ap (λ z. z ++ part_lines paths (parts_view later)) (sym w)))

-- what is selected, by the bytes of the query
pub selects : (limit : Option ℕ) (text query old new : List ℕ) (paths : Bool) (q : Query) → IsQueryOf query q → old ≡ []
    → (t : Tree) × IsTextOf limit text t × (new ≡ old ++ part_lines paths (query_parts judged q t))
    → (ps : List Part) × Selects limit text query ps × (new ≡ part_lines paths ps)
selects limit text query old new paths q asked none (t, is, w) = (
  query_parts judged q t,
  record { judge = judged; is_right = judged_right; asked = q; tree = t; is_query = asked; is_text = is; are_parts = refl },
  w ∙ ap (λ o. o ++ part_lines paths (query_parts judged q t)) none,
)

-- why nothing is selected, by the bytes of the query
pub unselected : (limit : Option ℕ) (text query : List ℕ) (q : Query) (u : Unselected) → IsQueryOf query q → IsNotFound limit q text u
    → IsUnselected limit text query u
unselected limit text query q (un.Text (stop.Refused e)) h k = (q, h, k)
unselected limit text query q (un.Text (stop.NotUtf8 n)) h k = (q, h, k)
unselected limit text query q (un.Text stop.OutOfMemory) h k = tt
unselected limit text query q (un.BadQuery n) h k = absurd k
unselected limit text query q un.PatternLimit h k = (q, h, k.0, k.1, k.2)

-- what a call answers that selects nothing
module _ (limit : Option ℕ) (text query : List ℕ) (number status : ℕ) (p : TinyjsonPlace) where
  pub unselected_stops : (u : Unselected) → IsUnselected limit text query u → status ≡ unselected_status u
      → p ≡ unselected_place number u → ¬ (status ≡ BAD_QUERY) → ¬ (status ≡ PATTERN_LIMIT) → ¬ (status ≡ OUT_OF_MEMORY)
      → ((q : Query) × IsQueryOf query q) × Stops limit text number status p
  unselected_stops (un.Text (stop.Refused e)) h i j bad large memory =
      ((h.0, h.1), stops limit text (stop.Refused e) number status p h.2 i j)
  unselected_stops (un.Text (stop.NotUtf8 n)) h i j bad large memory =
      ((h.0, h.1), stops limit text (stop.NotUtf8 n) number status p h.2 i j)
  unselected_stops (un.Text stop.OutOfMemory) h i j bad large memory = absurd (memory i)
  unselected_stops (un.BadQuery n) h i j bad large memory = absurd (bad i)
  unselected_stops un.PatternLimit h i j bad large memory = absurd (large i)

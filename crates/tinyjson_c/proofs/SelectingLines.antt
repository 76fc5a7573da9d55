-- What a query selects in texts that are lines.
use Rattle.std.proofs.Common.{◌≡◌, ◌≢◌, ℕ, Bool, List, [], ◌∷◌, ◌++◌, Option}
use Rattle.std.proofs.Common.{Some, length, refl, sym, ap, ◌∙◌, subst, append_assoc, append-nil}
use Rattle.tinyjson_c.proofs.Stopping.{stops}
use Rattle.tinyjson_c.specs.Lines.{AreFirst, AreLines, IsStoppedAt, StopsAtLine, first_line}
use Rattle.tinyjson_c.specs.Place.{length_place}
use Rattle.tinyjson_c.specs.Select.{HasLargePattern, IsNotFound, IsQueryOf, part_lines, unselected_place, unselected_status}
use Rattle.tinyjson_c.specs.SelectLines.{IsLineAt, IsUnselectedAt, SelectsLines, selected_text}
use Rattle.tinyjson_c.specs.Stop.{IsStopped, stop_place, stop_status}
use Rattle.tinyjson_c.specs.declared.place.TinyjsonPlace.{TinyjsonPlace}
use Rattle.tinyjson_c.specs.declared.select.Unselected.{Unselected}
use Rattle.tinyjson_c.specs.declared.select.Unselected.TheVariants as un
use Rattle.tinyjson_c.specs.declared.status.TheConstants.{BAD_QUERY, OUT_OF_MEMORY, PATTERN_LIMIT}
use Rattle.tinyjson_c.specs.declared.stop.Stop.{Stop}
use Rattle.tinyjson_c.specs.declared.stop.Stop.TheVariants as stop
use Rattle.tinyjson_grammar.specs.Characters.{line_feed}
use Rattle.tinyjson_grammar.specs.Tree.{Tree}
use Rattle.tinyjson_path.proofs.Callers.{judged_right}
use Rattle.tinyjson_path.specs.Patterns.{Judge, judged}
use Rattle.tinyjson_path.specs.Queries.{query_parts}
use Rattle.tinyjson_path.specs.Query.{Query}

pub selected_more : (judge : Judge) (q : Query) (paths : Bool) (ts : List Tree) (t : Tree)
    → selected_text judge q paths (ts ++ t ∷ [])
    ≡ selected_text judge q paths ts ++ (part_lines paths (query_parts judge q t) ++ line_feed ∷ [])
selected_more judge q paths [] t = append-nil _
selected_more judge q paths (u ∷ us) t =
    let front = part_lines paths (query_parts judge q u) ++ line_feed ∷ [] in
    ap (λ x. front ++ x) (selected_more judge q paths us t) ∙ sym (append_assoc front (selected_text judge q paths us) _)

-- why a call stops at a line, by what is known of the lines before it
module _ (limit : Option ℕ) (text query rest line : List ℕ) (ts : List Tree) (number : ℕ) (q : Query) (asked : IsQueryOf query q)
    (first : AreFirst limit text ts rest) (counted : number ≡ length ts) (more : rest ≢ []) (is : line ≡ first_line rest) where
  stopped_at : (s : Stop) → IsStopped limit line s → IsStoppedAt limit text number s
  stopped_at s h = record {
    trees = ts;
    rest = rest;
    before = first;
    more = more;
    counted = counted;
    stopped = subst (λ z. IsStopped limit z s) is h;
  }

  pub unselected_at : (u : Unselected) → IsNotFound limit q line u → IsUnselectedAt limit text query number u
  unselected_at (un.Text (stop.Refused e)) h = ((q, asked), stopped_at (stop.Refused e) h)
  unselected_at (un.Text (stop.NotUtf8 n)) h = ((q, asked), stopped_at (stop.NotUtf8 n) h)
  unselected_at (un.Text stop.OutOfMemory) h = tt
  unselected_at (un.BadQuery n) h = absurd h
  unselected_at un.PatternLimit h = (
    line,
    record { trees = ts; rest = rest; before = first; more = more; counted = counted; is_line = is },
    (q, asked, h.0, h.1, h.2),
  )

-- all lines are read
pub all_selected : (limit : Option ℕ) (text query rest written : List ℕ) (paths : Bool) (q : Query) (ts : List Tree) → IsQueryOf query q
    → AreFirst limit text ts rest → written ≡ selected_text judged q paths ts → rest ≡ [] → SelectsLines limit text query paths written
all_selected limit text query rest written paths q ts asked first w none = record {
  judge = judged;
  is_right = judged_right;
  asked = q;
  trees = ts;
  is_query = asked;
  are_lines = subst (AreFirst limit text ts) none first;
  are_bytes = w;
}

-- what the call answers that stops
module _ (limit : Option ℕ) (text query : List ℕ) (number status : ℕ) (p : TinyjsonPlace) where
  pub line_stops : (s : Stop) → IsStoppedAt limit text number s → status ≡ stop_status s → p ≡ stop_place number s
      → StopsAtLine limit text status p
  line_stops s h i j = record {
    trees = h.trees;
    rest = h.rest;
    before = h.before;
    more = h.more;
    stops = stops limit (first_line h.rest) s (length h.trees) status p h.stopped i (j ∙ ap (λ n. stop_place n s) h.counted);
  }

  pub unselected_line_stops : (u : Unselected) → IsUnselectedAt limit text query number u → status ≡ unselected_status u
      → p ≡ unselected_place number u → ¬ (status ≡ BAD_QUERY) → ¬ (status ≡ PATTERN_LIMIT) → ¬ (status ≡ OUT_OF_MEMORY)
      → ((q : Query) × IsQueryOf query q) × StopsAtLine limit text status p
  unselected_line_stops (un.Text (stop.Refused e)) h i j bad large memory = (h.0, line_stops (stop.Refused e) h.1 i j)
  unselected_line_stops (un.Text (stop.NotUtf8 n)) h i j bad large memory = (h.0, line_stops (stop.NotUtf8 n) h.1 i j)
  unselected_line_stops (un.Text stop.OutOfMemory) h i j bad large memory = absurd (memory i)
  unselected_line_stops (un.BadQuery n) h i j bad large memory = absurd (bad i)
  unselected_line_stops un.PatternLimit h i j bad large memory = absurd (large i)

-- What a call answers that stops.
use Rattle.std.proofs.Common.{◌≡◌, ℕ, List, ◌++◌, Option, Some, Err, ◌⊎◌, inl, inr, sym, ap, ◌∙◌, subst, refl}
use Rattle.tinyjson.specs.Error.{error_kind, error_position}
use Rattle.tinyjson.specs.Events.{TellsText}
use Rattle.std.specs.Str.{IsUtf8, chars}
use Rattle.tinyjson.specs.declared.parser.error.JsonParseError.{JsonParseError}
use Rattle.tinyjson_c.specs.Merge.{IsNoMerge, no_merge_place, no_merge_status, patch_depth}
use Rattle.tinyjson_c.specs.Part.{IsNoPart, IsNoText, no_part_place, no_part_status}
use Rattle.tinyjson_c.specs.Patch.{IsUnpatched, unpatched_place, unpatched_status}
use Rattle.tinyjson_c.specs.Place.{length_place}
use Rattle.tinyjson_c.specs.Stop.{IsAcceptedText, IsStopped, StopOf, Stops, stop_place, stop_status}
use Rattle.tinyjson_c.specs.declared.merge.NoMerge.{NoMerge}
use Rattle.tinyjson_c.specs.declared.merge.NoMerge.TheVariants as merge
use Rattle.tinyjson_c.specs.declared.part.NoPart.{NoPart}
use Rattle.tinyjson_c.specs.declared.part.NoPart.TheVariants as none
use Rattle.tinyjson_c.specs.declared.patch.Unpatched.{Unpatched}
use Rattle.tinyjson_c.specs.declared.patch.Unpatched.TheVariants as un
use Rattle.tinyjson_c.specs.declared.place.TinyjsonPlace.{TinyjsonPlace}
use Rattle.tinyjson_c.specs.declared.status.TheConstants.{BAD_PATCH, BAD_POINTER, FAILED, NOT_FOUND}
use Rattle.tinyjson_c.specs.declared.stop.Stop.{Stop}
use Rattle.tinyjson_c.specs.declared.stop.Stop.TheVariants as stop
use Rattle.tinyjson_grammar.specs.Grammar.{IsAccepted}
use Rattle.tinyjson_grammar.specs.Position.{origin, advance}
use Rattle.tinyjson_grammar.specs.Refusal.{RefusalSays}
use Rattle.tinyjson_grammar.specs.Tree.{Tree}
use Rattle.tinyjson_grammar.specs.declared.error.JsonParseErrorKind.TheVariants as kind

-- an error of the parser stops a call
pub stopped : (limit : Option ℕ) (bytes text consumed rest : List ℕ) (e : JsonParseError) (s : Stop) → text ≡ bytes → IsUtf8 bytes
    → StopOf e s → chars text ≡ consumed ++ rest → error_position e ≡ advance origin consumed
    → (¬ (error_kind e ≡ kind.OutOfMemory) → RefusalSays limit (error_kind e) consumed rest)
    → (¬ (error_kind e ≡ kind.OutOfMemory) → ¬ IsAccepted limit (chars text))
    → IsStopped limit bytes s
stopped limit bytes text consumed rest e s same utf8 (inl (m, i)) whole place says refused = subst (IsStopped limit bytes) (sym i) utf8
stopped limit bytes text consumed rest e s same utf8 (inr (m, i)) whole place says refused =
    subst (IsStopped limit bytes) (sym i) (
      utf8,
      record {
        consumed = consumed;
        rest = rest;
        whole = ap chars (sym same) ∙ whole;
        place = place;
        says = says m;
        not_for_memory = m;
        refused = λ a. refused m (subst (λ z. IsAccepted limit (chars z)) (sym same) a);
      },
    )

-- an error of what reads a whole text stops a call
pub stopped_by : {E : Type 0} (is : E → Tree → Type 0) (limit : Option ℕ) (bytes text : List ℕ) (e : JsonParseError) (s : Stop)
    → text ≡ bytes → IsUtf8 bytes → StopOf e s → TellsText is limit (chars text) (Err e) → IsStopped limit bytes s
stopped_by is limit bytes text e s same utf8 of t =
    stopped limit bytes text t.consumed t.rest e s same utf8 of t.whole t.answer.0 t.answer.1 t.refused

-- what stops a call, by its own status and place
stops_by : (limit : Option ℕ) (bytes : List ℕ) (s : Stop) (text : ℕ) → IsStopped limit bytes s
    → Stops limit bytes text (stop_status s) (stop_place text s)
stops_by limit bytes (stop.Refused e) text h = record {
  refused = λ _. (h.0, error_kind e, error_position e, h.1, refl);
  not_utf8 = λ i. cc;
  memory = λ i. cc;
  one_of = inl refl;
}
stops_by limit bytes (stop.NotUtf8 n) text h = record {
  refused = λ i. cc;
  not_utf8 = λ _. (h.0, ap (length_place text) h.1);
  memory = λ i. cc;
  one_of = inr (inl refl);
}
stops_by limit bytes stop.OutOfMemory text h = record {
  refused = λ i. cc;
  not_utf8 = λ i. cc;
  memory = λ _. (h, refl);
  one_of = inr (inr refl);
}

-- the status and the place are those of what stops the call
pub stops : (limit : Option ℕ) (bytes : List ℕ) (s : Stop) (text status : ℕ) (p : TinyjsonPlace) → IsStopped limit bytes s
    → status ≡ stop_status s → p ≡ stop_place text s → Stops limit bytes text status p
stops limit bytes s text status p h i j = subst (λ q. Stops limit bytes text status q) (sym j)
    (subst (λ n. Stops limit bytes text n (stop_place text s)) (sym i) (stops_by limit bytes s text h))

-- the same of a call for a part, but that there is one, or that the pointer is none
pub no_part_stops : (limit : Option ℕ) (text pointer : List ℕ) (n : NoPart) (status : ℕ) (p : TinyjsonPlace) → IsNoPart limit text pointer n
    → status ≡ no_part_status n → p ≡ no_part_place n → ¬ (status ≡ NOT_FOUND) → ¬ (status ≡ BAD_POINTER)
    → Stops limit text 0 status p ⊎ IsNoText pointer status p
no_part_stops limit text pointer (none.Text s) status p h i j found bad = inl (stops limit text s 0 status p h i j)
no_part_stops limit text pointer (none.NotUtf8 n) status p h i j found bad = inr (i, h.0, j ∙ ap (length_place 1) h.1)
no_part_stops limit text pointer none.BadPointer status p h i j found bad = absurd (bad i)
no_part_stops limit text pointer none.NotFound status p h i j found bad = absurd (found i)

-- a merge stops at the target, or else at the patch
pub no_merge_stops : (depth : ℕ) (target patch : List ℕ) (n : NoMerge) (status : ℕ) (p : TinyjsonPlace) → IsNoMerge depth target patch n
    → status ≡ no_merge_status n → p ≡ no_merge_place n
    → Stops (Some depth) target 0 status p ⊎ (IsAcceptedText (Some depth) target × Stops (Some (patch_depth depth)) patch 1 status p)
no_merge_stops depth target patch (merge.Target s) status p h i j = inl (stops (Some depth) target s 0 status p h i j)
no_merge_stops depth target patch (merge.Patch s) status p h i j = inr (h.0, stops (Some (patch_depth depth)) patch s 1 status p h.1 i j)

-- the same of a call that patches, but that there is no patch, or that an operation fails
pub unpatched_stops : (depth : ℕ) (text patch : List ℕ) (n : Unpatched) (status : ℕ) (p : TinyjsonPlace) → IsUnpatched depth text patch n
    → status ≡ unpatched_status n → p ≡ unpatched_place n → ¬ (status ≡ FAILED) → ¬ (status ≡ BAD_PATCH)
    → Stops (Some depth) text 0 status p ⊎ (IsAcceptedText (Some depth) text × Stops (Some (patch_depth depth)) patch 1 status p)
unpatched_stops depth text patch (un.Text s) status p h i j failed bad = inl (stops (Some depth) text s 0 status p h i j)
unpatched_stops depth text patch (un.Patch s) status p h i j failed bad =
    inr (h.0, stops (Some (patch_depth depth)) patch s 1 status p h.1 i j)
unpatched_stops depth text patch (un.BadPatch n) status p h i j failed bad = absurd (bad i)
unpatched_stops depth text patch (un.Failed n) status p h i j failed bad = absurd (failed i)

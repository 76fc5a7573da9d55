-- What a part of the loop did after another.
use Rattle.std.proofs.Common.{◌≡◌, ℕ, true, List, [], ◌∷◌, Option, Result, Ok, Err, inl, inr, refl, sym, ap, subst}
use Rattle.tinyjson_grammar.specs.Tree.{Tree, Members, string}
use Rattle.tinyjson_grammar.specs.Machine.{Frame, Phase, in_array, at_key, awaited, after, colon, complete, finished}
use Rattle.tinyjson_grammar.specs.Machine.{Next, next}
use Rattle.tinyjson_grammar.specs.declared.error.JsonParseErrorKind.{JsonParseErrorKind}
use Rattle.tinyjson_tokens.specs.Source.{Sight}
use Rattle.tinyjson_tokens.specs.Steps.{Leads, Reads, Refuses}
use Rattle.tinyjson_tokens.proofs.Callers.{Halts_here, Leads_to, Leads_trans, Refuses_after, Refuses_as}
use Rattle.tinyjson.specs.private.Building.{Builds, Continues, Joins, IsOpen, IsWithin, Stands, awaited_of}
use Rattle.tinyjson.specs.private.Building.{Agree, AgreeAround, Completes}
use Rattle.tinyjson.specs.declared.parser.nest.Awaited.{Awaited}
use Rattle.tinyjson.specs.declared.parser.nest.Awaited.TheVariants.{Item, Value}
use Rattle.tinyjson.specs.declared.parser.nest.Nest.{Nest}
use Rattle.tinyjson.specs.declared.parser.nest.Progress.{Progress}
use Rattle.tinyjson.specs.declared.parser.nest.Progress.TheVariants.{Awaits, Complete}

module _ {S B X : Type 0} (holds : B → List Frame → Type 0) (is : B → Tree → Type 0) (sight : Sight S) (limit : Option ℕ) where
  pub Continues_after : (p q z : S) {n m : Next} (r : Result Progress JsonParseErrorKind) (s : Nest B X) → Leads sight limit p n q m
      → Continues holds is sight limit q m r s z → Continues holds is sight limit p n r s z
  Continues_after p q z (Ok v) s a b = (b.0, Leads_trans sight limit p q z a b.1, b.2)
  Continues_after p q z (Err k) s a b = Refuses_after sight limit p q z k a b

  pub Continues_from : (p z : S) {n m : Next} (r : Result Progress JsonParseErrorKind) (s : Nest B X) → n ≡ m
      → Continues holds is sight limit p m r s z → Continues holds is sight limit p n r s z
  Continues_from p z r s e a = subst (λ k. Continues holds is sight limit p k r s z) (sym e) a

  pub Builds_after : (p q z : S) {n m : Next} (r : Result (Unit {0}) JsonParseErrorKind) (s : Nest B X) → Leads sight limit p n q m
      → Builds holds is sight limit q m r s z → Builds holds is sight limit p n r s z
  Builds_after p q z (Ok v) s a b = (b.0, Leads_trans sight limit p q z a b.1, b.2)
  Builds_after p q z (Err k) s a b = Refuses_after sight limit p q z k a b

  -- what was read is put where it belongs
  pub joined : (p q : S) (fs : List Frame) (ph : Phase) {m : Next} (r : Result Progress JsonParseErrorKind) (s : Nest B X)
      → Leads sight limit p (next fs ph) q m → Joins holds is m r s → Continues holds is sight limit p (next fs ph) r s q
  joined p q fs ph {m} (Ok v) s l j = (m, l, j)
  joined p q fs ph (Err k) s l (inl e) = Refuses_as sight limit p q k (Leads_to sight limit p q l e)
  joined p q fs ph (Err k) s l (inr w) = inr (w.0, Halts_here sight limit p q l tt w.1)

  -- a value or a key is awaited
  pub awaits : (p q : S) {n : Next} (fs : List Frame) (s : Nest B X) → Leads sight limit p n q (next fs awaited) → IsOpen holds s fs
      → Continues holds is sight limit p n (Ok Awaits) s q
  awaits p q fs s l h = (next fs awaited, l, (fs, refl, h))

  -- a string where a key is awaited is the key
  pub string_at_key : (p q z : S) (fs : List Frame) (ms : Members) (gs : List Frame) → fs ≡ at_key ms ∷ gs → (xs : List ℕ)
      (r : Result Progress JsonParseErrorKind) (old new : Nest B X)
      → Leads sight limit p (next fs awaited) q (complete true fs (string xs) true) → IsOpen holds old fs
      → (IsOpen holds old (at_key ms ∷ gs) → Continues holds is sight limit q (next (at_key ms ∷ gs) (colon xs)) r new z)
      → Continues holds is sight limit p (next fs awaited) r new z
  string_at_key p q z fs ms gs e xs r old new l h k = Continues_after p q z r new
      (Leads_to sight limit p q l (ap (λ hs. complete true hs (string xs) true) e)) (k (subst (IsOpen holds old) e h))

  -- the end, where nothing is open
  pub ends : (q z : S) (n : Next) (r : Result (Unit {0}) JsonParseErrorKind) (s : Nest B X) → Stands holds is s Complete n
      → awaited_of s ≡ [] → ((t : Tree) → Reads sight limit q (next [] (finished t)) r (λ _. next [] (finished t)) z)
      → Builds holds is sight limit q n r s z
  ends q z n r s h e = by r (subst (λ os. Completes holds is s.events os n) e h.0)
    where
      by : (r : Result (Unit {0}) JsonParseErrorKind) → Completes holds is s.events [] n
          → ((t : Tree) → Reads sight limit q (next [] (finished t)) r (λ _. next [] (finished t)) z)
          → Builds holds is sight limit q n r s z
      by (Ok v) w k = (w.0, subst (λ m. Leads sight limit q m z (next [] (finished w.0))) (sym w.1) (k w.0), w.2)
      by (Err j) w k = subst (λ m. Refuses sight limit q m j z) (sym w.1) (k w.0)

  -- what is known at a turn
  pub open_at : (s : Nest B X) (v : Progress) (n : Next) → v ≡ Awaits → Stands holds is s v n
      → (fs : List Frame) × (n ≡ next fs awaited) × IsOpen holds s fs
  open_at s v n e h = subst (λ w. Stands holds is s w n) e h

  pub complete_at : (s : Nest B X) (v : Progress) (n : Next) → v ≡ Complete → Stands holds is s v n → Stands holds is s Complete n
  complete_at s v n e h = subst (λ w. Stands holds is s w n) e h

  -- what follows a value that stands where it belongs
  pub after_item : (s : Nest B X) (n : Next) (os : List Awaited) → Stands holds is s Complete n → awaited_of s ≡ Item ∷ os
      → (ts : List Tree) × (fs : List Frame) × (n ≡ next (in_array ts ∷ fs) after) × IsOpen holds s (in_array ts ∷ fs)
  after_item s n os h e =
      let w = subst (λ ps. Completes holds is s.events ps n) e h.0 in
      (w.0, w.1, w.2, (w.3, subst (λ ps. Agree ps (in_array w.0 ∷ w.1)) (sym e) w.4, h.1))

  pub after_member : (s : Nest B X) (n : Next) (os : List Awaited) → Stands holds is s Complete n → awaited_of s ≡ Value ∷ os
      → (ms : Members) × (fs : List Frame) × (n ≡ next (at_key ms ∷ fs) after) × IsWithin holds s (at_key ms) fs
  after_member s n os h e =
      let w = subst (λ ps. Completes holds is s.events ps n) e h.0 in
      (w.0, w.1, w.2, (w.3, subst (λ ps. AgreeAround ps w.1) (sym e) w.4, h.1))

-- Words that are gathered, one after the other.
use Rattle.std.proofs.Common.{◌≡◌, ◌∷◌, [], ◌++◌, ℕ, ◌<◌, ◌≤◌, ◌+◌, Bool, true, false, ◌||◌, cond, List, String, Global}
use Rattle.std.proofs.Common.{length, get_or, bytes_eq, drop, string_bytes, refl, sym, ap, ◌∙◌, subst, append_assoc}
use Rattle.std.proofs.lemmas.Map.Text.{btree_set_updates_text}
use Rattle.std.specs.BTreeSet as sorted
use Rattle.std.specs.BTreeSet.{BTreeSet}
use Rattle.std.specs.String.{string_cmp}
use Rattle.tinyjson_schema_keywords.specs.Subschemas.{seen, all_seen}
use Rattle.tinyjson_schema_keywords.specs.Unknown.{AreWords, Gathers, is_one_of, word_of, words_among}
use Rattle.tinyjson_schema_keywords.specs.declared.subschemas.SchemaMember.{SchemaMember}
use Rattle.tinyjson_schema_keywords.proofs.Turns.{drop_item, drop_end}

or_assoc : (a b c : Bool) → ((a || b) || c) ≡ (a || (b || c))
or_assoc true b c = refl
or_assoc false b c = refl

or_false : (a : Bool) → (a || false) ≡ a
or_false true = refl
or_false false = refl

regrouped : (a b c : Bool) → (b || (a || c)) ≡ ((a || b) || c)
regrouped true true c = refl
regrouped true false c = refl
regrouped false b c = refl

either : (a b : Bool) → cond a true b ≡ ((a || false) || b)
either true b = refl
either false b = refl

one_of_both : (ks ls : List (List ℕ)) (k : List ℕ) → is_one_of (ks ++ ls) k ≡ (is_one_of ks k || is_one_of ls k)
one_of_both [] ls k = refl
one_of_both (l ∷ ks) ls k = ap (λ b. bytes_eq l k || b) (one_of_both ks ls k)
    ∙ sym (or_assoc (bytes_eq l k) (is_one_of ks k) (is_one_of ls k))

gathers_both : (ks ls : List (List ℕ)) (a b c : BTreeSet (String Global)) → Gathers ks a b → Gathers ls b c → Gathers (ks ++ ls) a c
gathers_both ks ls a b c g h k =
    h k ∙ (ap (λ x. is_one_of ls k || x) (g k)
    ∙ (regrouped (is_one_of ks k) (is_one_of ls k) (sorted.contains_text a k)
    ∙ ap (λ x. x || sorted.contains_text a k) (sym (one_of_both ks ls k))))

-- a word that was put to the others
pub word_gathered : (key : String Global) (s n : BTreeSet (String Global)) → sorted.Updates string_cmp s n key true
    → Gathers (string_bytes key ∷ []) s n
word_gathered key s n h k =
    btree_set_updates_text (string_bytes key) s n true h k ∙ either (bytes_eq (string_bytes key) k) (sorted.contains_text s k)

-- the set was empty
pub words_are : (ks : List (List ℕ)) (old new : BTreeSet (String Global)) → old.keys ≡ [] → Gathers ks old new → AreWords ks new
words_are ks old new e h k =
    h k ∙ (ap (λ s. is_one_of ks k || sorted.contains_text s k) (is e) ∙ or_false (is_one_of ks k))
  where
    is : old.keys ≡ [] → old ≡ record { keys = [] }
    is e = ap (λ ks. record { keys = ks }) e

-- ---- the loops

-- Of all these words the rest is left.
pub record Gathered (all rest : List (List ℕ)) (old now : BTreeSet (String Global)) : Type 0 where
  pub done : List (List ℕ)
  pub split : all ≡ done ++ rest
  pub gathers : Gathers done old now

pub begun : (all : List (List ℕ)) (s : BTreeSet (String Global)) → Gathered all all s s
begun all s = record { done = []; split = refl; gathers = λ k. refl }

turn : (all ks rest : List (List ℕ)) (s a b : BTreeSet (String Global)) → Gathered all (ks ++ rest) s a → Gathers ks a b
    → Gathered all rest s b
turn all ks rest s a b g h = record {
  done = g.done ++ ks;
  split = g.split ∙ sym (append_assoc g.done ks rest);
  gathers = gathers_both g.done ks s a b g.gathers h;
}

ended : (all rest : List (List ℕ)) (s a : BTreeSet (String Global)) → Gathered all rest s a → rest ≡ [] → Gathers all s a
ended all rest s a g e = subst (λ ks. Gathers ks s a) (sym (g.split ∙ (ap (λ l. g.done ++ l) e ∙ nil g.done))) g.gathers
  where
    nil : (ks : List (List ℕ)) → ks ++ [] ≡ ks
    nil [] = refl
    nil (k ∷ ks) = ap (λ l. k ∷ l) (nil ks)

module _ (ms : List SchemaMember) (i : ℕ) (s a : BTreeSet (String Global))
    (g : Gathered (words_among (all_seen ms)) (words_among (all_seen (drop i ms))) s a) where
  pub member_gathered : (m : SchemaMember) (b : BTreeSet (String Global)) → i < length ms → m ≡ get_or ms i m
      → Gathers (word_of (seen m)) a b → Gathered (words_among (all_seen ms)) (words_among (all_seen (drop (i + 1) ms))) s b
  member_gathered m b l e h = turn _ (word_of (seen m)) (words_among (all_seen (drop (i + 1) ms))) s a b
      (subst (λ xs. Gathered (words_among (all_seen ms)) (words_among (all_seen xs)) s a) (drop_item ms i m l e) g) h

  pub members_gathered : length ms ≤ i → Gathers (words_among (all_seen ms)) s a
  members_gathered l = ended _ _ s a g (ap (λ xs. words_among (all_seen xs)) (drop_end ms i l))

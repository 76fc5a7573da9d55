-- A value that is complete is counted where it belongs.
use Rattle.std.proofs.Common.{◌≡◌, ℕ, ◌+◌, ◌≤◌, List, [], ◌∷◌, ◌++◌, Ordering, Less, Equal, Greater, Result, Ok, Err, OnOk, Option, arith}
use Rattle.example_count.specs.Counts.{Adds, AtLeast, count, counted, items_count, members_count, one, open_count}
use Rattle.example_count.specs.declared.counts.Counts.{Counts}
use Rattle.tinyjson.specs.Events.{Open, in_array, at_key, at_value, Puts, TellsText}
use Rattle.tinyjson.specs.Tree.{Tree, Members, items_of, no_members, member, put, put_at, key_cmp}
use Rattle.tinyjson.specs.JsonKind.{JsonKind}
use Rattle.tinyjson.specs.declared.parser.error.JsonParseError.{JsonParseError}

abbrev pub Holds : Counts → Counts → List Open → Type 0
Holds s e os = (k : JsonKind) → counted s k + open_count k os ≤ counted e k

-- an item more
items_appended : (k : JsonKind) (ts : List Tree) (t : Tree)
    → items_count k (items_of (ts ++ t ∷ [])) ≤ count k t + items_count k (items_of ts)
items_appended k [] t = omega arith
items_appended k (u ∷ ts) t = omega (arith, items_appended k ts t)

-- a member more, or another in the place of one
members_put : (k : JsonKind) (l : List ℕ) (t : Tree) (ms : Members) → members_count k (put l t ms) ≤ count k t + members_count k ms
members_put k l t no_members = omega arith
members_put k l t (member m u ms) = by (key_cmp l m) (put l t ms) (members_put k l t ms)
  where
    by : (o : Ordering) (more : Members) → members_count k more ≤ count k t + members_count k ms
        → members_count k (put_at o l t m u ms more) ≤ count k t + (count k u + members_count k ms)
    by Less more h = omega arith
    by Equal more h = omega arith
    by Greater more h = omega (arith, h)

-- a value that is complete, beside what is open
pub puts_counted : (s e : Counts) (os : List Open) (t : Tree)
    → ((k : JsonKind) → counted s k + (count k t + open_count k os) ≤ counted e k)
    → Puts (Holds s) (Adds s) os t e
puts_counted s e [] t h = λ k. omega (arith, h k)
puts_counted s e (in_array ts ∷ os) t h = λ k. omega (arith, h k, items_appended k ts t)
puts_counted s e (at_key ms ∷ os) t h = tt
puts_counted s e (at_value ms l ∷ os) t h = λ k. omega (arith, h k, members_put k l t ms)

-- one of the kind j is added
pub added : {T X : Type 0} (s : Counts) (r : Result T X) (old new : Counts) (os : List Open) (t : Tree) (j : JsonKind)
    → ((k : JsonKind) → count k t ≡ one k j) → OnOk r ((k : JsonKind) → counted new k ≡ one k j + counted old k) → Holds s old os
    → OnOk r (Puts (Holds s) (Adds s) os t new)
added s (Ok v) old new os t j c n h = puts_counted s new os t (λ k. omega (arith, c k, n k, h k))
added s (Err e) old new os t j c n h = tt

-- what is added to no counts
pub from_none : (s : Counts) → ((k : JsonKind) → counted s k ≡ 0) → (limit : Option ℕ) (xs : List ℕ)
    (r : Result Counts JsonParseError) → TellsText (Adds s) limit xs r → TellsText AtLeast limit xs r
from_none s z limit xs (Ok e) h = record {
  consumed = h.consumed;
  rest = h.rest;
  whole = h.whole;
  answer = (h.answer.0, h.answer.1, h.answer.2, λ k. omega (arith, z k, h.answer.3 k));
  refused = tt;
  broken_off = tt;
}
from_none s z limit xs (Err e) h = record {
  consumed = h.consumed;
  rest = h.rest;
  whole = h.whole;
  answer = h.answer;
  refused = h.refused;
  broken_off = h.broken_off;
}

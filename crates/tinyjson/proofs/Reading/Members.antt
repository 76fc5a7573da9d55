-- Members that are put from the last to the first: of equal keys the first stays.
use Rattle.std.proofs.Common.{◌≡◌, ℕ, true, false, Bool, bytes_eq, cond, Option, Some, None, is_some, List, [], ◌∷◌, ◌++◌, String, Global}
use Rattle.std.proofs.Common.{refl, sym, ap, ◌∙◌, take, drop, length, append_assoc}
use Rattle.std.proofs.Math.Seq.{take-append_seam, drop-append_seam}
use Rattle.std.proofs.lemmas.List.{take-append-drop}
use Rattle.std.proofs.lemmas.Slice.Eq.{bytes_eq-Decides}
use Rattle.std.specs.Option.{option_or}
use Rattle.tinyjson_grammar.specs.Tree.{Tree, Members, no_members, put, find}
use Rattle.tinyjson_grammar.specs.Soundness.{IsSorted}
use Rattle.tinyjson_grammar.proofs.Callers.{find_put, sorted_put, members_from_find}
use Rattle.tinyjson.specs.View.{view, text}
use Rattle.tinyjson.specs.private.Stack.{gather}
use Rattle.tinyjson.specs.private.Members.{add}
use Rattle.tinyjson.specs.declared.value.JsonValue.{JsonValue}

abbrev Keys : Type 0
Keys = List (String Global)

gather_sorted : (ms : Members) (ks : Keys) (vs : List JsonValue) → IsSorted ms → IsSorted (gather ms ks vs)
gather_sorted ms [] vs s = s
gather_sorted ms (k ∷ ks) [] s = s
gather_sorted ms (k ∷ ks) (v ∷ vs) s = gather_sorted (put (text k) (view v) ms) ks vs (sorted_put (text k) (view v) ms s)

option_or_none : (o : Option Tree) → option_or o None ≡ o
option_or_none None = refl
option_or_none (Some x) = refl

option_or_cond : (o : Option Tree) (b : Bool) (t : Tree) (p : Option Tree)
    → option_or o (cond b (Some t) p) ≡ option_or (option_or o (cond b (Some t) None)) p
option_or_cond (Some x) b t p = refl
option_or_cond None true t p = refl
option_or_cond None false t p = refl

gather_find : (q : List ℕ) (ms : Members) (ks : Keys) (vs : List JsonValue)
    → find q (gather ms ks vs) ≡ option_or (find q (gather no_members ks vs)) (find q ms)
gather_find q ms [] vs = refl
gather_find q ms (k ∷ ks) [] = refl
gather_find q ms (k ∷ ks) (v ∷ vs) =
    let o = find q (gather no_members ks vs) in
    gather_find q (put (text k) (view v) ms) ks vs
    ∙ ap (option_or o) (find_put q (text k) (view v) ms)
    ∙ option_or_cond o (bytes_eq q (text k)) (view v) (find q ms)
    ∙ ap (λ p. option_or p (find q ms)) (sym (gather_find q (put (text k) (view v) no_members) ks vs
    ∙ ap (option_or o) (find_put q (text k) (view v) no_members)))

module _ (k : List ℕ) (t : Tree) (g : Members) where
  sorted_add : (o : Option Tree) → IsSorted g → IsSorted (cond (is_some o) g (put k t g))
  sorted_add None s = sorted_put k t g s
  sorted_add (Some u) s = s

  module _ (q : List ℕ) where
    found : (o : Option Tree) → find k g ≡ o → (b : Bool) → bytes_eq q k ≡ b
        → option_or (find q g) (cond b (Some t) None) ≡ find q (cond (is_some o) g (put k t g))
    found (Some u) e true h =
        let is = ap (λ x. find x g) ((bytes_eq-Decides q k).0 h) ∙ e in
        ap (λ p. option_or p (Some t)) is ∙ sym is
    found (Some u) e false h = option_or_none (find q g)
    found None e true h =
        let is = ap (λ x. find x g) ((bytes_eq-Decides q k).0 h) ∙ e in
        ap (λ p. option_or p (Some t)) is ∙ sym (find_put q k t g ∙ ap (λ b. cond b (Some t) (find q g)) h)
    found None e false h = option_or_none (find q g) ∙ sym (find_put q k t g ∙ ap (λ b. cond b (Some t) (find q g)) h)

pub gather_add : (k : String Global) (v : JsonValue) (ks : Keys) (vs : List JsonValue)
    → gather no_members (k ∷ ks) (v ∷ vs) ≡ add (text k) (view v) (gather no_members ks vs)
gather_add k v ks vs =
    let g = gather no_members ks vs in
    let one = put (text k) (view v) no_members in
    members_from_find (gather one ks vs) (add (text k) (view v) g) (gather_sorted one ks vs (sorted_put (text k) (view v) no_members tt))
    (sorted_add (text k) (view v) g (find (text k) g) (gather_sorted no_members ks vs tt))
    (λ q. gather_find q one ks vs ∙ ap (option_or (find q g)) (find_put q (text k) (view v) no_members)
    ∙ found (text k) (view v) g q (find (text k) g) refl (bytes_eq q (text k)) refl)

-- the last element of the front of a list is taken
module _ {T : Type 0} (old now new : List T) (x : T) (f : now ≡ take (length now) old) (e : now ≡ new ++ x ∷ []) where
  whole : old ≡ new ++ x ∷ drop (length now) old
  whole = sym (take-append-drop (length now) old) ∙ ap (λ xs. xs ++ drop (length now) old) (sym f ∙ e)
      ∙ append_assoc new (x ∷ []) (drop (length now) old)

  pub taken_front : new ≡ take (length new) old
  taken_front = sym (ap (take (length new)) whole ∙ take-append_seam new (x ∷ drop (length now) old))

  pub taken_back : drop (length new) old ≡ x ∷ drop (length now) old
  taken_back = ap (drop (length new)) whole ∙ drop-append_seam new (x ∷ drop (length now) old)

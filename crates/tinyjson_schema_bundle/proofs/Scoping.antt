-- Scopes of dynamic references, one mark after the other.
use Rattle.std.proofs.Common.{◌≡◌, ◌≢◌, ◌∷◌, [], ◌&&◌, ℕ, Bool, true, false, cond, List, bytes_eq, length, suc, refl, sym, ap, ◌∙◌}
use Rattle.std.proofs.Common.{string_bytes, replicate, ◌++◌, ◌+◌, ◌<◌, zero, get_or, drop, map, chars}
use Rattle.std.proofs.Common.{Option, Some, Result, Ok, Err, IfOk, option_map, arith}
use Rattle.std.specs.Prelude.{unwrap_or}
use Rattle.tinyjson.specs.Tree.{Tree, Members, object}
use Rattle.tinyjson.specs.View.{members_listed}
use Rattle.tinyjson_schema_keywords.specs.Applied.{schema_at}
use Rattle.tinyjson_schema_keywords.specs.declared.keyword.Keyword.TheVariants as kw
use Rattle.tinyjson_schema_keywords.proofs.Callers.{Listed, text_bytes, drop_item}
use Rattle.tinyjson_schema_bundle.specs.Bundles.{Marked, Places, Leads, marked, all_marked, pointed_among, put_some}
use Rattle.tinyjson_schema_bundle.specs.Scopes.{Reached, is_same, scope_at, reached, from_root, below, copy_place, place_in_list, placed}
use Rattle.tinyjson_schema_bundle.specs.Scopes.{moved, longest, longer, copy_key, put_copies, reached_of, leads_of, copy_by, copy_of}
use Rattle.tinyjson_schema_bundle.specs.Scopes.{defs_in, main_part, with_defs, with_copies}
use Rattle.tinyjson_schema_bundle.specs.Scopes.{Scope, is_entering, entered_by, entered, is_between, scope_by}
use Rattle.tinyjson_schema_bundle.specs.declared.mark.Mark.{Mark}
use Rattle.tinyjson_schema_bundle.specs.declared.scope.State.{State}

and_false : (a b : Bool) → b ≡ false → (a && b) ≡ false
and_false true b e = e
and_false false b e = refl

pub unequal : (xs ys : List Mark) → length xs ≢ length ys → is_same (all_marked xs) (all_marked ys) ≡ false
unequal [] [] n = absurd (n refl)
unequal [] (y ∷ ys) n = refl
unequal (x ∷ xs) [] n = refl
unequal (x ∷ xs) (y ∷ ys) n =
    and_false (bytes_eq (string_bytes x.place) (string_bytes y.place)) _ (unequal xs ys (λ e. n (ap suc e)))

-- ---- one mark more, which may change the scope

module _ (all : List Marked) (r : List ℕ) (ms : List Mark) (i : ℕ) (x : Mark) (here : i < length ms) (e : x ≡ get_or ms i x)
    (b : Bool) (old new end : Scope) where
  pub entered_turn : (u : List ℕ) → b ≡ is_entering all r old u (marked x) → new ≡ cond b (old ++ marked x ∷ []) old
      → entered_by all r (all_marked (drop i ms)) u old ≡ end → entered_by all r (all_marked (drop (i + 1) ms)) u new ≡ end
  entered_turn u t h left =
      ap (entered_by all r (all_marked (drop (i + 1) ms)) u) (h ∙ ap (λ d. cond d (old ++ marked x ∷ []) old) t)
      ∙ (sym (ap (λ xs. entered_by all r (all_marked xs) u old) (drop_item ms i x here e)) ∙ left)

  pub scope_turn : (p q : List ℕ) → b ≡ is_between p q (marked x) → new ≡ cond b (entered all r (string_bytes x.uri) old) old
      → scope_by all r (all_marked (drop i ms)) p q old ≡ end → scope_by all r (all_marked (drop (i + 1) ms)) p q new ≡ end
  scope_turn p q t h left =
      ap (scope_by all r (all_marked (drop (i + 1) ms)) p q) (h ∙ ap (λ d. cond d (entered all r (string_bytes x.uri) old) old) t)
      ∙ (sym (ap (λ xs. scope_by all r (all_marked xs) p q old) (drop_item ms i x here e)) ∙ left)

-- ---- letters, and the longest key

pub replicate_more : (n x : ℕ) → replicate n x ++ x ∷ [] ≡ replicate (suc n) x
replicate_more zero x = refl
replicate_more (suc n) x = ap (λ l. x ∷ l) (replicate_more n x)

pub longest_next : (ps : List Listed) (i n : ℕ) (x : Listed) → i < length ps → x ≡ get_or ps i x
    → longest (members_listed (drop i ps)) n ≡ longest (members_listed (drop (i + 1) ps)) (longer n (length (string_bytes x.0.now)))
longest_next ps i n x l e =
    ap (λ xs. longest (members_listed xs) n) (drop_item ps i x l e)
    ∙ ap (λ bs. longest (members_listed (drop (i + 1) ps)) (longer n (length bs))) (sym (text_bytes x.0.now (string_bytes x.0.now) refl))

-- ---- one copy more

pub put_next : (copy : Reached → Option Tree) (z : List ℕ) (i : ℕ) (ss : List State) (x : State) (old new : Members) (o : Option Tree)
    → i < length ss → x ≡ get_or ss i x → o ≡ copy (reached_of x) → new ≡ put_some (chars (copy_key z i)) o old
    → put_copies copy z (i + 1) (map reached_of (drop (i + 1) ss)) new ≡ put_copies copy z i (map reached_of (drop i ss)) old
put_next copy z i ss x old new o l e h g =
    let rest = map reached_of (drop (i + 1) ss) in
    let next : i + 1 ≡ suc i = omega arith in
    ap (λ k. put_copies copy z k rest new) next
    ∙ (ap (put_copies copy z (suc i) rest) (g ∙ ap (λ w. put_some (chars (copy_key z i)) w old) h)
    ∙ ap (λ xs. put_copies copy z i (map reached_of xs) old) (sym (drop_item ss i x l e)))

pub copied : (to : Leads) (u p : List ℕ) (t : Option Tree) (kw ms : Members) → ms ≡ pointed_among to u p kw → t ≡ Some (object kw)
    → Some (object ms) ≡ copy_by to u p t
copied to u p t kw ms e f = ap (λ x. Some (object x)) e ∙ ap (copy_by to u p) (sym f)

-- with some copies
pub with_some : (at : Places) (all : List Marked) (r z : List ℕ) (some : Bool) (copies : List Reached) (t : Tree) (ss : List Reached)
    → 0 < length ss → with_defs (option_map (put_copies (copy_of at all r z some copies t) z 0 ss)
    (defs_in (leads_of at all r z some copies from_root) r (schema_at t kw.Defs))) (main_part at all r z some copies t)
    ≡ with_copies at all r z some copies t ss
with_some at all r z some copies t [] h = absurd (omega (arith, h))
with_some at all r z some copies t (s ∷ ss) h = refl

pub some_ok : {A E : Type 0} {P Q : A → Type 0} → ((v : A) → P v → Q v) → (r : Result A E) → IfOk r P → IfOk r Q
some_ok f (Ok v) h = f v h
some_ok f (Err e) h = tt

-- ---- where a reference leads from what was reached so

module _ (at : Places) (all : List Marked) (r z : List ℕ) (some : Bool) (copies : List Reached) (s t : Reached) (p q : List ℕ) where
  pub moved_to : (i : ℕ) (rest : List ℕ) → some ≡ true → t ≡ reached all r (scope_at all r s p) q
      → is_same t.0 (scope_at all r from_root q) ≡ false → i ≡ place_in_list copies t → rest ≡ unwrap_or (below t.1 q) []
      → copy_place z i rest ≡ moved at all r z some copies s p q
  moved_to i rest e is other f g =
      ap (λ k. copy_place z k rest) f ∙ (ap (copy_place z (place_in_list copies t)) g
      ∙ (ap (λ b. cond b q (copy_place z (place_in_list copies t) (unwrap_or (below t.1 q) []))) (sym other)
      ∙ (ap (placed at all r z some copies s q) is
      ∙ ap (λ b. cond b (placed at all r z some copies s q (reached all r (scope_at all r s p) q)) q) (sym e))))

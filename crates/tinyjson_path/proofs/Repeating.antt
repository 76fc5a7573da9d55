-- Nodes that repeat others on the stack: what one selects the other selects.
use Rattle.std.proofs.Common.{◌≡◌, ℕ, ◌+◌, ◌<◌, ◌≤◌, Bool, true, false, List, [], ◌∷◌, ◌++◌, reverse, take, drop}
use Rattle.std.proofs.Common.{Result, Ok, Err, OnOk, length, get_or, min, nat_lt}
use Rattle.std.proofs.Common.{refl, sym, ap, ◌∙◌, subst, arith, append_assoc, append-nil}
use Rattle.std.proofs.Math.Nat.{min-eq_left, min-eq_right}
use Rattle.std.proofs.lemmas.Bool.{ltb-false}
use Rattle.std.proofs.lemmas.Bool.Decides.{nat_tests}
use Rattle.std.proofs.lemmas.List.{map-append, reverse-append, take-append-drop, drop_more, drop-append-le, drop_at, append_cancel_right}
use Rattle.tinyjson.specs.Tree.{Tree}
use Rattle.tinyjson_path.specs.Nodes.{Part, part_view, parts_view}
use Rattle.tinyjson_path.specs.Selecting.{from_each}
use Rattle.tinyjson_path.specs.Waiting.{Wait, wait_view, waits_view, waits_at, rest_of, waits_left}
use Rattle.tinyjson_path.specs.Waiting.{IsChild, AreChildren, HasTwin, IsAmong, AreMarked, Puts}
use Rattle.tinyjson_path.specs.declared.node.Located.{Located}
use Rattle.tinyjson_path.specs.declared.waiting.Waiting.{Waiting}
use Rattle.tinyjson_path.proofs.Chosen.{are_first, are_last, same_child}
use Rattle.tinyjson_path.proofs.Parts.{each_append}
use Rattle.tinyjson_path_query.specs.declared.query.Segment.{Segment}

-- ---- what is put on the stack at once

-- above are those that are still to be put on it
abbrev AreMarkedUnder : List Waiting → List Wait → Type 0
AreMarkedUnder [] above = Unit {0}
AreMarkedUnder (w ∷ ws) above = (w.repeats ≡ true → IsAmong (wait_view w) (waits_view ws ++ above)) × AreMarkedUnder ws above

marked_more : (put : List Waiting) (w : Waiting) (above : List Wait) → AreMarkedUnder put (wait_view w ∷ above)
    → (w.repeats ≡ true → IsAmong (wait_view w) above) → AreMarkedUnder (put ++ w ∷ []) above
marked_more [] w above h k = (k, tt)
marked_more (v ∷ vs) w above h k = (λ e. subst (IsAmong (wait_view v)) same (h.0 e), marked_more vs w above h.1 k)
  where
    same : waits_view vs ++ wait_view w ∷ above ≡ waits_view (vs ++ w ∷ []) ++ above
    same = sym (ap (λ z. z ++ above) (map-append wait_view vs (w ∷ [])) ∙ append_assoc (waits_view vs) (wait_view w ∷ []) above)

marked_all : (put : List Waiting) → AreMarkedUnder put [] → AreMarked put
marked_all [] h = tt
marked_all (w ∷ ws) h = (λ e. subst (IsAmong (wait_view w)) (append-nil (waits_view ws)) (h.0 e), marked_all ws h.1)

among_nodes : (ns : List Located) (j : ℕ) (m : Located) → j < length ns → m ≡ get_or ns j m → ns ≡ take j ns ++ m ∷ drop (j + 1) ns
among_nodes ns j m l at =
    sym (take-append-drop j ns) ∙ ap (λ z. take j ns ++ z) (drop_more ns j m l ∙ ap (λ z. z ∷ drop (j + 1) ns) (sym at))

among_reversed : (i : ℕ) (front rest : List Located) (m : Located)
    → IsAmong (i, part_view m) (reverse (waits_at i (parts_view (front ++ m ∷ rest))))
among_reversed i front rest m =
    let fs : List Wait = waits_at i (parts_view front) in
    let rs : List Wait = waits_at i (parts_view rest) in
    let x : Wait = (i, part_view m) in (
      reverse rs,
      reverse fs,
      ap (λ z. reverse (waits_at i z)) (map-append part_view front (m ∷ rest))
          ∙ (ap reverse (map-append (λ (p : Part). (i, p)) (parts_view front) (parts_view (m ∷ rest)))
          ∙ (reverse-append fs (x ∷ rs)
          ∙ (ap (λ z. z ++ reverse fs) (reverse-append (x ∷ []) rs) ∙ append_assoc (reverse rs) (x ∷ []) (reverse fs)))),
    )

twin_among : (p : Part) (ns : List Located) (n : Located) (i : ℕ) → AreChildren p (parts_view ns) → IsChild p (part_view n) → HasTwin n ns
    → IsAmong (i, part_view n) (reverse (waits_at i (parts_view ns)))
twin_among p ns n i all child (j, m, l, at, alike) =
    let split : ns ≡ take j ns ++ m ∷ drop (j + 1) ns = among_nodes ns j m l at in
    let parts : parts_view ns ≡ parts_view (take j ns) ++ part_view m ∷ parts_view (drop (j + 1) ns)
    = ap parts_view split ∙ map-append part_view (take j ns) (m ∷ drop (j + 1) ns) in
    let other : IsChild p (part_view m)
    = (are_last p (parts_view (take j ns)) (part_view m ∷ parts_view (drop (j + 1) ns)) (subst (AreChildren p) parts all)).0 in
    let same : part_view m ≡ part_view n = sym (same_child p (part_view n) (part_view m) child other alike) in
    subst (λ z. IsAmong (i, z) (reverse (waits_at i (parts_view ns)))) same
    (subst (λ z. IsAmong (i, part_view m) (reverse (waits_at i (parts_view z)))) (sym split)
    (among_reversed i (take j ns) (drop (j + 1) ns) m))

-- of the nodes that are left to put there, and what was put there
abbrev pub Marks : Part → List Waiting → List Waiting → ℕ → List Located → Type 0
Marks p start now i nodes =
    AreChildren p (parts_view nodes)
    × ((put : List Waiting) × (now ≡ start ++ put) × AreMarkedUnder put (reverse (waits_at i (parts_view nodes))))

pub marks_first : (p : Part) (start : List Waiting) (i : ℕ) (nodes : List Located) → AreChildren p (parts_view nodes)
    → Marks p start start i nodes
marks_first p start i nodes h = (h, ([], sym (append-nil start), tt))

pub marks_more : (p : Part) (nodes front : List Located) (n : Located) (start old new : List Waiting) (i : ℕ) (b : Bool)
    → nodes ≡ front ++ n ∷ [] → new ≡ old ++ record { node = n; segment = i; repeats = b } ∷ [] → (b ≡ true → HasTwin n front)
    → Marks p start old i nodes → Marks p start new i front
marks_more p nodes front n start old new i b e m twin (all, (put, is, marked)) =
    let w : Waiting = record { node = n; segment = i; repeats = b } in
    let split : parts_view nodes ≡ parts_view front ++ part_view n ∷ [] = ap parts_view e ∙ map-append part_view front (n ∷ []) in
    let turned : reverse (waits_at i (parts_view nodes)) ≡ (i, part_view n) ∷ reverse (waits_at i (parts_view front))
    = ap (λ z. reverse (waits_at i z)) split
    ∙ (ap reverse (map-append (λ (p : Part). (i, p)) (parts_view front) (part_view n ∷ []))
    ∙ reverse-append (waits_at i (parts_view front)) ((i, part_view n) ∷ [])) in
    let children : AreChildren p (parts_view front ++ part_view n ∷ []) = subst (AreChildren p) split all in
    let before : AreChildren p (parts_view front) = are_first p (parts_view front) (part_view n ∷ []) children in
    let child : IsChild p (part_view n) = (are_last p (parts_view front) (part_view n ∷ []) children).0 in (
      before,
      (
        put ++ w ∷ [],
        m ∙ (ap (λ z. z ++ w ∷ []) is ∙ append_assoc start put (w ∷ [])),
        marked_more put w (reverse (waits_at i (parts_view front))) (subst (AreMarkedUnder put) turned marked)
            (λ t. twin_among p front n i before child (twin t)),
      ),
    )

pub marks_last : (p : Part) (start now : List Waiting) (i : ℕ) (nodes : List Located) → nodes ≡ [] → Marks p start now i nodes
    → Puts start now
marks_last p start now i nodes e (all, (put, is, marked)) =
    (put, is, marked_all put (subst (λ z. AreMarkedUnder put (reverse (waits_at i (parts_view z)))) e marked))

among_more : (w : Wait) (xs ys : List Waiting) → IsAmong w (waits_view xs) → IsAmong w (waits_view (xs ++ ys))
among_more w xs ys (front, rest, e) = (
  front,
  rest ++ waits_view ys,
  map-append wait_view xs ys ∙ (ap (λ z. z ++ waits_view ys) e ∙ append_assoc front (w ∷ rest) (waits_view ys)),
)

marked_both : (xs ys : List Waiting) → AreMarked xs → AreMarked ys → AreMarked (xs ++ ys)
marked_both [] ys h k = k
marked_both (x ∷ xs) ys h k = (λ r. among_more (wait_view x) xs ys (h.0 r), marked_both xs ys h.1 k)

pub puts_both : (old mid new : List Waiting) → Puts old mid → Puts mid new → Puts old new
puts_both old mid new (xs, e, h) (ys, f, k) = (
  xs ++ ys,
  f ∙ (ap (λ z. z ++ ys) e ∙ append_assoc old xs ys),
  marked_both xs ys h k,
)

-- of a call that may fail
pub on_puts : {A E : Type 0} (p : Part) (ps : List Part) (x : Result A E) (old new : List Waiting) → AreChildren p ps
    → OnOk x ((q : Part) → AreChildren q ps → Puts old new) → OnOk x (Puts old new)
on_puts p ps (Ok a) old new h k = k p h
on_puts p ps (Err e) old new h k = tt

-- ---- what is left of those that are marked

nil_left : (xs ys : List Part) → xs ++ ys ≡ [] → xs ≡ []
nil_left [] ys e = refl
nil_left (x ∷ xs) ys e = absurd cc

nil_right : (xs ys : List Part) → xs ++ ys ≡ [] → ys ≡ []
nil_right [] ys e = e
nil_right (x ∷ xs) ys e = absurd cc

module _ (ss : List Segment) (root : Tree) where
  abbrev left : List Waiting → List Part
  left ws = waits_left ss root (waits_view ws)

  left_append : (xs ys : List Wait) → waits_left ss root (xs ++ ys) ≡ waits_left ss root ys ++ waits_left ss root xs
  left_append xs ys = ap (from_each (rest_of ss root)) (reverse-append xs ys) ∙ each_append (rest_of ss root) (reverse ys) (reverse xs)

  left_one : (w : Wait) → waits_left ss root (w ∷ []) ≡ rest_of ss root w
  left_one w = append-nil (rest_of ss root w)

  left_both : (xs ys : List Waiting) → left (xs ++ ys) ≡ left ys ++ left xs
  left_both xs ys = ap (waits_left ss root) (map-append wait_view xs ys) ∙ left_append (waits_view xs) (waits_view ys)

  -- where nothing is left of those above, nothing is left of one that repeats
  abbrev pub AreSound : List Waiting → Type 0
  AreSound [] = Unit {0}
  AreSound (w ∷ ws) = (w.repeats ≡ true → left ws ≡ [] → rest_of ss root (wait_view w) ≡ []) × AreSound ws

  among_none : (w : Wait) (ws : List Wait) → IsAmong w ws → waits_left ss root ws ≡ [] → rest_of ss root w ≡ []
  among_none w ws (front, rest, e) h =
      let from : waits_left ss root (w ∷ rest) ≡ []
      = nil_left (waits_left ss root (w ∷ rest)) (waits_left ss root front)
      (sym (left_append front (w ∷ rest)) ∙ (ap (waits_left ss root) (sym e) ∙ h)) in
      sym (left_one w) ∙ nil_right (waits_left ss root rest) (waits_left ss root (w ∷ [])) (sym (left_append (w ∷ []) rest) ∙ from)

  pub marked_sound : (ws : List Waiting) → AreMarked ws → AreSound ws
  marked_sound [] h = tt
  marked_sound (w ∷ ws) h = (λ e none. among_none (wait_view w) (waits_view ws) (h.0 e) none, marked_sound ws h.1)

  -- those at the top in place of others of which the same is left
  swapped : (xs ys zs : List Waiting) → AreSound (xs ++ ys) → left zs ≡ left ys → AreSound zs → AreSound (xs ++ zs)
  swapped [] ys zs h e k = k
  swapped (x ∷ xs) ys zs h e k = (λ r none. h.0 r (same ∙ none), swapped xs ys zs h.1 e k)
    where
      same : left (xs ++ ys) ≡ left (xs ++ zs)
      same = left_both xs ys ∙ (ap (λ z. z ++ left xs) (sym e) ∙ sym (left_both xs zs))

  pub sound_none : (low : ℕ) (ws : List Waiting) → length ws ≡ low → AreSound (drop low ws)
  sound_none low ws e = subst AreSound (sym (ap (drop low) (sym (append-nil ws)) ∙ drop_at ws [] low e)) tt

  -- one is taken off, and what its segment selects is put there
  pub sound_next : (old mid new : List Waiting) (w : Waiting) (low : ℕ) → old ≡ mid ++ w ∷ [] → Puts mid new → left new ≡ left old
      → AreSound (drop low old) → AreSound (drop (min low (length mid)) new)
  sound_next old mid new w low e (put, f, marked) same h = by (nat_lt (length mid) low) refl
    where
      sound : AreSound put
      sound = marked_sound put marked

      in_place : left put ≡ left (w ∷ [])
      in_place =
          append_cancel_right (left put) (left (w ∷ [])) (left mid)
          (sym (ap left f ∙ left_both mid put) ∙ (same ∙ (ap left e ∙ left_both mid (w ∷ []))))

      by : (b : Bool) → nat_lt (length mid) low ≡ b → AreSound (drop (min low (length mid)) new)
      by true d =
          let l : length mid ≤ low = (let less : length mid < low = grind (arith, nat_tests) in omega (arith, less)) in
          subst AreSound
          (sym (ap (λ n. drop n new) (min-eq_right l) ∙ (ap (drop (length mid)) f ∙ drop_at mid put (length mid) refl))) sound
      by false d =
          let l : low ≤ length mid = ltb-false (length mid) low d in
          subst AreSound (sym (ap (λ n. drop n new) (min-eq_left l) ∙ (ap (drop low) f ∙ drop-append-le low mid put l)))
          (swapped (drop low mid) (w ∷ []) put (subst AreSound (ap (drop low) e ∙ drop-append-le low mid (w ∷ []) l) h) in_place sound)

  last_none : (xs : List Waiting) (w : Waiting) → w.repeats ≡ true → AreSound (xs ++ w ∷ []) → rest_of ss root (wait_view w) ≡ []
  last_none [] w r h = h.0 r refl
  last_none (x ∷ xs) w r h = last_none xs w r h.1

  module _ (old mid : List Waiting) (w : Waiting) (low : ℕ) (e : old ≡ mid ++ w ∷ []) (l : low ≤ length mid) (r : w.repeats ≡ true)
      (h : AreSound (drop low old)) where
    whole : AreSound (drop low mid ++ w ∷ [])
    whole = subst AreSound (ap (drop low) e ∙ drop-append-le low mid (w ∷ []) l) h

    nothing : rest_of ss root (wait_view w) ≡ []
    nothing = last_none (drop low mid) w r whole

    -- one that repeats is left out
    pub sound_skip : AreSound (drop low mid)
    sound_skip =
        subst AreSound (append-nil (drop low mid)) (swapped (drop low mid) (w ∷ []) [] whole (sym (left_one (wait_view w) ∙ nothing)) tt)

    pub left_skip : left mid ≡ left old
    left_skip =
        sym (ap (λ z. waits_left ss root (waits_view z)) e
        ∙ (left_both mid (w ∷ []) ∙ ap (λ z. z ++ left mid) (left_one (wait_view w) ∙ nothing)))

-- What waits on a stack, the first one last: what it selects, how long that takes, and whose strings it has.
use Rattle.std.proofs.Common.{◌≡◌, ℕ, suc, ◌+◌, ◌<◌, ◌≤◌, Bool, List, [], ◌∷◌, ◌++◌, reverse, map, drop, length, get_or}
use Rattle.std.proofs.Common.{refl, sym, ap, ◌∙◌, subst}
use Rattle.std.proofs.Common.{arith, append_assoc, append-nil, rules, Vec, Global, Option, None, Some, is_some}
use Rattle.std.proofs.lemmas.List.{map-append, reverse-append, reverse-reverse, length-append}
use Rattle.tinyjson.specs.Tree.{Tree}
use Rattle.tinyjson_path.specs.Nodes.{Part, Takes, part_view, parts_view, children, root_part}
use Rattle.tinyjson_path.specs.Queries.{Selects, one_by_one, segment_parts, selected_by, found_by, is_some_part, kept}
use Rattle.tinyjson_path.specs.Selecting.{from_each}
use Rattle.tinyjson_path.specs.Strings.{Texts, strings_in}
use Rattle.tinyjson_path.specs.Waiting.{Wait, wait_view, waits_view, rest_of, waits_at, waits_left, waits_parts, waits_strings, wants}
use Rattle.tinyjson_path.specs.declared.children.Wanted.TheVariants.{Containers}
use Rattle.tinyjson_path.specs.declared.node.Located.{Located}
use Rattle.tinyjson_path.specs.declared.waiting.Waiting.{Waiting}
use Rattle.tinyjson_view.proofs.Callers.{drop_at}
use Rattle.tinyjson_path.proofs.Parts.{each_append, each_of_each, visited_of, visited_is}
use Rattle.tinyjson_path.proofs.Selected.{AreWithin, are_both, are_first, are_last}
use Rattle.tinyjson_path.proofs.Stated.{segment_keeps}
use Rattle.tinyjson_path.proofs.Wanting.{each_container, fewer_kept, visited_scalar}
use Rattle.tinyjson_path.proofs.Within.{Within}
use Rattle.tinyjson_view.specs.Views.{tree_of}
use Rattle.tinyjson_view.specs.declared.view.ValueView.{ValueView}
use Rattle.tinyjson_path_query.specs.declared.query.Segment.{Segment, the_lemmas}
use Rattle.tinyjson_path_query.specs.declared.query.Segment.TheVariants as segment
use Rattle.tinyjson_path_query.specs.declared.query.Selector.{Selector}

pub waits_popped : (old mid : List Waiting) (w : Waiting) → old ≡ mid ++ w ∷ []
    → waits_view old ≡ waits_view mid ++ (w.segment, part_view w.node) ∷ []
waits_popped old mid w e = ap waits_view e ∙ map-append wait_view mid (w ∷ [])

-- a node that is taken off the end of a list, and put behind those that wait
pub put_behind : (nodes front : List Located) (n : Located) (old new : List Waiting) (i : ℕ) (b : Bool) (goal : List Wait)
    → nodes ≡ front ++ n ∷ [] → new ≡ old ++ record { node = n; segment = i; repeats = b } ∷ []
    → waits_view old ++ reverse (waits_at i (parts_view nodes)) ≡ goal
    → waits_view new ++ reverse (waits_at i (parts_view front)) ≡ goal
put_behind nodes front n old new i b goal e m h =
    let split : parts_view nodes ≡ parts_view front ++ part_view n ∷ [] = ap parts_view e ∙ map-append part_view front (n ∷ []) in
    let turned : reverse (waits_at i (parts_view nodes)) ≡ (i, part_view n) ∷ reverse (waits_at i (parts_view front))
    = ap (λ z. reverse (waits_at i z)) split
    ∙ (ap reverse (map-append (λ (p : Part). (i, p)) (parts_view front) (part_view n ∷ []))
    ∙ reverse-append (waits_at i (parts_view front)) ((i, part_view n) ∷ [])) in
    ap (λ z. z ++ reverse (waits_at i (parts_view front))) (waits_popped new old (record { node = n; segment = i; repeats = b }) m)
    ∙ (append_assoc (waits_view old) ((i, part_view n) ∷ []) (reverse (waits_at i (parts_view front)))
    ∙ (ap (λ z. waits_view old ++ z) (sym turned) ∙ h))

-- ---- what segments select from several parts

obo_none : (root : Tree) (fs : List Selects) → one_by_one root fs [] ≡ []
obo_none root [] = refl
obo_none root (f ∷ fs) = obo_none root fs

obo_append : (root : Tree) (fs : List Selects) (ps qs : List Part)
    → one_by_one root fs (ps ++ qs) ≡ one_by_one root fs ps ++ one_by_one root fs qs
obo_append root [] ps qs = refl
obo_append root (f ∷ fs) ps qs =
    ap (one_by_one root fs) (each_append (f root) ps qs) ∙ obo_append root fs (from_each (f root) ps) (from_each (f root) qs)

-- ---- how often the stack is popped at most

abbrev pub pops : Tree → List Selects → List Part → ℕ
pops root [] ps = length ps
pops root (f ∷ fs) ps = length (from_each visited_of ps) + pops root fs (from_each (f root) ps)

pops_none : (root : Tree) (fs : List Selects) → pops root fs [] ≡ 0
pops_none root [] = refl
pops_none root (f ∷ fs) = let more : pops root fs [] ≡ 0 = pops_none root fs in omega (arith, more)

pops_append : (root : Tree) (fs : List Selects) (ps qs : List Part) → pops root fs (ps ++ qs) ≡ pops root fs ps + pops root fs qs
pops_append root [] ps qs = length-append ps qs
pops_append root (f ∷ fs) ps qs =
    let seen : length (from_each visited_of (ps ++ qs)) ≡ length (from_each visited_of ps) + length (from_each visited_of qs)
    = ap length (each_append visited_of ps qs) ∙ length-append (from_each visited_of ps) (from_each visited_of qs) in
    let more : pops root fs (from_each (f root) (ps ++ qs)) ≡ pops root fs (from_each (f root) ps) + pops root fs (from_each (f root) qs)
    = ap (pops root fs) (each_append (f root) ps qs) ∙ pops_append root fs (from_each (f root) ps) (from_each (f root) qs) in
    omega (arith, seen, more)

-- ---- of those that wait

module _ (ss : List Segment) (root : Tree) where
  abbrev segments_from : ℕ → List Selects
  segments_from i = map segment_parts (drop i ss)

  abbrev pub pops_of : List Wait → ℕ
  pops_of [] = 0
  pops_of (w ∷ ws) = pops root (segments_from w.0) (w.1 ∷ []) + pops_of ws

  pops_of_append : (xs ys : List Wait) → pops_of (xs ++ ys) ≡ pops_of xs + pops_of ys
  pops_of_append [] ys = omega arith
  pops_of_append (x ∷ xs) ys =
      let more : pops_of (xs ++ ys) ≡ pops_of xs + pops_of ys = pops_of_append xs ys in omega (arith, more)

  pops_of_at : (i : ℕ) (ps : List Part) → pops_of (reverse (waits_at i ps)) ≡ pops root (segments_from i) ps
  pops_of_at i [] = sym (pops_none root (segments_from i))
  pops_of_at i (p ∷ ps) =
      let front : pops_of (reverse (waits_at i ps)) ≡ pops root (segments_from i) ps = pops_of_at i ps in
      let split : pops_of (reverse (waits_at i (p ∷ ps))) ≡ pops_of (reverse (waits_at i ps)) + pops_of ((i, p) ∷ [])
      = ap pops_of (reverse-append ((i, p) ∷ []) (waits_at i ps)) ∙ pops_of_append (reverse (waits_at i ps)) ((i, p) ∷ []) in
      let whole : pops root (segments_from i) (p ∷ ps) ≡ pops root (segments_from i) (p ∷ []) + pops root (segments_from i) ps
      = pops_append root (segments_from i) (p ∷ []) ps in
      omega (arith, front, split, whole)

  -- whoever is taken off
  pops_some : (fs : List Selects) (p : Part) → 0 < pops root fs (p ∷ [])
  pops_some [] p = omega arith
  pops_some (f ∷ fs) p =
      let some : length (from_each visited_of (p ∷ [])) ≡ suc (length (from_each visited_of (children p.path p.tree)))
      = ap length (append-nil (visited_of p) ∙ visited_is p.path p.tree) in
      omega (arith, some)

  pub less_popped : (ws mid : List Wait) (w : Wait) → ws ≡ mid ++ w ∷ [] → pops_of mid < pops_of ws
  less_popped ws mid w e =
      let was : pops_of ws ≡ pops_of mid + pops_of (w ∷ []) = ap pops_of e ∙ pops_of_append mid (w ∷ []) in
      let some : 0 < pops root (segments_from w.0) (w.1 ∷ []) = pops_some (segments_from w.0) w.1 in
      omega (arith, was, some)

  each_rest : (i : ℕ) (ps : List Part) → from_each (rest_of ss root) (waits_at i ps) ≡ one_by_one root (segments_from i) ps
  each_rest i [] = sym (obo_none root (segments_from i))
  each_rest i (p ∷ ps) =
      ap (λ z. one_by_one root (segments_from i) (p ∷ []) ++ z) (each_rest i ps) ∙ sym (obo_append root (segments_from i) (p ∷ []) ps)

  pub left_pushed : (mid : List Wait) (i : ℕ) (ps : List Part)
      → waits_left ss root (mid ++ reverse (waits_at i ps)) ≡ one_by_one root (segments_from i) ps ++ waits_left ss root mid
  left_pushed mid i ps =
      ap (from_each (rest_of ss root)) (reverse-append mid (reverse (waits_at i ps))
      ∙ ap (λ z. z ++ reverse mid) (reverse-reverse (waits_at i ps)))
      ∙ (each_append (rest_of ss root) (waits_at i ps) (reverse mid) ∙ ap (λ z. z ++ waits_left ss root mid) (each_rest i ps))

  pub left_popped : (ws mid : List Wait) (w : Wait) → ws ≡ mid ++ w ∷ []
      → waits_left ss root ws ≡ rest_of ss root w ++ waits_left ss root mid
  left_popped ws mid w e = ap (waits_left ss root) e ∙ ap (from_each (rest_of ss root)) (reverse-append mid (w ∷ []))

  -- the one part that waits at first
  pub left_first : (ws : List Wait) (t : Tree) → ws ≡ (0, root_part t) ∷ [] → waits_left ss root ws ≡ found_by ss root t
  left_first ws t e = ap (waits_left ss root) e ∙ append-nil (found_by ss root t)

  pub left_empty : (ws : List Wait) → ws ≡ [] → waits_left ss root ws ≡ []
  left_empty ws e = ap (waits_left ss root) e

  -- past the last segment the part itself is selected
  pub left_whole : (ws mid : List Wait) (i : ℕ) (p : Part) → ws ≡ mid ++ (i, p) ∷ [] → drop i ss ≡ []
      → waits_left ss root ws ≡ p ∷ waits_left ss root mid
  left_whole ws mid i p e d =
      left_popped ws mid (i, p) e ∙ ap (λ xs. one_by_one root (map segment_parts xs) (p ∷ []) ++ waits_left ss root mid) d

  module _ (i : ℕ) (s : Segment) (l : i < length ss) (at : s ≡ get_or ss i s) (sels : Vec Selector Global) (p : Part) where
    abbrev chosen : List Part
    chosen = selected_by sels.items root p

    abbrev below : List Part
    below = children p.path p.tree

    abbrev inner : List Part
    inner = kept (wants Containers) below

    child_selects : s ≡ segment.Child sels → segment_parts s root p ≡ chosen
    child_selects e = ap (λ x. segment_parts x root p) e ∙ search (rules, the_lemmas)

    descendant_selects : s ≡ segment.Descendant sels → (q : Part)
        → segment_parts s root q ≡ from_each (selected_by sels.items root) (visited_of q)
    descendant_selects e q = ap (λ x. segment_parts x root q) e ∙ search (rules, the_lemmas)

    from_here : segments_from i ≡ segment_parts s ∷ segments_from (i + 1)
    from_here = ap (map segment_parts) (drop_at ss i s l at)

    rest_here : rest_of ss root (i, p) ≡ one_by_one root (segments_from (i + 1)) (segment_parts s root p)
    rest_here =
        ap (λ fs. one_by_one root fs (p ∷ [])) from_here
        ∙ ap (one_by_one root (segments_from (i + 1))) (append-nil (segment_parts s root p))

    pub left_child : (ws mid new : List Wait) → s ≡ segment.Child sels → ws ≡ mid ++ (i, p) ∷ []
        → new ≡ mid ++ reverse (waits_at (i + 1) chosen) → waits_left ss root new ≡ waits_left ss root ws
    left_child ws mid new e popped pushed =
        ap (waits_left ss root) pushed
        ∙ (left_pushed mid (i + 1) chosen
        ∙ sym (left_popped ws mid (i, p) popped
        ∙ ap (λ z. z ++ waits_left ss root mid) (rest_here ∙ ap (one_by_one root (segments_from (i + 1))) (child_selects e))))

    seen : from_each visited_of (p ∷ []) ≡ p ∷ from_each visited_of below
    seen = append-nil (visited_of p) ∙ visited_is p.path p.tree

    pub less_child : (ws mid new : List Wait) → s ≡ segment.Child sels → ws ≡ mid ++ (i, p) ∷ []
        → new ≡ mid ++ reverse (waits_at (i + 1) chosen) → pops_of new < pops_of ws
    less_child ws mid new e popped pushed =
        let was : pops_of ws ≡ pops_of mid + pops_of ((i, p) ∷ []) = ap pops_of popped ∙ pops_of_append mid ((i, p) ∷ []) in
        let is : pops_of new ≡ pops_of mid + pops root (segments_from (i + 1)) chosen
        = ap pops_of pushed ∙ (pops_of_append mid (reverse (waits_at (i + 1) chosen))
        ∙ ap (λ n. pops_of mid + n) (pops_of_at (i + 1) chosen)) in
        let here : pops root (segments_from i) (p ∷ [])
        ≡ length (from_each visited_of (p ∷ [])) + pops root (segments_from (i + 1)) (from_each (segment_parts s root) (p ∷ []))
        = ap (λ fs. pops root fs (p ∷ [])) from_here in
        let more : pops root (segments_from (i + 1)) (from_each (segment_parts s root) (p ∷ [])) ≡ pops root (segments_from (i + 1)) chosen
        = ap (pops root (segments_from (i + 1))) (append-nil (segment_parts s root p) ∙ child_selects e) in
        let some : length (from_each visited_of (p ∷ [])) ≡ suc (length (from_each visited_of below)) = ap length seen in
        omega (arith, was, is, here, more, some)

    abbrev deeper : List Part
    deeper = from_each (selected_by sels.items root) (from_each visited_of below)

    each_below : s ≡ segment.Descendant sels → (qs : List Part)
        → from_each (segment_parts s root) qs ≡ from_each (selected_by sels.items root) (from_each visited_of qs)
    each_below e qs = same qs ∙ sym (each_of_each (selected_by sels.items root) visited_of qs)
      where
        same : (qs : List Part)
            → from_each (segment_parts s root) qs ≡ from_each (λ q. from_each (selected_by sels.items root) (visited_of q)) qs
        same [] = refl
        same (q ∷ qs) =
            ap (λ z. z ++ from_each (segment_parts s root) qs) (descendant_selects e q)
            ∙ ap (λ z. from_each (selected_by sels.items root) (visited_of q) ++ z) (same qs)

    each_inner : s ≡ segment.Descendant sels
        → from_each (segment_parts s root) inner ≡ from_each (selected_by sels.items root) (from_each visited_of below)
    each_inner e =
        each_container (segment_parts s root) (λ q h. descendant_selects e q ∙ visited_scalar sels.items root q h) below
        ∙ each_below e below

    both : s ≡ segment.Descendant sels → segment_parts s root p ≡ chosen ++ deeper
    both e = descendant_selects e p ∙ ap (from_each (selected_by sels.items root)) (visited_is p.path p.tree)

    pub left_descendant : (ws mid low new : List Wait) → s ≡ segment.Descendant sels → ws ≡ mid ++ (i, p) ∷ []
        → low ≡ mid ++ reverse (waits_at i inner) → new ≡ low ++ reverse (waits_at (i + 1) chosen)
        → waits_left ss root new ≡ waits_left ss root ws
    left_descendant ws mid low new e popped lower pushed =
        let fs : List Selects = segments_from (i + 1) in
        let old : List Part = waits_left ss root mid in
        ap (waits_left ss root) pushed
        ∙ (left_pushed low (i + 1) chosen
        ∙ (ap (λ z. one_by_one root fs chosen ++ z) (ap (waits_left ss root) lower ∙ (left_pushed mid i inner
        ∙ ap (λ z. z ++ old) (ap (λ gs. one_by_one root gs inner) from_here ∙ ap (one_by_one root fs) (each_inner e))))
        ∙ (sym (append_assoc (one_by_one root fs chosen) (one_by_one root fs deeper) old)
        ∙ (ap (λ z. z ++ old) (sym (obo_append root fs chosen deeper))
        ∙ sym (left_popped ws mid (i, p) popped ∙ ap (λ z. z ++ old) (rest_here ∙ ap (one_by_one root fs) (both e)))))))

    pub less_descendant : (ws mid low new : List Wait) → s ≡ segment.Descendant sels → ws ≡ mid ++ (i, p) ∷ []
        → low ≡ mid ++ reverse (waits_at i inner) → new ≡ low ++ reverse (waits_at (i + 1) chosen) → pops_of new < pops_of ws
    less_descendant ws mid low new e popped lower pushed =
        let fs : List Selects = segments_from (i + 1) in
        let was : pops_of ws ≡ pops_of mid + pops_of ((i, p) ∷ []) = ap pops_of popped ∙ pops_of_append mid ((i, p) ∷ []) in
        let is : pops_of new ≡ pops_of low + pops root fs chosen
        = ap pops_of pushed
        ∙ (pops_of_append low (reverse (waits_at (i + 1) chosen)) ∙ ap (λ n. pops_of low + n) (pops_of_at (i + 1) chosen)) in
        let under : pops_of low ≡ pops_of mid + pops root (segments_from i) inner
        = ap pops_of lower ∙ (pops_of_append mid (reverse (waits_at i inner)) ∙ ap (λ n. pops_of mid + n) (pops_of_at i inner)) in
        let each : pops root (segments_from i) inner ≡ length (from_each visited_of inner) + pops root fs deeper
        = ap (λ gs. pops root gs inner) from_here
        ∙ ap (λ qs. length (from_each visited_of inner) + pops root fs qs) (each_inner e) in
        let fewer : length (from_each visited_of inner) ≤ length (from_each visited_of below)
        = fewer_kept visited_of (wants Containers) below in
        let here : pops root (segments_from i) (p ∷ [])
        ≡ length (from_each visited_of (p ∷ [])) + pops root fs (from_each (segment_parts s root) (p ∷ []))
        = ap (λ gs. pops root gs (p ∷ [])) from_here in
        let more : pops root fs (from_each (segment_parts s root) (p ∷ [])) ≡ pops root fs chosen + pops root fs deeper
        = ap (pops root fs) (append-nil (segment_parts s root p) ∙ both e) ∙ pops_append root fs chosen deeper in
        let some : length (from_each visited_of (p ∷ [])) ≡ suc (length (from_each visited_of below)) = ap length seen in
        omega (arith, was, is, under, each, fewer, here, more, some)

-- ---- one by one

-- what came, and what is still to come
pub one_more : (ps old new goal : List Part) (p : Part) → old ≡ p ∷ new → ps ++ old ≡ goal → (ps ++ p ∷ []) ++ new ≡ goal
one_more ps old new goal p t h = append_assoc ps (p ∷ []) new ∙ (ap (λ z. ps ++ z) (sym t) ∙ h)

pub one_less : (old new : List Part) (p : Part) → old ≡ p ∷ new → length new < length old
one_less old new p t = let more : length old ≡ suc (length new) = ap length t in omega (arith, more)

pub all_came : (ps old goal : List Part) → old ≡ [] → ps ++ old ≡ goal → ps ≡ goal
all_came ps old goal e h = sym (append-nil ps) ∙ (ap (λ z. ps ++ z) (sym e) ∙ h)

-- of a root that is the same
pub next_at : (ss : List Segment) (ws vs : List Wait) (o : Option Located) {r s : ValueView} → r ≡ s
    → Takes (waits_left ss (tree_of r) ws) (waits_left ss (tree_of r) vs) o
    → Takes (waits_left ss (tree_of s) ws) (waits_left ss (tree_of s) vs) o
next_at ss ws vs o e t = subst (λ x. Takes (waits_left ss (tree_of x) ws) (waits_left ss (tree_of x) vs) o) e t

pub is_next : (old new : List Part) (o : Option Located) → Takes old new o → is_some o ≡ is_some_part old
is_next old new (Some n) t = ap is_some_part (sym t)
is_next old new None t = ap is_some_part (sym t.0)

-- ---- whose strings they have

-- of the one part that waits at first
pub first_strings : (ws : List Wait) (t : Tree) → ws ≡ (0, root_part t) ∷ [] → waits_strings ws ≡ strings_in t
first_strings ws t e = ap waits_strings e ∙ append-nil (strings_in t)

-- what selectors select from a part is within it
pub chosen_within : (sels : Vec Selector Global) (root : Tree) (p : Part) → AreWithin (strings_in p.tree) (selected_by sels.items root p)
chosen_within sels root p = subst (AreWithin (strings_in p.tree)) same (segment_keeps (segment.Child sels) root p)
  where
    same : segment_parts (segment.Child sels) root p ≡ selected_by sels.items root p
    same = search (rules, the_lemmas)

module _ (zs : Texts) where
  pub are_popped : (ws mid : List Wait) (w : Wait) → ws ≡ mid ++ w ∷ [] → AreWithin zs (waits_parts ws)
      → AreWithin zs (waits_parts mid) × Within (strings_in w.1.tree) zs
  are_popped ws mid w e h =
      let whole = subst (AreWithin zs) (ap waits_parts e ∙ map-append (λ (v : Wait). v.1) mid (w ∷ [])) h in
      (are_first zs (waits_parts mid) (w.1 ∷ []) whole, (are_last zs (waits_parts mid) (w.1 ∷ []) whole).0)

  are_at : (i : ℕ) (ps : List Part) → AreWithin zs ps → AreWithin zs (waits_parts (reverse (waits_at i ps)))
  are_at i [] h = tt
  are_at i (p ∷ ps) h =
      subst (AreWithin zs)
      (sym (ap waits_parts (reverse-append ((i, p) ∷ []) (waits_at i ps))
      ∙ map-append (λ (v : Wait). v.1) (reverse (waits_at i ps)) ((i, p) ∷ [])))
      (are_both zs (waits_parts (reverse (waits_at i ps))) (p ∷ []) (are_at i ps h.1) (h.0, tt))

  pub are_pushed : (mid new : List Wait) (i : ℕ) (ps : List Part) → new ≡ mid ++ reverse (waits_at i ps) → AreWithin zs (waits_parts mid)
      → AreWithin zs ps → AreWithin zs (waits_parts new)
  are_pushed mid new i ps e h k =
      subst (AreWithin zs) (sym (ap waits_parts e ∙ map-append (λ (v : Wait). v.1) mid (reverse (waits_at i ps))))
      (are_both zs (waits_parts mid) (waits_parts (reverse (waits_at i ps))) h (are_at i ps k))

-- Members put one after the other, each above those before it.
use Rattle.std.proofs.Common.{◌≡◌, ℕ, List, Less, Greater, refl, ap, ◌∙◌}
use Rattle.std.specs.Prelude.{⊤}
use Rattle.std.specs.Ordering.{ordering_reverse}
use Rattle.tinyjson_grammar.specs.Tree.{Tree, Members, no_members, member, key_cmp, put}
use Rattle.tinyjson_grammar.proofs.Members.{key_total, flip}

key_greater : (k l : List ℕ) → key_cmp k l ≡ Less → key_cmp l k ≡ Greater
key_greater k l h = key_total.antisymm l k ∙ ap ordering_reverse h

abbrev pub join : Members → Members → Members
join no_members ns = ns
join (member k t ms) ns = member k t (join ms ns)

-- the key is above those of the members
abbrev pub IsAbove : List ℕ → Members → Type 0
IsAbove k no_members = ⊤
IsAbove k (member l u ms) = (key_cmp k l ≡ Greater) × IsAbove k ms

pub put_above : (k : List ℕ) (t : Tree) (ms : Members) → IsAbove k ms → put k t ms ≡ join ms (member k t no_members)
put_above k t no_members h = refl
put_above k t (member l u ms) h = rw h.0 (ap (member l u) (put_above k t ms h.1))

pub join_join : (ms ns os : Members) → join (join ms ns) os ≡ join ms (join ns os)
join_join no_members ns os = refl
join_join (member k t ms) ns os = ap (member k t) (join_join ms ns os)

pub above_join : (k l : List ℕ) (t : Tree) (ms : Members) → key_cmp k l ≡ Less → IsAbove k ms → IsAbove l (join ms (member k t no_members))
above_join k l t no_members e h = (key_greater k l e, tt)
above_join k l t (member m u ms) e h = (key_greater m l (key_total.trans m k l (flip k m h.0) e), above_join k l t ms e h.1)

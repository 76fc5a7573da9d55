-- What a merge of documents under way has still to pass. For private contracts.
use Rattle.std.specs.Prelude.{◌≡◌, ℕ, ◌+◌, List, [], ◌∷◌, Option, Some, None}
use Rattle.tinyjson.specs.Events.{Open, in_array, at_key, at_value, Puts}
use Rattle.tinyjson.specs.Soundness.{IsBelow, IsSorted}
use Rattle.tinyjson.specs.Tree.{Tree, object, Members, no_members, member, put}
use Rattle.tinyjson_document.specs.Comparing.{members_weight}
use Rattle.tinyjson_document.specs.Document.{members_left}
use Rattle.tinyjson_document.specs.Replaying.{put_members}
use Rattle.tinyjson_document.specs.declared.iterators.Members.{Members as MembersLeft}
use Rattle.tinyjson_patch.specs.Merge.{merge_members}
use Rattle.tinyjson_patch.specs.declared.merge_document.Left.{Left}

-- the members of the target that are left
abbrev pub had : Option MembersLeft → Members
had None = no_members
had (Some ms) = members_left ms

-- what is left of an object, merged
abbrev pub merged_left : Left → Members
merged_left l = merge_members (had l.target) (members_left l.patch)

-- The open objects await the value u, the innermost first. With it and all that is left, t is put where os are open.
abbrev pub Encloses : List Left → List Open → List Open → Tree → Tree → Type 0
Encloses [] fs os u t = (fs ≡ os) × (u ≡ t)
Encloses (l ∷ ls) (at_value ns k ∷ fs) os u t = Encloses ls fs os (object (put_members (put k u ns) (merged_left l))) t
Encloses (l ∷ ls) _ os u t = ⊥

-- The events have all of t but what is left; nothing is left: t was put where os are open.
abbrev pub Waits : {E : Type 0} → (E → List Open → Type 0) → (E → Tree → Type 0) → List Open → Tree → List Left → E → Type 0
Waits holds is os t [] e = Puts holds is os t e
Waits holds is os t (l ∷ ls) e =
    (ns : Members) × (fs : List Open) × holds e (at_key ns ∷ fs) × Encloses ls fs os (object (put_members ns (merged_left l))) t

-- the tree at the key before the members, if there is one
abbrev pub at_first : List ℕ → Option Tree → Members → Members
at_first k None ms = ms
at_first k (Some t) ms = member k t ms

-- The members ns and what is merged of ms are the members os and what is merged of what is left: what the target has at the
-- key k and above it.
pub record Leads (k : List ℕ) (ns ms os : Members) (old : Option Tree) (above : Members) : Type 0 where
  pub below : ∥ IsBelow k above ∥₁
  pub merged : (p : Tree) (ps : Members) → IsSorted (member k p ps)
      → put_members ns (merge_members ms (member k p ps)) ≡ put_members os (merge_members (at_first k old above) (member k p ps))

-- how much is left of the patch
abbrev pub left_weight : List Left → ℕ
left_weight [] = 0
left_weight (l ∷ ls) = 1 + members_weight (members_left l.patch) + left_weight ls

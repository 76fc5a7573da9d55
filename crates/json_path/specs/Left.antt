-- What is left to write of a tree without some places. For private contracts.
use Rattle.std.specs.Prelude.{ℕ, ◌+◌, Bool, List, [], ◌∷◌, ◌++◌, Option, None, Result, MatchResult, encode_utf8_all}
use Rattle.tinyjson.specs.Text.{items_text, members_text}
use Rattle.tinyjson.specs.Tree.{Items, Members}
use Rattle.tinyjson.specs.Written.{Written, WrittenPart}
use Rattle.tinyjson_document.specs.Comparing.{items_weight, members_weight}
use Rattle.tinyjson_document.specs.Document.{items_left, members_left}
use Rattle.tinyjson_path.specs.Nodes.{Step, path_view}
use Rattle.json_path.specs.Without.{items_without, members_without}
use Rattle.json_path.specs.declared.rest.ItemsLeft.{ItemsLeft}
use Rattle.json_path.specs.declared.rest.MembersLeft.{MembersLeft}
use Rattle.json_path.specs.declared.rest.Left.{Left}
use Rattle.json_path.specs.declared.rest.Left.TheVariants.{Items as OfItems, Members as OfMembers}

-- on `Ok` the bytes are written but for the rest, and on `Err` a prefix of them
abbrev pub Goes : {T E : Type 0} → Option (List ℕ) → Option (List ℕ) → List ℕ → List ℕ → Result T E → Type 0
Goes old new bytes rest result = MatchResult result (λ _. Written old new bytes rest) (λ _. WrittenPart old new bytes)

module _ (gone : List Step → Bool) where
  -- the items from this index on, and the closing bracket
  abbrev pub items_bytes : List Step → ℕ → Bool → Items → List ℕ
  items_bytes path i is_first ts = encode_utf8_all (items_text None 1 is_first (items_without gone path i ts) ++ 93 ∷ [])

  abbrev pub members_bytes : List Step → Bool → Members → List ℕ
  members_bytes path is_first ms = encode_utf8_all (members_text None 1 is_first (members_without gone path ms) ++ 125 ∷ [])

  abbrev pub items_left_bytes : ItemsLeft → List ℕ
  items_left_bytes l = items_bytes (path_view l.array.value) l.index l.is_first (items_left l.items)

  abbrev pub members_left_bytes : MembersLeft → List ℕ
  members_left_bytes l = members_bytes (path_view l.object.value) l.is_first (members_left l.members)

  abbrev pub left_bytes : Left → List ℕ
  left_bytes (OfItems l) = items_left_bytes l
  left_bytes (OfMembers l) = members_left_bytes l

  -- what is left of open containers, the innermost one last
  abbrev pub stack_bytes : List Left → List ℕ
  stack_bytes [] = []
  stack_bytes (l ∷ ls) = stack_bytes ls ++ left_bytes l

-- ---- how many steps that takes

abbrev pub items_left_weight : ItemsLeft → ℕ
items_left_weight l = 1 + items_weight (items_left l.items)

abbrev pub members_left_weight : MembersLeft → ℕ
members_left_weight l = 1 + members_weight (members_left l.members)

abbrev pub left_weight : Left → ℕ
left_weight (OfItems l) = items_left_weight l
left_weight (OfMembers l) = members_left_weight l

abbrev pub stack_weight : List Left → ℕ
stack_weight [] = 0
stack_weight (l ∷ ls) = left_weight l + stack_weight ls

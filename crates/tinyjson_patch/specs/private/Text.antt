-- What is left to write of a value that was changed. For private contracts.
use Rattle.std.specs.Prelude.{ℕ, ◌+◌, Bool, List, [], ◌∷◌, ◌++◌, Option, None, Result, MatchResult, encode_utf8_all}
use Rattle.std.specs.VecDeque.Iter.{deque_iter_rest}
use Rattle.tinyjson.specs.Text.{items_text, members_text}
use Rattle.tinyjson.specs.Tree.{Items, Members}
use Rattle.tinyjson.specs.Written.{Written, WrittenPart}
use Rattle.tinyjson_document.specs.Comparing.{items_weight, members_weight}
use Rattle.tinyjson_patch.specs.private.Edited.{items_tree}
use Rattle.tinyjson_patch.specs.private.Writing.{listed}
use Rattle.tinyjson_patch.specs.declared.edit.text.Rest.{Rest}
use Rattle.tinyjson_patch.specs.declared.edit.text.Rest.TheVariants as rest

-- on `Ok` the bytes are written but for the rest, and on `Err` a prefix of them
abbrev pub Goes : {T E : Type 0} → Option (List ℕ) → Option (List ℕ) → List ℕ → List ℕ → Result T E → Type 0
Goes old new bytes rest result = MatchResult result (λ _. Written old new bytes rest) (λ _. WrittenPart old new bytes)

-- the items, and the closing bracket
abbrev pub items_bytes : Bool → Items → List ℕ
items_bytes is_first ts = encode_utf8_all (items_text None 1 is_first ts ++ 93 ∷ [])

abbrev pub members_bytes : Bool → Members → List ℕ
members_bytes is_first ms = encode_utf8_all (members_text None 1 is_first ms ++ 125 ∷ [])

abbrev pub rest_bytes : Rest → List ℕ
rest_bytes (rest.Items is first) = items_bytes first (items_tree (deque_iter_rest is))
rest_bytes (rest.Members ms first) = members_bytes first (listed ms)

-- what is left of open containers, the innermost one last
abbrev pub stack_bytes : List Rest → List ℕ
stack_bytes [] = []
stack_bytes (r ∷ rs) = stack_bytes rs ++ rest_bytes r

-- ---- how many steps that takes

abbrev pub rest_weight : Rest → ℕ
rest_weight (rest.Items is first) = 1 + items_weight (items_tree (deque_iter_rest is))
rest_weight (rest.Members ms first) = 1 + members_weight (listed ms)

abbrev pub stack_weight : List Rest → ℕ
stack_weight [] = 0
stack_weight (r ∷ rs) = rest_weight r + stack_weight rs

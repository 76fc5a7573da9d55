-- What a walk has left to write, and how many steps that takes. For private contracts.
use Rattle.std.specs.Prelude.{◌≡◌, ℕ, zero, suc, ◌+◌, ◌-◌, nat_eq, Bool, false, not, ◌&&◌, cond, codes, List, [], ◌∷◌, ◌++◌, Option, Result}
use Rattle.std.specs.Prelude.{MatchResult}
use Rattle.std.specs.Prelude.{length, reverse, encode_utf8_all}
use Rattle.std.specs.List.{sum_by}
use Rattle.tinyjson_number.specs.Text.{decimal_text}
use Rattle.tinyjson_grammar.specs.Characters.{begin_array, begin_object, end_array, end_object}
use Rattle.tinyjson_grammar.specs.Tree.{Tree, null, boolean, number, string, array, object, Items, Members}
use Rattle.tinyjson.specs.Indent.{indent_of}
use Rattle.tinyjson_grammar.specs.Text.{items_text, members_text, quoted, closing, has_no_items, has_no_members}
use Rattle.tinyjson_output.specs.Buffer.{buffered, Output, Sent, SentPart}
use Rattle.tinyjson_cells.specs.Cell.{Are, AreMembers}
use Rattle.tinyjson_cells.specs.Order.{part}
use Rattle.tinyjson_cells.specs.declared.store.Cell.{Cell}
use Rattle.tinyjson_cells.specs.declared.store.Cell.TheVariants as node
use Rattle.tinyjson_cells.specs.declared.store.Store.{Store}
use Rattle.tinyjson_document.specs.declared.walk.Rest.{Rest}
use Rattle.tinyjson_document.specs.declared.walk.Rest.TheVariants as rest
use Rattle.tinyjson_document.specs.declared.walk.Walk.{Walk}

-- the text of a scalar, or the opening bracket of a container
abbrev pub head : Tree → List ℕ
head null = codes "null"
head (boolean b) = cond b (codes "true") (codes "false")
head (number d) = decimal_text d
head (string cs) = quoted cs
head (array ts) = begin_array ∷ []
head (object ms) = begin_object ∷ []

-- a container that is not empty
abbrev pub holds_others : Cell → Bool
holds_others (node.Array p) = not (nat_eq p.from p.to)
holds_others (node.Object p) = not (nat_eq p.from p.to)
holds_others _ = false

module _ (w : Option (List ℕ)) where
  -- what is left of a container at the level k
  abbrev pub IsRest : ℕ → Store → Rest → List ℕ → Type 0
  IsRest k s (rest.Items ns first) xs =
      (ts : Items) × Are s ts ns.now × (xs ≡ items_text w (k + 1) first ts ++ closing w k (first && has_no_items ts) end_array)
  IsRest k s (rest.Members es first) xs =
      (ms : Members) × AreMembers s ms es.now
      × (xs ≡ members_text w (k + 1) first ms ++ closing w k (first && has_no_members ms) end_object)

  -- what is left of the open containers, the innermost first
  abbrev pub AreLeft : Store → List Rest → List ℕ → Type 0
  AreLeft s [] xs = xs ≡ []
  AreLeft s (r ∷ rs) xs = (own : List ℕ) × (outer : List ℕ) × (xs ≡ own ++ outer) × IsRest (length rs) s r own × AreLeft s rs outer

  -- all of the text is written but what is left
  pub record Advanced (s : Store) (old new : Output) (xs : List ℕ) (rs : List Rest) : Type 0 where
    pub left : List ℕ
    pub are_left : AreLeft s rs left
    pub sent : Sent old new (encode_utf8_all xs) (encode_utf8_all left)

  -- `Ok`: that; `Err`: a prefix of it is written
  abbrev pub AdvancesFrom : {T E : Type 0} → Store → Output → Output → List ℕ → List Rest → Result T E → Type 0
  AdvancesFrom s old new xs rs result =
      MatchResult result (λ _. Advanced s old new xs rs) (λ _. SentPart old new (encode_utf8_all xs))

abbrev pub Advances : {W T E : Type 0} → (W → Option (List ℕ)) → W → W → Walk → Walk → List ℕ → Result T E → Type 0
Advances contents p q old new xs result =
    AdvancesFrom (indent_of old.indent) old.store.now (contents p, buffered old.buffer) (contents q, buffered new.buffer) xs
    (reverse new.stack.items) result

-- `Advances`, with what is left of the innermost container, which is not on the stack
abbrev pub Passes : {W E : Type 0} → (W → Option (List ℕ)) → W → W → Walk → Walk → List ℕ → Result Rest E → Type 0
Passes contents p q old new xs result =
    let before : Output = (contents p, buffered old.buffer) in
    let after : Output = (contents q, buffered new.buffer) in
    MatchResult result (λ r. Advanced (indent_of old.indent) old.store.now before after xs (r ∷ reverse old.stack.items))
    (λ _. SentPart before after (encode_utf8_all xs))

-- the steps for a value in which at most this many containers are nested
abbrev pub cost : Store → ℕ → Cell → ℕ
cost s zero n = 1
cost s (suc f) node.Null = 1
cost s (suc f) (node.Boolean b) = 1
cost s (suc f) (node.Short p) = 1
cost s (suc f) (node.Kept i) = 1
cost s (suc f) (node.String p) = 1
cost s (suc f) (node.Array p) = suc (suc (sum_by (cost s f) (part s.items.items p)))
cost s (suc f) (node.Object p) = suc (suc (sum_by (λ e. cost s f e.value) (part s.members.items p)))

abbrev pub rest_cost : Store → ℕ → Rest → ℕ
rest_cost s f (rest.Items ns first) = suc (sum_by (cost s f) ns.now)
rest_cost s f (rest.Members es first) = suc (sum_by (λ e. cost s f e.value) es.now)

abbrev pub left_cost : Store → ℕ → List Rest → ℕ
left_cost s most [] = 0
left_cost s most (r ∷ rs) = rest_cost s (most - suc (length rs)) r + left_cost s most rs

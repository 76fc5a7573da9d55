-- The operations of a patch while they are found; for private contracts.
use Rattle.std.specs.Prelude.{◌≡◌, ◌⊎◌, ◌≤◌, ℕ, suc, List, [], ◌∷◌, ◌++◌, Option, Some, None, Ok, length, map}
use Rattle.tinyjson.specs.Soundness.{IsSorted}
use Rattle.tinyjson.specs.Tree.{Tree, array, object, Members, find}
use Rattle.tinyjson.specs.View.{view}
use Rattle.tinyjson_patch.specs.Document.{token_limit}
use Rattle.tinyjson_patch.specs.Operation.{Action, add, remove, replace, move, copy, test, applied}
use Rattle.tinyjson_pointer.specs.Index.{index_of}
use Rattle.tinyjson_pointer.specs.Tokens.{tokens_of}
use Rattle.tinyjson_view.specs.Views.{trees_of}
use Rattle.tinyjson_view.specs.declared.view.ValueView.{ValueView}
use Rattle.tinyjson_diff.specs.Patching.{path_of, AreApart, AreLikeContainers, IsDifference}
use Rattle.tinyjson_diff.specs.declared.step.Change.{Change}
use Rattle.tinyjson_diff.specs.declared.step.Change.TheVariants as change
use Rattle.tinyjson_diff.specs.declared.step.Step.{Step}

abbrev pub changed_by : Change → List (List ℕ) → Action
changed_by (change.Add v) path = add path (view v)
changed_by change.Remove path = remove path
changed_by (change.Replace v) path = replace path (view v)

abbrev pub action_of : Step → Action
action_of s = changed_by s.change (tokens_of s.path)

abbrev pub actions_of : List Step → List Action
actions_of = map action_of

-- the same on the part that the token names
abbrev pub below : List ℕ → Action → Action
below k (add path u) = add (k ∷ path) u
below k (remove path) = remove (k ∷ path)
below k (replace path u) = replace (k ∷ path) u
below k (move from path) = move (k ∷ from) (k ∷ path)
below k (copy from path) = copy (k ∷ from) (k ∷ path)
below k (test path u) = test (k ∷ path) u

-- each action is the other list's on a part that such a token names
abbrev pub AreBelow : (List ℕ → Type 0) → List Action → List Action → Type 0
AreBelow IsName [] [] = Unit {0}
AreBelow IsName (a ∷ rest) (b ∷ more) = ((k : List ℕ) × IsName k × (b ≡ below k a)) × AreBelow IsName rest more
AreBelow IsName _ _ = ⊥

-- The steps are the old ones, and after them the inner ones on a part that such a token names.
abbrev pub AppendsBelow : (List ℕ → Type 0) → (old inner new : List Step) → Type 0
AppendsBelow IsName old inner new =
    (more : List Action) × (actions_of new ≡ actions_of old ++ more) × AreBelow IsName (actions_of inner) more

-- the actions lead from t to u
abbrev pub Lead : List Action → Tree → Tree → Type 0
Lead [] t u = t ≡ u
Lead (a ∷ rest) t u = (v : Tree) × (applied a t ≡ Ok v) × Lead rest v u

-- the path has at most that many tokens, and the action does there what the trees need
abbrev pub IsFit : ℕ → Tree → Tree → Action → Type 0
IsFit room t u a = (length (path_of a) ≤ room) × IsDifference room t u a

abbrev pub AreFit : ℕ → Tree → Tree → List Action → Type 0
AreFit room t u [] = Unit {0}
AreFit room t u (a ∷ rest) = IsFit room t u a × AreFit room t u rest

-- the actions that lead from t to u, whose paths have at most that many tokens
pub record Changes (room : ℕ) (t u : Tree) (actions : List Action) : Type 0 where
  pub lead : Lead actions t u
  pub fit : AreFit room t u actions
  pub apart : AreApart actions

-- The actions replace t by u where they may: where no token is left, and where t and u are no containers of one kind.
abbrev pub IsReplacement : Tree → Tree → List Action → Type 0
IsReplacement t u actions =
    (room : ℕ) → ((0 ≡ room) ⊎ ¬ AreLikeContainers (Some t) (Some u)) → Changes room t u actions

-- each action is on a part that such a token names
abbrev pub AreAt : (List ℕ → Type 0) → List Action → Type 0
AreAt IsName [] = Unit {0}
AreAt IsName (a ∷ rest) = ((k : List ℕ) × (ks : List (List ℕ)) × IsName k × (path_of a ≡ k ∷ ks)) × AreAt IsName rest

-- The first actions from t to u, on parts with such tokens. They lead to `now`.
pub record Begun (room : ℕ) (t u now : Tree) (IsName : List ℕ → Type 0) (actions : List Action) : Type 0 where
  pub lead : Lead actions t now
  pub fit : AreFit (suc room) t u actions
  pub apart : AreApart actions
  pub names : AreAt IsName actions

abbrev pub IsShort : Action → Type 0
IsShort a = length (path_of a) ≤ token_limit

abbrev pub AreShort : List Action → Type 0
AreShort [] = Unit {0}
AreShort (a ∷ rest) = IsShort a × AreShort rest

-- the step is the change of a part that such a token names
abbrev pub IsStepAt : (List ℕ → Type 0) → Change → Step → Type 0
IsStepAt IsName c s = (k : List ℕ) × IsName k × (action_of s ≡ changed_by c (k ∷ []))

-- what the old object has at a key that the new one has, too
abbrev pub kept : Option Tree → Option Tree → Option Tree
kept o None = None
kept o (Some t) = o

-- The actions remove the members whose keys the new object has not.
abbrev pub RemoveMembers : Members → Members → List Action → Type 0
RemoveMembers os ns actions =
    (room : ℕ) → (now : Members) × Begun room (object os) (object ns) (object now) (λ k. find k ns ≡ None) actions
    × IsSorted now × ((q : List ℕ) → find q now ≡ kept (find q os) (find q ns))

-- the token is the index of an item that is not among the first ones
abbrev pub IsPast : ℕ → List ℕ → Type 0
IsPast count k = (i : ℕ) × (index_of k ≡ Some i) × (count ≤ i)

-- The actions remove the items beyond the length of the new array; these are left.
pub record RemoveItems (vs ws : List ValueView) (actions : List Action) (left : List ValueView) : Type 0 where
  pub gone : List ValueView
  pub split : vs ≡ left ++ gone
  pub short : length left ≤ length ws
  pub full : (gone ≡ []) ⊎ (length left ≡ length ws)
  pub begun : (room : ℕ) → Begun room (array (trees_of vs)) (array (trees_of ws)) (array (trees_of left)) (IsPast (length ws)) actions

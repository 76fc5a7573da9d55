-- What the operations that are left may still copy.
use Rattle.std.proofs.Common.{◌≡◌, ◌≤◌, ◌<◌, ◌+◌, ℕ, List, [], ◌∷◌, Option, Some, None, Result, Ok, Err, map, refl, sym, ap, ◌∙◌, subst, arith}
use Rattle.std.specs.Borrow.{Bor}
use Rattle.std.specs.declared.io.Error.{Error}
use Rattle.tinyjson_document.specs.Document.{document_tree}
use Rattle.tinyjson_document.specs.declared.document.Document.{Document}
use Rattle.tinyjson_grammar.specs.Tree.{Tree}
use Rattle.tinyjson_patch.specs.Operation.{Action, action_of, applied}
use Rattle.tinyjson_patch.specs.declared.operation.Operation.{Operation}
use Rattle.tinyjson_patch.specs.declared.operation.Reason.{Reason}
use Rattle.tinyjson_patch.specs.Copies.{copies, copies_after, all_copies, IsWithin}
use Rattle.tinyjson_patch.specs.private.Counting.{Takes, IsTaken, TakesFirst, TakesGiven, TakesWritten}
use Rattle.tinyjson_patch.specs.Patched.{WritesOrLeaves}
use Rattle.tinyjson_patch.specs.declared.edit.First.{First}
use Rattle.tinyjson_patch.specs.declared.edit.First.TheVariants.{Written, Left}
use Rattle.tinyjson_patch.specs.declared.edit.error.EditError.{EditError}
use Rattle.tinyjson_patch.specs.declared.edit.error.EditError.TheVariants.{Failed, TooMuch, OutOfMemory}

-- the operations of a patch, of which the rest is left for s
abbrev pub AreTaken : ℕ → ℕ → List Operation → Tree → List Operation → Tree → Type 0
AreTaken before left all t rest s = IsTaken before left (map action_of all) t (map action_of rest) s

module _ (before left : ℕ) (all rest others : List Operation) (o : Operation) (t s : Tree) (split : rest ≡ o ∷ others)
    (so_far : AreTaken before left all t rest s) where
  first_copies : all_copies (map action_of rest) s
      ≡ copies (action_of o) s + copies_after (applied (action_of o) s) (all_copies (map action_of others))
  first_copies = ap (λ os. all_copies (map action_of os) s) split

  pub one_taken : (left' : ℕ) (s' : Tree) → Takes left (copies (action_of o) s) (Some left') → applied (action_of o) s ≡ Ok s'
      → AreTaken before left' all t others s'
  one_taken left' s' h e =
      let c : all_copies (map action_of rest) s ≡ copies (action_of o) s + all_copies (map action_of others) s'
      = first_copies ∙ ap (λ r. copies (action_of o) s + copies_after r (all_copies (map action_of others))) e in
      omega (arith, c, h, so_far)

  pub failed_within : (left' : ℕ) (r : Reason) → Takes left (copies (action_of o) s) (Some left') → applied (action_of o) s ≡ Err r
      → all_copies (map action_of all) t ≤ before
  failed_within left' r h e =
      let c : all_copies (map action_of rest) s ≡ copies (action_of o) s + 0
      = first_copies ∙ ap (λ x. copies (action_of o) s + copies_after x (all_copies (map action_of others))) e in
      omega (arith, c, h, so_far)

  pub too_much : left < copies (action_of o) s → before < all_copies (map action_of all) t
  too_much h = omega (arith, first_copies, h, so_far)

-- the same number of values was taken in two parts
pub taken_then : (most before left : ℕ) (all rest others : List Operation) (t s u : Tree) → AreTaken most before all t rest s
    → AreTaken before left rest s others u → AreTaken most left all t others u
taken_then most before left all rest others t s u h k = omega (arith, h, k)

pub taken_all : (most left : ℕ) (all rest : List Operation) (t s : Tree) → rest ≡ [] → AreTaken most left all t rest s
    → all_copies (map action_of all) t ≤ most
taken_all most left all rest t s none h =
    let c : all_copies (map action_of rest) s ≡ 0 = ap (λ os. all_copies (map action_of os) s) none in omega (arith, c, h)

pub within_of : (T S : Type 0) (most before : ℕ) (all rest : List Operation) (t s : Tree) (e : EditError)
    → AreTaken most before all t rest s → IsWithin {T = T} before (all_copies (map action_of rest) s) (Err e)
    → IsWithin {T = S} most (all_copies (map action_of all) t) (Err e)
within_of T S most before all rest t s (Failed n r) h k = let i : all_copies (map action_of rest) s ≤ before = k in omega (arith, h, i)
within_of T S most before all rest t s TooMuch h k = let i : before < all_copies (map action_of rest) s = k in omega (arith, h, i)
within_of T S most before all rest t s OutOfMemory h k = tt

-- a run, and the document of what it made
pub taken_given : (before left : ℕ) (actions : List Action) (t u : Tree) (rest : Bor (List Operation)) (d : Document)
    → TakesFirst before left actions t (Ok rest) u → document_tree d ≡ u → TakesGiven before left actions t (Ok (d, rest))
taken_given before left actions t u rest d h e = subst (λ v. IsTaken before left actions t (map action_of rest.now) v) (sym e) h

-- a run, and what is done with what it made
pub taken_written : (before left : ℕ) (actions : List Action) (t u : Tree) (rest : Bor (List Operation)) (held holds : Option (List ℕ))
    (r : Result First EditError) → TakesFirst before left actions t (Ok rest) u → WritesOrLeaves u rest.now held holds r
    → TakesWritten before left actions t r
taken_written before left actions t u rest held holds (Ok (Written w)) h k =
    let c : all_copies (map action_of rest.now) u ≡ 0 = ap (λ os. all_copies (map action_of os) u) k.0 in
    let i : before + all_copies (map action_of rest.now) u ≡ left + all_copies actions t = h in omega (arith, c, i)
taken_written before left actions t u rest held holds (Ok (Left d others)) h k =
    subst (λ v. IsTaken before left actions t (map action_of others.now) v) (sym k.1)
    (subst (λ os. IsTaken before left actions t (map action_of os) u) (sym k.0) h)
taken_written before left actions t u rest held holds (Err (Failed n r)) h k = absurd k
taken_written before left actions t u rest held holds (Err TooMuch) h k = absurd k
taken_written before left actions t u rest held holds (Err OutOfMemory) h k = tt

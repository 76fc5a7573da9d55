-- Operations in turn, of which some are left.
use Rattle.std.proofs.Common.{◌≡◌, ◌≤◌, ◌-◌, ℕ, suc, List, [], ◌∷◌, Option, Result, length, map, Ok, Err, sym, ap, ◌∙◌, subst, arith}
use Rattle.std.proofs.KnownBytes.{Keeps-refl, Keeps-trans}
use Rattle.std.specs.Io.KnownBytes.{Keeps}
use Rattle.std.specs.declared.io.Error.{Error}
use Rattle.tinyjson.proofs.Callers.{begins, stops_then, written_same, written_then}
use Rattle.tinyjson.specs.Written.{WritesPrefix}
use Rattle.std.specs.Borrow.{Bor}
use Rattle.tinyjson_document.specs.Document.{document_tree}
use Rattle.tinyjson_document.specs.declared.document.Document.{Document}
use Rattle.tinyjson_grammar.specs.Tree.{Tree}
use Rattle.tinyjson_patch.proofs.Callers.{as_many, one_applied, one_failed}
use Rattle.tinyjson_patch.specs.Operation.{Action, action_of, applied}
use Rattle.tinyjson_patch.specs.Patch.{all_applied}
use Rattle.tinyjson_patch.specs.Running.{last_applied}
use Rattle.tinyjson_patch.specs.declared.operation.Operation.{Operation}
use Rattle.tinyjson_patch.specs.declared.operation.Reason.{Reason}
use Rattle.tinyjson_patch.specs.Patched.{GivesDocument, GivesFirst, RunsFirst, WritesFirst, WritesOrLeaves, WritesPatched}
use Rattle.tinyjson_patch.specs.declared.edit.error.EditError.{EditError}
use Rattle.tinyjson_patch.specs.declared.edit.error.EditError.TheVariants.{Failed, TooMuch, OutOfMemory}
use Rattle.tinyjson_patch.specs.declared.edit.First.{First}
use Rattle.tinyjson_patch.specs.declared.edit.First.TheVariants.{Written, Left}

-- what is left of all makes of s what all make of t
abbrev pub IsLeft : ℕ → List Operation → List Operation → Tree → Tree → Type 0
IsLeft total all rest t s =
    (length rest ≤ length all) × (last_applied total (map action_of all) t ≡ last_applied total (map action_of rest) s)

module _ (total : ℕ) (all rest others : List Operation) (o : Operation) (t s : Tree) (fits : length all ≤ total)
    (split : rest ≡ o ∷ others) (left : IsLeft total all rest t s) where
  one_less : length rest ≡ suc (length others)
  one_less = ap length split

  first_of : last_applied total (map action_of all) t ≡ last_applied total (map action_of (o ∷ others)) s
  first_of = left.1 ∙ ap (λ os. last_applied total (map action_of os) s) split

  pub goes_on : (s' : Tree) → applied (action_of o) s ≡ Ok s' → IsLeft total all others t s'
  goes_on s' h = (
    omega (arith, one_less, left.0),
    first_of ∙ one_applied total o others s s' (omega (arith, one_less, left.0, fits)) h,
  )

  pub fails : (r : Reason) → applied (action_of o) s ≡ Err r → last_applied total (map action_of all) t ≡ Err (total - length rest, r)
  fails r h = first_of ∙ one_failed total (total - length rest) o others s r (ap (λ n. total - n) one_less) h

pub told : (total : ℕ) (all rest : List Operation) (t s : Tree) → IsLeft total all rest t s
    → (length rest ≤ length (map action_of all)) × (last_applied total (map action_of all) t ≡ last_applied total (map action_of rest) s)
told total all rest t s left = (subst (λ n. length rest ≤ n) (sym (as_many all)) left.0, left.1)

-- a run and the document of what it made
pub first_given : (total : ℕ) (actions : List Action) (t u : Tree) (rest : Bor (List Operation)) (d : Document)
    → RunsFirst total actions t (Ok rest) u → document_tree d ≡ u → GivesFirst total actions t (Ok (d, rest))
first_given total actions t u rest d h e = (h.0, h.1 ∙ ap (last_applied total (map action_of rest.now)) (sym e))

pub first_failed : (total : ℕ) (actions : List Action) (t u : Tree) (e : EditError) → RunsFirst total actions t (Err e) u
    → GivesFirst total actions t (Err e)
first_failed total actions t u (Failed n r) h = h
first_failed total actions t u TooMuch h = tt
first_failed total actions t u OutOfMemory h = tt

-- ---- the whole patch, of which the rest is left for the document

abbrev pub IsBehind : ℕ → List Operation → Tree → List Operation → Tree → Type 0
IsBehind total all t rest s =
    (length rest ≤ total) × (last_applied total (map action_of rest) s ≡ all_applied 0 (map action_of all) t)

pub all_over : (total : ℕ) (all rest : List Operation) (t s : Tree) → rest ≡ [] → IsBehind total all t rest s
    → all_applied 0 (map action_of all) t ≡ Ok s
all_over total all rest t s none h = sym h.1 ∙ ap (λ os. last_applied total (map action_of os) s) none

pub next_behind : (total : ℕ) (all rest : List Operation) (t s : Tree) (e : Document) (others : Bor (List Operation))
    → IsBehind total all t rest s → GivesFirst total (map action_of rest) s (Ok (e, others))
    → IsBehind total all t others.now (document_tree e)
next_behind total all rest t s e others h f =
    let less : length others.now ≤ length (map action_of rest) = f.0 in
    (omega (arith, less, as_many rest, h.0), sym f.1 ∙ h.1)

pub stopped_behind : (total : ℕ) (all rest : List Operation) (t s : Tree) (e : EditError)
    → IsBehind total all t rest s → GivesFirst total (map action_of rest) s (Err e)
    → GivesDocument (all_applied 0 (map action_of all) t) (Err e)
stopped_behind total all rest t s (Failed n r) h f = sym h.1 ∙ f
stopped_behind total all rest t s TooMuch h f = tt
stopped_behind total all rest t s OutOfMemory h f = tt

-- ---- the same where the text is written in place of the last document

-- a run, and what is done with what it made
pub first_written : (total : ℕ) (actions : List Action) (t u : Tree) (rest : Bor (List Operation)) (held holds : Option (List ℕ))
    (r : Result First EditError) → RunsFirst total actions t (Ok rest) u → WritesOrLeaves u rest.now held holds r
    → WritesFirst total actions t held holds r
first_written total actions t u rest held holds (Ok (Written w)) h k =
    (u, h.1 ∙ ap (λ os. last_applied total (map action_of os) u) k.0, k.1)
first_written total actions t u rest held holds (Ok (Left d others)) h k = (
  subst (λ os. length os ≤ length actions) (sym k.0) h.0,
  h.1 ∙ (ap (last_applied total (map action_of rest.now)) (sym k.1)
      ∙ ap (λ os. last_applied total (map action_of os) (document_tree d)) (sym k.0)),
  k.2,
)
first_written total actions t u rest held holds (Err (Failed n r)) h k = absurd k
first_written total actions t u rest held holds (Err TooMuch) h k = absurd k
first_written total actions t u rest held holds (Err OutOfMemory) h k = k

pub nothing_written : (total : ℕ) (actions : List Action) (t u : Tree) (held : Option (List ℕ)) (e : EditError)
    → RunsFirst total actions t (Err e) u → WritesFirst total actions t held held (Err e)
nothing_written total actions t u held (Failed n r) h = (h, Keeps-refl held)
nothing_written total actions t u held TooMuch h = Keeps-refl held
nothing_written total actions t u held OutOfMemory h = Keeps-refl held

-- the whole patch, of which the rest is left for the document; nothing is written
abbrev pub IsUnwritten : ℕ → List Operation → Tree → List Operation → Tree → Option (List ℕ) → Option (List ℕ) → Type 0
IsUnwritten total all t rest s held holds = IsBehind total all t rest s × Keeps held holds

kept_written : (held mid holds : Option (List ℕ)) (bs : List ℕ) (w : Result (Unit {0}) Error) → Keeps held mid
    → WritesPrefix mid holds bs w → WritesPrefix held holds bs w
kept_written held mid holds bs (Ok x) h k = written_then bs [] (written_same begins h) k
kept_written held mid holds bs (Err e) h k = stops_then bs (written_same begins h) k

module _ (total : ℕ) (all rest : List Operation) (t s : Tree) (held mid holds : Option (List ℕ)) where
  pub all_written : (w : Result (Unit {0}) Error) → IsUnwritten total all t rest s held mid
      → WritesFirst total (map action_of rest) s mid holds (Ok (Written w))
      → WritesPatched (all_applied 0 (map action_of all) t) held holds (Ok w)
  all_written w h k = (k.0, sym h.0.1 ∙ k.1, kept_written held mid holds _ w h.1 k.2)

  pub next_unwritten : (d : Document) (others : Bor (List Operation)) → IsUnwritten total all t rest s held mid
      → WritesFirst total (map action_of rest) s mid holds (Ok (Left d others))
      → IsUnwritten total all t others.now (document_tree d) held holds
  next_unwritten d others h k = (next_behind total all rest t s d others h.0 (k.0, k.1), Keeps-trans held mid holds h.1 k.2)

  pub stopped_unwritten : (e : EditError) → IsUnwritten total all t rest s held mid
      → WritesFirst total (map action_of rest) s mid holds (Err e)
      → WritesPatched (all_applied 0 (map action_of all) t) held holds (Err e)
  stopped_unwritten (Failed n r) h k = (sym h.0.1 ∙ k.0, Keeps-trans held mid holds h.1 k.1)
  stopped_unwritten TooMuch h k = Keeps-trans held mid holds h.1 k
  stopped_unwritten OutOfMemory h k = Keeps-trans held mid holds h.1 k

-- What the error of a part says of the whole.
use Rattle.std.proofs.Common.{◌≡◌, ◌∷◌, [], ℕ, zero, suc, ◌<◌, ◌++◌, List, Some, Result, Ok, Err, IsErrAnd, IfErr, MatchResult}
use Rattle.std.proofs.Common.{Bool, true, false, is_some, cond, length, get_or, arith, refl, sym, ap, ◌∙◌, subst}
use Rattle.std.proofs.Common.{bytes_eq}
use Rattle.std.proofs.lemmas.Slice.Eq.{bytes_eq-Decides}
use Rattle.std.specs.Str.{chars}
use Rattle.tinyjson.specs.Index.{nth}
use Rattle.tinyjson.specs.Tree.{Tree, Items, find}
use Rattle.tinyjson.specs.View.{view}
use Rattle.tinyjson_view.specs.Views.{tree_of, members_of}
use Rattle.tinyjson_view.specs.declared.view.MemberView.{MemberView}
use Rattle.tinyjson_schema_keywords.specs.Applied.{schemas_at}
use Rattle.tinyjson_schema_keywords.specs.declared.keyword.Keyword.{Keyword}
use Rattle.tinyjson_schema.specs.Nested.{IfDeep}
use Rattle.tinyjson_schema.specs.Deep.{IsShallow, root_tree, Descends, DescendsIn, DescendsAmong, DescendsBy}
use Rattle.tinyjson_schema.specs.Nested.{Nests, one, within, by_list, by_reference, is_listing, is_reference}
use Rattle.tinyjson_schema.specs.Sources.{AreReached}
use Rattle.tinyjson_schema.specs.Walks.{IsDeeper}
use Rattle.tinyjson_schema.specs.declared.validate.unevaluated.Source.{Source}
use Rattle.tinyjson_schema.specs.declared.walk.CheckError.{CheckError}
use Rattle.tinyjson_schema.specs.declared.walk.CheckError.TheVariants.{TooDeep}
use Rattle.tinyjson_schema.specs.declared.walk.Walk.{Walk}

pub at_error : {T : Type 0} (P : Result T CheckError → Type 0) (d : CheckError) (r : Result T CheckError) → IsErrAnd r (λ e. e ≡ d)
    → P (Err d) → P r
at_error P d (Ok x) h k = absurd h
at_error P d (Err e) h k = subst (λ x. P (Err x)) (sym h) k

pub if_deep : {P Q : Type 0} (e : CheckError) → (P → Q) → IfDeep e P → IfDeep e Q
if_deep TooDeep f h = f h
if_deep _ f h = tt

pub not_deep : (P : Type 0) (e : CheckError) → IsShallow e → IfDeep e P
not_deep P e h = if_deep e (λ x. absurd x) h

pub raised : {T : Type 0} (q : T → Type 0) (Q : CheckError → Type 0) (d : CheckError) (r : Result T CheckError)
    → IsErrAnd r (λ e. e ≡ d) → Q d → MatchResult r q Q
raised q Q d r h k = at_error (λ x. MatchResult x q Q) d r h k

pub raised_alone : {T : Type 0} (Q : CheckError → Type 0) (d : CheckError) (r : Result T CheckError) → IsErrAnd r (λ e. e ≡ d) → Q d
    → IfErr r Q
raised_alone Q d r h k = at_error (λ x. IfErr x Q) d r h k

pub shallow : {T : Type 0} (q : T → Type 0) (d : CheckError) (r : Result T CheckError) → IsErrAnd r (λ e. e ≡ d) → IsShallow d
    → MatchResult r q IsShallow
shallow q d r h k = at_error (λ x. MatchResult x q IsShallow) d r h k

pub at_shallow : {T : Type 0} (P : Result T CheckError → Type 0) (r : Result T CheckError) → IsErrAnd r IsShallow
    → ((e : CheckError) → IsShallow e → P (Err e)) → P r
at_shallow P (Ok x) h k = absurd h
at_shallow P (Err e) h k = k e h

pub raised_shallow : {T : Type 0} (q : T → Type 0) (P : Type 0) (r : Result T CheckError) → IsErrAnd r IsShallow
    → MatchResult r q (λ e. IfDeep e P)
raised_shallow q P (Ok x) h = absurd h
raised_shallow q P (Err e) h = not_deep P e h

-- no step is left
pub at_last : (w : Walk) (s t : Tree) → w.steps ≡ zero → Descends w s t
at_last w s t e = subst (λ n. Nests (root_tree w) n s t) (sym e) one

-- one step less is left for the schemas that a schema applies
pub one_deeper : (w inner : Walk) → IsDeeper w inner → (s t : Tree) → DescendsIn inner s t → Descends w s t
one_deeper w inner d s t h = subst (λ n. Nests (root_tree w) n s t) (sym d.1)
    (subst (λ r. Nests r (suc inner.steps) s t) (ap (λ g. view g.now.whole.now.root.now) d.0) h)

-- ---- of one of many

pub of_list : (w : Walk) (s t : Tree) (k : Keyword) (us : Items) → is_listing k ≡ true → us ≡ schemas_at s k → DescendsAmong w us t
    → DescendsIn w s t
of_list w s t k us is e h = within (by_list k h.0 is (ap (λ rs. nth rs h.0) (sym e) ∙ h.2)) h.3

pub of_target : (w : Walk) (s t : Tree) (k : Keyword) → is_reference k ≡ true → DescendsBy w k s t → DescendsIn w s t
of_target w s t k is h = within (by_reference k is h.1) h.2

-- the members have the key of one of them
pub has_own_key : (ps : List MemberView) (i : ℕ) (p : MemberView) → i < length ps → p ≡ get_or ps i p
    → is_some (find (chars p.key.now) (members_of ps)) ≡ true
has_own_key [] i p h e = absurd (omega arith)
has_own_key (q ∷ ps) zero p h e =
    ap (λ b. is_some (cond b (Some (tree_of q.value)) (find (chars p.key.now) (members_of ps))))
    ((bytes_eq-Decides (chars p.key.now) (chars q.key.now)).1 (ap (λ (m : MemberView). chars m.key.now) e))
has_own_key (q ∷ ps) (suc i) p h e = by (bytes_eq (chars p.key.now) (chars q.key.now)) (has_own_key ps i p (omega arith) e)
  where
    by : (b : Bool) → is_some (find (chars p.key.now) (members_of ps)) ≡ true
        → is_some (cond b (Some (tree_of q.value)) (find (chars p.key.now) (members_of ps))) ≡ true
    by true k = refl
    by false k = k

-- ---- schemas that evaluate

module _ (root : Tree) (n : ℕ) (s t : Tree) where
  pub reached_pushed : (xs : List Source) (x : Source) → AreReached root n s t xs
      → (DescendsIn x.walk (view x.applied.schema.now) t → Nests root n s t) → AreReached root n s t (xs ++ x ∷ [])
  reached_pushed [] x h k = (k, tt)
  reached_pushed (y ∷ xs) x h k = (h.0, reached_pushed xs x h.1 k)

  pub reached_at : (xs : List Source) (i : ℕ) (x : Source) → AreReached root n s t xs → i < length xs → x ≡ get_or xs i x
      → DescendsIn x.walk (view x.applied.schema.now) t → Nests root n s t
  reached_at [] i x h k e = absurd (omega arith)
  reached_at (y ∷ xs) zero x h k e = subst (λ (z : Source). DescendsIn z.walk (view z.applied.schema.now) t → Nests root n s t) (sym e) h.0
  reached_at (y ∷ xs) (suc i) x h k e = reached_at xs i x h.1 (omega arith) e

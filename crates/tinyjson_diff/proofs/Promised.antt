-- What is promised of the patch.
use Rattle.std.proofs.Common.{◌≡◌, ◌⊎◌, ℕ, List, Some, Result, Ok, Err, Vec, Global, subst, sym}
use Rattle.std.specs.Result.{IfOk}
use Rattle.std.specs.declared.alloc.AllocError.{AllocError}
use Rattle.tinyjson.specs.Tree.{Tree}
use Rattle.tinyjson.specs.View.{view}
use Rattle.tinyjson.specs.declared.value.JsonValue.{JsonValue}
use Rattle.tinyjson_patch.specs.Document.{IsPatch, token_limit}
use Rattle.tinyjson_patch.specs.Operation.{Action}
use Rattle.tinyjson_diff.specs.Patching.{AreLikeContainers, IsPatchBetween}
use Rattle.tinyjson_diff.specs.Steps.{actions_of, AreShort, Changes, IsReplacement}
use Rattle.tinyjson_diff.specs.declared.step.Step.{Step}
use Rattle.tinyjson_diff.proofs.Leading.{differences, lead_applied}
use Rattle.tinyjson_diff.proofs.Steps.{short}

pub promised : (r : Result JsonValue AllocError) (t u : Tree) (xs : List Action) → Changes token_limit t u xs
    → IfOk r (λ d. AreShort xs → IsPatch (view d) xs) → IfOk r (λ p. IsPatchBetween t u (view p))
promised (Ok d) t u xs c h = (xs, h (short t u xs c.fit), lead_applied 0 xs t u c.lead, differences token_limit t u xs c.fit, c.apart)
promised (Err e) t u xs c h = tt

pub replaced_when : (n : Result (Vec Step Global) AllocError) (r : ℕ) (t u : Tree) → (0 ≡ r) ⊎ ¬ AreLikeContainers (Some t) (Some u)
    → IfOk n (λ v. IsReplacement t u (actions_of v.items)) → IfOk n (λ v. Changes r t u (actions_of v.items))
replaced_when (Ok v) r t u may h = h r may
replaced_when (Err e) r t u may h = tt

-- of the containers that the values are
pub inside_when : (n : Result (Vec Step Global) AllocError) (r s : ℕ) (t t' u u' : Tree) → t ≡ t' → u ≡ u' → s ≡ r
    → IfOk n (λ v. Changes s t' u' (actions_of v.items)) → IfOk n (λ v. Changes r t u (actions_of v.items))
inside_when (Ok v) r s t t' u u' e f same h =
    subst (λ z. Changes z t u (actions_of v.items)) same
    (subst (λ z. Changes s z u (actions_of v.items)) (sym e) (subst (λ z. Changes s t' z (actions_of v.items)) (sym f) h))
inside_when (Err e) r s t t' u u' a b same h = tt

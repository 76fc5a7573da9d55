-- Errors that are handed on, and what is appended.
use Rattle.std.proofs.Common.{◌≡◌, ◌≢◌, ℕ, List, [], ◌∷◌, ◌++◌, Option, None, option_map, Result, Ok, Err, Bor}
use Rattle.std.proofs.Common.{sym, ap, ◌∙◌, subst}
use Rattle.std.specs.Result.{IsErrAnd}
use Rattle.tinyjson_path_query.specs.declared.refusal.Refusal.{Refusal}
use Rattle.tinyjson_path_query.specs.declared.refusal.Cause.TheVariants.{OutOfMemory}
use Rattle.tinyjson_path_query.specs.Forms.{Each}
use Rattle.tinyjson_path_query.specs.Reading.{Fronts, FrontsAs}

pub refused_as : {U V W : Type 0} (stands : V → U → Type 0) (o : Option (V × List ℕ)) (o' : Option W) (e : Refusal)
    (r : Result (U × Bor (List ℕ)) Refusal) → IsErrAnd r (λ d. d ≡ e) → (e.cause ≢ OutOfMemory → o' ≡ None) → (o' ≡ None → o ≡ None)
    → Fronts stands o r
refused_as stands o o' e (Ok x) h k f = absurd h
refused_as stands o o' e (Err d) h k f = λ n. f (k (λ m. n (ap (λ x. x.cause) h ∙ m)))

pub no_memory : {U V : Type 0} (stands : V → U → Type 0) (o : Option (V × List ℕ)) (r : Result (U × Bor (List ℕ)) Refusal)
    → IsErrAnd r (λ d. d.cause ≡ OutOfMemory) → Fronts stands o r
no_memory stands o (Ok x) h = absurd h
no_memory stands o (Err d) h = λ n. absurd (n h)

pub front_refused_as : {V W : Type 0} (o : Option (V × List ℕ)) (o' : Option W) (e : Refusal) (r : Result (V × Bor (List ℕ)) Refusal)
    → IsErrAnd r (λ d. d ≡ e) → (e.cause ≢ OutOfMemory → o' ≡ None) → (o' ≡ None → o ≡ None) → FrontsAs o r
front_refused_as o o' e (Ok x) h k f = absurd h
front_refused_as o o' e (Err d) h k f = λ n. f (k (λ m. n (ap (λ x. x.cause) h ∙ m)))

pub fronts_from : {U V : Type 0} (stands : V → U → Type 0) (o o' : Option (V × List ℕ)) (r : Result (U × Bor (List ℕ)) Refusal)
    → o ≡ o' → Fronts stands o' r → Fronts stands o r
fronts_from stands o o' (Ok x) e h = (h.0, e ∙ h.1, h.2)
fronts_from stands o o' (Err d) e h = λ n. e ∙ h n

-- the same, as something else
pub fronts_map : {U V W : Type 0} (P : V → U → Type 0) (Q : W → U → Type 0) (f : V → W) (o : Option (V × List ℕ)) (o' : Option (W × List ℕ))
    (r : Result (U × Bor (List ℕ)) Refusal) → o' ≡ option_map (λ p. (f p.0, p.1)) o → ((v : V) (u : U) → P v u → Q (f v) u)
    → Fronts P o r → Fronts Q o' r
fronts_map P Q f o o' (Ok x) e k h = (f h.0, e ∙ ap (option_map (λ p. (f p.0, p.1))) h.1, k h.0 x.0 h.2)
fronts_map P Q f o o' (Err d) e k h = λ n. e ∙ ap (option_map (λ p. (f p.0, p.1))) (h n)

pub each_push : {V U : Type 0} (Is : V → U → Type 0) (vs : List V) (v : V) (xs : List U) (x : U) → Each Is vs xs → Is v x
    → Each Is (vs ++ v ∷ []) (xs ++ x ∷ [])
each_push Is [] v [] x h k = (k, tt)
each_push Is [] v (y ∷ ys) x h k = absurd h
each_push Is (w ∷ ws) v [] x h k = absurd h
each_push Is (w ∷ ws) v (y ∷ ys) x h k = (h.0, each_push Is ws v ys x h.1 k)

-- the vector with one more
pub each_pushed : {V U : Type 0} (Is : V → U → Type 0) (vs : List V) (v : V) (xs ys : List U) (x : U) → ys ≡ xs ++ x ∷ [] → Each Is vs xs
    → Is v x → Each Is (vs ++ v ∷ []) ys
each_pushed Is vs v xs ys x e h k = subst (λ zs. Each Is (vs ++ v ∷ []) zs) (sym e) (each_push Is vs v xs x h k)

pub each_none : {V U : Type 0} (Is : V → U → Type 0) (xs : List U) → xs ≡ [] → Each Is [] xs
each_none Is xs e = subst (λ zs. Each Is [] zs) (sym e) tt

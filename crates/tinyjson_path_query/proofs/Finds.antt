-- What holds of what is found.
use Rattle.std.proofs.Common.{◌≡◌, ℕ, Bool, true, false, ◌==◌, cond, Option, Some, None, option_map, option_and_then, refl, sym, subst}
use Rattle.std.proofs.lemmas.Bool.{eqb-true}

-- P holds of what is there
pub record Finds {T : Type 0} (o : Option T) (P : T → Type 0) : Type 0 where
  pub at : (p : T) → o ≡ Some p → P p

pub some_same : {A : Type 0} {x y : A} → Some x ≡ Some y → x ≡ y
some_same h = cc

pub none_some : {A P : Type 0} {x : A} → None ≡ Some x → P
none_some h = cc

pub finds_none : {T : Type 0} {P : T → Type 0} → Finds None P
finds_none = record { at = λ p e. none_some e }

pub finds_some : {T : Type 0} {P : T → Type 0} {x : T} → P x → Finds (Some x) P
finds_some {P = P} h = record { at = λ p e. subst P (some_same e) h }

pub finds_cond : {T : Type 0} {P : T → Type 0} {x y : Option T} (b : Bool) → (b ≡ true → Finds x P) → (b ≡ false → Finds y P)
    → Finds (cond b x y) P
finds_cond true h k = h refl
finds_cond false h k = k refl

pub finds_map : {S T : Type 0} {P : T → Type 0} (f : S → T) (o : Option S) → Finds o (λ p. P (f p)) → Finds (option_map f o) P
finds_map f None h = finds_none
finds_map {P = P} f (Some p) h = finds_some {P = P} (h.at p refl)

pub finds_then : {S T : Type 0} {P : T → Type 0} (f : S → Option T) (o : Option S) → Finds o (λ p. Finds (f p) P)
    → Finds (option_and_then f o) P
finds_then f None h = finds_none
finds_then f (Some p) h = h.at p refl

pub finds_as : {T : Type 0} {P Q : T → Type 0} {o : Option T} → Finds o P → ((p : T) → P p → Q p) → Finds o Q
finds_as h k = record { at = λ p e. k p (h.at p e) }

-- a character that was tested
pub at_code : (P : ℕ → Type 0) (c k : ℕ) → (c == k) ≡ true → P k → P c
at_code P c k e h = subst P (sym (eqb-true c k e)) h

-- Texts that are joined.
use Rattle.std.proofs.Common.{◌≡◌, ℕ, List, [], ◌∷◌, ◌++◌, ◌+◌, ◌<◌, ◌≤◌, drop, get_or, length, arith, refl, sym, ap, ◌∙◌}
use Rattle.std.proofs.Common.{append_assoc, append-nil}
use Rattle.tinyjson.specs.Tree.{Tree}
use Rattle.tinyjson.specs.View.{view, items_view}
use Rattle.tinyjson.specs.declared.value.JsonValue.{JsonValue}
use Rattle.tinyjson_schema_keywords.proofs.Callers.{drop_item, drop_end}
use Rattle.tinyjson_schema_report.specs.Brief.{joined, more_joined}

drop_none : {X : Type 0} (xs : List X) → drop 0 xs ≡ xs
drop_none [] = refl
drop_none (x ∷ xs) = refl

module _ (b : List ℕ) (f : Tree → List ℕ) where
  pub none_joined : (vs : List JsonValue) → length vs ≡ 0 → [] ≡ joined b f (items_view vs)
  none_joined [] e = refl
  none_joined (v ∷ vs) e = absurd (omega (arith, e))

  pub first_joined : (vs more : List JsonValue) (v : JsonValue) (s : List ℕ) → vs ≡ v ∷ more → s ≡ f (view v)
      → s ++ more_joined b f (items_view (drop 0 more)) ≡ joined b f (items_view vs)
  first_joined vs more v s e h =
      ap (λ xs. s ++ more_joined b f (items_view xs)) (drop_none more)
      ∙ (ap (λ x. x ++ more_joined b f (items_view more)) h ∙ ap (λ xs. joined b f (items_view xs)) (sym e))

  pub one_joined : (more : List JsonValue) (i : ℕ) (v : JsonValue) (s new one whole : List ℕ) → i < length more → v ≡ get_or more i v
      → new ≡ (s ++ b) ++ one → one ≡ f (view v) → s ++ more_joined b f (items_view (drop i more)) ≡ whole
      → new ++ more_joined b f (items_view (drop (i + 1) more)) ≡ whole
  one_joined more i v s new one whole h at e g left =
      let rest = more_joined b f (items_view (drop (i + 1) more)) in
      ap (λ x. x ++ rest) (e ∙ ap (λ x. (s ++ b) ++ x) g)
      ∙ (append_assoc (s ++ b) (f (view v)) rest ∙ (append_assoc s b (f (view v) ++ rest)
      ∙ (ap (λ xs. s ++ more_joined b f (items_view xs)) (sym (drop_item more i v h at)) ∙ left)))

  pub all_joined : (more : List JsonValue) (i : ℕ) (s whole : List ℕ) → length more ≤ i
      → s ++ more_joined b f (items_view (drop i more)) ≡ whole → s ≡ whole
  all_joined more i s whole h left =
      sym (append-nil s) ∙ (ap (λ xs. s ++ more_joined b f (items_view xs)) (sym (drop_end more i h)) ∙ left)

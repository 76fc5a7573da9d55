-- The operands that are patches, and the others.
use Rattle.std.proofs.Common.{◌≡◌, ◌≤◌, ◌-◌, ℕ, cond, List, length, take, drop}
use Rattle.std.proofs.Common.{map, None, Some, sym, ap, ◌∙◌, le-ltb, arith}
use Rattle.std.proofs.lemmas.List.{drop-map, length-map, take-map, take_rest}
use Rattle.std.specs.Prelude.{unwrap_or}
use Rattle.tinyjson_cli.specs.Arguments.{Given, last_number}
use Rattle.json_merge.specs.Options.{patches_asked, split_operands}

module _ {X : Type 0} (n : ℕ) (xs : List X) (f : X → List ℕ) (h : n ≤ length xs) where
  split : split_operands n (map f xs) ≡ Some (map f (take n xs), map f (take (length xs - n) (drop n xs)))
  split =
      ap (λ b. cond b None (Some (take n (map f xs), drop n (map f xs)))) (le-ltb (length (map f xs)) n (omega (arith, h, length-map xs f)))
      ∙ (ap (λ ws. Some (ws, drop n (map f xs))) (take-map f n xs)
      ∙ ap (λ ws. Some (map f (take n xs), ws)) (drop-map f n xs ∙ ap (map f) (sym (take_rest xs n))))

  pub asked : (a : Given) → n ≡ unwrap_or (last_number 112 None a.numbers) 1 → map f xs ≡ a.operands
      → Some (map f (take n xs), map f (take (length xs - n) (drop n xs))) ≡ patches_asked a
  asked a en ex =
      sym split ∙ (ap (λ k. split_operands k (map f xs)) en
      ∙ ap (split_operands (unwrap_or (last_number 112 None a.numbers) 1)) ex)

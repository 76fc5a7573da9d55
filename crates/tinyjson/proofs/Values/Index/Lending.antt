-- A part of a part, where a relation tells how the inner one is followed.
use mathlib.Core.List.{[], ◌∷◌}
use mathlib.Core.Option as maybe
use seplogic.Ra.Ura.{Ura}
use base.Fml.{GName}
use base.Logic.{ent, sep}
use types.Kit.{‵, ◌$◌, ◌∵◌, !, qed, done, move, use2, fpick, fpack}
use types.Logic.{Logic, sem}
use denote.Follow.{follows, follows_so, follows_by, such_by, follows_then}
use denote.RattleType.{RattleType}

module _ {M : Type 1} {𝓤 : Ura M} (𝓛 : Logic 𝓤) (R T U : RattleType) (F : T.Denot → R.Denot) (P : U.Denot → T.Denot → Type 0)
    (P₀ : T.Denot → Type 0) (Q : U.Denot → R.Denot → Type 0) (Q₀ : R.Denot → Type 0) where
  pub follows_so_then : (γ γ' γ'' : GName) → ((w : U.Denot) (n : T.Denot) → P w n → Q w (F n)) → ((n : T.Denot) → P₀ n → Q₀ (F n))
      → ent 𝓤 (sep 𝓤 (sem 𝓛 (follows R T γ γ' F)) (sem 𝓛 (follows_so T U γ' (maybe.some γ'') P P₀)))
      (sem 𝓛 (follows_so R U γ (maybe.some γ'') Q Q₀))
  unfolding such_by follows_by
  follows_so_then γ γ' γ'' at_some at_none =
      qed 𝓛 (‵ (follows R T γ γ' F) ∷ ‵ (follows_so T U γ' (maybe.some γ'') P P₀) ∷ []) ∵ move ! (1 ∷ 0 ∷ []) $ fpick !
      (λ s. move ! (1 ∷ 0 ∷ []) $ use2 𝓛 (‵ (follows R U γ γ'' (λ w. F (s.0.0 w)))) (follows_then 𝓛 R T U F s.0.0 γ γ' γ'') $
      fpack ! ((s' : (U.Denot → R.Denot) × R.Denot) × ((w : U.Denot) → Q w (s'.0 w)) × Q₀ s'.1)
      (λ s'. follows_by R.Denot U.Denot R.coded.code U.coded.code γ (maybe.some γ'') s'.0.0 s'.0.1)
      ((λ w. F (s.0.0 w), F s.0.1), λ w. at_some w (s.0.0 w) (s.1 w), at_none s.0.1 s.2) $ done !)

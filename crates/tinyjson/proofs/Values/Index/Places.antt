-- An `Option` of a `&mut` to a value is taken apart.
use mathlib.Core.List.{List, [], ◌∷◌, ◌++◌}
use mathlib.Core.Path.{refl, ap, ◌∙◌}
use seplogic.Ra.Ura.{Ura}
use base.Fml.{Lft, feq, fsep}
use base.Logic.{ent}
use mir.Syntax.{named}
use mir.Val.{Val, vptr, vcons, vnil, of_list}
use types.Kit.{‵, ◌$◌, ◌∵◌, !, qed, done, move, drop, fpick, fsplit, fsplit3, fjoin, fjoin3, feq_l, feq_i}
use types.Logic.{Logic, sem}
use types.Match.{live}
use denote.RattleType.{RattleType}
use denote.Ref.{MutBor, MutRef}
use Rattle.std.specs.contracts.option.Option as option
use Rattle.std.specs.declared.option.Option.TheVariants.{Some}

module _ {M : Type 1} {𝓤 : Ura M} (𝓛 : Logic 𝓤) (R : RattleType) (κ : Lft) where
  abbrev pub Place : RattleType
  Place = option.the_row (MutRef (named 0) κ R)

  abbrev pub place_val : MutBor R.Denot → Val
  place_val x = live 1 (vcons (vptr x.ref_ptr.0 x.ref_ptr.1) vnil)

  -- the machine value of a place that is there
  pub place_out : (x : MutBor R.Denot) (v : Val) → ent 𝓤 (sem 𝓛 (Place.own_val (Some x) (v ∷ [])))
      (sem 𝓛 (fsep (feq (List Val) (v ∷ []) (place_val x ∷ [])) ((MutRef (named 0) κ R).own_val x (vptr x.ref_ptr.0 x.ref_ptr.1 ∷ []))))
  place_out x v = qed 𝓛 (‵ (Place.own_val (Some x) (v ∷ [])) ∷ []) ∵ fpick ! (λ us. fsplit ! $ feq_l !
      (λ is. fpick ! (λ vss. fsplit ! $ feq_l ! (λ flat. fsplit ! $ move ! (1 ∷ []) $ drop ! $
      fsplit3 ! $ feq_l ! (λ at. feq_i ! (List Val) (vptr x.ref_ptr.0 x.ref_ptr.1 ∷ [])
      (vptr x.ref_ptr.0 x.ref_ptr.1 ∷ []) refl $ fjoin3 ! $
      feq_i ! (List Val) (v ∷ []) (place_val x ∷ []) (is ∙ ap (λ (ws : List Val). live 1 (of_list ws) ∷ [])
      (flat ∙ ap (λ (ws : List Val). ws ++ []) at)) $ fjoin ! $ done !)))))

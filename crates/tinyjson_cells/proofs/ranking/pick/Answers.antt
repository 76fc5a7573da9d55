use Rattle.std.proofs.Common.{sym, ap, subst, ◌∙◌, ltb-true}
use Rattle.std.specs.List.{All, Contains}
use Rattle.std.proofs.lemmas.List.Elements.{All-push}
use Rattle.tinyjson_cells.proofs.ranking.pick.Goals as goal
use Rattle.tinyjson_cells.proofs.ranking.pick.Goals.{in-Some+in_ok-push, in_default}

pub loop-rank-preserved : goal.loop-rank-preserved
loop-rank-preserved c =
    let P = Contains c.args.members.now in
    elim c.match-get.branch [
      | in-Some+in_ok-push w ↦
          let found = w.in-Some.ensures.lookup in
          subst (All P) (sym (ap (λ v. v.items) w.kept-is ∙ w.in_ok-push.ensures.items))
          (All-push P c.loop-rank.kept.items w.in-Some.member.now c.loop-rank.invariant (_, ltb-true _ _ (sym found.0), sym found.1))
      | in_default w ↦ subst (All P) (sym (ap (λ v. v.items) w.kept-is)) c.loop-rank.invariant
    ]

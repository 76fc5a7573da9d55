use Rattle.std.proofs.Common.{◌≡◌, ◌∷◌, ◌∙◌, ap, arith, refl, subst, sym}
use Rattle.std.specs.Str.{chars}
use Rattle.tinyjson.specs.Events.{at_key, at_value}
use Rattle.tinyjson.specs.Tree.{put}
use Rattle.tinyjson_document.specs.Comparing.{members_weight}
use Rattle.tinyjson_document.specs.Document.{tree}
use Rattle.tinyjson_document.specs.Replaying.{put_members}
use Rattle.tinyjson_patch.specs.Merging.{had}
use Rattle.tinyjson_patch.proofs.MergingDocuments.{some_weight}
use Rattle.tinyjson_patch.proofs.merge_document.pass_all.Goals as goal

pub loop-key-init : goal.loop-key-init
loop-key-init g c = λ start ns fs h. (ns, h, refl)

pub key-requires : goal.key-requires
key-requires g c =
    let r = c.requires in
    let v = c.loop-key.invariant r.0 r.1 r.2 r.3 in
    (r.0, v.0, r.2, v.1)

pub replay-requires : goal.replay-requires
replay-requires g c =
    let r = c.requires in
    let v = c.loop-key.invariant r.0 r.1 r.2 r.3 in
    (r.0, at_value v.0 (chars c.in-Some-next.key.now) ∷ r.2, c.in_ok-key.ensures r.0 v.0 r.2 v.1)

pub loop-key-smaller : goal.loop-key-smaller
loop-key-smaller g c = omega (arith, ap members_weight c.in-Some-next.ensures.steps, some_weight (tree c.in-Some-next.node))

pub loop-key-preserved : goal.loop-key-preserved
loop-key-preserved g c = λ start ns fs h.
    let l = c.loop-key in
    let v = l.invariant start ns fs h in
    let k = chars c.in-Some-next.key.now in (
      put k (tree c.in-Some-next.node) v.0,
      c.in_ok-replay.ensures start (at_value v.0 k ∷ fs) (c.in_ok-key.ensures start v.0 fs v.1),
      v.2 ∙ ap (put_members v.0) c.in-Some-next.ensures.steps,
    )

pub returns : goal.returns
returns g c = λ start ns fs h.
    let l = c.loop-key in
    let v = l.invariant start ns fs h in
    let whole = ap (λ o. put_members ns (had o)) c.in-Some.is ∙ (v.2 ∙ ap (put_members v.0) c.in_default-next.ensures.steps.0) in
    subst (λ x. g.E.Events.holds start l.events (at_key x ∷ fs)) (sym whole) v.1

use Rattle.std.proofs.Common.{◌≡◌, ◌∷◌, ◌∙◌, ap, arith, refl, subst, sym}
use Rattle.std.proofs.lemmas.Result.{IfOk-from_err}
use Rattle.std.specs.Str.{chars}
use Rattle.tinyjson.specs.Events.{at_value}
use Rattle.tinyjson.specs.Tree.{member, put}
use Rattle.tinyjson_grammar.proofs.Callers.{flip, key_same}
use Rattle.tinyjson_document.specs.Document.{members_left, tree}
use Rattle.tinyjson_document.specs.Replaying.{put_members}
use Rattle.tinyjson_patch.specs.Merge.{merge_members}
use Rattle.tinyjson_patch.specs.Merging.{had}
use Rattle.tinyjson_patch.proofs.MergingDocuments.{leads_above, leads_none, leads_there, same_next, some_weight}
use Rattle.tinyjson_patch.proofs.merge_document.pass_below.Goals as goal

pub loop-other-init : goal.loop-other-init
loop-other-init g c = (
  refl,
  λ start ns fs h. (ns, h, λ p ps s. ap (λ o. put_members ns (merge_members (had o) (member (chars c.args.key.now) p ps))) c.in-Some.is),
)

pub key-requires : goal.key-requires
key-requires g c =
    let r = c.requires in
    let v = c.loop-other.invariant.1 r.0 r.1 r.2 r.3 in
    (r.0, v.0, r.2, v.1)

pub replay-requires : goal.replay-requires
replay-requires g c =
    let r = c.requires in
    let v = c.loop-other.invariant.1 r.0 r.1 r.2 r.3 in
    (r.0, at_value v.0 (chars c.in-Some-next.other.now) ∷ r.2, c.in_ok-key-in-Less.ensures r.0 v.0 r.2 v.1)

pub loop-other-preserved : goal.loop-other-preserved
loop-other-preserved g c =
    let l = c.loop-other in
    let k = chars c.in-Some-next.other.now in
    let u = tree c.in-Some-next.node in
    let split = sym l.invariant.0 ∙ c.in-Some-next.ensures.steps in (
      refl,
      λ start ns fs h.
          let v = l.invariant.1 start ns fs h in (
            put k u v.0,
            c.in_ok-replay-in-Less.ensures start (at_value v.0 k ∷ fs) (c.in_ok-key-in-Less.ensures start v.0 fs v.1),
            same_next (chars c.args.key.now) k u ns (had c.args.target.now) v.0 _ _ split (sym c.order.ensures ∙ c.in-Less.is) v.2,
          ),
    )

pub returns-in-Equal : goal.returns-in-Equal
returns-in-Equal g c = λ start ns fs h.
    let l = c.loop-other in
    let k = chars c.in-Some-next.other.now in
    let split = sym l.invariant.0 ∙ c.in-Some-next.ensures.steps in
    let v = l.invariant.1 start ns fs h in (
      v.0,
      v.1,
      leads_there (chars c.args.key.now) k (tree c.in-Some-next.node) ns (had c.args.target.now) v.0 l.members c.next.new.self split
          (key_same k (chars c.args.key.now) (sym c.order.ensures ∙ c.in-Equal.is)) v.2,
    )

pub returns-in-Greater : goal.returns-in-Greater
returns-in-Greater g c = λ start ns fs h.
    let l = c.loop-other in
    let k = chars c.in-Some-next.other.now in
    let split = sym l.invariant.0 ∙ c.in-Some-next.ensures.steps in
    let v = l.invariant.1 start ns fs h in (
      v.0,
      v.1,
      leads_above (chars c.args.key.now) k (tree c.in-Some-next.node) ns (had c.args.target.now) v.0 _ _ split
          (flip k (chars c.args.key.now) (sym c.order.ensures ∙ c.in-Greater.is)) v.2,
    )

pub returns-in_err-key-in-Less : goal.returns-in_err-key-in-Less
returns-in_err-key-in-Less g c = λ start ns fs h. IfOk-from_err c.from_residual.result _ c.from_residual.ensures.0

pub returns-in_err-replay-in-Less : goal.returns-in_err-replay-in-Less
returns-in_err-replay-in-Less g c = λ start ns fs h.
    let r = c.from_residual-in_err-replay-in-Less in
    IfOk-from_err r.result _ r.ensures.0

use Rattle.std.proofs.Common.{◌≡◌, [], ◌∷◌, ◌∙◌, OnOk, ap, arith, option_map, refl, reverse, subst, sym, unwrap_or}
use Rattle.std.proofs.lemmas.List.{reverse-append}
use Rattle.std.proofs.lemmas.Result.{IfOk-from_err}
use Rattle.std.specs.Str.{chars}
use Rattle.tinyjson.specs.Events.{at_value}
use Rattle.tinyjson.specs.Tree.{null}
use Rattle.tinyjson_document.specs.Comparing.{members_weight}
use Rattle.tinyjson_document.specs.Document.{tree}
use Rattle.tinyjson_patch.specs.Merge.{merge_patch}
use Rattle.tinyjson_patch.specs.Merging.{Encloses, Waits, left_weight}
use Rattle.tinyjson_patch.specs.declared.merge_document.Left.{Left}
use Rattle.tinyjson_patch.proofs.MergingDocuments.{
  closed,
  goes_null,
  goes_on,
  goes_scalar,
  ok_always,
  ok_map,
  weight_last,
}
use Rattle.tinyjson_patch.proofs.merge_document.resume.Goals as goal

pub loop-key-init : goal.loop-key-init
loop-key-init g c = (λ start os t w. w, refl, omega arith)

pub pass_below-requires : goal.pass_below-requires
pass_below-requires g c =
    let r = c.requires in
    let v = c.loop-key.invariant.0 r.0 r.1 r.2 r.3 in
    (r.0, v.0, v.1, v.2)

pub loop-key-preserved-then-is_null : goal.loop-key-preserved-then-is_null
loop-key-preserved-then-is_null g c =
    let l = c.loop-key in
    let E = g.E.Events in
    let m : Left = record { target = c.pass_below.new.target; patch = c.next.new.self } in (
      λ start os t w.
          let v = l.invariant.0 start os t w in
          let b = c.in_ok-old.ensures start v.0 v.1 v.2 in
          goes_null (E.holds start) (E.is start) os t (reverse c.args.stack.now.items) l.left m (chars c.in-Some.key.now)
          (tree c.in-Some.change) c.in-Some.ensures.steps l.events v b.0 (option_map tree c.in_ok-old.old) b.2
          (sym c.is_null.ensures ∙ c.if-is_null.true) c.pass_below.new.events b.1,
      l.invariant.1,
      omega (arith, l.invariant.2, ap members_weight c.in-Some.ensures.steps),
    )

pub key-requires : goal.key-requires
key-requires g c =
    let r = c.requires in
    let v = c.loop-key.invariant.0 r.0 r.1 r.2 r.3 in
    let b = c.in_ok-old.ensures r.0 v.0 v.1 v.2 in
    (r.0, b.0, v.1, b.1)

pub returns-then-is_object-clause-waits : goal.returns-then-is_object-clause-waits
returns-then-is_object-clause-waits g c = λ start os t w.
    let l = c.loop-key in
    let E = g.E.Events in
    let k = chars c.in-Some.key.now in
    let m : Left = record { target = c.pass_below.new.target; patch = c.next.new.self } in
    let rs = reverse c.args.stack.now.items in
    let u = merge_patch (unwrap_or (option_map tree c.in_ok-old.old) null) (tree c.in-Some.change) in
    let last = ap reverse c.in_ok-push.ensures.items ∙ reverse-append l.stack.items (m ∷ []) ∙ ap (λ xs. m ∷ reverse xs) l.invariant.1 in
    let v = l.invariant.0 start os t w in
    let b = c.in_ok-old.ensures start v.0 v.1 v.2 in
    let n = goes_on (E.holds start) (E.is start) os t rs l.left m k (tree c.in-Some.change) c.in-Some.ensures.steps l.events v b.0
    (option_map tree c.in_ok-old.old) b.2 (sym c.is_null.ensures ∙ c.if-is_null.false) in
    c.open.ensures.waits start os (at_value b.0 k ∷ v.1) t (c.in_ok-key.ensures start b.0 v.1 b.1)
    (subst (λ xs. Encloses xs (at_value b.0 k ∷ v.1) os u t) (sym last) n)

pub returns-then-is_object-clause-less : goal.returns-then-is_object-clause-less
returns-then-is_object-clause-less g c =
    let l = c.loop-key in
    let m : Left = record { target = c.pass_below.new.target; patch = c.next.new.self } in
    let pushed = ap left_weight c.in_ok-push.ensures.items ∙ weight_last l.stack.items m in
    ok_map c.open.result (λ h. omega (
      arith,
      h,
      pushed,
      ap members_weight c.in-Some.ensures.steps,
      ap left_weight l.invariant.1,
      l.invariant.2,
    )) c.open.ensures.less

pub replay-requires : goal.replay-requires
replay-requires g c =
    let r = c.requires in
    let v = c.loop-key.invariant.0 r.0 r.1 r.2 r.3 in
    let b = c.in_ok-old.ensures r.0 v.0 v.1 v.2 in
    (r.0, at_value b.0 (chars c.in-Some.key.now) ∷ v.1, c.in_ok-key.ensures r.0 b.0 v.1 b.1)

pub loop-key-preserved : goal.loop-key-preserved
loop-key-preserved g c =
    let l = c.loop-key in
    let E = g.E.Events in
    let k = chars c.in-Some.key.now in
    let m : Left = record { target = c.pass_below.new.target; patch = c.next.new.self } in (
      λ start os t w.
          let v = l.invariant.0 start os t w in
          let b = c.in_ok-old.ensures start v.0 v.1 v.2 in
          goes_scalar (E.holds start) (E.is start) os t (reverse c.args.stack.now.items) l.left m k (tree c.in-Some.change)
          c.in-Some.ensures.steps l.events v b.0 (option_map tree c.in_ok-old.old) b.2 (sym c.is_null.ensures ∙ c.if-is_null.false)
          (sym c.is_object.ensures ∙ c.if-is_object.false) c.replay.new.self
          (c.in_ok-replay.ensures start (at_value b.0 k ∷ v.1) (c.in_ok-key.ensures start b.0 v.1 b.1)),
      l.invariant.1,
      omega (arith, l.invariant.2, ap members_weight c.in-Some.ensures.steps),
    )

pub pass_all-requires : goal.pass_all-requires
pass_all-requires g c =
    let r = c.requires in
    let v = c.loop-key.invariant.0 r.0 r.1 r.2 r.3 in
    (r.0, v.0, v.1, v.2)

pub close_object-requires : goal.close_object-requires
close_object-requires g c =
    let r = c.requires in
    let v = c.loop-key.invariant.0 r.0 r.1 r.2 r.3 in
    (r.0, _, v.1, c.in_ok-pass_all.ensures r.0 v.0 v.1 v.2)

pub returns-clause-waits : goal.returns-clause-waits
returns-clause-waits g c = λ start os t w.
    let l = c.loop-key in
    let E = g.E.Events in
    let v = l.invariant.0 start os t w in
    let rs = reverse c.args.stack.now.items in
    subst (λ xs. OnOk c.close_object.result (Waits (E.holds start) (E.is start) os t (reverse xs) c.close_object.new.self))
    (sym l.invariant.1)
    (ok_map c.close_object.result (λ p.
    closed (E.holds start) (E.is start) os t rs l.left c.in_default.ensures.steps.0 l.events c.close_object.new.self v p)
    (c.close_object.ensures start _ v.1 (c.in_ok-pass_all.ensures start v.0 v.1 v.2)))

pub returns-clause-less : goal.returns-clause-less
returns-clause-less g c =
    let same = ap left_weight c.loop-key.invariant.1 in
    ok_always c.close_object.result (omega (arith, same))

pub returns-in_err-old-clause-waits : goal.returns-in_err-old-clause-waits
returns-in_err-old-clause-waits g c = λ start os t h. IfOk-from_err c.from_residual.result _ c.from_residual.ensures.0

pub returns-in_err-key-clause-waits : goal.returns-in_err-key-clause-waits
returns-in_err-key-clause-waits g c = λ start os t h. IfOk-from_err c.from_residual-in_err-key.result _ c.from_residual-in_err-key.ensures.0

pub returns-in_err-push-clause-waits : goal.returns-in_err-push-clause-waits
returns-in_err-push-clause-waits g c = λ start os t h. IfOk-from_err c.from_residual-in_err-push.result _ c.from_residual-in_err-push.ensures.0

pub returns-in_err-replay-clause-waits : goal.returns-in_err-replay-clause-waits
returns-in_err-replay-clause-waits g c = λ start os t h. IfOk-from_err c.from_residual-in_err-replay.result _ c.from_residual-in_err-replay.ensures.0

pub returns-in_err-pass_all-clause-waits : goal.returns-in_err-pass_all-clause-waits
returns-in_err-pass_all-clause-waits g c = λ start os t h. IfOk-from_err c.from_residual-in_err-pass_all.result _ c.from_residual-in_err-pass_all.ensures.0

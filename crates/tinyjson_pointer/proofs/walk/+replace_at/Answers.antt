use Rattle.std.proofs.Common.{arith, ◌≡◌, map, ℕ, ◌≤◌, ◌^◌, length, ◌∷◌, Some, None, IsSome, MatchOption, refl, sym, ap, subst, ◌∙◌}
use Rattle.std.proofs.lemmas.Grind.{common_steps}
use Rattle.std.proofs.lemmas.Option.{slice_get_cases}
use Rattle.std.specs.Prelude.{slice_get}
use Rattle.std.specs.Str.{chars}
use Rattle.std.specs.Vec.{with_item}
use Rattle.tinyjson.proofs.Callers.{view_IsTree}
use Rattle.tinyjson.specs.Access.Laws.{put_of_object, put_of_array}
use Rattle.tinyjson.specs.View.{view, text}
use Rattle.tinyjson.specs.declared.value.JsonValue.TheVariants as is
use Rattle.tinyjson_pointer.specs.Index.{index_of}
use Rattle.tinyjson_pointer.specs.Walk.{part_at, Replaces}
use Rattle.tinyjson_pointer.proofs.Replacing.{replaces_step, no_part, member_step, member_replaced, item_step, item_past, item_replaced}
use Rattle.tinyjson_pointer.proofs.walk.+replace_at.Goals as goal

pub returns-in-Some-get_mut-2 : goal.returns-in-Some-get_mut-2
returns-in-Some-get_mut-2 t c =
    let v = c.args.value.now in
    let m = c.in-Some-get_mut.members.now in
    let key = c.in-Some.token.now in
    let w = c.replace_at.new.value in
    let n = c.get_mut-in-Some-get_mut.follows.lender w in
    let got = c.in-Some-get_mut-2.ensures.value in
    let there = subst IsSome got refl in
    let updates = (c.get_mut-in-Some-get_mut.follows.holds w).3 there in
    let split : map text c.args.tokens.now ≡ text key ∷ map text c.in-Some.rest.now = ap (map text) c.in-Some.ensures.cases.0 in
    subst (λ ks. Replaces (view v) ks c.args.part c.replace_at.result (view (is.Object n))) (sym split)
    (replaces_step (view v) (view c.in-Some-get_mut-2.member.now) (view w) _ (text key) (map text c.in-Some.rest.now) c.args.part
    c.replace_at.result (view_IsTree v)
    (member_step v m key c.as_str.result.now (Some c.in-Some-get_mut-2.member.now) c.as_str.ensures.value c.in-Some-get_mut.ensures.value
    got)
    c.replace_at.ensures (member_replaced v m n key c.as_str.result.now w c.as_str.ensures.value c.in-Some-get_mut.ensures.value there
    updates))

pub returns-in-None : goal.returns-in-None
returns-in-None t c =
    let v = c.args.value.now in
    let m = c.in-Some-get_mut.members.now in
    let key = c.in-Some.token.now in
    let split : map text c.args.tokens.now ≡ text key ∷ map text c.in-Some.rest.now = ap (map text) c.in-Some.ensures.cases.0 in (
      ap (part_at (view v)) split ∙ no_part (view v) (text key) (map text c.in-Some.rest.now)
          (member_step v m key c.as_str.result.now None c.as_str.ensures.value c.in-Some-get_mut.ensures.value c.in-None.ensures.value),
      refl,
      ap (λ x. view (is.Object x)) c.get_mut-in-Some-get_mut.follows.holds-at-none
          ∙ ap view (put_of_object v m (sym c.in-Some-get_mut.ensures.value)),
    )

pub returns-in_default-index : goal.returns-in_default-index
returns-in_default-index t c =
    let v = c.args.value.now in
    let l = c.in-Some-get_mut-3.items.now in
    let key = c.in-Some.token.now in
    let split : map text c.args.tokens.now ≡ text key ∷ map text c.in-Some.rest.now = ap (map text) c.in-Some.ensures.cases.0 in
    let past : (i : ℕ) → index_of (text key) ≡ Some i → length l.items ≤ i
    = λ i e. let h : 2 ^ 64 ≤ i = subst (λ o. MatchOption o ((j : ℕ) → index_of (chars c.as_str-in-Some-get_mut-3.result.now) ≡ Some j
    → 2 ^ 64 ≤ j) (λ j. index_of (chars c.as_str-in-Some-get_mut-3.result.now) ≡ Some j)) c.in_default-index.is c.index.ensures i
    (ap (λ bs. index_of (chars bs)) c.as_str-in-Some-get_mut-3.ensures.value ∙ e) in omega (arith, l.small, l.ok) in (
      ap (part_at (view v)) split ∙ no_part (view v) (text key) (map text c.in-Some.rest.now)
          (item_past v l (text key) c.in-Some-get_mut-3.ensures.value past),
      refl,
      ap view
          (put_of_array v l (sym c.in-Some-get_mut-3.ensures.value)),
    )

pub returns-in-Some-get_mut-4 : goal.returns-in-Some-get_mut-4
returns-in-Some-get_mut-4 t c =
    let v = c.args.value.now in
    let l = c.in-Some-get_mut-3.items.now in
    let key = c.in-Some.token.now in
    let i = c.in-Some-index.at in
    let w = c.replace_at-in-Some-get_mut-4.new.value in
    let held = c.in-Some-get_mut-3.ensures.value in
    let at : index_of (text key) ≡ Some i = ap (λ bs. index_of (chars bs)) (sym c.as_str-in-Some-get_mut-3.ensures.value)
    ∙ c.in-Some-index.ensures in
    let there : slice_get l.items i ≡ Some c.in-Some-get_mut-4.item.now = grind (arith, common_steps, slice_get_cases l.items i) in
    let split : map text c.args.tokens.now ≡ text key ∷ map text c.in-Some.rest.now = ap (map text) c.in-Some.ensures.cases.0 in
    subst (λ ks. Replaces (view v) ks c.args.part c.replace_at-in-Some-get_mut-4.result (view (is.Array (with_item l i w)))) (sym split)
    (replaces_step (view v) (view c.in-Some-get_mut-4.item.now) (view w) _ (text key) (map text c.in-Some.rest.now) c.args.part
    c.replace_at-in-Some-get_mut-4.result (view_IsTree v)
    (item_step v l (text key) i (Some c.in-Some-get_mut-4.item.now) held at there)
    c.replace_at-in-Some-get_mut-4.ensures (item_replaced v l (text key) i w held at))

pub returns-in-None-get_mut : goal.returns-in-None-get_mut
returns-in-None-get_mut t c =
    let v = c.args.value.now in
    let l = c.in-Some-get_mut-3.items.now in
    let key = c.in-Some.token.now in
    let i = c.in-Some-index.at in
    let held = c.in-Some-get_mut-3.ensures.value in
    let at : index_of (text key) ≡ Some i = ap (λ bs. index_of (chars bs)) (sym c.as_str-in-Some-get_mut-3.ensures.value)
    ∙ c.in-Some-index.ensures in
    let none : slice_get l.items i ≡ None = grind (arith, common_steps, slice_get_cases l.items i) in
    let split : map text c.args.tokens.now ≡ text key ∷ map text c.in-Some.rest.now = ap (map text) c.in-Some.ensures.cases.0 in (
      ap (part_at (view v)) split ∙ no_part (view v) (text key) (map text c.in-Some.rest.now)
          (item_step v l (text key) i None held at none),
      refl,
      ap view (put_of_array v l (sym held)),
    )

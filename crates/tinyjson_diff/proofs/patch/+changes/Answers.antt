use Rattle.std.proofs.Common.{◌≡◌, inl, inr, ◌∙◌, ◌+◌, ◌++◌, ◌-◌, ◌*◌, ◌<◌, [], ◌∷◌, suc}
use Rattle.std.proofs.Common.{Some, option_map, drop, refl, sym, ap, subst, arith, rules}
use Rattle.std.specs.Str.{chars}
use Rattle.tinyjson.specs.JsonKind.TheVariants as kind
use Rattle.tinyjson.specs.Tree.{array, object, find, member}
use Rattle.tinyjson_document.specs.Parts.{members_in}
use Rattle.tinyjson_patch.specs.Operation.{add}
use Rattle.tinyjson_view.proofs.Callers.{array_is, key_at, object_is}
use Rattle.tinyjson_view.specs.Views.{tree_of, trees_of, members_of}
use Rattle.tinyjson_diff.specs.Patching.{AreLikeContainers}
use Rattle.tinyjson_diff.specs.Steps.{actions_of, Changes}
use Rattle.tinyjson_diff.specs.declared.step.Change.TheVariants as change
use Rattle.tinyjson_diff.proofs.Items.{ItemsPassed, passing_adds, passing_begins, passing_changes, passing_ends}
use Rattle.tinyjson_diff.proofs.Leading.{no_changes, no_containers}
use Rattle.tinyjson_diff.proofs.Members.{AddsPassed, adding_adds, adding_begins, adding_changes, adding_ends}
use Rattle.tinyjson_diff.proofs.Promised.{inside_when, replaced_when}
use Rattle.tinyjson_diff.proofs.Steps.{drop_end, drop_item, listed_first, pushed_at, pushed_item}
use Rattle.tinyjson_diff.proofs.Values.{sorted_members}
use Rattle.tinyjson_diff.proofs.patch.+changes.Goals.{of_members-in-Some+in_ok-inner-in-Some+in_ok-append_of_member-in-Some}
use Rattle.tinyjson_diff.proofs.patch.+changes.Goals.{of_members-in-None+in_ok-copy_of-in-None+in_ok-at_key-in-None+in_ok-push-in-None}
use Rattle.tinyjson_diff.proofs.patch.+changes.Goals.{of_items-then-index-left+in_ok-inner+in_ok-append_of_item}
use Rattle.tinyjson_diff.proofs.patch.+changes.Goals.{of_items-else-index-left+in_ok-copy_of+in_ok-at_index+in_ok-push}
use Rattle.tinyjson_diff.proofs.patch.+changes.Goals.{changes-in_default-via-in-Object+in_default, changes-in_default-via-in-Array+in_default, changes-in_default-via-in_default}
use Rattle.tinyjson_diff.proofs.patch.+changes.Goals as goal

pub changes-returns-then-room-eq0 : goal.changes-returns-then-room-eq0
changes-returns-then-room-eq0 t c =
    replaced_when c.replacement.result c.args.room (tree_of c.args.old) (tree_of c.args.new)
    (inl (omega (arith, c.if-room-eq0.true))) c.replacement.ensures

pub changes-returns-then-are_found_equal : goal.changes-returns-then-are_found_equal
changes-returns-then-are_found_equal t c =
    let old = tree_of c.args.old in
    let new = tree_of c.args.new in
    subst (λ l. Changes c.args.room old new (actions_of l)) (sym c.new.ensures.items)
    (no_changes c.args.room old new (c.are_found_equal.ensures c.if-are_found_equal.true))

pub changes-returns-in_default : goal.changes-returns-in_default
changes-returns-in_default t c =
    let t = tree_of c.args.old in
    let u = tree_of c.args.new in
    let apart : ¬ AreLikeContainers (Some t) (Some u) = elim c.in_default.branch [
      | changes-in_default-via-in-Object+in_default w ↦ no_containers t u
          (λ a b. w.in_default.not-Object-1 (c.kind-2.ensures ∙ sym b))
          (λ a b. let e : kind.Object ≡ kind.Array = sym w.in_default.is-0 ∙ (c.kind.ensures ∙ sym a) in cc)
      | changes-in_default-via-in-Array+in_default w ↦ no_containers t u
          (λ a b. let e : kind.Array ≡ kind.Object = sym w.in_default.is-0 ∙ (c.kind.ensures ∙ sym a) in cc)
          (λ a b. w.in_default.not-Array-1 (c.kind-2.ensures ∙ sym b))
      | changes-in_default-via-in_default w ↦ no_containers t u
          (λ a b. w.in_default.not-Object-0 (c.kind.ensures ∙ sym a))
          (λ a b. w.in_default.not-Array-0 (c.kind.ensures ∙ sym a))
    ] in
    replaced_when c.replacement-in_default.result c.args.room t u (inr apart) c.replacement-in_default.ensures

pub changes-of_members-requires : goal.changes-of_members-requires
changes-of_members-requires t c =
    let smaller : 2 * (c.args.room - 1) + 2 < 2 * c.args.room + 1 = omega (arith, c.if-room-eq0.false) in
    search rules

pub changes-of_items-requires : goal.changes-of_items-requires
changes-of_items-requires t c =
    let smaller : 2 * (c.args.room - 1) + 2 < 2 * c.args.room + 1 = omega (arith, c.if-room-eq0.false) in
    search rules

pub changes-returns-in-Object-Object : goal.changes-returns-in-Object-Object
changes-returns-in-Object-Object t c =
    let before = tree_of c.args.old in
    let after = tree_of c.args.new in
    inside_when c.of_members.result c.args.room (c.args.room - 1 + 1) before (object (members_in before)) after (object (members_in after))
    (sym (object_is before (sym c.in-Object-Object.is-0 ∙ c.kind.ensures)))
    (sym (object_is after (sym c.in-Object-Object.is-1 ∙ c.kind-2.ensures))) (omega (arith, c.if-room-eq0.false)) c.of_members.ensures

pub changes-returns-in_ok-after-in-Array-Array : goal.changes-returns-in_ok-after-in-Array-Array
changes-returns-in_ok-after-in-Array-Array t c =
    let before = tree_of c.args.old in
    let after = tree_of c.args.new in
    inside_when c.of_items.result c.args.room (c.args.room - 1 + 1) before (array (trees_of c.as_slice.result.now))
    after (array (trees_of c.as_slice-in-Array-Array.result.now))
    (sym (array_is before (sym c.in-Array-Array.is-0 ∙ c.kind.ensures))
    ∙ ap array (sym (ap trees_of c.as_slice.ensures.value ∙ c.in_ok-before-in-Array-Array.ensures)))
    (sym (array_is after (sym c.in-Array-Array.is-1 ∙ c.kind-2.ensures))
    ∙ ap array (sym (ap trees_of c.as_slice-in-Array-Array.ensures.value ∙ c.in_ok-after-in-Array-Array.ensures)))
    (omega (arith, c.if-room-eq0.false)) c.of_items.ensures

pub of_members-changes-requires : goal.of_members-changes-requires
of_members-changes-requires t c =
    let smaller : 2 * c.args.room + 1 < 2 * c.args.room + 2 = omega arith in
    search rules

pub of_members-loop-member-init : goal.of_members-loop-member-init
of_members-loop-member-init t c =
    let os = members_in (tree_of c.args.before) in
    let ns = members_in (tree_of c.args.after) in
    let xs = actions_of c.in_ok-steps.steps.items in
    let whole : members_of c.as_slice-member-items.result.now ≡ ns
    = ap members_of c.as_slice-member-items.ensures.value ∙ c.in_ok-members.ensures.listed in
    subst (λ ms. AddsPassed c.args.room os ns ms xs) (sym whole)
    (adding_begins c.args.room os ns xs (sorted_members c.args.after) c.in_ok-steps.ensures)

pub of_members-loop-member-preserved : goal.of_members-loop-member-preserved
of_members-loop-member-preserved t c =
    let r = c.args.room in
    let os = members_in (tree_of c.args.before) in
    let ns = members_in (tree_of c.args.after) in
    let ps = c.as_slice-member-items.result.now in
    let i = c.loop-member.member-index in
    let x = c.member-item.result in
    let k = chars x.key.now in
    let v = tree_of x.value in
    let rest = members_of (drop (i + 1) ps) in
    let xs = actions_of c.loop-member.steps.items in
    let turn : AddsPassed r os ns (member k v rest) xs
    = subst (λ ms. AddsPassed r os ns ms xs) (listed_first ps i x c.loop-member-test.true c.member-item.is) c.loop-member.invariant in
    let found : option_map tree_of c.member.result ≡ find k os = c.member.ensures ∙ key_at (tree_of c.args.before) k in
    elim c.match-member.branch [
      | of_members-in-Some+in_ok-inner-in-Some+in_ok-append_of_member-in-Some w ↦
          let appended = w.in_ok-append_of_member-in-Some.ensures in
          let inner = actions_of w.in_ok-inner-in-Some.inner.items in
          subst (AddsPassed r os ns rest) (sym (ap (λ s. actions_of s.items) w.steps-is ∙ appended.1))
          (adding_changes r os ns rest k v xs turn (tree_of w.in-Some.part) inner appended.0
          (sym found ∙ ap (option_map tree_of) w.in-Some.is) w.in_ok-inner-in-Some.ensures
          appended.2)
      | of_members-in-None+in_ok-copy_of-in-None+in_ok-at_key-in-None+in_ok-push-in-None w ↦
          let u = w.in_ok-copy_of-in-None.field-0 in
          subst (AddsPassed r os ns rest)
          (sym (ap (λ s. actions_of s.items) w.steps-is
          ∙ (pushed_at c.loop-member.steps.items w.push.new.self.items w.in_ok-at_key-in-None.field-0 (change.Add u)
          k k w.in_ok-push-in-None.ensures.items w.in_ok-at_key-in-None.ensures refl
          ∙ ap (λ y. xs ++ add (k ∷ []) y ∷ []) w.in_ok-copy_of-in-None.ensures)))
          (adding_adds r os ns rest k v xs turn (sym found ∙ ap (option_map tree_of) w.in-None.is))
    ]

pub of_members-returns : goal.of_members-returns
of_members-returns t c =
    let r = c.args.room in
    let os = members_in (tree_of c.args.before) in
    let ns = members_in (tree_of c.args.after) in
    let ps = c.as_slice-member-items.result.now in
    let i = c.loop-member.member-index in
    let xs = actions_of c.loop-member.steps.items in
    let next : suc r ≡ r + 1 = omega arith in
    subst (λ n. Changes n (object os) (object ns) xs) next
    (adding_ends r os ns (members_of (drop i ps)) xs (sorted_members c.args.after)
    (ap members_of (drop_end ps i c.loop-member-test.false)) c.loop-member.invariant)

pub of_items-changes-requires : goal.of_items-changes-requires
of_items-changes-requires t c =
    let smaller : 2 * c.args.room + 1 < 2 * c.args.room + 2 = omega arith in
    search rules

pub of_items-loop-index-init : goal.of_items-loop-index-init
of_items-loop-index-init t c =
    passing_begins c.args.room c.args.before.now c.args.after.now c.in_ok-steps.left.now (actions_of c.in_ok-steps.steps.items)
    c.in_ok-steps.ensures

pub of_items-loop-index-preserved : goal.of_items-loop-index-preserved
of_items-loop-index-preserved t c =
    let r = c.args.room in
    let vs = c.args.before.now in
    let ws = c.args.after.now in
    let left = c.in_ok-steps.left.now in
    let i = c.loop-index.index in
    let x = c.index-after-index.result in
    let xs = actions_of c.loop-index.steps.items in
    let here = drop_item ws i x c.loop-index-test.true c.index-after-index.is in
    elim c.if-index-left.branch [
      | of_items-then-index-left+in_ok-inner+in_ok-append_of_item w ↦
          let appended = w.in_ok-append_of_item.ensures in
          let inner = actions_of w.in_ok-inner.inner.items in
          let part = w.index-left-index.result in
          subst (ItemsPassed r vs ws (i + 1) (drop (i + 1) left)) (sym (ap (λ s. actions_of s.items) w.steps-is ∙ appended.1))
          (passing_changes r vs ws i x (drop (i + 1) ws) here refl c.loop-index-test.true part (drop (i + 1) left) xs inner
          appended.0
          (subst (λ l. ItemsPassed r vs ws i l xs) (drop_item left i part w.if-index-left.true w.index-left-index.is) c.loop-index.invariant)
          w.in_ok-inner.ensures appended.2)
      | of_items-else-index-left+in_ok-copy_of+in_ok-at_index+in_ok-push w ↦
          let u = w.in_ok-copy_of.field-0 in
          let at = w.in_ok-at_index.ensures in
          let none = drop_end left i w.if-index-left.false in
          subst (λ l. ItemsPassed r vs ws (i + 1) l (actions_of c.if-index-left.steps.items))
          (sym (drop_end left (i + 1) (omega (arith, w.if-index-left.false))))
          (subst (ItemsPassed r vs ws (i + 1) [])
          (sym (ap (λ s. actions_of s.items) w.steps-is
          ∙ (pushed_item c.loop-index.steps.items w.push.new.self.items w.in_ok-at_index.field-0 (change.Add u) i
          w.in_ok-push.ensures.items at
          ∙ ap (λ y. xs ++ add (at.0 ∷ []) y ∷ []) w.in_ok-copy_of.ensures)))
          (passing_adds r vs ws i x (drop (i + 1) ws) here refl c.loop-index-test.true at.0 xs at.1
          (subst (λ l. ItemsPassed r vs ws i l xs) none c.loop-index.invariant)))
    ]

pub of_items-returns : goal.of_items-returns
of_items-returns t c =
    let r = c.args.room in
    let vs = c.args.before.now in
    let ws = c.args.after.now in
    let i = c.loop-index.index in
    let xs = actions_of c.loop-index.steps.items in
    let next : suc r ≡ r + 1 = omega arith in
    subst (λ n. Changes n (array (trees_of vs)) (array (trees_of ws)) xs) next
    (passing_ends r vs ws (drop i c.in_ok-steps.left.now) i xs c.loop-index-test.false (drop_end ws i c.loop-index-test.false)
    c.loop-index.invariant)

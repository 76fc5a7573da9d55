use Rattle.std.proofs.Common.{◌≡◌, ◌+◌, ◌<◌, ◌++◌, [], ◌∷◌, ap, arith, ◌∙◌}
use Rattle.tinyjson_document.specs.Parts.{size}
use Rattle.tinyjson_patch.specs.private.Edited.{part_tree}
use Rattle.tinyjson_patch.proofs.Editing.Counting.{counting_begins, counts_less, counts_on, exceeded}
use Rattle.tinyjson_patch.proofs.edit.count.left_behind.Goals as goal

pub loop-next-init : goal.loop-next-init
loop-next-init c =
    let e : c.args.left ≡ c.in-Some.rest + 1 = omega (arith, c.in-Some.ensures) in
    counting_begins c.args.left c.in-Some.rest c.args.part c.push.new.self.items e
    (c.in_ok-push.ensures.items ∙ ap (λ ps. ps ++ c.args.part ∷ []) c.new-stack.ensures.items)

pub loop-next-smaller : goal.loop-next-smaller
loop-next-smaller c =
    let l = c.loop-next in
    counts_less c.args.left l.rest (part_tree c.args.part) l.stack.items c.pop.new.self.items c.in-Some-pop.next c.in-Some-pop.ensures.items
    l.invariant c.push_parts.new.stack.items c.in_ok-push_parts.ensures

pub loop-next-preserved : goal.loop-next-preserved
loop-next-preserved c =
    let l = c.loop-next in
    let p = c.in-Some-pop.next in
    let e : l.rest ≡ c.in-Some-checked_sub.others + size (part_tree p) = omega (arith, c.in-Some-checked_sub.ensures, c.count_of.ensures) in
    counts_on c.args.left l.rest (part_tree c.args.part) l.stack.items c.pop.new.self.items p c.in-Some-pop.ensures.items
    l.invariant c.in-Some-checked_sub.others c.push_parts.new.stack.items e c.in_ok-push_parts.ensures

pub returns-in_default-checked_sub : goal.returns-in_default-checked_sub
returns-in_default-checked_sub c =
    let l = c.loop-next in
    let p = c.in-Some-pop.next in
    let more : l.rest < size (part_tree p) = omega (arith, c.in_default-checked_sub.ensures, c.count_of.ensures) in
    exceeded c.args.left l.rest (part_tree c.args.part) l.stack.items c.pop.new.self.items p c.in-Some-pop.ensures.items l.invariant more

use Rattle.std.proofs.Common.{refl, sym, ◌-◌, ◌∙◌, ap, subst, arith, append_assoc, [], ◌∷◌, ◌++◌, None, Some}
use Rattle.text_regexp.specs.Forms.{Form, class, repetition}
use Rattle.text_regexp.specs.Building.{Same, AllMean}
use Rattle.text_regexp.specs.Marked.{tree_form}
use Rattle.text_regexp.proofs.Building.{ok_as, copy_means, times, times_end, all_mean_push, repeat_least, repeat_between}
use Rattle.text_regexp.proofs.Building.{means_same, repeat_up_to}
use Rattle.text_regexp.proofs.expression.Expression.repeat.Goals as goal

pub loop-i-preserved : goal.loop-i-preserved
loop-i-preserved c = λ f m.
    let copied = copy_means c.args.self.now c.in_ok-copy.field-0 f c.in_ok-copy.ensures m in
    let all = all_mean_push c.loop-i.parts.items c.push.new.self.items c.in_ok-copy.field-0
    (times c.loop-i._i f []) f c.in_ok-push.ensures.items (c.loop-i.invariant f m) copied in
    subst (AllMean c.push.new.self.items) (times_end c.loop-i._i f) all

pub returns-in_default : goal.returns-in_default
returns-in_default c = ok_as c.sequence_of.result _ _ c.sequence_of.ensures (λ n h f m.
    let copied = copy_means c.args.self.now c.in_ok-copy-2.field-0 f c.in_ok-copy-2.ensures m in
    let all = all_mean_push c.loop-i.parts.items c.push-in_default.new.self.items c.in_ok-star.field-0 (times c.loop-i._i f [])
    (repetition f 0 None) c.in_ok-push-2.ensures.items (c.loop-i.invariant f m) (c.in_ok-star.ensures f copied) in
    repeat_least n c.loop-i._i c.args.least c.args.most f (omega arith) c.in_default.is (h _ all))

pub loop-k-preserved : goal.loop-k-preserved
loop-k-preserved c = λ f m.
    let g : Form = repetition f 0 (Some 1) in
    let copied = copy_means c.args.self.now c.in_ok-copy-4.field-0 f c.in_ok-copy-4.ensures m in
    let all = all_mean_push c.loop-k.parts.items c.push-in-loop-k.new.self.items c.in_ok-optional.field-0
    (times c.args.least f [] ++ times c.loop-k._k g []) g c.in_ok-push-4.ensures.items (c.loop-k.invariant f m)
    (c.in_ok-optional.ensures f copied) in
    subst (AllMean c.push-in-loop-k.new.self.items) (append_assoc (times c.args.least f []) (times c.loop-k._k g []) (g ∷ [])
    ∙ ap (λ gs. times c.args.least f [] ++ gs) (times_end c.loop-k._k g)) all

pub returns : goal.returns
returns c = ok_as c.sequence_of-2.result _ _ c.sequence_of-2.ensures (λ n h f m.
    repeat_between n c.loop-k._k c.args.least c.in-Some.most c.args.most f (omega arith) c.in-Some.is c.requires
    (h _ (c.loop-k.invariant f m)))

pub returns-in-Class : goal.returns-in-Class
returns-in-Class c = ok_as c.sequence_of-in-Class.result _ _ c.sequence_of-in-Class.ensures (λ n h f m.
    let copied = c.in_ok-copy-3.field-0 in
    let given = c.in-Class.class in
    let form = ap tree_form c.in-Class.is ∙ (ap (λ b. class b given.items.items) (sym c.in_ok-copy-3.ensures.negated)
    ∙ ap (class copied.negated) (sym c.in_ok-copy-3.ensures.items)) in
    let same = subst (λ g. Same g f) form (means_same c.args.self.now f m) in
    let few = c.up_to.ensures f same in
    let all = all_mean_push c.loop-i.parts.items c.push-in-Class.new.self.items c.up_to.result (times c.loop-i._i f [])
    (repetition f 0 (Some (c.in-Some.most - c.args.least))) c.in_ok-push-3.ensures.items (c.loop-i.invariant f m) few in
    repeat_up_to n c.loop-i._i (c.in-Some.most - c.args.least) c.args.least c.in-Some.most c.args.most f (omega arith) refl
    c.in-Some.is c.requires (h _ all))

use Rattle.std.proofs.Common.{◌≡◌, ap, ◌∙◌, drop, length, arith}
use Rattle.tinyjson_normal.specs.Compacting.{members_of}
use Rattle.tinyjson_normal.proofs.Compacting.{closes_object, placed_now}
use Rattle.tinyjson_cells.proofs.Callers.{slice_rest}
use Rattle.tinyjson_normal.proofs.compact.CompactEvents.close_object.Goals as goal

pub returns : goal.returns
returns c = λ _ ms os h.
    let a = c.args.self.now in
    let start = c.in-Some.start in
    let b = c.order.new.self in
    let rest = c.in-Some-get.ensures.lookup.0.2 ∙ slice_rest c.deref.result.now start.members
    ∙ ap (drop start.members) c.deref.ensures.value in
    let end : c.len.result ≡ length a.text.items = omega (arith, a.text.ok.0) in
    let paired : c.pair_begun.new.members.items ≡ members_of (drop start.members a.begun.items) (length a.text.items) =
    c.in_ok-pair_begun.ensures ∙ (λ i. members_of (rest i) (end i)) in
    let ordered = c.in_ok-order.ensures.text (placed_now a ms os start _ _ h c.in-Some.ensures.items paired) in
    closes_object c.push_closing.result a b (record b { text = c.push_closing.new.text }) ms os start _ _ ordered.0 h
    c.in-Some.ensures.items paired ordered.1 ordered.2
    c.push_closing.ensures.some c.push_closing.ensures.none c.in_ok-order.ensures.store
    (ap (λ v. v.items) c.in_ok-order.ensures.opened) (ap (λ v. v.items) c.in_ok-order.ensures.begun ∙ c.truncate.ensures.items)

use Rattle.std.proofs.Common.{refl, ◌∙◌, ap, subst, drop}
use Rattle.tinyjson_cells.specs.Order.{IsOrdered}
use Rattle.tinyjson_cells.proofs.Callers.{slice_rest}
use Rattle.tinyjson_document.proofs.Waiting.{closes_object, puts_over}
use Rattle.tinyjson_document.proofs.arena.ArenaEvents.close_object.Goals as goal

pub returns : goal.returns
returns c = λ s ms fs h.
    let a = c.args.self.now in
    let place = c.in-Some.place in
    let ks = c.in-Some-get.keys.now in
    let vs = c.in-Some-get-2.values.now in
    let dk = c.in-Some-get.ensures.lookup.0.2 ∙ slice_rest c.deref.result.now place.keys ∙ ap (drop place.keys) c.deref.ensures.value in
    let dv = c.in-Some-get-2.ensures.lookup.0.2 ∙ slice_rest c.deref-2.result.now place.values
    ∙ ap (drop place.values) c.deref-2.ensures.value in
    let added = c.in_ok-span.ensures.members in
    let ordered = subst (λ z. IsOrdered a.store.texts z added.0) c.in_ok-pair.ensures added.1 in
    puts_over s _ fs _ (closes_object a _ ms fs c.in_ok-span.span place _ ks c.truncate.new.self.items vs c.truncate-2.new.self.items
    added.0 h.0
    c.in-Some.ensures.items
    dk c.truncate.ensures.items dv c.truncate-2.ensures.items ordered.permuted ordered.sorted ordered.stable
    c.in_ok-span.ensures.grows added.2 refl refl c.in_ok-push.ensures.items)
    (h.1 ∙ c.in_ok-span.ensures.grows.texts.source)

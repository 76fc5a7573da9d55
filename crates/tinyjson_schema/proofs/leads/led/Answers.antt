use Rattle.std.proofs.Common.{◌≡◌, ◌≢◌, ◌+◌, ◌∙◌, ℕ, Bool, true, false, List, None, Some, bytes_eq, cond, drop, string_bytes, refl, sym, ap}
use Rattle.std.proofs.lemmas.Slice.Eq.{bytes_eq-Decides}
use Rattle.tinyjson.specs.View.{view}
use Rattle.tinyjson_schema_keywords.proofs.Callers.{turn_next, turn_end}
use Rattle.tinyjson_schema.specs.Leads.{led}
use Rattle.tinyjson_schema.proofs.leads.led.Goals as goal

differ : (ks ls ms ns : List ℕ) → ks ≡ ms → ls ≡ ns → ks ≢ ls → bytes_eq ms ns ≡ false
differ ks ls ms ns p q n = by (bytes_eq ms ns) refl
  where
    by : (b : Bool) → bytes_eq ms ns ≡ b → b ≡ false
    by true e = absurd (n (p ∙ ((bytes_eq-Decides ms ns).0 e ∙ sym q)))
    by false e = refl

pub loop-lead-preserved : goal.loop-lead-preserved
loop-lead-preserved c =
    let xs = c.args.leads.now in
    let text = c.args.reference.now in
    let i = c.loop-lead.lead-index in
    let x = c.lead-item.result in
    turn_next (λ ls. led ls text) xs i x c.loop-lead-test.true c.lead-item.is
    (ap (λ b. cond b (Some (view x.schema.now)) (led (drop (i + 1) xs) text)) (differ _ _ (string_bytes x.reference.now) text
    c.as_bytes.ensures.value c.as_bytes-in-loop-lead.ensures.value c.if-are_equal.ensures)) c.loop-lead.invariant

pub returns : goal.returns
returns c =
    sym (turn_end (λ ls. led ls c.args.reference.now) c.args.leads.now c.loop-lead.lead-index None c.loop-lead-test.false refl
    c.loop-lead.invariant)

use Rattle.std.proofs.Common.{rules, arith, refl, ap, is_err, subst, sym}
use Rattle.std.proofs.lemmas.Result.{err_from_is_err_and}
use Rattle.std.proofs.lemmas.Str.{IsUtf8-had}
use Rattle.tinyjson_tokens.proofs.Reading.Escape.{escapes_boundary, escapes_go, escapes_added, escapes_halt}
use Rattle.tinyjson_tokens.proofs.Letters.{text_sight}
use Rattle.tinyjson_tokens.specs.Escape.{Spells}
use Rattle.tinyjson_tokens.proofs.Reading.Steps.{Halts_here, Leads_nil}
use Rattle.tinyjson_tokens.proofs.text.TextBytesTokens.escaped.Goals as goal

pub loop-end-init : goal.loop-end-init
loop-end-init c = record { reads = λ limit fs. Leads_nil text_sight limit _ _; left = search (rules, arith) }

pub returns-in_err-end-clause-reads : goal.returns-in_err-end-clause-reads
returns-in_err-end-clause-reads c = λ limit fs.
    let p = err_from_is_err_and c.from_residual.result c.from_residual.ensures.1 in
    rw p.1 (Halts_here text_sight limit _ _ (c.loop-end.invariant.reads limit fs) tt tt)

pub invariant_of-self : goal.invariant_of-self
invariant_of-self c =
    let self = c.loop-end.self in
    let e = c.in_ok-end.ensures in
    let s = subst (λ t. Spells t self.at e.0 c.in_ok-end.end) c.as_bytes.ensures.value e.1 in
    record {
      utf8 = self.utf8;
      boundary = escapes_boundary self.text.now (IsUtf8-had self.text.now self.utf8) self.at self.boundary e.0 c.in_ok-end.end s;
    }

pub returns-in_err-letters-clause-reads : goal.returns-in_err-letters-clause-reads
returns-in_err-letters-clause-reads c = λ limit fs.
    let self = c.loop-end.self in
    let p = err_from_is_err_and c.from_residual-in_err-letters.result c.from_residual-in_err-letters.ensures.1 in
    let e = c.in_ok-end.ensures in
    let s = subst (λ t. Spells t self.at e.0 c.in_ok-end.end) c.as_bytes.ensures.value e.1 in
    rw p.1 (escapes_halt limit fs _ self _ _ _ _ _ _ e.0 c.in_ok-end.end _ c.letters.ensures.plain
    (c.loop-end.invariant.reads limit fs) s refl refl e.2)

pub loop-end-preserved : goal.loop-end-preserved
loop-end-preserved c =
    let self = c.loop-end.self in
    let e = c.in_ok-end.ensures in
    let s = subst (λ t. Spells t self.at e.0 c.in_ok-end.end) c.as_bytes.ensures.value e.1 in
    record {
      reads = λ limit fs. escapes_added limit fs _ self _ _ _ _ _ _ e.0 c.in_ok-end.end _ c.letters.ensures.plain
          (c.loop-end.invariant.reads limit fs) s refl refl e.2 (ap is_err c.in_ok-letters.was);
      left = omega (arith, s.stands.long, c.letters.ensures.left, c.loop-end.invariant.left);
    }

pub returns-then-end-self-clause-reads : goal.returns-then-end-self-clause-reads
returns-then-end-self-clause-reads c = λ limit fs.
    let self = c.loop-end.self in
    let e = c.in_ok-end.ensures in
    let s = subst (λ t. Spells t self.at e.0 c.in_ok-end.end) c.as_bytes.ensures.value e.1 in
    escapes_go limit fs _ self self _ _ _ e.0 c.in_ok-end.end (c.loop-end.invariant.reads limit fs) s refl (sym c.if-end-self.true) e.2

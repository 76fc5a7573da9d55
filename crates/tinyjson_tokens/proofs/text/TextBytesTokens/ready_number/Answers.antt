use Rattle.std.proofs.Common.{ap, ◌∙◌, arith, refl, subst}
use Rattle.std.specs.Str.{chars}
use Rattle.std.proofs.lemmas.Str.{IsUtf8-had}
use Rattle.tinyjson_number.specs.Scan.{PartsAt}
use Rattle.tinyjson_tokens.proofs.Reading.Numerals.{found_ready, numeral_between, numeral_boundary, numeral_some, numeral_taken}
use Rattle.tinyjson_tokens.proofs.text.TextBytesTokens.ready_number.Goals as goal

pub invariant_of-after : goal.invariant_of-after
invariant_of-after c =
    let self = c.args.self.now in
    let r = c.in_ok-number in
    let x = subst (λ t. PartsAt t self.at r.ensures.0 r.end) c.as_bytes.ensures.value r.ensures.1 in
    record {
      utf8 = self.utf8;
      boundary = numeral_boundary self.text.now
          (IsUtf8-had self.text.now self.utf8) self.at self.boundary x.0 r.end x.2;
    }

pub returns-clause-takes : goal.returns-clause-takes
returns-clause-takes c =
    let self = c.args.self.now in
    let r = c.in_ok-number in
    let x = subst (λ t. PartsAt t self.at r.ensures.0 r.end) c.as_bytes.ensures.value r.ensures.1 in
    let lent = ap chars c.range.ensures.value
    ∙ numeral_between self.text.now (IsUtf8-had self.text.now self.utf8) self.at self.boundary x.0 r.end x.2 in
    (x.0, found_ready x.0 r.ensures.0 x.1 r.number _ r.ensures.2 lent, numeral_taken self _ x.0 x.2 refl)

pub returns-clause-left : goal.returns-clause-left
returns-clause-left c =
    let self = c.args.self.now in
    let r = c.in_ok-number in
    let x = subst (λ t. PartsAt t self.at r.ensures.0 r.end) c.as_bytes.ensures.value r.ensures.1 in
    omega (arith, x.2.within, numeral_some self.text.now self.at self.boundary.0 x.0 r.end x.2)

pub range-requires-clause-start_le_end : goal.range-requires-clause-start_le_end
range-requires-clause-start_le_end c =
    let self = c.args.self.now in
    let r = c.in_ok-number in
    let x = subst (λ t. PartsAt t self.at r.ensures.0 r.end) c.as_bytes.ensures.value r.ensures.1 in
    omega (arith, numeral_some self.text.now self.at self.boundary.0 x.0 r.end x.2)

pub range-requires-clause-end_boundary : goal.range-requires-clause-end_boundary
range-requires-clause-end_boundary c =
    let self = c.args.self.now in
    let r = c.in_ok-number in
    let x = subst (λ t. PartsAt t self.at r.ensures.0 r.end) c.as_bytes.ensures.value r.ensures.1 in
    numeral_boundary self.text.now (IsUtf8-had self.text.now self.utf8) self.at self.boundary x.0 r.end x.2

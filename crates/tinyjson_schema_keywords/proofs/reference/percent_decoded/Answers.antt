use Rattle.std.proofs.Common.{◌≡◌, ◌∷◌, [], ◌++◌, length, arith, rules, sym, ap, subst}
use Rattle.tinyjson_schema_keywords.proofs.References.{IsDecoded, none_decoded, all_decoded, next_decoded, bad_decoded, front_shorter}
use Rattle.tinyjson_schema_keywords.proofs.reference.percent_decoded.Goals as goal

pub loop-first-init : goal.loop-first-init
loop-first-init c = subst (λ xs. IsDecoded c.args.bytes.now xs c.args.bytes.now) (sym c.new-decoded.ensures.items)
    (none_decoded c.args.bytes.now)

pub loop-first-smaller : goal.loop-first-smaller
loop-first-smaller c =
    let next = c.in-Some-decoded_byte in
    omega (
      arith,
      ap length c.in-Some.ensures.cases.0,
      front_shorter c.in-Some.first.now c.in-Some.more.now next.after.now next.byte
          next.ensures,
    )

pub loop-first-preserved : goal.loop-first-preserved
loop-first-preserved c =
    let next = c.in-Some-decoded_byte in
    let pushed : c.push.new.self.items ≡ c.loop-first.decoded.items ++ next.byte ∷ [] = search rules in
    subst (λ xs. IsDecoded c.args.bytes.now xs next.after.now) (sym pushed)
    (next_decoded c.args.bytes.now c.loop-first.decoded.items c.loop-first.rest.now c.in-Some.more.now next.after.now c.in-Some.first.now
    next.byte c.in-Some.ensures.cases.0 next.ensures c.loop-first.invariant)

pub returns-in_default-decoded_byte : goal.returns-in_default-decoded_byte
returns-in_default-decoded_byte c = bad_decoded c.args.bytes.now c.loop-first.decoded.items c.loop-first.rest.now c.in-Some.more.now
    c.in-Some.first.now c.in-Some.ensures.cases.0 c.in_default-decoded_byte.ensures c.loop-first.invariant

pub returns : goal.returns
returns c = all_decoded c.args.bytes.now c.loop-first.decoded.items c.loop-first.rest.now c.in_default.ensures.cases
    c.loop-first.invariant

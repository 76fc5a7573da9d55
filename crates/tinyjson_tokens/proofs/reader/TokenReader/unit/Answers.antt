use Rattle.std.proofs.Common.{rules, arith, refl, ◌≡◌, ◌<◌, ◌≤◌, ◌+◌, ◌++◌, ◌∷◌, [], length, true, false, ◌∙◌, sym, ap, length-append}
use Rattle.std.specs.Char.{digit_value}
use Rattle.std.proofs.lemmas.Bool.Decides.{nat_tests}
use Rattle.tinyjson_grammar.specs.Characters.{is_hex}
use Rattle.tinyjson_grammar.specs.declared.error.JsonParseErrorKind.TheVariants.{UnexpectedEof, InvalidHexDigit}
use Rattle.tinyjson_grammar.specs.Machine.{next, quoted, plain}
use Rattle.tinyjson_tokens.proofs.Reading.Steps.{Leads_nil, Leads_to, Leads_one, Leads_none, Halts_here, Refuses_as, Refuses_memory}
use Rattle.tinyjson_tokens.proofs.Reading.String.{unit_grows, sixteen_small, sixteen_next, hex_next, hex_step, hex_other, hex_done, hex_end}
use Rattle.tinyjson_tokens.proofs.Reading.String.{hex_taken}
use Rattle.tinyjson_tokens.proofs.reader.TokenReader.unit.Goals as goal

pub loop-init : goal.loop-init
loop-init g c = record {
  small = omega arith;
  items = refl;
  left = omega arith;
  reads = ([], refl, refl, λ limit fs cs. Leads_nil g.S.Source.sight limit _ _);
}

pub returns-in_default-clause-reads : goal.returns-in_default-clause-reads
returns-in_default-clause-reads g c = λ limit fs cs.
    let sight = g.S.Source.sight in
    let v = c.loop.invariant.reads in
    let h : length v.0 < 4 = omega (arith, v.1, c.loop-test.true) in
    Refuses_as sight limit _ _ UnexpectedEof
    (Leads_none sight limit _ _ _ (v.3 limit fs cs) c.in_default.ensures.takes.0 c.in_default.ensures.takes.1 (hex_end limit fs cs _ v.0 h)
    (hex_next fs cs _ v.0 h))

pub returns-in_default-to_digit-clause-reads : goal.returns-in_default-to_digit-clause-reads
returns-in_default-to_digit-clause-reads g c = λ limit fs cs.
    let sight = g.S.Source.sight in
    let v = c.loop.invariant.reads in
    let h : length v.0 < 4 = omega (arith, v.1, c.loop-test.true) in
    let a : 16 ≤ digit_value c.in-Some.c = search rules in
    let b : is_hex c.in-Some.c ≡ false = grind (arith, nat_tests, a) in
    Refuses_as sight limit _ _ (InvalidHexDigit c.in-Some.c)
    (Leads_one sight limit _ _ _ c.in-Some.c (v.3 limit fs cs) c.in-Some.ensures.takes (hex_next fs cs _ v.0 h)
    (hex_other limit fs cs _ v.0 c.in-Some.c h b) tt)

pub overflow_mul-unit : goal.overflow_mul-unit
overflow_mul-unit g c =
    let k = sixteen_small c.loop.counter c.loop-test.true in
    omega (arith, c.loop.invariant.small, k)

pub overflow_add-unit : goal.overflow_add-unit
overflow_add-unit g c =
    let k = sixteen_small c.loop.counter c.loop-test.true in
    let e : c.in-Some-to_digit.digit ≡ digit_value c.in-Some.c = search rules in
    let a : digit_value c.in-Some.c < 16 = search rules in
    omega (arith, c.loop.invariant.small, k, e, a)

pub loop-preserved : goal.loop-preserved
loop-preserved g c =
    let sight = g.S.Source.sight in
    let v = c.loop.invariant.reads in
    let h : length v.0 < 4 = omega (arith, v.1, c.loop-test.true) in
    let e : c.in-Some-to_digit.digit ≡ digit_value c.in-Some.c = search rules in
    let a : digit_value c.in-Some.c < 16 = search rules in
    let b : is_hex c.in-Some.c ≡ true = grind (arith, nat_tests, a) in
    let n = sixteen_next c.loop.counter in
    record {
      small = omega (arith, c.loop.invariant.small, n, e, a);
      items = c.loop.invariant.items;
      left = omega (arith, c.bump.ensures.left, c.loop.invariant.left);
      reads = (
        v.0 ++ c.in-Some.c ∷ [],
        length-append v.0 (c.in-Some.c ∷ []) ∙ ap (λ n. n + 1) v.1,
        unit_grows v.0 c.in-Some.c c.loop.unit c.in-Some-to_digit.digit _ v.2 e refl,
        λ limit fs cs. Leads_one sight limit _ _ _ c.in-Some.c (v.3 limit fs cs) c.in-Some.ensures.takes (hex_next fs cs _ v.0 h)
            (hex_step limit fs cs _ v.0 c.in-Some.c h b) (hex_taken fs cs _ (v.0 ++ c.in-Some.c ∷ [])),
      );
    }

pub returns-then-is_err-clause-reads : goal.returns-then-is_err-clause-reads
returns-then-is_err-clause-reads g c = λ limit fs cs.
    let sight = g.S.Source.sight in
    let v = c.loop.invariant.reads in
    let l : length v.0 ≡ 4 = search (rules, arith) in
    Refuses_memory sight limit _ _
    (Halts_here sight limit _ _ (Leads_to sight limit _ _ (v.3 limit fs cs) (hex_done fs cs _ v.0 _ l v.2)) tt tt)

pub returns-clause-reads : goal.returns-clause-reads
returns-clause-reads g c = λ limit fs cs.
    let sight = g.S.Source.sight in
    let v = c.loop.invariant.reads in
    let l : length v.0 ≡ 4 = search (rules, arith) in
    let e : c.push.new.self.items ≡ c.args.units.now.items ++ c.loop.unit ∷ [] = search rules in
    Leads_to sight limit _ _ (v.3 limit fs cs) (hex_done fs cs _ v.0 _ l v.2 ∙ ap (λ us. next fs (quoted plain cs us)) (sym e))

pub returns-in_default-clause-left : goal.returns-in_default-clause-left
returns-in_default-clause-left g c = omega (arith, c.loop.invariant.left, c.in_default.ensures.left)

pub returns-clause-left : goal.returns-clause-left
returns-clause-left g c = omega (arith, c.loop.invariant.left)

use Rattle.std.proofs.Common.{rules, arith, ◌≡◌, ◌∙◌, ◌++◌, [], Some, true, false, sym, ap}
use Rattle.tinyjson_grammar.specs.Characters.{paired, decode, text}
use Rattle.tinyjson_grammar.specs.Machine.{next, quoted, plain}
use Rattle.tinyjson_bytes.specs.Scan.{is_plain}
use Rattle.tinyjson_grammar.specs.declared.error.JsonParseErrorKind.TheVariants.{InvalidUtf16}
use Rattle.tinyjson_tokens.proofs.Sources.{Takes_shown}
use Rattle.tinyjson_tokens.proofs.Reading.Steps.{Leads_nil, Leads_one, Leads_peek, Leads_shown, Leads_to, Halts_here, Refuses_as}
use Rattle.tinyjson_tokens.proofs.Reading.Steps.{Refuses_memory}
use Rattle.tinyjson_tokens.proofs.Reading.String.{units_added, units_refused}
use Rattle.tinyjson_tokens.proofs.reader.TokenReader.settle.Goals as goal

pub returns-then-is_empty-clause-reads : goal.returns-then-is_empty-clause-reads
returns-then-is_empty-clause-reads g c = λ limit fs. Leads_nil g.S.Source.sight limit _ _

pub returns-in-Ok-true-clause-reads : goal.returns-in-Ok-true-clause-reads
returns-in-Ok-true-clause-reads g c = λ limit fs.
    let sight = g.S.Source.sight in
    let us = c.args.units.now.items in
    let old = text c.args.string.now in
    let now = text c.decode.new.string in
    let plainly : is_plain c.in-Some.c ≡ true = sym c.is_plain.ensures ∙ c.if-is_plain.true in
    let whole : paired us ≡ true = ap paired (sym c.deref.ensures.value) ∙ sym c.in-Ok-true.ensures.whole ∙ c.in-Ok-true.field-0-test in
    let added : now ≡ old ++ decode us = c.in-Ok-true.ensures.text c.in-Ok-true.field-0-test
    ∙ ap (λ vs. old ++ decode vs) c.deref.ensures.value in
    let none : c.clear.new.self.items ≡ [] = search rules in
    Leads_to sight limit _ _
    (Leads_shown sight limit _ _ c.in-Some.c (Leads_peek sight limit _ _ _ (Leads_nil sight limit _ _) c.in-Some.ensures.takes)
    c.in-Some.ensures.shows (units_added limit fs old us now c.in-Some.c plainly whole added) tt)
    (ap (λ vs. next fs (quoted plain now vs)) (sym none))

pub returns-in-Ok-false-clause-reads : goal.returns-in-Ok-false-clause-reads
returns-in-Ok-false-clause-reads g c = λ limit fs.
    let sight = g.S.Source.sight in
    let us = c.args.units.now.items in
    let plainly : is_plain c.in-Some.c ≡ true = sym c.is_plain.ensures ∙ c.if-is_plain.true in
    let unpaired : paired us ≡ false = ap paired (sym c.deref.ensures.value) ∙ sym c.in-Ok-false.ensures.whole
    ∙ c.in-Ok-false.field-0-test in
    Refuses_as sight limit _ _ InvalidUtf16
    (Leads_one sight limit _ _ _ c.in-Some.c (Leads_peek sight limit _ _ _ (Leads_nil sight limit _ _) c.in-Some.ensures.takes)
    (Takes_shown sight _ _ _ _ (c.bump.ensures.shown (Some c.in-Some.c) c.in-Some.ensures.shows) c.bump.ensures.takes) tt
    (units_refused limit fs (text c.args.string.now) us c.in-Some.c plainly unpaired) tt)

pub returns-in-Err-clause-reads : goal.returns-in-Err-clause-reads
returns-in-Err-clause-reads g c = λ limit fs. Refuses_memory g.S.Source.sight limit _ _
    (Halts_here g.S.Source.sight limit _ _ (Leads_peek g.S.Source.sight limit _ _ _
    (Leads_nil g.S.Source.sight limit _ _) c.in-Some.ensures.takes) tt tt)

pub returns-in_default-clause-reads : goal.returns-in_default-clause-reads
returns-in_default-clause-reads g c = λ limit fs. Leads_peek g.S.Source.sight limit _ _ _
    (Leads_nil g.S.Source.sight limit _ _) c.in-Some.ensures.takes

pub returns-in_default-2-clause-reads : goal.returns-in_default-2-clause-reads
returns-in_default-2-clause-reads g c = λ limit fs. Leads_peek g.S.Source.sight limit _ _ _
    (Leads_nil g.S.Source.sight limit _ _) c.in_default.ensures.takes

pub returns-then-is_empty-clause-left : goal.returns-then-is_empty-clause-left
returns-then-is_empty-clause-left g c = omega arith

pub returns-in-Ok-true-clause-left : goal.returns-in-Ok-true-clause-left
returns-in-Ok-true-clause-left g c = omega (arith, c.in-Some.ensures.left)

pub returns-in-Ok-false-clause-left : goal.returns-in-Ok-false-clause-left
returns-in-Ok-false-clause-left g c = omega (arith, c.in-Some.ensures.left, c.bump.ensures.left)

pub returns-in_default-clause-left : goal.returns-in_default-clause-left
returns-in_default-clause-left g c = omega (arith, c.in-Some.ensures.left)

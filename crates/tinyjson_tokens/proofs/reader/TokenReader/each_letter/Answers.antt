use Rattle.std.proofs.Common.{rules, arith, ◌≡◌, [], ap, sym, subst}
use Rattle.std.proofs.StrCases.{chars_of_empty}
use Rattle.std.proofs.lemmas.Str.{IsUtf8-past_char, chars_past_char}
use Rattle.std.specs.Str.{IsUtf8, chars}
use Rattle.std.specs.Str.Iter.{chars_rest}
use Rattle.tinyjson_grammar.specs.declared.error.JsonParseErrorKind.TheVariants.{UnexpectedEof, UnexpectedInLiteral}
use Rattle.tinyjson_tokens.specs.Steps.{letters_left}
use Rattle.tinyjson_tokens.proofs.Reading.Steps.{Leads_to, Leads_nil, Leads_one, Leads_none, Refuses_as, taken_letters_left, letter_next}
use Rattle.tinyjson_tokens.proofs.Reading.Steps.{letter_yes, letter_no, letter_end}
use Rattle.tinyjson_tokens.proofs.reader.TokenReader.each_letter.Goals as goal

pub loop-letter-init : goal.loop-letter-init
loop-letter-init g c =
    let all : chars_rest c.into_iter-letter-iterator.result ≡ c.args.letters.now = search rules in
    record {
      utf8 = subst IsUtf8 (sym all) c.utf8.letters;
      reads = λ limit fs t. let sight = g.S.Source.sight in
          Leads_to sight limit _ _ (Leads_nil sight limit _ _) (ap (λ bs. letters_left fs (chars bs) t) (sym all));
      left = search rules;
    }

pub returns-in_default-clause-reads : goal.returns-in_default-clause-reads
returns-in_default-clause-reads g c = λ limit fs t.
    let sight = g.S.Source.sight in
    let held = c.loop-letter.invariant in
    let front = chars_past_char _ _ c.in-Some.letter held.utf8 c.in-Some.ensures.steps.0 in
    let end = c.in_default.ensures.takes in
    Refuses_as sight limit _ _ UnexpectedEof
    (Leads_none sight limit _ _ _ (held.reads limit fs t) end.0 end.1
    (letter_end limit fs t _ _ _ front) (letter_next limit fs t _ _ _ front))

pub returns-then-c-letter-clause-reads : goal.returns-then-c-letter-clause-reads
returns-then-c-letter-clause-reads g c = λ limit fs t.
    let sight = g.S.Source.sight in
    let held = c.loop-letter.invariant in
    let next = c.in-Some-bump in
    let front = chars_past_char _ _ c.in-Some.letter held.utf8 c.in-Some.ensures.steps.0 in
    let refused = letter_no limit fs t _ _ _ front next.c c.if-c-letter.true in
    Refuses_as sight limit _ _ (UnexpectedInLiteral next.c)
    (Leads_one sight limit _ _ _ next.c (held.reads limit fs t) next.ensures.takes (letter_next limit fs t _ _ _ front) refused tt)

pub loop-letter-preserved : goal.loop-letter-preserved
loop-letter-preserved g c =
    let sight = g.S.Source.sight in
    let held = c.loop-letter.invariant in
    let next = c.in-Some-bump in
    let parts = c.in-Some.ensures.steps.0 in
    let front = chars_past_char _ _ c.in-Some.letter held.utf8 parts in
    record {
      utf8 = IsUtf8-past_char _ _ c.in-Some.letter held.utf8 parts;
      reads = λ limit fs t.
          Leads_one sight limit _ _ _ next.c (held.reads limit fs t) next.ensures.takes (letter_next limit fs t _ _ _ front)
          (letter_yes limit fs t _ _ _ front next.c c.if-c-letter.false) (taken_letters_left fs _ t);
      left = omega (arith, c.bump.ensures.left, held.left);
    }

pub returns-clause-reads : goal.returns-clause-reads
returns-clause-reads g c = λ limit fs t.
    let rest = chars_rest c.loop-letter.letter-iterator in
    let none : chars rest ≡ [] = chars_of_empty rest c.in-None.ensures.steps.0.0 in
    Leads_to g.S.Source.sight limit _ _ (c.loop-letter.invariant.reads limit fs t) (ap (λ ls. letters_left fs ls t) none)

-- Literals (RFC 8259, section 3).
use Rattle.std.proofs.Common.{◌≡◌, true, false, [], ◌∷◌, None, refl}
use Rattle.std.specs.Prelude.{codes}
use Rattle.tinyjson_grammar.specs.Grammar.{IsText}
use Rattle.tinyjson_grammar.specs.Machine.{run, step, end}
use Rattle.tinyjson_grammar.specs.Refusal.{IsRefusal}
use Rattle.tinyjson_grammar.specs.Tree.{boolean, null}
use Rattle.tinyjson_grammar.specs.declared.error.JsonParseErrorKind.TheVariants as error
use Rattle.tinyjson_number.specs.Numeral.{power_fits, value}
use Rattle.tinyjson_laws.proofs.Examples.Reading.{text_of, refusal_of, array}

the_three : IsText None (codes "[null,true,false]") (array (null ∷ boolean true ∷ boolean false ∷ []))
unfolding run step end value power_fits
the_three = text_of refl refl

literals_refused :
    IsRefusal None (error.UnexpectedInLiteral 120) (codes "trux") []
    × IsRefusal None (error.UnexpectedInLiteral 10) (codes "tru\n") []
unfolding run step end value power_fits
literals_refused = (refusal_of refl refl, refusal_of refl refl)

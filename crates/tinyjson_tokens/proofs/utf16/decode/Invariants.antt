use Rattle.std.proofs.Common.{◌≡◌, ◌++◌, IfSome, true, drop}
use Rattle.std.specs.Option.{option_to_list}
use Rattle.tinyjson_grammar.specs.Characters.{text, paired, decode, is_high}
use Rattle.tinyjson_tokens.proofs.utf16.decode.Given as goal

abbrev pub invariant-loop-unit : goal.invariant-loop-unit
invariant-loop-unit l = record {
  high : IfSome l.high (λ h. is_high h ≡ true);
  paired : paired (option_to_list l.high ++ drop l.unit-index l.units) ≡ paired l.units;
  text : text l.string ++ decode (option_to_list l.high ++ drop l.unit-index l.units) ≡ text l.initial.string ++ decode l.units;
}

use Rattle.std.proofs.Common.{◌≡◌, string_bytes}
use Rattle.tinyjson_schema_bundle.specs.Scopes.{letters_above}
use Rattle.tinyjson_schema_bundle.proofs.copies.letters_above.Given as goal

abbrev pub invariant-loop : goal.invariant-loop
invariant-loop l = string_bytes l.letters ≡ letters_above l.counter

use Rattle.std.proofs.Common.{◌≡◌, ◌≤◌, ◌+◌, drop}
use Rattle.tinyjson_schema_bundle.specs.Scopes.{letters_in}
use Rattle.tinyjson_schema_bundle.proofs.copies.letters_in.Given as goal

abbrev pub invariant-loop-byte : goal.invariant-loop-byte
invariant-loop-byte l = (l.letters ≤ l.byte-index) × (l.letters + letters_in (drop l.byte-index l.text) ≡ letters_in l.text)

use Rattle.std.proofs.Common.{◌≡◌, drop}
use Rattle.text_uri.specs.Parts.{are_scheme_letters}
use Rattle.text_uri.proofs.parts.are_scheme_letters.Given as goal

abbrev pub invariant-loop-byte : goal.invariant-loop-byte
invariant-loop-byte l = are_scheme_letters (drop l.byte-index l.bytes) ≡ are_scheme_letters l.bytes

use Rattle.std.proofs.Common.{◌≡◌, ◌++◌, drop, string_bytes}
use Rattle.text_uri.specs.Relative.{ups}
use Rattle.text_uri.proofs.relative.ups.Given as goal

abbrev pub invariant-loop-byte : goal.invariant-loop-byte
invariant-loop-byte l = string_bytes l.ups ++ ups (drop l.byte-index l.base) ≡ ups l.base

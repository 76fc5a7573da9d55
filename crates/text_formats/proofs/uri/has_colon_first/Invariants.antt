use Rattle.std.proofs.Common.{◌≡◌, drop}
use Rattle.text_formats.specs.Uri.{has_colon_first}
use Rattle.text_formats.proofs.uri.has_colon_first.Given as goal

abbrev pub invariant-loop-c : goal.invariant-loop-c
invariant-loop-c l = has_colon_first (drop l.c-index l.path) ≡ has_colon_first l.path

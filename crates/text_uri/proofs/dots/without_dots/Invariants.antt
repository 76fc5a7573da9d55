use Rattle.std.proofs.Common.{length, string_bytes}
use denote.Text.{Utf8}
use denote.Shadow.{shadow}
use Rattle.text_uri.proofs.Steps.{Leads}
use Rattle.text_uri.proofs.dots.without_dots.Given as goal

abbrev pub invariant-loop-input : goal.invariant-loop-input
invariant-loop-input l = shadow (Utf8 l.input) × Leads l.path (string_bytes l.output) l.input

abbrev pub decreases-loop-input : goal.decreases-loop-input
decreases-loop-input l = length l.input

-- The words of messages: a code point in four hexadecimal digits or more.
use Rattle.std.proofs.Common.{◌≡◌, ℕ, ◌-◌, true, false, List, [], ◌++◌, length, replicate, Option, Some, option_map, codes, ap, ◌∙◌}
use Rattle.std.proofs.Common.{append-nil, arith}
use Rattle.std.specs.Fmt.{digits, format_spec, padded_integral, char_count, shown_prefix, ◌++?◌}
use Rattle.tinyjson_grammar.specs.Message.{code_point}

-- the digits, with zeros before them up to four
zeros_before : (ds : List ℕ) → padded_integral (format_spec 32 0 4 4 18446744073709551615) false [] ds ≡ replicate (4 - length ds) 48 ++ ds
unfolding padded_integral char_count
zeros_before ds = ap (λ k. replicate k 48 ++ (ds ++ [])) (omega arith) ∙ ap (λ l. replicate (4 - length ds) 48 ++ l) (append-nil ds)

-- what `U+{:04X}` writes
pub code_point_text : (prefix : List ℕ) (o : Option (List ℕ)) (n : ℕ) → o ≡ Some (digits 16 true n)
    → Some (codes "U+") ++? option_map (padded_integral (format_spec 32 0 4 4 18446744073709551615) false
    (shown_prefix (format_spec 32 0 4 4 18446744073709551615) prefix)) o ≡ Some (code_point n)
code_point_text prefix o n h =
    ap (λ p. Some (codes "U+") ++? option_map (padded_integral (format_spec 32 0 4 4 18446744073709551615) false []) p) h
    ∙ ap (λ ds. Some (codes "U+" ++ ds)) (zeros_before (digits 16 true n))

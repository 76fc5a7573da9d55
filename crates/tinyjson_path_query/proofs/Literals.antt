-- Single literals, segments of one selector, and operators.
use Rattle.std.proofs.Common.{◌≡◌, ℕ, true, false, List, ◌∷◌, Option, Some, None, option_map, option_and_then}
use Rattle.std.proofs.Common.{◌<◌, length, sym, ap, ◌∙◌}
use Rattle.std.proofs.lemmas.Bool.{cond-true, cond-false}
use Rattle.std.specs.Prelude.{ℤ}
use Rattle.tinyjson.specs.Number.{Decimal, IsNumberText, Spells}
use Rattle.tinyjson.specs.Numeral.{Numeral, value as decimal_value, in_range}
use Rattle.tinyjson_path_query.specs.Grammar.{after_blanks, is_name_first, name_chars, number_chars, true_word, false_word, null_word}
use Rattle.tinyjson_path_query.specs.Grammar.{is_number_char}
use Rattle.tinyjson_path_query.specs.Numerals.{spelled_decimal}
use Rattle.tinyjson_path_query.specs.Values.{SingularSegment}
use Rattle.tinyjson_path_query.specs.Values as value
use Rattle.tinyjson_path_query.specs.Fronts.{numbered, number_front, behind_word, either, meaning, word_front, as_string, is_quote}
use Rattle.tinyjson_path_query.specs.Fronts.{quoted_front}
use Rattle.tinyjson_path_query.specs.Fronts.{literal_front, behind, name_before, index_before, int_front, bracketed_front, name_front}
use Rattle.tinyjson_path_query.specs.Fronts.{singular_segment_front, end, more, singular_end, singular_turn}
use Rattle.tinyjson_path_query.proofs.Numerals.{decimal_complete, no_numeral, no_decimal}
use Rattle.tinyjson_path_query.proofs.Shorter.{singular_falls}

-- ---- numbers

pub number_at : (xs ds ys : List ℕ) (d : Decimal) → ds ≡ (number_chars xs).0 → ys ≡ (number_chars xs).1 → IsNumberText ds d
    → number_front xs ≡ Some (value.number d, ys)
number_at xs ds ys d e f h =
    ap (option_map (numbered (number_chars xs).1)) (ap spelled_decimal (sym e) ∙ decimal_complete ds d h)
    ∙ ap (λ us. Some (value.number d, us)) (sym f)

pub number_none : (xs ds : List ℕ) → ds ≡ (number_chars xs).0 → ((n : Numeral) → ¬ Spells n ds) → number_front xs ≡ None
number_none xs ds e h = ap (option_map (numbered (number_chars xs).1)) (ap spelled_decimal (sym e) ∙ no_numeral ds h)

pub number_far : (xs ds : List ℕ) (n : Numeral) → ds ≡ (number_chars xs).0 → Spells n ds → in_range (decimal_value n) ≡ false
    → number_front xs ≡ None
number_far xs ds n e h r = ap (option_map (numbered (number_chars xs).1)) (ap spelled_decimal (sym e) ∙ no_decimal ds n h r)

-- ---- words

pub true_at : (xs ys : List ℕ) → behind_word true_word xs ≡ Some ys → word_front xs ≡ Some (value.boolean true, ys)
true_at xs ys e =
    ap (λ o. either (option_map (meaning (value.boolean true)) o)
    (either (option_map (meaning (value.boolean false)) (behind_word false_word xs))
    (option_map (meaning value.null) (behind_word null_word xs)))) e

not_true : (xs : List ℕ) → behind_word true_word xs ≡ None
    → word_front xs
    ≡ either (option_map (meaning (value.boolean false)) (behind_word false_word xs))
    (option_map (meaning value.null) (behind_word null_word xs))
not_true xs e =
    ap (λ o. either (option_map (meaning (value.boolean true)) o)
    (either (option_map (meaning (value.boolean false)) (behind_word false_word xs))
    (option_map (meaning value.null) (behind_word null_word xs)))) e

pub false_at : (xs ys : List ℕ) → behind_word true_word xs ≡ None → behind_word false_word xs ≡ Some ys
    → word_front xs ≡ Some (value.boolean false, ys)
false_at xs ys e f =
    not_true xs e
    ∙ ap (λ o. either (option_map (meaning (value.boolean false)) o) (option_map (meaning value.null) (behind_word null_word xs))) f

pub null_from : (xs : List ℕ) (o : Option (List ℕ)) → behind_word true_word xs ≡ None → behind_word false_word xs ≡ None
    → behind_word null_word xs ≡ o → word_front xs ≡ option_map (meaning value.null) o
null_from xs o e f g =
    not_true xs e
    ∙ (ap (λ p. either (option_map (meaning (value.boolean false)) p) (option_map (meaning value.null) (behind_word null_word xs))) f
    ∙ ap (option_map (meaning value.null)) g)

-- ---- literals

pub string_from : (xs cs : List ℕ) (c : ℕ) (o : Option (List ℕ × List ℕ)) → xs ≡ c ∷ cs → is_quote c ≡ true → quoted_front c cs ≡ o
    → literal_front xs ≡ option_map as_string o
string_from xs cs c o e q h = ap literal_front e ∙ (cond-true (is_quote c) _ _ q ∙ ap (option_map as_string) h)

pub number_from : (xs cs : List ℕ) (c : ℕ) → xs ≡ c ∷ cs → is_quote c ≡ false → is_number_char c ≡ true
    → literal_front xs ≡ number_front xs
number_from xs cs c e q h =
    ap literal_front e
    ∙ (cond-false (is_quote c) _ _ q ∙ (cond-true (is_number_char c) _ _ h ∙ ap number_front (sym e)))

pub word_from : (xs cs : List ℕ) (c : ℕ) → xs ≡ c ∷ cs → is_quote c ≡ false → is_number_char c ≡ false
    → literal_front xs ≡ word_front xs
word_from xs cs c e q h =
    ap literal_front e
    ∙ (cond-false (is_quote c) _ _ q ∙ (cond-false (is_number_char c) _ _ h ∙ ap word_front (sym e)))

-- ---- segments of one selector

pub bracketed_name_from : (xs cs ds ys : List ℕ) (c : ℕ) → xs ≡ c ∷ cs → is_quote c ≡ true → quoted_front c cs ≡ Some (ds, ys)
    → bracketed_front xs ≡ option_map (λ zs. (value.name ds, zs)) (behind 93 ys)
bracketed_name_from xs cs ds ys c e q h =
    ap bracketed_front e ∙ (cond-true (is_quote c) _ _ q ∙ ap (option_and_then name_before) h)

pub bracketed_name_none : (xs cs : List ℕ) (c : ℕ) → xs ≡ c ∷ cs → is_quote c ≡ true → quoted_front c cs ≡ None
    → bracketed_front xs ≡ None
bracketed_name_none xs cs c e q h =
    ap bracketed_front e ∙ (cond-true (is_quote c) _ _ q ∙ ap (option_and_then name_before) h)

bracketed_index : (xs cs : List ℕ) (c : ℕ) → xs ≡ c ∷ cs → is_quote c ≡ false
    → bracketed_front xs ≡ option_and_then index_before (int_front xs)
bracketed_index xs cs c e q =
    ap bracketed_front e ∙ (cond-false (is_quote c) _ _ q ∙ ap (λ us. option_and_then index_before (int_front us)) (sym e))

pub bracketed_index_from : (xs cs : List ℕ) (c : ℕ) (i : ℤ) (ys : List ℕ) → xs ≡ c ∷ cs → is_quote c ≡ false
    → int_front xs ≡ Some (i, ys) → bracketed_front xs ≡ option_map (λ zs. (value.index i, zs)) (behind 93 ys)
bracketed_index_from xs cs c i ys e q h = bracketed_index xs cs c e q ∙ ap (option_and_then index_before) h

pub bracketed_index_none : (xs cs : List ℕ) (c : ℕ) → xs ≡ c ∷ cs → is_quote c ≡ false → int_front xs ≡ None → bracketed_front xs ≡ None
bracketed_index_none xs cs c e q h = bracketed_index xs cs c e q ∙ ap (option_and_then index_before) h

pub name_at : (xs cs : List ℕ) (c : ℕ) (ds ys : List ℕ) → xs ≡ c ∷ cs → is_name_first c ≡ true → ds ≡ c ∷ (name_chars cs).0
    → ys ≡ (name_chars cs).1 → name_front xs ≡ Some (value.name ds, ys)
name_at xs cs c ds ys e h f g =
    ap name_front e
    ∙ (cond-true (is_name_first c) _ _ h
    ∙ (ap (λ us. Some (value.name us, (name_chars cs).1)) (sym f) ∙ ap (λ us. Some (value.name ds, us)) (sym g)))

pub name_none : (xs cs : List ℕ) (c : ℕ) → xs ≡ c ∷ cs → is_name_first c ≡ false → name_front xs ≡ None
name_none xs cs c e h = ap name_front e ∙ cond-false (is_name_first c) _ _ h

pub segment_bracketed : (xs cs : List ℕ) (c : ℕ) → xs ≡ c ∷ cs → c ≡ 91 → singular_segment_front xs ≡ bracketed_front cs
segment_bracketed xs cs c e f = ap singular_segment_front (e ∙ ap (λ d. d ∷ cs) f)

pub segment_named : (xs cs : List ℕ) (c : ℕ) → xs ≡ c ∷ cs → c ≡ 46 → singular_segment_front xs ≡ name_front cs
segment_named xs cs c e f = ap singular_segment_front (e ∙ ap (λ d. d ∷ cs) f)

pub singular_more : (xs zs : List ℕ) (s : SingularSegment) (ys : List ℕ) → zs ≡ after_blanks xs
    → singular_segment_front zs ≡ Some (s, ys) → singular_turn xs ≡ Some (more s ys)
singular_more xs zs s ys e h = ap (λ o. Some (singular_end xs o)) (ap singular_segment_front (sym e) ∙ h)

pub singular_stop : (xs zs : List ℕ) → zs ≡ after_blanks xs → singular_segment_front zs ≡ None → singular_turn xs ≡ Some (end xs)
singular_stop xs zs e h = ap (λ o. Some (singular_end xs o)) (ap singular_segment_front (sym e) ∙ h)

pub singular_smaller : (xs zs : List ℕ) (s : SingularSegment) (ys : List ℕ) → zs ≡ after_blanks xs
    → singular_segment_front zs ≡ Some (s, ys) → length ys < length xs
singular_smaller xs zs s ys e h = (singular_falls xs).at (more s ys) (singular_more xs zs s ys e h)

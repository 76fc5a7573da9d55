-- What is compared: what is found at the front of a text is in the grammar, and what follows it is shorter.
use Rattle.std.proofs.Common.{◌≡◌, ℕ, suc, zero, Bool, true, false, ◌==◌, cond, List, [], ◌∷◌, ◌++◌, length, Option, Some, None}
use Rattle.std.proofs.Common.{option_map, refl, sym, ap, ◌∙◌, subst}
use Rattle.tinyjson_path_query.specs.declared.query.ComparisonOperator.{ComparisonOperator}
use Rattle.tinyjson_path_query.specs.declared.query.ComparisonOperator.TheVariants.{Equal, NotEqual, Less}
use Rattle.tinyjson_path_query.specs.declared.query.ComparisonOperator.TheVariants.{LessOrEqual, Greater, GreaterOrEqual}
use Rattle.tinyjson_path_query.specs.declared.query.Origin.TheVariants.{Root, CurrentNode}
use Rattle.tinyjson_path_query.specs.Forms as form
use Rattle.tinyjson_path_query.specs.Values.{Literal, SingularSegment}
use Rattle.tinyjson_path_query.specs.Values as value
use Rattle.tinyjson_path_query.specs.Grammar as is
use Rattle.tinyjson_path_query.specs.Grammar.{after_blanks, is_name_first, is_number_char, number_chars, begins_with}
use Rattle.tinyjson_path_query.specs.Grammar.{LiteralText, SingularSegmentText, SingularSegmentsText, ComparableText, OperatorText}
use Rattle.tinyjson_path_query.specs.Fronts.{quoted_front, int_front, behind, behind_word, either, word_front, number_front, literal_front}
use Rattle.tinyjson_path_query.specs.Fronts.{numbered, meaning, as_string, is_quote, name_before, index_before, bracketed_front, name_front}
use Rattle.tinyjson_path_query.specs.Fronts.{singular_segment_front, singular_end, singular_turn, singular_front, as_singular, as_literal}
use Rattle.tinyjson_path_query.specs.Fronts.{compared_front, comparable_front, or_equal, with_operator, operator_front, origin_of, turns}
use Rattle.tinyjson_path_query.specs.Fronts.{then_turn, with_first, FrontOf, segments_front}
use Rattle.tinyjson_path_query.specs.Fronts.{as_query, begun_front, filter_query_front, held}
use Rattle.tinyjson_path_query.specs.Fronts.{in_parentheses, closed_front, as_length, as_count, as_value, value_end, count_end, length_end}
use Rattle.tinyjson_path_query.specs.Fronts.{function_front, begins_call, as_function}
use Rattle.tinyjson_path_query.specs.Grammar.{TextsOf, FilterQueryText, ClosedText, FunctionText}
use Rattle.tinyjson_path_query.proofs.Finds.{Finds, none_some, finds_none, finds_some, finds_cond, finds_map, finds_then, finds_as, at_code}
use Rattle.tinyjson_path_query.proofs.Numerals.{decimal_sound}
use Rattle.tinyjson_path_query.proofs.Sound.{Sound, behind_sound, int_sound, quoted_sound, one_quote, segments_sound}

-- ---- literals

number_sound : (xs : List ℕ) → Finds (number_front xs) (λ p. LiteralText xs p.0 p.1)
number_sound xs = finds_map (numbered (number_chars xs).1) _
    (finds_as (decimal_sound (number_chars xs).0) (λ d h. is.number (is.run refl h)))

pub word_sound : (word xs : List ℕ) → Finds (behind_word word xs) (λ ys. xs ≡ word ++ ys)
word_sound [] xs = finds_some refl
word_sound (w ∷ ws) xs = finds_then (behind_word ws) (behind w xs) (finds_as (behind_sound w xs) (λ ys e.
    finds_as (word_sound ws ys) (λ zs f. e ∙ ap (λ us. w ∷ us) f)))

finds_either : {A : Type 0} {P : A → Type 0} (o p : Option A) → Finds o P → Finds p P → Finds (either o p) P
finds_either None p h k = k
finds_either (Some a) p h k = h

meant : (word : List ℕ) (l : Literal) (xs : List ℕ) → ((ys : List ℕ) → LiteralText (word ++ ys) l ys)
    → Finds (option_map (meaning l) (behind_word word xs)) (λ p. LiteralText xs p.0 p.1)
meant word l xs k = finds_map (meaning l) (behind_word word xs) (finds_as (word_sound word xs) (λ ys e.
    subst (λ zs. LiteralText zs l ys) (sym e) (k ys)))

words_sound : (xs : List ℕ) → Finds (word_front xs) (λ p. LiteralText xs p.0 p.1)
words_sound xs =
    finds_either _ _ (meant is.true_word (value.boolean true) xs (λ ys. is.is_true))
    (finds_either _ _ (meant is.false_word (value.boolean false) xs (λ ys. is.is_false))
    (meant is.null_word value.null xs (λ ys. is.is_null)))

literal_sound : (xs : List ℕ) → Finds (literal_front xs) (λ p. LiteralText xs p.0 p.1)
literal_sound [] = finds_none
literal_sound (c ∷ cs) =
    finds_cond (is_quote c)
    (λ h. finds_map as_string (quoted_front c cs) (finds_as (quoted_sound (suc (length cs)) c cs) (λ p m.
    is.string (one_quote c cs p.0 p.1 m h))))
    (λ _. finds_cond (is_number_char c) (λ _. number_sound (c ∷ cs)) (λ _. words_sound (c ∷ cs)))

-- ---- queries of one node at most

bracketed_sound : (xs : List ℕ) → Finds (bracketed_front xs) (λ p. SingularSegmentText (91 ∷ xs) p.0 p.1)
bracketed_sound [] = finds_none
bracketed_sound (c ∷ cs) =
    finds_cond (is_quote c)
    (λ h. finds_then name_before (quoted_front c cs) (finds_as (quoted_sound (suc (length cs)) c cs) (λ p m.
    finds_map (λ ys. (value.name p.0, ys)) (behind 93 p.1) (finds_as (behind_sound 93 p.1) (λ ys e.
    is.bracketed_name (subst (is.StringText (c ∷ cs) p.0) e (one_quote c cs p.0 p.1 m h)))))))
    (λ _. finds_then index_before (int_front (c ∷ cs)) (finds_as (int_sound (c ∷ cs)) (λ p m.
    finds_map (λ ys. (value.index p.0, ys)) (behind 93 p.1) (finds_as (behind_sound 93 p.1) (λ ys e.
    is.index (subst (is.IntText (c ∷ cs) p.0) e m))))))

name_sound : (xs : List ℕ) → Finds (name_front xs) (λ p. SingularSegmentText (46 ∷ xs) p.0 p.1)
name_sound [] = finds_none
name_sound (c ∷ cs) = finds_cond (is_name_first c) (λ h. finds_some (is.name c h refl)) (λ _. finds_none)

pub singular_segment_sound : (xs : List ℕ) → Finds (singular_segment_front xs) (λ p. SingularSegmentText xs p.0 p.1)
singular_segment_sound [] = finds_none
singular_segment_sound (c ∷ cs) =
    finds_cond (c == 91)
    (λ e. finds_as (bracketed_sound cs) (λ p m. at_code (λ x. SingularSegmentText (x ∷ cs) p.0 p.1) c 91 e m))
    (λ _. finds_cond (c == 46)
    (λ e. finds_as (name_sound cs) (λ p m. at_code (λ x. SingularSegmentText (x ∷ cs) p.0 p.1) c 46 e m))
    (λ _. finds_none))

singular_sound : (n : ℕ) (xs : List ℕ) → Finds (turns singular_turn n xs) (λ p. SingularSegmentsText xs p.0 p.1)
singular_sound zero xs = finds_none
singular_sound (suc n) xs =
    by (singular_segment_front (after_blanks xs)) (singular_segment_sound (after_blanks xs)) (singular_sound n)
  where
    by : (o : Option (SingularSegment × List ℕ)) → Finds o (λ p. SingularSegmentText (after_blanks xs) p.0 p.1)
        → ((ys : List ℕ) → Finds (turns singular_turn n ys) (λ p. SingularSegmentsText ys p.0 p.1))
        → Finds (then_turn (turns singular_turn n) (singular_end xs o)) (λ p. SingularSegmentsText xs p.0 p.1)
    by None f rec = finds_some is.none
    by (Some p) f rec =
        finds_map (with_first p.0) (turns singular_turn n p.1) (finds_as (rec p.1) (λ r k. is.more (f.at p refl) k))

-- ---- functions

-- what is found is what T are the texts of, with no blanks behind it
abbrev pub Exact : {A : Type 0} → TextsOf A → FrontOf A → Type 0
Exact T G = (xs : List ℕ) → Finds (G xs) (λ p. T xs p.0 p.1)

filter_query_sound : {E : Type 0} {T : TextsOf E} {F : FrontOf E} → Sound T F → Exact (FilterQueryText T) (filter_query_front F)
filter_query_sound s [] = finds_none
filter_query_sound {T = T} {F = F} s (c ∷ cs) = finds_then (begun_front F cs) (origin_of c) (finds_cond (c == 64)
    (λ e. finds_some (finds_map (as_query CurrentNode) (segments_front F cs) (finds_as (segments_sound s (suc (length cs)) cs) (λ p m.
    at_code (λ x. FilterQueryText T (x ∷ cs) (CurrentNode, p.0) p.1) c 64 e (is.relative m)))))
    (λ _. finds_cond (c == 36)
    (λ e. finds_some (finds_map (as_query Root) (segments_front F cs) (finds_as (segments_sound s (suc (length cs)) cs) (λ p m.
    at_code (λ x. FilterQueryText T (x ∷ cs) (Root, p.0) p.1) c 36 e (is.absolute m)))))
    (λ _. finds_none)))

pub closed_sound : {A : Type 0} {T : TextsOf A} {G : FrontOf A} → Exact T G → Exact (ClosedText T) (closed_front G)
closed_sound {G = G} s xs = finds_then in_parentheses (G (after_blanks xs)) (finds_as (s (after_blanks xs)) (λ p m.
    finds_map (held p.0) (behind 41 (after_blanks p.1)) (finds_as (behind_sound 41 (after_blanks p.1)) (λ ys e. is.closed m e))))

function_sound : {E C : Type 0} {T : TextsOf E} {A : TextsOf C} {F : FrontOf E} {G : FrontOf C} → Sound T F → Exact A G
    → Exact (FunctionText T A) (function_front F G)
function_sound {E = E} {C = C} {T = T} {A = A} {F = F} {G = G} s t xs =
    length_by (behind_word is.length_call xs) (word_sound is.length_call xs)
  where
    value_by : (o : Option (List ℕ)) → Finds o (λ ys. xs ≡ is.value_call ++ ys)
        → Finds (value_end F o) (λ p. FunctionText T A xs p.0 p.1)
    value_by None h = finds_none
    value_by (Some ys) h =
        finds_map as_value (closed_front (filter_query_front F) ys) (finds_as (closed_sound (filter_query_sound s) ys) (λ p m.
        subst (λ zs. FunctionText T A zs (form.value p.0.0 p.0.1) p.1) (sym (h.at ys refl)) (is.value_of m)))

    count_by : (o : Option (List ℕ)) → Finds o (λ ys. xs ≡ is.count_call ++ ys)
        → Finds (count_end F xs o) (λ p. FunctionText T A xs p.0 p.1)
    count_by None h = value_by (behind_word is.value_call xs) (word_sound is.value_call xs)
    count_by (Some ys) h =
        finds_map as_count (closed_front (filter_query_front F) ys) (finds_as (closed_sound (filter_query_sound s) ys) (λ p m.
        subst (λ zs. FunctionText T A zs (form.count p.0.0 p.0.1) p.1) (sym (h.at ys refl)) (is.count_of m)))

    length_by : (o : Option (List ℕ)) → Finds o (λ ys. xs ≡ is.length_call ++ ys)
        → Finds (length_end F G xs o) (λ p. FunctionText T A xs p.0 p.1)
    length_by None h = count_by (behind_word is.count_call xs) (word_sound is.count_call xs)
    length_by (Some ys) h = finds_map as_length (closed_front G ys) (finds_as (closed_sound t ys) (λ p m.
        subst (λ zs. FunctionText T A zs (form.length p.0) p.1) (sym (h.at ys refl)) (is.length_of m)))

compared_sound : {E C : Type 0} {T : TextsOf E} {A : TextsOf C} {F : FrontOf E} {G : FrontOf C} → Sound T F → Exact A G → (c : ℕ)
    (cs : List ℕ) → Finds (comparable_front F G (c ∷ cs)) (λ p. ComparableText T A (c ∷ cs) p.0 p.1)
compared_sound {T = T} {A = A} {F = F} {G = G} s t c cs = by (c == 64) (c == 36) refl refl
  where
    by : (b d : Bool) → (c == 64) ≡ b → (c == 36) ≡ d
        → Finds (compared_front F G c cs (cond b (Some CurrentNode) (cond d (Some Root) None)))
        (λ p. ComparableText T A (c ∷ cs) p.0 p.1)
    by true d e f = finds_map (as_singular CurrentNode) (singular_front cs) (finds_as (singular_sound (suc (length cs)) cs) (λ p m.
        at_code (λ x. ComparableText T A (x ∷ cs) (form.singular CurrentNode p.0) p.1) c 64 e (is.relative m)))
    by false true e f = finds_map (as_singular Root) (singular_front cs) (finds_as (singular_sound (suc (length cs)) cs) (λ p m.
        at_code (λ x. ComparableText T A (x ∷ cs) (form.singular Root p.0) p.1) c 36 f (is.absolute m)))
    by false false e f =
        finds_cond (begins_call c)
        (λ _. finds_map as_function (function_front F G (c ∷ cs)) (finds_as (function_sound s t (c ∷ cs)) (λ p m. is.function m)))
        (λ _. finds_map as_literal (literal_front (c ∷ cs)) (finds_as (literal_sound (c ∷ cs)) (λ p m. is.literal m)))

pub comparable_sound : {E C : Type 0} {T : TextsOf E} {A : TextsOf C} {F : FrontOf E} {G : FrontOf C} → Sound T F → Exact A G
    → Exact (ComparableText T A) (comparable_front F G)
comparable_sound s t [] = finds_none
comparable_sound s t (c ∷ cs) = compared_sound s t c cs

-- ---- operators

equals_sound : (first : ℕ) (op : ComparisonOperator) (c : ℕ) (cs : List ℕ) → (c == first) ≡ true
    → ((ys : List ℕ) → OperatorText (first ∷ 61 ∷ ys) op ys)
    → Finds (option_map (with_operator op) (behind 61 cs)) (λ p. OperatorText (c ∷ cs) p.0 p.1)
equals_sound first op c cs e k = finds_map (with_operator op) (behind 61 cs) (finds_as (behind_sound 61 cs) (λ ys f.
    at_code (λ x. OperatorText (x ∷ cs) op ys) c first e (subst (λ zs. OperatorText (first ∷ zs) op ys) (sym f) (k ys))))

begins_not : (xs : List ℕ) → behind 61 xs ≡ None → begins_with 61 xs ≡ false
begins_not [] e = refl
begins_not (c ∷ cs) e = by (c == 61) e
  where
    by : (b : Bool) → cond b (Some cs) None ≡ None → b ≡ false
    by true f = none_some (sym f)
    by false f = refl

or_equal_sound : (first : ℕ) (strict loose : ComparisonOperator) (c : ℕ) (cs : List ℕ) → (c == first) ≡ true
    → ((ys : List ℕ) → begins_with 61 ys ≡ false → OperatorText (first ∷ ys) strict ys)
    → ((ys : List ℕ) → OperatorText (first ∷ 61 ∷ ys) loose ys)
    → Finds (Some (or_equal strict loose cs (behind 61 cs))) (λ p. OperatorText (c ∷ cs) p.0 p.1)
or_equal_sound first strict loose c cs e k l = by (behind 61 cs) refl (behind_sound 61 cs)
  where
    by : (o : Option (List ℕ)) → behind 61 cs ≡ o → Finds o (λ ys. cs ≡ 61 ∷ ys)
        → Finds (Some (or_equal strict loose cs o)) (λ p. OperatorText (c ∷ cs) p.0 p.1)
    by None f s = finds_some (at_code (λ x. OperatorText (x ∷ cs) strict cs) c first e (k cs (begins_not cs f)))
    by (Some ys) f s = finds_some (at_code (λ x. OperatorText (x ∷ cs) loose ys) c first e
        (subst (λ zs. OperatorText (first ∷ zs) loose ys) (sym (s.at ys refl)) (l ys)))

pub operator_sound : (xs : List ℕ) → Finds (operator_front xs) (λ p. OperatorText xs p.0 p.1)
operator_sound [] = finds_none
operator_sound (c ∷ cs) =
    finds_cond (c == 61) (λ e. equals_sound 61 Equal c cs e (λ ys. is.equal))
    (λ _. finds_cond (c == 33) (λ e. equals_sound 33 NotEqual c cs e (λ ys. is.not_equal))
    (λ _. finds_cond (c == 60) (λ e. or_equal_sound 60 Less LessOrEqual c cs e (λ ys n. is.less n) (λ ys. is.less_or_equal))
    (λ _. finds_cond (c == 62)
    (λ e. or_equal_sound 62 Greater GreaterOrEqual c cs e (λ ys n. is.greater n) (λ ys. is.greater_or_equal))
    (λ _. finds_none))))

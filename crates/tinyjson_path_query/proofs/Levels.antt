-- Single turns over selectors, segments and conditions, at each depth.
use Rattle.std.proofs.Common.{◌≡◌, ◌≢◌, ℕ, zero, suc, ◌<◌, true, false, ◌==◌, List, [], ◌∷◌, length, Option, Some, None}
use Rattle.std.proofs.Common.{option_map, option_and_then, Result, Bor, refl, sym, ap, ◌∙◌, subst, arith}
use Rattle.std.proofs.lemmas.Bool.{cond-true, cond-false, ne_eqb, eqb-true}
use Rattle.tinyjson_path_query.specs.declared.query.Expression.{Expression as CodeExpression}
use Rattle.tinyjson_path_query.specs.declared.query.Origin.{Origin}
use Rattle.tinyjson_path_query.specs.declared.query.PatternFunction.{PatternFunction}
use Rattle.tinyjson_path_query.specs.declared.query.PatternFunction.TheVariants.{Match, Search}
use Rattle.tinyjson_path_query.specs.declared.query.Selector.{Selector as CodeSelector}
use Rattle.tinyjson_path_query.specs.declared.query.ComparisonOperator.{ComparisonOperator}
use Rattle.tinyjson_path_query.specs.Forms.{Comparable, Function, Argument, IsArgument, IsComparable, IsOperand, IsBasic, IsConjunction}
use Rattle.tinyjson_path_query.specs.Forms.{PlainSelector, Selector, Segment, Operand, Basic, Expression, Each, IsSelector}
use Rattle.tinyjson_path_query.specs.Forms.{Disjunction, IsExpression, IsDisjunction}
use Rattle.tinyjson_path_query.specs.Forms as form
use Rattle.tinyjson_path_query.specs.Grammar.{after_blanks, begins_with, right_parenthesis, length_call}
use Rattle.tinyjson_path_query.specs.Grammar.{count_call, value_call, pattern_call}
use Rattle.tinyjson_path_query.specs.Values.{Literal, SingularSegment}
use Rattle.tinyjson_path_query.specs.declared.query.Comparable.{Comparable as CodeComparable}
use Rattle.tinyjson_path_query.specs.declared.refusal.Refusal.{Refusal}
use Rattle.tinyjson_path_query.specs.Reading.{Fronts}
use Rattle.tinyjson_path_query.specs.Fronts.{FrontOf, end, last, more, more_of, selector_front, filtered, as_plain, plain_front, separator}
use Rattle.tinyjson_path_query.specs.Fronts.{separated, selection_turn, selection_front, shorthand_front, begins_segment, segment_front}
use Rattle.tinyjson_path_query.specs.Fronts.{descendant_front, descendant_of, alone, dotted_front, child_of, segments_turn, segments_front}
use Rattle.tinyjson_path_query.specs.Fronts.{operand_front, closing, closed, behind, tested}
use Rattle.tinyjson_path_query.specs.Fronts.{tested_front, origin_of, basic_front, as_negated}
use Rattle.tinyjson_path_query.specs.Fronts.{as_affirmed, behind_both, joint, joined, joined_turn, conjunction_front, disjunction_front}
use Rattle.tinyjson_path_query.specs.Fronts.{expression_front, ended, query_front, comparable_front}
use Rattle.tinyjson_path_query.specs.Fronts.{operator_front, left_end, operated_front}
use Rattle.tinyjson_path_query.specs.Fronts.{as_comparison, argument_front, as_singular, as_function, as_literal, compared_front}
use Rattle.tinyjson_path_query.specs.Fronts.{function_front, literal_front}
use Rattle.tinyjson_path_query.specs.Fronts.{singular_front, begins_call, closed_front, in_parentheses, held, filter_query_front, as_query}
use Rattle.tinyjson_path_query.specs.Fronts.{begun_front, begins_pattern, behind_word, as_length, as_count, as_value, length_end, count_end}
use Rattle.tinyjson_path_query.specs.Fronts.{value_end, as_pattern, second_front, first_end, arguments_front, search_end, match_end}
use Rattle.tinyjson_path_query.specs.Fronts.{pattern_front}
use Rattle.tinyjson_path_query.proofs.Finds.{Finds}
use Rattle.tinyjson_path_query.proofs.Turns.{Shortens}
use Rattle.tinyjson_path_query.proofs.Shorter.{selector_falls, selection_falls, segment_falls, segments_falls, joined_falls, front_falls}
use Rattle.tinyjson_path_query.proofs.Shorter.{both_shorter, basic_shorter, joined_shorter}
use Rattle.tinyjson_path_query.proofs.Conditions.{basic_sound, joined_sound}
use Rattle.tinyjson_path_query.proofs.Complete.{expression_faithful, level_faithful}

-- ---- conditions at a depth

abbrev pub basics_at : (n : ℕ) → FrontOf (Basic (Expression n) (Argument n))
basics_at n = basic_front (expression_front n) (argument_front n)

abbrev pub conjunctions_at : (n : ℕ) → FrontOf (List (Basic (Expression n) (Argument n)))
conjunctions_at n = conjunction_front (expression_front n) (argument_front n)

abbrev pub IsOperandAt : (n : ℕ) → Operand (Expression n) (Argument n) → CodeExpression → Type 0
IsOperandAt n = IsOperand (IsExpression n) (IsArgument n)

abbrev pub IsComparableAt : (n : ℕ) → Comparable (Expression n) (Argument n) → CodeComparable → Type 0
IsComparableAt n = IsComparable (IsExpression n) (IsArgument n)

abbrev pub IsBasicAt : (n : ℕ) → Basic (Expression n) (Argument n) → CodeExpression → Type 0
IsBasicAt n = IsBasic (IsExpression n) (IsArgument n)

abbrev pub IsConjunctionAt : (n : ℕ) → List (Basic (Expression n) (Argument n)) → CodeExpression → Type 0
IsConjunctionAt n = IsConjunction (IsExpression n) (IsArgument n)

-- ---- what is left is shorter

pub selection_shortens : (n : ℕ) → Shortens (selection_turn (expression_front n))
selection_shortens n = let h = expression_faithful n in selection_falls h.sound h.shorter

pub segments_shortens : (n : ℕ) → Shortens (segments_turn (expression_front n))
segments_shortens n = let h = expression_faithful n in segments_falls h.sound h.shorter

basic_falls : (n : ℕ) (xs : List ℕ) → Finds (basic_front (expression_front n) (argument_front n) xs) (λ p. length p.1 < length xs)
basic_falls n xs =
    let h = level_faithful n in
    front_falls (basic_sound h.expression.sound h.argument.sound) (basic_shorter h.expression.shorter h.argument.shorter) xs

conjunction_falls : (n : ℕ) (xs : List ℕ)
    → Finds (conjunction_front (expression_front n) (argument_front n) xs) (λ p. length p.1 < length xs)
conjunction_falls n xs =
    let h = level_faithful n in
    front_falls (joined_sound 38 (basic_sound h.expression.sound h.argument.sound))
    (joined_shorter 38 (basic_shorter h.expression.shorter h.argument.shorter)) xs

pub conjunction_shortens : (n : ℕ) → Shortens (joined_turn 38 (basic_front (expression_front n) (argument_front n)))
conjunction_shortens n = joined_falls 38 (basic_falls n)

pub disjunction_shortens : (n : ℕ) → Shortens (joined_turn 124 (conjunction_front (expression_front n) (argument_front n)))
disjunction_shortens n = joined_falls 124 (conjunction_falls n)

pub basic_smaller : (n : ℕ) (xs : List ℕ) (v : Basic (Expression n) (Argument n)) (ys zs : List ℕ)
    → basic_front (expression_front n) (argument_front n) xs ≡ Some (v, ys)
    → behind_both 38 ys ≡ Some zs → length zs < length xs
basic_smaller n xs v ys zs e f =
    let a = (basic_falls n xs).at (v, ys) e in
    let b = (both_shorter 38 ys).at zs f in
    omega arith

pub conjunction_smaller : (n : ℕ) (xs : List ℕ) (v : List (Basic (Expression n) (Argument n))) (ys zs : List ℕ)
    → conjunction_front (expression_front n) (argument_front n) xs ≡ Some (v, ys) → behind_both 124 ys ≡ Some zs → length zs < length xs
conjunction_smaller n xs v ys zs e f =
    let a = (conjunction_falls n xs).at (v, ys) e in
    let b = (both_shorter 124 ys).at zs f in
    omega arith

pub segment_smaller : (n : ℕ) (xs zs : List ℕ) (s : Segment (Expression n)) (ys : List ℕ) → zs ≡ after_blanks xs
    → segment_front (expression_front n) zs ≡ Some (s, ys) → length ys < length xs
segment_smaller n xs zs s ys e f =
    let h = expression_faithful n in
    (segment_falls h.sound h.shorter xs).at (s, ys) (ap (segment_front (expression_front n)) (sym e) ∙ f)

pub selector_smaller : (n : ℕ) (xs zs : List ℕ) (v : Selector (Expression n)) (ys : List ℕ) → zs ≡ after_blanks xs
    → selector_front (expression_front n) zs ≡ Some (v, ys) → length ys < length xs
selector_smaller n xs zs v ys e f =
    let h = expression_faithful n in
    (selector_falls h.sound h.shorter xs).at (v, ys) (ap (selector_front (expression_front n)) (sym e) ∙ f)

module _ {E : Type 0} (F : FrontOf E) where
  -- ---- selectors

  pub filter_at : (xs cs zs : List ℕ) (c : ℕ) (e : E) (ys : List ℕ) → xs ≡ c ∷ cs → c ≡ 63 → zs ≡ after_blanks cs → F zs ≡ Some (e, ys)
      → selector_front F xs ≡ Some (form.filter e, ys)
  filter_at xs cs zs c e ys f g h k =
      ap (selector_front F) (f ∙ ap (λ d. d ∷ cs) g) ∙ (ap (λ us. option_map filtered (F us)) (sym h) ∙ ap (option_map filtered) k)

  pub filter_none : (xs cs zs : List ℕ) (c : ℕ) → xs ≡ c ∷ cs → c ≡ 63 → zs ≡ after_blanks cs → F zs ≡ None
      → selector_front F xs ≡ None
  filter_none xs cs zs c f g h k =
      ap (selector_front F) (f ∙ ap (λ d. d ∷ cs) g) ∙ (ap (λ us. option_map filtered (F us)) (sym h) ∙ ap (option_map filtered) k)

  pub plain_from : (xs cs : List ℕ) (c : ℕ) → xs ≡ c ∷ cs → c ≢ 63 → selector_front F xs ≡ option_map as_plain (plain_front xs)
  plain_from xs cs c f g =
      ap (selector_front F) f ∙ (cond-false (c == 63) _ _ (ne_eqb c 63 g) ∙ ap (λ us. option_map as_plain (plain_front us)) (sym f))

  pub selection_at : (xs zs : List ℕ) (v : Selector E) (ys : List ℕ) → zs ≡ after_blanks xs → selector_front F zs ≡ Some (v, ys)
      → selection_turn F xs ≡ separator v ys
  selection_at xs zs v ys e h =
      ap (λ us. option_and_then separated (selector_front F us)) (sym e) ∙ ap (option_and_then separated) h

  pub selection_none : (xs zs : List ℕ) → zs ≡ after_blanks xs → selector_front F zs ≡ None → selection_turn F xs ≡ None
  selection_none xs zs e h =
      ap (λ us. option_and_then separated (selector_front F us)) (sym e) ∙ ap (option_and_then separated) h

  -- ---- segments

  pub segments_end : (xs zs : List ℕ) → zs ≡ after_blanks xs → begins_segment zs ≡ false → segments_turn F xs ≡ Some (end xs)
  segments_end xs zs e h = cond-false (begins_segment (after_blanks xs)) _ _ (ap begins_segment (sym e) ∙ h)

  pub segments_more : (xs zs ws : List ℕ) (s : Segment E) (ys : List ℕ) → zs ≡ after_blanks xs → begins_segment zs ≡ true
      → ws ≡ after_blanks xs → segment_front F ws ≡ Some (s, ys) → segments_turn F xs ≡ Some (more s ys)
  segments_more xs zs ws s ys e h f k =
      cond-true (begins_segment (after_blanks xs)) _ _ (ap begins_segment (sym e) ∙ h)
      ∙ ap (option_map more_of) (ap (segment_front F) (sym f) ∙ k)

  pub segments_none : (xs zs ws : List ℕ) → zs ≡ after_blanks xs → begins_segment zs ≡ true → ws ≡ after_blanks xs
      → segment_front F ws ≡ None → segments_turn F xs ≡ None
  segments_none xs zs ws e h f k =
      cond-true (begins_segment (after_blanks xs)) _ _ (ap begins_segment (sym e) ∙ h)
      ∙ ap (option_map more_of) (ap (segment_front F) (sym f) ∙ k)

  pub descendant_bracket : (xs cs : List ℕ) (c : ℕ) (vs : List (Selector E)) (ys : List ℕ) → xs ≡ c ∷ cs → c ≡ 91
      → selection_front F cs ≡ Some (vs, ys) → descendant_front F xs ≡ Some (form.descendant vs, ys)
  descendant_bracket xs cs c vs ys e f h = ap (descendant_front F) (e ∙ ap (λ d. d ∷ cs) f) ∙ ap (option_map descendant_of) h

  pub descendant_short : (xs cs : List ℕ) (c : ℕ) (v : PlainSelector) (ys : List ℕ) → xs ≡ c ∷ cs → c ≢ 91
      → shorthand_front xs ≡ Some (v, ys) → descendant_front F xs ≡ Some (form.descendant (form.plain v ∷ []), ys)
  descendant_short xs cs c v ys e f h =
      ap (descendant_front F) e
      ∙ (cond-false (c == 91) _ _ (ne_eqb c 91 f)
      ∙ (ap (λ zs. option_map descendant_of (option_map alone (shorthand_front zs))) (sym e)
      ∙ ap (λ o. option_map descendant_of (option_map alone o)) h))

  pub segment_bracket : (xs cs : List ℕ) (c : ℕ) (vs : List (Selector E)) (ys : List ℕ) → xs ≡ c ∷ cs → c ≡ 91
      → selection_front F cs ≡ Some (vs, ys) → segment_front F xs ≡ Some (form.child vs, ys)
  segment_bracket xs cs c vs ys e f h = ap (segment_front F) (e ∙ ap (λ d. d ∷ cs) f) ∙ ap (option_map child_of) h

  pub segment_short : (xs cs ds : List ℕ) (c d : ℕ) (v : PlainSelector) (ys : List ℕ) → xs ≡ c ∷ cs → c ≡ 46 → cs ≡ d ∷ ds → d ≢ 46
      → shorthand_front cs ≡ Some (v, ys) → segment_front F xs ≡ Some (form.child (form.plain v ∷ []), ys)
  segment_short xs cs ds c d v ys e f g n h =
      ap (segment_front F) (e ∙ ap (λ x. x ∷ cs) f)
      ∙ (ap (dotted_front F) g
      ∙ (cond-false (d == 46) _ _ (ne_eqb d 46 n)
      ∙ (ap (λ zs. option_map child_of (option_map alone (shorthand_front zs))) (sym g)
      ∙ ap (λ o. option_map child_of (option_map alone o)) h)))

  -- ---- conditions

  pub joined_at : (sign : ℕ) (xs : List ℕ) (a : E) (ys : List ℕ) (o : Option (List ℕ)) → F xs ≡ Some (a, ys) → behind_both sign ys ≡ o
      → joined_turn sign F xs ≡ Some (joint a ys o)
  joined_at sign xs a ys o e f = ap (option_map (joined sign)) e ∙ ap (λ p. Some (joint a ys p)) f

  pub joined_none : (sign : ℕ) (xs : List ℕ) → F xs ≡ None → joined_turn sign F xs ≡ None
  joined_none sign xs e = ap (option_map (joined sign)) e

module _ {E C : Type 0} (F : FrontOf E) (G : FrontOf C) where
  pub closed_at : (xs cs zs ys us vs : List ℕ) (c : ℕ) (e : E) → xs ≡ c ∷ cs → c ≡ 40 → zs ≡ after_blanks cs → F zs ≡ Some (e, ys)
      → behind 41 ys ≡ Some us → vs ≡ after_blanks us → operand_front F G xs ≡ Some (form.parenthesized e, vs)
  closed_at xs cs zs ys us vs c e f g h k l m =
      ap (operand_front F G) (f ∙ ap (λ d. d ∷ cs) g)
      ∙ (ap (λ ws. option_and_then closing (F ws)) (sym h)
      ∙ (ap (option_and_then closing) k
      ∙ (ap (option_map (closed e)) l ∙ ap (λ ws. Some (form.parenthesized e, ws)) (sym m))))

  pub unclosed : (xs cs zs ys : List ℕ) (c : ℕ) (e : E) → xs ≡ c ∷ cs → c ≡ 40 → zs ≡ after_blanks cs → F zs ≡ Some (e, ys)
      → behind 41 ys ≡ None → operand_front F G xs ≡ None
  unclosed xs cs zs ys c e f g h k l =
      ap (operand_front F G) (f ∙ ap (λ d. d ∷ cs) g)
      ∙ (ap (λ ws. option_and_then closing (F ws)) (sym h) ∙ (ap (option_and_then closing) k ∙ ap (option_map (closed e)) l))

  pub parenthesized_none : (xs cs zs : List ℕ) (c : ℕ) → xs ≡ c ∷ cs → c ≡ 40 → zs ≡ after_blanks cs → F zs ≡ None
      → operand_front F G xs ≡ None
  parenthesized_none xs cs zs c f g h k =
      ap (operand_front F G) (f ∙ ap (λ d. d ∷ cs) g)
      ∙ (ap (λ ws. option_and_then closing (F ws)) (sym h) ∙ ap (option_and_then closing) k)

  pub tested_at : (xs cs ys zs : List ℕ) (c : ℕ) (o : Origin) (ss : List (Segment E)) → xs ≡ c ∷ cs → c ≢ 40 → origin_of c ≡ Some o
      → segments_front F cs ≡ Some (ss, ys) → zs ≡ after_blanks ys → operand_front F G xs ≡ Some (form.test o ss, zs)
  tested_at xs cs ys zs c o ss f g h k l =
      ap (operand_front F G) f
      ∙ (cond-false (c == 40) _ _ (ne_eqb c 40 g)
      ∙ (ap (tested_front F G c cs) h ∙ (ap (option_map (tested o)) k ∙ ap (λ us. Some (form.test o ss, us)) (sym l))))

  pub pattern_at : (xs cs : List ℕ) (c : ℕ) → xs ≡ c ∷ cs → c ≢ 40 → origin_of c ≡ None → operand_front F G xs ≡ pattern_front G xs
  pattern_at xs cs c f g h =
      ap (operand_front F G) f
      ∙ (cond-false (c == 40) _ _ (ne_eqb c 40 g) ∙ (ap (tested_front F G c cs) h ∙ ap (pattern_front G) (sym f)))

  pub negated_from : (xs cs zs : List ℕ) (c : ℕ) → xs ≡ c ∷ cs → c ≡ 33 → zs ≡ after_blanks cs
      → basic_front F G xs ≡ option_map as_negated (operand_front F G zs)
  negated_from xs cs zs c f g h =
      ap (basic_front F G) (f ∙ ap (λ d. d ∷ cs) g) ∙ ap (λ us. option_map as_negated (operand_front F G us)) (sym h)

  pub affirmed_from : (xs cs : List ℕ) (c : ℕ) → xs ≡ c ∷ cs → c ≡ 40 → basic_front F G xs ≡ option_map as_affirmed (operand_front F G xs)
  affirmed_from xs cs c f g =
      let e : xs ≡ 40 ∷ cs = f ∙ ap (λ d. d ∷ cs) g in
      ap (basic_front F G) e ∙ ap (λ us. option_map as_affirmed (operand_front F G us)) (sym e)

  pub pattern_from : (xs cs : List ℕ) (c : ℕ) → xs ≡ c ∷ cs → c ≢ 33 → c ≢ 40 → begins_pattern c ≡ true
      → basic_front F G xs ≡ option_map as_affirmed (operand_front F G xs)
  pattern_from xs cs c f g h k =
      ap (basic_front F G) f
      ∙ (cond-false (c == 33) _ _ (ne_eqb c 33 g)
      ∙ (cond-false (c == 40) _ _ (ne_eqb c 40 h)
      ∙ (cond-true (begins_pattern c) _ _ k ∙ ap (λ us. option_map as_affirmed (operand_front F G us)) (sym f))))

  compared_from : (xs cs : List ℕ) (c : ℕ) → xs ≡ c ∷ cs → c ≢ 33 → c ≢ 40 → begins_pattern c ≡ false
      → basic_front F G xs ≡ option_and_then (left_end F G xs) (comparable_front F G xs)
  compared_from xs cs c f g h k =
      ap (basic_front F G) f
      ∙ (cond-false (c == 33) _ _ (ne_eqb c 33 g)
      ∙ (cond-false (c == 40) _ _ (ne_eqb c 40 h)
      ∙ (cond-false (begins_pattern c) _ _ k ∙ ap (λ us. option_and_then (left_end F G us) (comparable_front F G us)) (sym f))))

  pub operated_from : (xs cs : List ℕ) (c : ℕ) (l : Comparable E C) (ys zs : List ℕ) (o : Option (ComparisonOperator × List ℕ))
      → xs ≡ c ∷ cs → c ≢ 33 → c ≢ 40 → begins_pattern c ≡ false
      → comparable_front F G xs ≡ Some (l, ys) → zs ≡ after_blanks ys → operator_front zs ≡ o
      → basic_front F G xs ≡ operated_front F G xs l o
  operated_from xs cs c l ys zs o f g h b e k m =
      compared_from xs cs c f g h b
      ∙ (ap (option_and_then (left_end F G xs)) e ∙ ap (operated_front F G xs l) (ap operator_front (sym k) ∙ m))

  pub compared_at : (xs cs : List ℕ) (c : ℕ) (l r : Comparable E C) (op : ComparisonOperator) (ys zs us vs ws ts : List ℕ) → xs ≡ c ∷ cs
      → c ≢ 33 → c ≢ 40 → begins_pattern c ≡ false
      → comparable_front F G xs ≡ Some (l, ys) → zs ≡ after_blanks ys → operator_front zs ≡ Some (op, us)
      → vs ≡ after_blanks us → comparable_front F G vs ≡ Some (r, ws) → ts ≡ after_blanks ws
      → basic_front F G xs ≡ Some (form.comparison op l r, ts)
  compared_at xs cs c l r op ys zs us vs ws ts f g h b e k m n q t =
      operated_from xs cs c l ys zs (Some (op, us)) f g h b e k m
      ∙ (ap (option_map (as_comparison op l)) (ap (comparable_front F G) (sym n) ∙ q) ∙ ap (λ rs. Some (form.comparison op l r, rs))
      (sym t))

  pub left_none : (xs cs : List ℕ) (c : ℕ) → xs ≡ c ∷ cs → c ≢ 33 → c ≢ 40 → begins_pattern c ≡ false
      → comparable_front F G xs ≡ None → basic_front F G xs ≡ None
  left_none xs cs c f g h b e = compared_from xs cs c f g h b ∙ ap (option_and_then (left_end F G xs)) e

  pub right_none : (xs cs : List ℕ) (c : ℕ) (l : Comparable E C) (op : ComparisonOperator) (ys zs us vs : List ℕ) → xs ≡ c ∷ cs
      → c ≢ 33 → c ≢ 40 → begins_pattern c ≡ false
      → comparable_front F G xs ≡ Some (l, ys) → zs ≡ after_blanks ys → operator_front zs ≡ Some (op, us)
      → vs ≡ after_blanks us → comparable_front F G vs ≡ None → basic_front F G xs ≡ None
  right_none xs cs c l op ys zs us vs f g h b e k m n q =
      operated_from xs cs c l ys zs (Some (op, us)) f g h b e k m
      ∙ ap (option_map (as_comparison op l)) (ap (comparable_front F G) (sym n) ∙ q)

module _ {E : Type 0} where
  pub separator_nothing : (v : Selector E) (ys : List ℕ) → length ys ≡ 0 → separator v ys ≡ None
  separator_nothing v [] e = refl
  separator_nothing v (c ∷ cs) e = absurd (omega arith)

  pub separator_closes : (v : Selector E) (ys cs : List ℕ) (c : ℕ) → ys ≡ c ∷ cs → c ≡ 93 → separator v ys ≡ Some (last v cs)
  separator_closes v ys cs c e f = ap (separator v) (e ∙ ap (λ d. d ∷ cs) f)

  pub separator_more : (v : Selector E) (ys cs : List ℕ) (c : ℕ) → ys ≡ c ∷ cs → c ≡ 44 → separator v ys ≡ Some (more v cs)
  separator_more v ys cs c e f = ap (separator v) (e ∙ ap (λ d. d ∷ cs) f)

  pub separator_other : (v : Selector E) (ys cs : List ℕ) (c : ℕ) → ys ≡ c ∷ cs → c ≢ 93 → c ≢ 44 → separator v ys ≡ None
  separator_other v ys cs c e f g =
      ap (separator v) e ∙ (cond-false (c == 44) _ _ (ne_eqb c 44 g) ∙ cond-false (c == 93) _ _ (ne_eqb c 93 f))

  pub one_selector : (Is : E → CodeExpression → Type 0) (v : PlainSelector) (xs : List CodeSelector)
      → ((y : CodeSelector) × (xs ≡ y ∷ []) × form.IsPlain v y) → Each (IsSelector Is) (form.plain v ∷ []) xs
  one_selector Is v xs h = subst (λ ys. Each (IsSelector Is) (form.plain v ∷ []) ys) (sym h.1) (h.2, tt)

  pub ended_nothing : (ss : List (Segment E)) (ys : List ℕ) → length ys ≡ 0 → ended (ss, ys) ≡ Some ss
  ended_nothing ss [] e = refl
  ended_nothing ss (c ∷ cs) e = absurd (omega arith)

  pub ended_more : (ss : List (Segment E)) (ys : List ℕ) → length ys ≢ 0 → ended (ss, ys) ≡ None
  ended_more ss [] n = absurd (n refl)
  ended_more ss (c ∷ cs) n = refl

-- ---- depths

-- what is found one level below is found
pub expression_at : (n m : ℕ) (xs : List ℕ) (e : Disjunction (Expression m) (Argument m)) (ys : List ℕ) (x : CodeExpression) → n ≡ suc m
    → disjunction_front (expression_front m) (argument_front m) xs ≡ Some (e, ys) → IsDisjunction (IsExpression m) (IsArgument m) e x
    → (f : Expression n) × (expression_front n xs ≡ Some (f, ys)) × IsExpression n f x
expression_at n m xs e ys x s h k =
    subst (λ l. (f : Expression l) × (expression_front l xs ≡ Some (f, ys)) × IsExpression l f x) (sym s) (e, h, k)

pub expression_none : (n m : ℕ) (xs : List ℕ) → n ≡ suc m → disjunction_front (expression_front m) (argument_front m) xs ≡ None
    → expression_front n xs ≡ None
expression_none n m xs s h = subst (λ l. expression_front l xs ≡ None) (sym s) h

-- ---- queries

pub query_at : (n : ℕ) (xs cs : List ℕ) (c : ℕ) (ss : List (Segment (Expression n))) (ys : List ℕ) → xs ≡ c ∷ cs → c ≡ 36
    → segments_front (expression_front n) cs ≡ Some (ss, ys) → query_front n xs ≡ ended (ss, ys)
query_at n xs cs c ss ys e f h = ap (query_front n) (e ∙ ap (λ d. d ∷ cs) f) ∙ ap (option_and_then ended) h

pub query_none : (n : ℕ) (xs cs : List ℕ) (c : ℕ) → xs ≡ c ∷ cs → c ≡ 36 → segments_front (expression_front n) cs ≡ None
    → query_front n xs ≡ None
query_none n xs cs c e f h = ap (query_front n) (e ∙ ap (λ d. d ∷ cs) f) ∙ ap (option_and_then ended) h

-- ---- what is compared

-- what is found one level below is found
pub argument_at : (n m : ℕ) (xs : List ℕ) (r : Result (CodeComparable × Bor (List ℕ)) Refusal) → n ≡ suc m
    → Fronts (IsComparable (IsExpression m) (IsArgument m)) (comparable_front (expression_front m) (argument_front m) xs) r
    → Fronts (IsArgument n) (argument_front n xs) r
argument_at n m xs r s h = subst (λ l. Fronts (IsArgument l) (argument_front l xs) r) (sym s) h

pub no_argument : (n : ℕ) (xs : List ℕ) → begins_with right_parenthesis xs ≡ true → argument_front n xs ≡ None
no_argument zero xs e = refl
no_argument (suc n) [] e = refl
no_argument (suc n) (c ∷ cs) e = ap (λ d. argument_front (suc n) (d ∷ cs)) (eqb-true c right_parenthesis e)

module _ {E C : Type 0} (F : FrontOf E) (G : FrontOf C) where
  pub query_from : (xs cs : List ℕ) (c : ℕ) (o : Origin) (p : Option (List SingularSegment × List ℕ)) → xs ≡ c ∷ cs
      → origin_of c ≡ Some o → singular_front cs ≡ p → comparable_front F G xs ≡ option_map (as_singular o) p
  query_from xs cs c o p e f h =
      ap (comparable_front F G) e ∙ (ap (compared_front F G c cs) f ∙ ap (option_map (as_singular o)) h)

  pub call_from : (xs cs : List ℕ) (c : ℕ) (p : Option (Function E C × List ℕ)) → xs ≡ c ∷ cs → origin_of c ≡ None
      → begins_call c ≡ true → function_front F G xs ≡ p → comparable_front F G xs ≡ option_map as_function p
  call_from xs cs c p e f b h =
      ap (comparable_front F G) e
      ∙ (ap (compared_front F G c cs) f
      ∙ (cond-true (begins_call c) _ _ b
      ∙ (ap (λ us. option_map as_function (function_front F G us)) (sym e) ∙ ap (option_map as_function) h)))

  pub literal_from : (xs cs : List ℕ) (c : ℕ) (p : Option (Literal × List ℕ)) → xs ≡ c ∷ cs → origin_of c ≡ None
      → begins_call c ≡ false → literal_front xs ≡ p → comparable_front F G xs ≡ option_map as_literal p
  literal_from xs cs c p e f b h =
      ap (comparable_front F G) e
      ∙ (ap (compared_front F G c cs) f
      ∙ (cond-false (begins_call c) _ _ b
      ∙ (ap (λ us. option_map as_literal (literal_front us)) (sym e) ∙ ap (option_map as_literal) h)))

  pub length_from : (xs ys : List ℕ) (p : Option (C × List ℕ)) → behind_word length_call xs ≡ Some ys → closed_front G ys ≡ p
      → function_front F G xs ≡ option_map as_length p
  length_from xs ys p e h = ap (length_end F G xs) e ∙ ap (option_map as_length) h

  pub count_from : (xs ys : List ℕ) (p : Option ((Origin × List (Segment E)) × List ℕ)) → behind_word length_call xs ≡ None
      → behind_word count_call xs ≡ Some ys → closed_front (filter_query_front F) ys ≡ p
      → function_front F G xs ≡ option_map as_count p
  count_from xs ys p e f h = ap (length_end F G xs) e ∙ (ap (count_end F xs) f ∙ ap (option_map as_count) h)

  pub value_from : (xs ys : List ℕ) (p : Option ((Origin × List (Segment E)) × List ℕ)) → behind_word length_call xs ≡ None
      → behind_word count_call xs ≡ None → behind_word value_call xs ≡ Some ys → closed_front (filter_query_front F) ys ≡ p
      → function_front F G xs ≡ option_map as_value p
  value_from xs ys p e f g h =
      ap (length_end F G xs) e ∙ (ap (count_end F xs) f ∙ (ap (value_end F) g ∙ ap (option_map as_value) h))

  pub no_function : (xs : List ℕ) → behind_word length_call xs ≡ None → behind_word count_call xs ≡ None
      → behind_word value_call xs ≡ None → function_front F G xs ≡ None
  no_function xs e f g = ap (length_end F G xs) e ∙ (ap (count_end F xs) f ∙ ap (value_end F) g)

module _ {E C : Type 0} (G : FrontOf C) where
  pub match_from : (xs ys : List ℕ) (o : Option (Operand E C × List ℕ)) → behind_word (pattern_call Match) xs ≡ Some ys
      → arguments_front G Match ys ≡ o → pattern_front G xs ≡ o
  match_from xs ys o e h = ap (match_end {E = E} G xs) e ∙ h

  pub search_from : (xs ys : List ℕ) (o : Option (Operand E C × List ℕ)) → behind_word (pattern_call Match) xs ≡ None
      → behind_word (pattern_call Search) xs ≡ Some ys → arguments_front G Search ys ≡ o → pattern_front G xs ≡ o
  search_from xs ys o e f h = ap (match_end {E = E} G xs) e ∙ (ap (search_end {E = E} G) f ∙ h)

  pub no_pattern : (xs : List ℕ) → behind_word (pattern_call Match) xs ≡ None → behind_word (pattern_call Search) xs ≡ None
      → pattern_front {E = E} G xs ≡ None
  no_pattern xs e f = ap (match_end {E = E} G xs) e ∙ ap (search_end {E = E} G) f

  pub arguments_at : (f : PatternFunction) (xs zs ys ws us rs vs : List ℕ) (v p : C) → zs ≡ after_blanks xs → G zs ≡ Some (v, ys)
      → ws ≡ after_blanks ys → behind 44 ws ≡ Some us → closed_front G us ≡ Some (p, rs) → vs ≡ after_blanks rs
      → arguments_front {E = E} G f xs ≡ Some (form.pattern f v p, vs)
  arguments_at f xs zs ys ws us rs vs v p e g h k m n =
      ap (λ ts. option_and_then (first_end {E = E} G f) (G ts)) (sym e)
      ∙ (ap (option_and_then (first_end {E = E} G f)) g
      ∙ (ap (option_and_then (second_front {E = E} G f v)) (ap (behind 44) (sym h) ∙ k)
      ∙ (ap (option_map (as_pattern {E = E} f v)) m ∙ ap (λ ts. Some (form.pattern f v p, ts)) (sym n))))

  pub first_none : (f : PatternFunction) (xs zs : List ℕ) → zs ≡ after_blanks xs → G zs ≡ None → arguments_front {E = E} G f xs ≡ None
  first_none f xs zs e g =
      ap (λ ts. option_and_then (first_end {E = E} G f) (G ts)) (sym e) ∙ ap (option_and_then (first_end {E = E} G f)) g

  pub no_second : (f : PatternFunction) (xs zs ys ws : List ℕ) (v : C) → zs ≡ after_blanks xs → G zs ≡ Some (v, ys)
      → ws ≡ after_blanks ys → behind 44 ws ≡ None → arguments_front {E = E} G f xs ≡ None
  no_second f xs zs ys ws v e g h k =
      ap (λ ts. option_and_then (first_end {E = E} G f) (G ts)) (sym e)
      ∙ (ap (option_and_then (first_end {E = E} G f)) g ∙ ap (option_and_then (second_front {E = E} G f v)) (ap (behind 44) (sym h) ∙ k))

  pub second_none : (f : PatternFunction) (xs zs ys ws us : List ℕ) (v : C) → zs ≡ after_blanks xs → G zs ≡ Some (v, ys)
      → ws ≡ after_blanks ys → behind 44 ws ≡ Some us → closed_front G us ≡ None → arguments_front {E = E} G f xs ≡ None
  second_none f xs zs ys ws us v e g h k m =
      ap (λ ts. option_and_then (first_end {E = E} G f) (G ts)) (sym e)
      ∙ (ap (option_and_then (first_end {E = E} G f)) g
      ∙ (ap (option_and_then (second_front {E = E} G f v)) (ap (behind 44) (sym h) ∙ k) ∙ ap (option_map (as_pattern {E = E} f v)) m))

module _ {A : Type 0} (G : FrontOf A) where
  pub closed_from : (xs zs ys us : List ℕ) (a : A) (o : Option (List ℕ)) → zs ≡ after_blanks xs → G zs ≡ Some (a, ys)
      → us ≡ after_blanks ys → behind 41 us ≡ o → closed_front G xs ≡ option_map (held a) o
  closed_from xs zs ys us a o e h f k =
      ap (λ ws. option_and_then in_parentheses (G ws)) (sym e)
      ∙ (ap (option_and_then in_parentheses) h ∙ ap (option_map (held a)) (ap (behind 41) (sym f) ∙ k))

  pub closed_none : (xs zs : List ℕ) → zs ≡ after_blanks xs → G zs ≡ None → closed_front G xs ≡ None
  closed_none xs zs e h = ap (λ ws. option_and_then in_parentheses (G ws)) (sym e) ∙ ap (option_and_then in_parentheses) h

module _ {E : Type 0} (F : FrontOf E) where
  pub begun_from : (xs cs : List ℕ) (c : ℕ) (o : Origin) (p : Option (List (Segment E) × List ℕ)) → xs ≡ c ∷ cs → origin_of c ≡ Some o
      → segments_front F cs ≡ p → filter_query_front F xs ≡ option_map (as_query o) p
  begun_from xs cs c o p e f h =
      ap (filter_query_front F) e ∙ (ap (option_and_then (begun_front F cs)) f ∙ ap (option_map (as_query o)) h)

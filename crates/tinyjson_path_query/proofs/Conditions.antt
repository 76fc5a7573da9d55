-- Conditions and queries that are found at the front of a text are in the grammar.
use Rattle.std.proofs.Common.{◌≡◌, ℕ, zero, suc, ◌==◌, List, [], ◌∷◌, length, Option, Some, None, refl, sym, ap, ◌∙◌}
use Rattle.std.proofs.Common.{◌++◌, Bool, true, false, cond, option_map, subst}
use Rattle.tinyjson_path_query.specs.declared.query.ComparisonOperator.{ComparisonOperator}
use Rattle.tinyjson_path_query.specs.declared.query.Origin.TheVariants.{Root, CurrentNode}
use Rattle.tinyjson_path_query.specs.declared.query.PatternFunction.{PatternFunction}
use Rattle.tinyjson_path_query.specs.declared.query.PatternFunction.TheVariants.{Match, Search}
use Rattle.tinyjson_path_query.specs.Forms.{Segment, Comparable, Expression}
use Rattle.tinyjson_path_query.specs.Forms as form
use Rattle.tinyjson_path_query.specs.Grammar as is
use Rattle.tinyjson_path_query.specs.Grammar.{after_blanks, TextsOf, SegmentsText, ComparableText, OperatorText, OperandText, BasicText}
use Rattle.tinyjson_path_query.specs.Grammar.{JoinedText, ExpressionText, QueryText}
use Rattle.tinyjson_path_query.specs.Fronts.{turns, then_turn, with_first, FrontOf, segments_front}
use Rattle.tinyjson_path_query.specs.Fronts.{behind, closed, closing, tested, origin_of}
use Rattle.tinyjson_path_query.specs.Fronts.{tested_front, operand_front, comparable_front, operator_front, as_affirmed, as_negated}
use Rattle.tinyjson_path_query.specs.Fronts.{as_comparison, operated_front, left_end, basic_front, behind_both, joint, joined}
use Rattle.tinyjson_path_query.specs.Fronts.{joined_turn, joined_front, expression_front, ended, query_front, behind_word, closed_front}
use Rattle.tinyjson_path_query.specs.Fronts.{as_pattern, second_front, first_end, arguments_front, search_end, match_end, pattern_front}
use Rattle.tinyjson_path_query.specs.Fronts.{begins_pattern}
use Rattle.tinyjson_path_query.proofs.Before.{Before}
use Rattle.tinyjson_path_query.proofs.Compared.{Exact, word_sound, closed_sound, comparable_sound, operator_sound}
use Rattle.tinyjson_path_query.proofs.Finds.{Finds, finds_none, finds_some, finds_cond, finds_map, finds_then, finds_as, at_code}
use Rattle.tinyjson_path_query.proofs.Sound.{Sound, behind_sound, segments_sound}

-- ---- logical expressions

-- what follows both signs, with the blanks
record Both (sign : ℕ) (xs zs : List ℕ) : Type 0 where
  rest : List ℕ
  at : xs ≡ sign ∷ sign ∷ rest
  blanks : after_blanks rest ≡ zs

both_sound : (sign : ℕ) (xs : List ℕ) → Finds (behind_both sign xs) (Both sign xs)
both_sound sign xs =
    finds_map after_blanks _ (finds_then (behind sign) (behind sign xs) (finds_as (behind_sound sign xs) (λ ys e.
    finds_as (behind_sound sign ys) (λ zs f. record { rest = zs; at = e ∙ ap (λ us. sign ∷ us) f; blanks = refl }))))

arguments_sound : {E C : Type 0} {T : TextsOf E} {A : TextsOf C} {G : FrontOf C} → Exact A G → (f : PatternFunction) (xs zs : List ℕ)
    → zs ≡ is.pattern_call f ++ xs → Finds (arguments_front G f xs) (λ p. Before (OperandText T A zs p.0) p.1)
arguments_sound {E = E} {T = T} {A = A} {G = G} t f xs zs e =
    finds_then (first_end {E = E} G f) (G (after_blanks xs)) (finds_as (t (after_blanks xs)) (λ p m.
    finds_then (second_front {E = E} G f p.0) (behind 44 (after_blanks p.1)) (finds_as (behind_sound 44 (after_blanks p.1)) (λ ys h.
    finds_map (as_pattern {E = E} f p.0) (closed_front G ys) (finds_as (closed_sound t ys) (λ q n. record {
      whole = q.1;
      blanks = refl;
      held = subst (λ us. OperandText T A us (form.pattern f p.0 q.0) q.1) (sym e) (is.pattern f xs m h n);
    }))))))

pattern_sound : {E C : Type 0} {T : TextsOf E} {A : TextsOf C} {G : FrontOf C} → Exact A G → (xs : List ℕ)
    → Finds (pattern_front {E = E} G xs) (λ p. Before (OperandText T A xs p.0) p.1)
pattern_sound {E = E} {T = T} {A = A} {G = G} t xs =
    match_by (behind_word (is.pattern_call Match) xs) (word_sound (is.pattern_call Match) xs)
  where
    search_by : (o : Option (List ℕ)) → Finds o (λ ys. xs ≡ is.pattern_call Search ++ ys)
        → Finds (search_end {E = E} G o) (λ p. Before (OperandText T A xs p.0) p.1)
    search_by None h = finds_none
    search_by (Some ys) h = arguments_sound t Search ys xs (h.at ys refl)

    match_by : (o : Option (List ℕ)) → Finds o (λ ys. xs ≡ is.pattern_call Match ++ ys)
        → Finds (match_end {E = E} G xs o) (λ p. Before (OperandText T A xs p.0) p.1)
    match_by None h = search_by (behind_word (is.pattern_call Search) xs) (word_sound (is.pattern_call Search) xs)
    match_by (Some ys) h = arguments_sound t Match ys xs (h.at ys refl)

tested_sound : {E C : Type 0} {T : TextsOf E} {A : TextsOf C} {F : FrontOf E} {G : FrontOf C} → Sound T F → Exact A G → (c : ℕ)
    (cs : List ℕ) → Finds (tested_front F G c cs (origin_of c)) (λ p. Before (OperandText T A (c ∷ cs) p.0) p.1)
tested_sound {T = T} {A = A} {F = F} {G = G} s t c cs = by (c == 64) (c == 36) refl refl
  where
    by : (b d : Bool) → (c == 64) ≡ b → (c == 36) ≡ d
        → Finds (tested_front F G c cs (cond b (Some CurrentNode) (cond d (Some Root) None)))
        (λ p. Before (OperandText T A (c ∷ cs) p.0) p.1)
    by true d e f = finds_map (tested CurrentNode) (segments_front F cs) (finds_as (segments_sound s (suc (length cs)) cs)
        (λ p m. record {
          whole = p.1;
          blanks = refl;
          held = at_code (λ x. OperandText T A (x ∷ cs) (form.test CurrentNode p.0) p.1) c 64 e (is.relative m);
        }))
    by false true e f = finds_map (tested Root) (segments_front F cs) (finds_as (segments_sound s (suc (length cs)) cs)
        (λ p m. record {
          whole = p.1;
          blanks = refl;
          held = at_code (λ x. OperandText T A (x ∷ cs) (form.test Root p.0) p.1) c 36 f (is.absolute m);
        }))
    by false false e f = pattern_sound t (c ∷ cs)

operand_sound : {E C : Type 0} {T : TextsOf E} {A : TextsOf C} {F : FrontOf E} {G : FrontOf C} → Sound T F → Exact A G
    → Sound (OperandText T A) (operand_front F G)
operand_sound s t [] = finds_none
operand_sound {T = T} {A = A} {F = F} s t (c ∷ cs) =
    finds_cond (c == 40)
    (λ e. finds_then closing (F (after_blanks cs)) (finds_as (s (after_blanks cs)) (λ p b.
    finds_map (closed p.0) (behind 41 p.1) (finds_as (behind_sound 41 p.1) (λ ys f. record {
      whole = ys;
      blanks = refl;
      held = at_code (λ x. OperandText T A (x ∷ cs) (form.parenthesized p.0) ys) c 40 e (is.parenthesized b.held (b.blanks ∙ f));
    })))))
    (λ _. tested_sound s t c cs)

-- behind what may stand on the left
operated_sound : {E C : Type 0} {T : TextsOf E} {A : TextsOf C} {F : FrontOf E} {G : FrontOf C} → Sound T F → Exact A G → (xs : List ℕ)
    (l : Comparable E C) (ys : List ℕ) → ComparableText T A xs l ys → (o : Option (ComparisonOperator × List ℕ))
    → Finds o (λ p. OperatorText (after_blanks ys) p.0 p.1)
    → Finds (operated_front F G xs l o) (λ p. Before (BasicText T A xs p.0) p.1)
operated_sound {F = F} {G = G} s t xs l ys m None f =
    finds_map as_affirmed (operand_front F G xs) (finds_as (operand_sound s t xs) (λ p b. record {
      whole = b.whole;
      blanks = b.blanks;
      held = is.affirmed b.held;
    }))
operated_sound {F = F} {G = G} s t xs l ys m (Some p) f =
    finds_map (as_comparison p.0 l) (comparable_front F G (after_blanks p.1))
    (finds_as (comparable_sound s t (after_blanks p.1)) (λ q r. record {
      whole = q.1;
      blanks = refl;
      held = is.comparison m (f.at p refl) r;
    }))

pub basic_sound : {E C : Type 0} {T : TextsOf E} {A : TextsOf C} {F : FrontOf E} {G : FrontOf C} → Sound T F → Exact A G
    → Sound (BasicText T A) (basic_front F G)
basic_sound s t [] = finds_none
basic_sound {T = T} {A = A} {F = F} {G = G} s t (c ∷ cs) =
    finds_cond (c == 33)
    (λ e. finds_map as_negated (operand_front F G (after_blanks cs)) (finds_as (operand_sound s t (after_blanks cs)) (λ p b. record {
      whole = b.whole;
      blanks = b.blanks;
      held = at_code (λ x. BasicText T A (x ∷ cs) (form.negated p.0) b.whole) c 33 e (is.negated b.held);
    })))
    (λ _. finds_cond (c == 40) (λ _. affirmed)
    (λ _. finds_cond (begins_pattern c) (λ _. affirmed)
    (λ _. finds_then (left_end F G (c ∷ cs)) (comparable_front F G (c ∷ cs)) (finds_as (comparable_sound s t (c ∷ cs)) (λ p m.
    operated_sound s t (c ∷ cs) p.0 p.1 m (operator_front (after_blanks p.1)) (operator_sound (after_blanks p.1)))))))
  where
    affirmed : Finds (option_map as_affirmed (operand_front F G (c ∷ cs))) (λ p. Before (BasicText T A (c ∷ cs) p.0) p.1)
    affirmed = finds_map as_affirmed (operand_front F G (c ∷ cs)) (finds_as (operand_sound s t (c ∷ cs)) (λ p b. record {
      whole = b.whole;
      blanks = b.blanks;
      held = is.affirmed b.held;
    }))

joined_turns_sound : {A : Type 0} {T : TextsOf A} {F : FrontOf A} (sign : ℕ) → Sound T F → (n : ℕ) (xs : List ℕ)
    → Finds (turns (joined_turn sign F) n xs) (λ p. Before (JoinedText sign T xs p.0) p.1)
joined_turns_sound sign s zero xs = finds_none
joined_turns_sound {A = A} {T = T} {F = F} sign s (suc n) xs =
    finds_then (then_turn (turns (joined_turn sign F) n)) (joined_turn sign F xs) (finds_map (joined sign) (F xs)
    (finds_as (s xs) (λ p b. by p.0 p.1 b (behind_both sign p.1) (both_sound sign p.1) (joined_turns_sound sign s n))))
  where
    by : (a : A) (ys : List ℕ) → Before (T xs a) ys → (o : Option (List ℕ)) → Finds o (Both sign ys)
        → ((zs : List ℕ) → Finds (turns (joined_turn sign F) n zs) (λ p. Before (JoinedText sign T zs p.0) p.1))
        → Finds (then_turn (turns (joined_turn sign F) n) (joint a ys o)) (λ p. Before (JoinedText sign T xs p.0) p.1)
    by a ys b None f rec = finds_some (record { whole = b.whole; blanks = b.blanks; held = is.last b.held })
    by a ys b (Some zs) f rec =
        let both = f.at zs refl in
        finds_map (with_first a) (turns (joined_turn sign F) n zs) (finds_as (rec zs) (λ r k. record {
          whole = k.whole;
          blanks = k.blanks;
          held = is.more b.held (b.blanks ∙ both.at) (subst (λ us. JoinedText sign T us r.0 k.whole) (sym both.blanks) k.held);
        }))

pub joined_sound : {A : Type 0} {T : TextsOf A} {F : FrontOf A} (sign : ℕ) → Sound T F
    → Sound (JoinedText sign T) (joined_front sign F)
joined_sound sign s xs = joined_turns_sound sign s (suc (length xs)) xs

-- ---- queries

pub query_sound : (n : ℕ) → Sound (ExpressionText n) (expression_front n) → (xs : List ℕ)
    → Finds (query_front n xs) (λ ss. QueryText n xs ss)
query_sound n s [] = finds_none
query_sound n s (c ∷ cs) =
    finds_cond (c == 36)
    (λ e. finds_then ended (segments_front (expression_front n) cs) (finds_as (segments_sound s (suc (length cs)) cs)
    (λ p m. by p.0 p.1 m e)))
    (λ _. finds_none)
  where
    by : (ss : List (Segment (Expression n))) (ys : List ℕ) → SegmentsText (ExpressionText n) cs ss ys → (c == 36) ≡ true
        → Finds (ended (ss, ys)) (λ us. QueryText n (c ∷ cs) us)
    by ss [] m e = finds_some (at_code (λ x. QueryText n (x ∷ cs) ss) c 36 e (is.query m))
    by ss (y ∷ ys) m e = finds_none

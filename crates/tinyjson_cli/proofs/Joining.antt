-- What words give, one after the other.
use Rattle.std.proofs.Common.{◌≡◌, ℕ, suc, ◌+◌, ◌<◌, List, [], ◌∷◌, length, drop, get_or, map, Result, Ok, Err, refl, sym, ap, ◌∙◌, subst}
use Rattle.std.proofs.Common.{append-nil, append_assoc, add-one, arith, cond, Bool, true, false, Option, Some, None, ◌==◌, ◌≢◌, ◌≤◌, eq-eqb}
use Rattle.std.proofs.lemmas.Bool.{ne_eqb}
use Rattle.std.proofs.lemmas.Str.{is_utf8-from_IsUtf8, IsUtf8-from_is_utf8}
use Rattle.std.proofs.Math.Seq.{drop-cons}
use Rattle.std.specs.Option.{option_map_or}
use Rattle.std.specs.Result.{IsErrAnd}
use Rattle.std.specs.Str.{IsUtf8, is_utf8}
use Rattle.tinyjson_cli.specs.Arguments.{Given, Fault, Word, Takes, nothing, flag, with_text, operand, join, and_word, and_words, and_rest}
use Rattle.tinyjson_cli.specs.Arguments.{text_or, no_text, taken_gives, value_gives, by_letter}
use Rattle.tinyjson_cli.specs.Arguments.{by_name, letter_gives, letters_give, name_gives}
use Rattle.tinyjson_cli.specs.Arguments.{dashes_give, option_gives, word_gives, words_give}
use Rattle.tinyjson_cli.specs.declared.arguments.Known.{Known}
use Rattle.tinyjson_cli.specs.declared.arguments.Misuse.{Misuse}
use Rattle.tinyjson_cli.specs.declared.arguments.Misuse.TheVariants as misuse
use Rattle.tinyjson_cli.specs.declared.arguments.Next.{Next}
use Rattle.tinyjson_cli.specs.declared.arguments.Next.TheVariants.{Any, Value, Operand}
use Rattle.tinyjson_cli.specs.declared.arguments.Number.{Number}
use Rattle.tinyjson_cli.specs.declared.arguments.Taken.{Taken}

-- two numbers differ
not-eqb : (a b : ℕ) → a ≢ b → (a == b) ≡ false
not-eqb a b n = ne_eqb a b n

abbrev given : List ℕ → List Number → List (ℕ × List ℕ) → List (List ℕ) → Given
given f n t o = record { flags = f; numbers = n; texts = t; operands = o }

module _ (f g : List ℕ) (m n : List Number) (t u : List (ℕ × List ℕ)) (o p : List (List ℕ)) where
  pub same_given : f ≡ g → m ≡ n → t ≡ u → o ≡ p → given f m t o ≡ given g n u p
  same_given a b c d = cc

pub join_nothing : (a : Given) → a ≡ join a nothing
join_nothing a = same_given _ _ _ _ _ _ _ _ (sym (append-nil a.flags)) (sym (append-nil a.numbers)) (sym (append-nil a.texts))
    (sym (append-nil a.operands))

pub join_assoc : (a b c : Given) → join (join a b) c ≡ join a (join b c)
join_assoc a b c = same_given _ _ _ _ _ _ _ _ (append_assoc a.flags b.flags c.flags) (append_assoc a.numbers b.numbers c.numbers)
    (append_assoc a.texts b.texts c.texts) (append_assoc a.operands b.operands c.operands)

pub nothing_and_word : (w : Word) → w ≡ and_word nothing w
nothing_and_word (Ok w) = refl
nothing_and_word (Err f) = refl

pub word_assoc : (a b : Given) (w : Word) → and_word a (and_word b w) ≡ and_word (join a b) w
word_assoc a b (Ok w) = ap (λ g. Ok (g, w.1)) (sym (join_assoc a b w.0))
word_assoc a b (Err f) = refl

pub words_assoc : (a b : Given) (w : Result Given Fault) → and_words a (and_words b w) ≡ and_words (join a b) w
words_assoc a b (Ok w) = ap Ok (sym (join_assoc a b w))
words_assoc a b (Err f) = refl

pub drop_one : {S : Type 0} (xs : List S) (i : ℕ) (x : S) → i < length xs → x ≡ get_or xs i x → drop i xs ≡ x ∷ drop (i + 1) xs
drop_one xs i x low is = drop-cons xs i x low ∙ (ap (λ y. y ∷ drop (suc i) xs) (sym is) ∙ ap (λ n. x ∷ drop n xs) (sym (add-one i)))

pub takes_after : (a old mid new : Given) (w : Word) (r : Result Next Misuse) → mid ≡ join old a → Takes w mid new r
    → Takes (and_word a w) old new r
takes_after a old mid new w (Ok n) e h =
    (join a h.0, ap (and_word a) h.1, h.2 ∙ (ap (λ g. join g h.0) e ∙ join_assoc old a h.0))
takes_after a old mid new w (Err (misuse.Unknown s)) e h = (h.0, ap (and_word a) h.1, h.2)
takes_after a old mid new w (Err (misuse.NoNumber c)) e h = (h.0, ap (and_word a) h.1, h.2)
takes_after a old mid new w (Err (misuse.NoText c)) e h = (h.0, ap (and_word a) h.1, h.2)
takes_after a old mid new w (Err (misuse.Missing s)) e h = absurd h.2
takes_after a old mid new w (Err misuse.NotUtf8) e h = absurd h.2
takes_after a old mid new w (Err misuse.OutOfMemory) e h = tt

-- memory ran out
pub no_memory : (w : Word) (old new : Given) (r : Result Next Misuse) → IsErrAnd r (λ m. m ≡ misuse.OutOfMemory) → Takes w old new r
no_memory w old new (Ok n) h = absurd h
no_memory w old new (Err m) h = subst (λ x. Takes w old new (Err x)) (sym h) tt

pub value_none : (t : Taken) (c : ℕ) (ds : List ℕ) → length ds ≡ 0 → value_gives t c ds ≡ Ok (nothing, Value t c)
value_none t c [] e = refl
value_none t c (d ∷ ds) e = absurd (omega (arith, e))

pub value_some : (t : Taken) (c : ℕ) (ds : List ℕ) → ¬ (length ds ≡ 0) → value_gives t c ds ≡ taken_gives t c ds
value_some t c [] e = absurd (e refl)
value_some t c (d ∷ ds) e = refl

module _ (c : ℕ) (bs : List ℕ) where
  abbrev by_utf8 : Bool → Word
  by_utf8 b = cond b (Ok (with_text c bs, Any)) (Err (no_text c))

  pub text_taken : IsUtf8 bs → text_or c bs ≡ Ok (with_text c bs, Any)
  text_taken u = ap by_utf8 (is_utf8-from_IsUtf8 bs u)

  pub no_text_taken : ¬ IsUtf8 bs → text_or c bs ≡ Err (no_text c)
  no_text_taken n = by (is_utf8 bs) refl
    where
      by : (b : Bool) → is_utf8 bs ≡ b → by_utf8 b ≡ Err (no_text c)
      by true e = absurd (n (IsUtf8-from_is_utf8 bs e))
      by false e = refl

-- the letter at a place
pub letter_at : (known : List Known) (w ls : List ℕ) (at : ℕ) (o : Option Known) → at < length ls
    → o ≡ by_letter known (get_or ls at 0)
    → letters_give known w (drop at ls) ≡ letter_gives w o (drop (at + 1) ls) (letters_give known w (drop (at + 1) ls))
letter_at known w ls at o low is =
    ap (letters_give known w) (drop-cons ls at 0 low ∙ ap (λ n. get_or ls at 0 ∷ drop n ls) (sym (add-one at)))
    ∙ ap (λ p. letter_gives w p (drop (at + 1) ls) (letters_give known w (drop (at + 1) ls))) (sym is)

module _ (w : List ℕ) (k : Known) (cs : List ℕ) (others : Word) where
  pub letter_value : (t : Taken) → k.takes ≡ Some t → letter_gives w (Some k) cs others ≡ value_gives t k.letter cs
  letter_value t e = ap (λ o. option_map_or (λ t. value_gives t k.letter cs) o (and_word (flag k.letter) others)) e

  pub letter_flag : k.takes ≡ None → letter_gives w (Some k) cs others ≡ and_word (flag k.letter) others
  letter_flag e = ap (λ o. option_map_or (λ t. value_gives t k.letter cs) o (and_word (flag k.letter) others)) e

pub name_value : (w : List ℕ) (k : Known) (t : Taken) (rest : List ℕ) → k.takes ≡ Some t → length rest ≡ 0
    → name_gives w (Some (k, rest)) ≡ Ok (nothing, Value t k.letter)
name_value w k t [] s e = ap (λ o. option_map_or (λ t. Ok (nothing, Value t k.letter)) o (Ok (flag k.letter, Any))) s
name_value w k t (c ∷ cs) s e = absurd (omega (arith, e))

pub name_flag : (w : List ℕ) (k : Known) (rest : List ℕ) → k.takes ≡ None → length rest ≡ 0
    → name_gives w (Some (k, rest)) ≡ Ok (flag k.letter, Any)
name_flag w k [] s e = ap (λ o. option_map_or (λ t. Ok (nothing, Value t k.letter)) o (Ok (flag k.letter, Any))) s
name_flag w k (c ∷ cs) s e = absurd (omega (arith, e))

-- ---- a word by its first bytes

pub short_word : (known : List Known) (w : List ℕ) → length w < 2 → option_gives known w ≡ Ok (operand w, Any)
short_word known [] h = refl
short_word known (a ∷ []) h = refl
short_word known (a ∷ b ∷ cs) h = absurd (omega (arith, h))

module _ (known : List Known) (w : List ℕ) (long : 2 ≤ length w) where
  pub plain_word : get_or w 0 0 ≢ 45 → option_gives known w ≡ Ok (operand w, Any)
  plain_word n = by w long n
    where
      by : (w : List ℕ) → 2 ≤ length w → get_or w 0 0 ≢ 45 → option_gives known w ≡ Ok (operand w, Any)
      by [] h n = absurd (omega (arith, h))
      by (a ∷ []) h n = absurd (omega (arith, h))
      by (a ∷ b ∷ cs) h n =
          let w : List ℕ = a ∷ b ∷ cs in
          ap (λ q. cond q (cond (b == 45) (dashes_give known w cs) (letters_give known w (b ∷ cs))) (Ok (operand w, Any)))
          (not-eqb a 45 n)

  pub lettered_word : get_or w 0 0 ≡ 45 → get_or w 1 0 ≢ 45 → option_gives known w ≡ letters_give known w (drop 1 w)
  lettered_word e n = by w long e n
    where
      by : (w : List ℕ) → 2 ≤ length w → get_or w 0 0 ≡ 45 → get_or w 1 0 ≢ 45 → option_gives known w ≡ letters_give known w (drop 1 w)
      by [] h e n = absurd (omega (arith, h))
      by (a ∷ []) h e n = absurd (omega (arith, h))
      by (a ∷ b ∷ cs) h e n =
          let w : List ℕ = a ∷ b ∷ cs in
          ap (λ q. cond q (cond (b == 45) (dashes_give known w cs) (letters_give known w (b ∷ cs))) (Ok (operand w, Any))) (eq-eqb a 45 e)
          ∙ ap (λ q. cond q (dashes_give known w cs) (letters_give known w (b ∷ cs))) (not-eqb b 45 n)

  pub dashed_word : get_or w 0 0 ≡ 45 → get_or w 1 0 ≡ 45 → option_gives known w ≡ dashes_give known w (drop 2 w)
  dashed_word e n = by w long e n
    where
      by : (w : List ℕ) → 2 ≤ length w → get_or w 0 0 ≡ 45 → get_or w 1 0 ≡ 45 → option_gives known w ≡ dashes_give known w (drop 2 w)
      by [] h e n = absurd (omega (arith, h))
      by (a ∷ []) h e n = absurd (omega (arith, h))
      by (a ∷ b ∷ cs) h e n =
          let w : List ℕ = a ∷ b ∷ cs in
          ap (λ q. cond q (cond (b == 45) (dashes_give known w cs) (letters_give known w (b ∷ cs))) (Ok (operand w, Any))) (eq-eqb a 45 e)
          ∙ ap (λ q. cond q (dashes_give known w cs) (letters_give known w (b ∷ cs))) (eq-eqb b 45 n)

pub dashes_alone : (known : List Known) (w cs : List ℕ) → length cs ≡ 0 → dashes_give known w cs ≡ Ok (nothing, Operand)
dashes_alone known w [] h = refl
dashes_alone known w (c ∷ cs) h = absurd (omega (arith, h))

pub dashes_name : (known : List Known) (w cs : List ℕ) → 0 < length cs → dashes_give known w cs ≡ name_gives w (by_name known cs)
dashes_name known w [] h = absurd (omega (arith, h))
dashes_name known w (c ∷ cs) h = refl

-- ---- all words

-- the word at a place of all of them
module _ {S : Type 0} (f : S → List ℕ) (known : List Known) where
  pub word_at : (words : List S) (at : ℕ) (x : S) (next : Next) → at < length words → x ≡ get_or words at x
      → words_give known next (map f (drop at words))
      ≡ and_rest (word_gives known next (f x)) (λ n. words_give known n (map f (drop (at + 1) words)))
  word_at words at x next low is = ap (λ ws. words_give known next (map f ws)) (drop_one words at x low is) ∙ by next
    where
      by : (next : Next) → words_give known next (f x ∷ map f (drop (at + 1) words))
          ≡ and_rest (word_gives known next (f x)) (λ n. words_give known n (map f (drop (at + 1) words)))
      by Any = refl
      by (Value t c) = refl
      by Operand = refl

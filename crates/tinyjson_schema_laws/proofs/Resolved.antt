-- What is resolved against a base is a text, if the base and the reference are.
use Rattle.std.proofs.Common.{◌≡◌, ℕ, zero, suc, ◌+◌, ◌<◌, Bool, true, false, ◌&&◌, ◌||◌, ◌==◌, List, [], ◌∷◌, ◌++◌, Option, Some, None}
use Rattle.std.proofs.Common.{cond, is_some, refl, sym, ap, ◌∙◌, true≢false, subst, codes, arith, length, get_or, take, eqb-true, add-one}
use Rattle.std.proofs.lemmas.Bool.{or_parts}
use Rattle.std.proofs.lemmas.Bool.Decides.{nat_tests}
use Rattle.std.proofs.lemmas.Str.{IsUtf8-append, IsUtf8-nil, IsUtf8-take, IsUtf8-drop, IsUtf8-past_char, encode_ascii, IsUtf8-from_is_utf8}
use Rattle.std.proofs.lemmas.Str.{IsCharBoundary-before_ascii, IsCharBoundary-after_ascii}
use Rattle.std.specs.Option.{option_map_or, option_or}
use Rattle.std.specs.Prelude.{⊤}
use Rattle.std.specs.Str.{IsUtf8, is_utf8, chars}
use lib.Utf8.{encode}
use Rattle.text_uri.specs.Letters.{is_number_sign, is_slash, before, from, after, has_slash, before_last_slash, through_last_slash}
use Rattle.text_uri.specs.Parts.{Parts, Cut, split, composed, scheme_text, marked, cut_at_colon, cut_scheme, cut_marked, is_scheme}
use Rattle.text_uri.specs.Parts.{ends_path, ends_authority, ends_scheme, cut_authority, cut_query}
use Rattle.text_uri.specs.Dots.{Buffers, slash_for, after_segment, is_dots, first_segment, after_first_segment, step, steps}
use Rattle.text_uri.specs.Dots.{without_dots}
use Rattle.text_uri.specs.Resolving.{is_empty, begins_with_slash, merged, path_from, target_by_path, target, resolved}
use Rattle.text_uri.specs.Resolving.{without_fragment}
use Rattle.text_uri.proofs.Cuts.{IsAsciiTest, take_before, drop_before, may_be_cut, segment_front, segment_rest, segment_may_be_cut}

no_some : {A B : Type 0} (v : A) → None ≡ Some v → B
no_some v e = absurd (let none : None ≡ Some v = e in cc)

-- ---- cuts

scheme_ascii : IsAsciiTest ends_scheme
scheme_ascii c h = grind (arith, nat_tests)

authority_ascii : IsAsciiTest ends_authority
authority_ascii c h = grind (arith, nat_tests)

path_ascii : IsAsciiTest ends_path
path_ascii c h = grind (arith, nat_tests)

sign_ascii : IsAsciiTest is_number_sign
sign_ascii c h = grind (arith, nat_tests)

before_text : (p : ℕ → Bool) → IsAsciiTest p → (xs : List ℕ) → IsUtf8 xs → IsUtf8 (before p xs)
before_text p a xs u = subst IsUtf8 (take_before p xs) (IsUtf8-take xs (length (before p xs)) u (may_be_cut p xs a))

from_text : (p : ℕ → Bool) → IsAsciiTest p → (xs : List ℕ) → IsUtf8 xs → IsUtf8 (from p xs)
from_text p a xs u = subst IsUtf8 (drop_before p xs) (IsUtf8-drop xs (length (before p xs)) u (may_be_cut p xs a))

past_ascii : (c : ℕ) (xs : List ℕ) → c < 128 → IsUtf8 (c ∷ xs) → IsUtf8 xs
past_ascii c xs l u = IsUtf8-past_char (c ∷ xs) xs c u (ap (λ ys. ys ++ xs) (sym (encode_ascii c l)))

abbrev AreAscii : List ℕ → Type 0
AreAscii [] = ⊤
AreAscii (c ∷ cs) = (c < 128) × AreAscii cs

abbrev IfText : Option (List ℕ) → Type 0
IfText None = ⊤
IfText (Some xs) = IsUtf8 xs

after_text : (front xs : List ℕ) → AreAscii front → IsUtf8 xs → IfText (after front xs)
after_text [] xs a u = u
after_text (d ∷ ds) [] a u = tt
after_text (d ∷ ds) (c ∷ cs) a u = by (after_text ds cs a.1) (c == d) refl
  where
    by : (IsUtf8 cs → IfText (after ds cs)) → (b : Bool) → (c == d) ≡ b → IfText (cond b (after ds cs) None)
    by later true e = let same : c ≡ d = eqb-true c d e in
        later (past_ascii c cs (subst (λ x. x < 128) (sym same) a.0) u)
    by later false e = tt

abbrev IsCut : Cut → Type 0
IsCut c = IfText c.0 × IsUtf8 c.1

scheme_cut : (text : List ℕ) → IsUtf8 text → IsCut (cut_scheme text)
scheme_cut text u = by (after (codes ":") (from ends_scheme text))
    (after_text (codes ":") (from ends_scheme text) (omega arith, tt) (from_text ends_scheme scheme_ascii text u))
  where
    front : IsUtf8 (before ends_scheme text)
    front = before_text ends_scheme scheme_ascii text u

    by : (o : Option (List ℕ)) → IfText o → IsCut (cut_at_colon text (before ends_scheme text) o)
    by None h = (tt, u)
    by (Some rest) h = tested (is_scheme (before ends_scheme text))
      where
        tested : (b : Bool) → IsCut (cond b (Some (before ends_scheme text), rest) (None, text))
        tested true = (front, h)
        tested false = (tt, u)

marked_cut : (mark : List ℕ) (p : ℕ → Bool) (text : List ℕ) → AreAscii mark → IsAsciiTest p → IsUtf8 text → IsCut (cut_marked mark p text)
marked_cut mark p text m a u = by (after mark text) (after_text mark text m u)
  where
    by : (o : Option (List ℕ)) → IfText o → IsCut (option_map_or {U = Cut} (λ rest. (Some (before p rest), from p rest)) o (None, text))
    by None h = (tt, u)
    by (Some rest) h = (before_text p a rest h, from_text p a rest h)

record AreTexts (p : Parts) : Type 0 where
  scheme : IfText p.scheme
  authority : IfText p.authority
  path : IsUtf8 p.path
  query : IfText p.query
  fragment : IfText p.fragment

split_texts : (text : List ℕ) → IsUtf8 text → AreTexts (split text)
split_texts text u =
    let first : IsCut (cut_scheme text) = scheme_cut text u in
    let second : IsCut (cut_authority (cut_scheme text).1) = marked_cut (codes "//") ends_authority (cut_scheme text).1
    (omega arith, (omega arith, tt)) authority_ascii first.1 in
    let rest : IsUtf8 (from ends_path (cut_authority (cut_scheme text).1).1)
    = from_text ends_path path_ascii (cut_authority (cut_scheme text).1).1 second.1 in
    let third : IsCut (cut_query (from ends_path (cut_authority (cut_scheme text).1).1)) = marked_cut (codes "?") is_number_sign
    (from ends_path (cut_authority (cut_scheme text).1).1) (omega arith, tt) sign_ascii rest in
    record {
      scheme = first.0;
      authority = second.0;
      path = before_text ends_path path_ascii (cut_authority (cut_scheme text).1).1 second.1;
      query = third.0;
      fragment = after_text (codes "#") (cut_query (from ends_path (cut_authority (cut_scheme text).1).1)).1 (omega arith, tt) third.1;
    }

-- ---- parts put together

scheme_if : (o : Option (List ℕ)) → IfText o → IsUtf8 (scheme_text o)
unfolding is_utf8 chars encode
scheme_if None h = IsUtf8-nil
scheme_if (Some s) h = IsUtf8-append s (codes ":") h (IsUtf8-from_is_utf8 (codes ":") refl)

marked_if : (mark : List ℕ) (o : Option (List ℕ)) → IsUtf8 mark → IfText o → IsUtf8 (marked mark o)
marked_if mark None m h = IsUtf8-nil
marked_if mark (Some s) m h = IsUtf8-append mark s m h

composed_text : (p : Parts) → AreTexts p → IsUtf8 (composed p)
unfolding is_utf8 chars encode
composed_text p h = IsUtf8-append (scheme_text p.scheme) _ (scheme_if p.scheme h.scheme)
    (IsUtf8-append (marked (codes "//") p.authority) _
    (marked_if (codes "//") p.authority (IsUtf8-from_is_utf8 (codes "//") refl) h.authority)
    (IsUtf8-append p.path _ h.path (IsUtf8-append (marked (codes "?") p.query) (marked (codes "#") p.fragment)
    (marked_if (codes "?") p.query (IsUtf8-from_is_utf8 (codes "?") refl) h.query)
    (marked_if (codes "#") p.fragment (IsUtf8-from_is_utf8 (codes "#") refl) h.fragment))))

-- ---- the last slash

abbrev Last : List ℕ → Type 0
Last xs = (n : ℕ) × (n < length xs) × (get_or xs n 0 ≡ 47) × (before_last_slash xs ≡ take n xs) × (through_last_slash xs ≡ take (suc n) xs)

none_through : (xs : List ℕ) → has_slash xs ≡ false → through_last_slash xs ≡ []
none_through [] e = refl
none_through (x ∷ xs) e = ap (λ b. cond b (x ∷ through_last_slash xs) []) e

last_slash : (xs : List ℕ) → has_slash xs ≡ true → Last xs
last_slash [] h = absurd (true≢false (sym h))
last_slash (c ∷ cs) h = by (last_slash cs) (has_slash cs) refl h
  where
    through : through_last_slash (c ∷ cs) ≡ c ∷ through_last_slash cs
    through = ap (λ b. cond b (c ∷ through_last_slash cs) []) h

    by : (has_slash cs ≡ true → Last cs) → (b : Bool) → has_slash cs ≡ b → (is_slash c || b) ≡ true → Last (c ∷ cs)
    by later true e g = let l = later e in (
      suc l.0,
      omega (arith, l.1),
      l.2,
      ap (λ b. cond b (c ∷ before_last_slash cs) []) e ∙ ap (λ ys. c ∷ ys) l.3,
      through ∙ ap (λ ys. c ∷ ys) l.4,
    )
    by later false e g = (
      0,
      omega arith,
      eqb-true c 47 (slash (is_slash c) g),
      ap (λ b. cond b (c ∷ before_last_slash cs) []) e,
      through ∙ ap (λ ys. c ∷ ys) (none_through cs e),
    )
      where
        slash : (x : Bool) → (x || false) ≡ true → x ≡ true
        slash true f = refl
        slash false f = f

before_slash : (xs : List ℕ) → IsUtf8 xs → IsUtf8 (before_last_slash xs)
before_slash xs u = by (has_slash xs) refl
  where
    none : (ys : List ℕ) → has_slash ys ≡ false → before_last_slash ys ≡ []
    none [] e = refl
    none (y ∷ ys) e = ap (λ b. cond b (y ∷ before_last_slash ys) []) (or_parts (is_slash y) (has_slash ys) e).1

    by : (b : Bool) → has_slash xs ≡ b → IsUtf8 (before_last_slash xs)
    by true e = let l = last_slash xs e in subst IsUtf8 (sym l.3) (IsUtf8-take xs l.0 u
        (IsCharBoundary-before_ascii xs l.0 l.1 (omega (arith, l.2))))
    by false e = subst IsUtf8 (sym (none xs e)) IsUtf8-nil

through_slash : (xs : List ℕ) → IsUtf8 xs → IsUtf8 (through_last_slash xs)
through_slash xs u = by (has_slash xs) refl
  where
    by : (b : Bool) → has_slash xs ≡ b → IsUtf8 (through_last_slash xs)
    by true e = let l = last_slash xs e in subst IsUtf8 (sym (l.4 ∙ ap (λ n. take n xs) (sym (add-one l.0)))) (IsUtf8-take xs (l.0 + 1) u
        (IsCharBoundary-after_ascii xs l.0 u l.1 (omega (arith, l.2))))
    by false e = subst IsUtf8 (sym (none_through xs e)) IsUtf8-nil

-- ---- dots

abbrev AreBoth : Buffers → Type 0
AreBoth b = IsUtf8 b.0 × IsUtf8 b.1

slash_text : IsUtf8 (codes "/")
unfolding is_utf8 chars encode
slash_text = IsUtf8-from_is_utf8 (codes "/") refl

segment_if : (o : Option (List ℕ)) → IfText o → IfText (slash_for o)
segment_if None h = tt
segment_if (Some []) h = slash_text
segment_if (Some (c ∷ cs)) h = by (is_slash c)
  where
    by : (b : Bool) → IfText (cond b (Some (c ∷ cs)) None)
    by true = h
    by false = tt

either : (f : List ℕ → Buffers) (o : Option (List ℕ)) (d : Buffers) → IfText o → ((r : List ℕ) → IsUtf8 r → AreBoth (f r)) → AreBoth d
    → AreBoth (option_map_or {U = Buffers} f o d)
either f None d h g e = e
either f (Some r) d h g e = g r h

first_text : (xs : List ℕ) → IsUtf8 xs → IsUtf8 (first_segment xs) × IsUtf8 (after_first_segment xs)
first_text [] u = (IsUtf8-nil, IsUtf8-nil)
first_text (c ∷ cs) u =
    let cut = segment_may_be_cut (c ∷ cs) cs c (length (before is_slash cs)) refl refl in (
      subst IsUtf8 (segment_front (c ∷ cs) cs c (length (before is_slash cs)) refl refl)
          (IsUtf8-take (c ∷ cs) (1 + length (before is_slash cs)) u cut),
      subst IsUtf8 (segment_rest (c ∷ cs) cs c (length (before is_slash cs)) refl refl)
          (IsUtf8-drop (c ∷ cs) (1 + length (before is_slash cs)) u cut),
    )

module _ (out input : List ℕ) where
  abbrev kept : List ℕ → Buffers
  kept rest = (out, rest)

  abbrev back : List ℕ → Buffers
  back rest = (before_last_slash out, rest)

  abbrev step_d : Buffers
  step_d = cond (is_dots input) (out, []) (out ++ first_segment input, after_first_segment input)

  abbrev step_c : Buffers
  step_c = option_map_or {U = Buffers} back (after_segment (codes "/..") input) step_d

  abbrev step_b : Buffers
  step_b = option_map_or {U = Buffers} kept (after_segment (codes "/.") input) step_c

  abbrev step_a : Buffers
  step_a = option_map_or {U = Buffers} kept (after (codes "./") input) step_b

  step_text : IsUtf8 out → IsUtf8 input → AreBoth (step out input)
  step_text u v =
      either kept (after (codes "../") input) step_a
      (after_text (codes "../") input (omega arith, (omega arith, (omega arith, tt))) v) (λ r h. (u, h))
      (either kept (after (codes "./") input) step_b (after_text (codes "./") input (omega arith, (omega arith, tt)) v) (λ r h. (u, h))
      (either kept (after_segment (codes "/.") input) step_c
      (segment_if (after (codes "/.") input) (after_text (codes "/.") input (omega arith, (omega arith, tt)) v)) (λ r h. (u, h))
      (either back (after_segment (codes "/..") input) step_d (segment_if (after (codes "/..") input)
      (after_text (codes "/..") input (omega arith, (omega arith, (omega arith, tt))) v)) (λ r h. (before_slash out u, h))
      (by (is_dots input)))))
    where
      by : (b : Bool) → AreBoth (cond b (out, []) (out ++ first_segment input, after_first_segment input))
      by true = (u, IsUtf8-nil)
      by false = let f = first_text input v in (IsUtf8-append out (first_segment input) u f.0, f.1)

steps_text : (n : ℕ) (b : Buffers) → AreBoth b → AreBoth (steps n b)
steps_text zero b h = h
steps_text (suc n) b h = steps_text n (step b.0 b.1) (step_text b.0 b.1 h.0 h.1)

dots_text : (path : List ℕ) → IsUtf8 path → IsUtf8 (without_dots path)
dots_text path u = (steps_text (length path) ([], path) (IsUtf8-nil, u)).0

-- ---- the target

either_text : (b : Bool) (xs ys : List ℕ) → IsUtf8 xs → IsUtf8 ys → IsUtf8 (cond b xs ys)
either_text true xs ys u v = u
either_text false xs ys u v = v

either_texts : (b : Bool) (p q : Parts) → AreTexts p → AreTexts q → AreTexts (cond b p q)
either_texts true p q u v = u
either_texts false p q u v = v

or_text : (o p : Option (List ℕ)) → IfText o → IfText p → IfText (option_or o p)
or_text None p h g = g
or_text (Some x) p h g = h

merged_text : (base : Parts) (path : List ℕ) → AreTexts base → IsUtf8 path → IsUtf8 (merged base path)
merged_text base path h u = either_text (is_some base.authority && is_empty base.path) (codes "/" ++ path)
    (through_last_slash base.path ++ path)
    (IsUtf8-append (codes "/") path slash_text u) (IsUtf8-append (through_last_slash base.path) path (through_slash base.path h.path) u)

target_texts : (base r : Parts) → AreTexts base → AreTexts r → AreTexts (target base r)
target_texts base r h g = either_texts (is_some r.scheme) (record r { path = without_dots r.path })
    (cond (is_some r.authority) (record r { scheme = base.scheme; path = without_dots r.path }) (target_by_path base r))
    (record { scheme = g.scheme; authority = g.authority; path = dots_text r.path g.path; query = g.query; fragment = g.fragment })
    (either_texts (is_some r.authority) (record r { scheme = base.scheme; path = without_dots r.path }) (target_by_path base r)
    (record { scheme = h.scheme; authority = g.authority; path = dots_text r.path g.path; query = g.query; fragment = g.fragment })
    (either_texts (is_empty r.path) (record base { query = option_or r.query base.query; fragment = r.fragment })
    (record r { scheme = base.scheme; authority = base.authority; path = path_from base r.path })
    (record {
      scheme = h.scheme;
      authority = h.authority;
      path = h.path;
      query = or_text r.query base.query g.query h.query;
      fragment = g.fragment;
    })
    (record {
      scheme = h.scheme;
      authority = h.authority;
      path = dots_text (cond (begins_with_slash r.path) r.path
          (merged base r.path)) (either_text (begins_with_slash r.path) r.path
          (merged base r.path) g.path (merged_text base r.path h g.path));
      query = g.query;
      fragment = g.fragment;
    })))

pub resolved_text : (b r : List ℕ) → IsUtf8 b → IsUtf8 r → IsUtf8 (resolved b r)
resolved_text b r u v = composed_text (target (split b) (split r)) (target_texts (split b) (split r) (split_texts b u) (split_texts r v))

pub cut_text : (x : List ℕ) → IsUtf8 x → IsUtf8 (without_fragment x)
cut_text x u = before_text is_number_sign sign_ascii x u

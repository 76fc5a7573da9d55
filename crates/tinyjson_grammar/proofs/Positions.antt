-- `advance` over a list is `advance` over its parts.
use Rattle.std.proofs.Common.{◌≡◌, ℕ, ◌+◌, ◌<◌, ◌≤◌, suc, Bool, true, false, cond, not, eqb, List, [], ◌∷◌, ◌++◌, length, reverse, refl}
use Rattle.std.proofs.Common.{sym, ap, ap₂, ◌∙◌, arith, length-append}
use Rattle.std.proofs.lemmas.Bool.Decides.{nat_tests}
use Rattle.std.proofs.lemmas.List.{reverse-append, length-reverse}
use Rattle.std.proofs.lemmas.List.Folds.{prefix_len-append}
use Rattle.std.proofs.lemmas.List.Sums.{sum_by-append, sum_by-cons, prefix_len-le-length}
use Rattle.std.specs.List.{prefix_len}
use Rattle.tinyjson_grammar.specs.Position.{Position, position_at, is_line_feed, is_within_line, line_feeds, after_line_feed, capped}
use Rattle.tinyjson_grammar.specs.Position.{advance}

line_feeds_append : (xs ys : List ℕ) → line_feeds (xs ++ ys) ≡ line_feeds xs + line_feeds ys
line_feeds_append xs ys = sum_by-append (λ x. cond (is_line_feed x) 1 0) xs ys

line_feeds_reverse : (xs : List ℕ) → line_feeds (reverse xs) ≡ line_feeds xs
line_feeds_reverse [] = refl
line_feeds_reverse (x ∷ xs) =
    let a : reverse (x ∷ xs) ≡ reverse xs ++ x ∷ [] = reverse-append (x ∷ []) xs in
    let b : line_feeds (reverse xs ++ x ∷ []) ≡ line_feeds (reverse xs) + line_feeds (x ∷ []) = line_feeds_append (reverse xs) (x ∷ []) in
    let k : line_feeds (x ∷ []) + line_feeds xs ≡ line_feeds (x ∷ xs) = sym (line_feeds_append (x ∷ []) xs) in
    ap line_feeds a ∙ b ∙ omega (arith, line_feeds_reverse xs, k)

step_none : (b : Bool) (p l f : ℕ) → p ≤ l → eqb p l ≡ eqb f 0 → eqb (cond (not b) (1 + p) 0) (suc l) ≡ eqb (cond b 1 0 + f) 0
step_none true p l f h e = grind (arith, nat_tests)
step_none false p l f h e = grind (arith, nat_tests)

-- all of a list is plain just where it has no line feed
all_plain : (zs : List ℕ) → eqb (prefix_len is_within_line zs) (length zs) ≡ eqb (line_feeds zs) 0
all_plain [] = refl
all_plain (z ∷ zs) =
    let e : line_feeds (z ∷ zs) ≡ cond (is_line_feed z) 1 0 + line_feeds zs = sum_by-cons (λ x. cond (is_line_feed x) 1 0) z zs in
    rw e (step_none (is_line_feed z) (prefix_len is_within_line zs) (length zs) (line_feeds zs) (prefix_len-le-length is_within_line zs)
    (all_plain zs))

after_line_feed_append : (xs ys : List ℕ) → after_line_feed (xs ++ ys)
    ≡ cond (eqb (line_feeds ys) 0) (length ys + after_line_feed xs) (after_line_feed ys)
after_line_feed_append xs ys =
    let P : List ℕ → ℕ = prefix_len is_within_line in
    let a : P (reverse ys ++ reverse xs) ≡ cond (eqb (P (reverse ys)) (length (reverse ys))) (length (reverse ys) + P (reverse xs))
    (P (reverse ys)) = prefix_len-append is_within_line (reverse ys) (reverse xs) in
    let b : eqb (P (reverse ys)) (length (reverse ys)) ≡ eqb (line_feeds ys) 0 = all_plain (reverse ys)
    ∙ ap (λ n. eqb n 0) (line_feeds_reverse ys) in
    ap P (reverse-append xs ys) ∙ a ∙ ap (λ t. cond t (length (reverse ys) + P (reverse xs)) (P (reverse ys))) b
    ∙ ap (λ n. cond (eqb (line_feeds ys) 0) (n + P (reverse xs)) (P (reverse ys))) (length-reverse ys)

lines : (l fx fy : ℕ) → capped (capped (l + fx) + fy) ≡ capped (l + (fx + fy))
lines l fx fy = omega arith

columns : (c lx ax fx ly ay fy : ℕ) → capped (cond (eqb fy 0) (capped (cond (eqb fx 0) (c + lx) ax) + ly) ay)
    ≡ capped (cond (eqb (fx + fy) 0) (c + (lx + ly)) (cond (eqb fy 0) (ly + ax) ay))
columns c lx ax fx ly ay fy = grind (arith, nat_tests)

pub advance_append : (p : Position) (xs ys : List ℕ) → advance (advance p xs) ys ≡ advance p (xs ++ ys)
unfolding advance
advance_append p xs ys =
    let l : capped (p.line + (line_feeds xs + line_feeds ys)) ≡ capped (p.line + line_feeds (xs ++ ys)) =
    ap (λ n. capped (p.line + n)) (sym (line_feeds_append xs ys)) in
    let target : ℕ → ℕ → ℕ → ℕ = λ n len after. capped (cond (eqb n 0) (p.column + len) after) in
    let k : target (line_feeds xs + line_feeds ys) (length xs + length ys)
    (cond (eqb (line_feeds ys) 0) (length ys + after_line_feed xs) (after_line_feed ys))
    ≡ target (line_feeds (xs ++ ys)) (length (xs ++ ys)) (after_line_feed (xs ++ ys)) =
    ap (λ n. target n (length xs + length ys) (cond (eqb (line_feeds ys) 0) (length ys + after_line_feed xs) (after_line_feed ys)))
    (sym (line_feeds_append xs ys))
    ∙ ap (λ n. target (line_feeds (xs ++ ys)) n (cond (eqb (line_feeds ys) 0) (length ys + after_line_feed xs) (after_line_feed ys)))
    (sym (length-append xs ys))
    ∙ ap (λ n. target (line_feeds (xs ++ ys)) (length (xs ++ ys)) n) (sym (after_line_feed_append xs ys)) in
    ap₂ position_at (lines p.line (line_feeds xs) (line_feeds ys)
    ∙ l) (columns p.column (length xs) (after_line_feed xs) (line_feeds xs) (length ys) (after_line_feed ys) (line_feeds ys) ∙ k)

pub advance_nil : (l c : ℕ) → l < 18446744073709551616 → c < 18446744073709551616 → advance (position_at l c) [] ≡ position_at l c
unfolding advance
advance_nil l c h k =
    let a : capped (l + 0) ≡ l = omega arith in
    let b : capped (c + 0) ≡ c = omega arith in
    ap₂ position_at a b

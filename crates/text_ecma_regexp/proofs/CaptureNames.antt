-- Names of capturing groups, one group at a time.
use Rattle.std.proofs.Common.{◌≡◌, ◌∙◌, ◌+◌, ◌<◌, ◌≤◌, ◌++◌, ℕ, suc, min, List, [], ◌∷◌, Some, None, cond, take, set, length, sym, ap}
use Rattle.std.proofs.Common.{arith, append_assoc, append-nil, length-append, length-take, length-take-le}
use Rattle.std.proofs.lemmas.List.{length-map, map_push, take_more_set}
use Rattle.std.proofs.lemmas.Bool.{le-leb, lt-leb}
use Rattle.std.specs.Option.{option_map_or}
use denote.Ref.{Bor}
use Rattle.text_ecma_regexp.specs.Regex.{captures, capture_name, names}
use Rattle.text_ecma_regexp.specs.Scan.{few, texts}

-- the names of groups, the first of which has none or this one
pub names_none : (rest more : List ℕ) → captures rest ≡ more ∷ captures more → None ≡ capture_name more
    → names (captures rest) ≡ names (captures more)
names_none rest more e n = ap names e
    ∙ sym (ap (λ o. option_map_or (λ name. name ∷ names (captures more)) o (names (captures more))) n)

pub names_some : (rest more name : List ℕ) → captures rest ≡ more ∷ captures more → Some name ≡ capture_name more
    → names (captures rest) ≡ name ∷ names (captures more)
names_some rest more name e n = ap names e
    ∙ sym (ap (λ o. option_map_or (λ name. name ∷ names (captures more)) o (names (captures more))) n)

-- one more name behind those that were taken
pub names_pushed : (taken : List (Bor (List ℕ))) (n : ℕ) (name : Bor (List ℕ)) (all more : List (List ℕ)) → n < length taken
    → all ≡ texts (take n taken) ++ (name.now ∷ more) → all ≡ texts (take (n + 1) (set taken n name)) ++ more
names_pushed taken n name all more lt e = e ∙ (sym (append_assoc (texts (take n taken)) (name.now ∷ []) more)
    ∙ sym (ap (λ front. front ++ more) (ap texts (take_more_set taken n name lt) ∙ map_push (λ x. x.now) (take n taken) name)))

-- too many of them
pub names_many : (taken : List (Bor (List ℕ))) (name : List ℕ) (all more : List (List ℕ)) → 128 ≤ length taken
    → all ≡ texts (take 128 taken) ++ (name ∷ more) → None ≡ few all
names_many taken name all more le e =
    let long : length (texts (take 128 taken)) ≡ 128 = length-map (take 128 taken) (λ x. x.now) ∙ length-take-le 128 taken le in
    let whole : length all ≡ length (texts (take 128 taken)) + suc (length more) =
    ap length e ∙ length-append (texts (take 128 taken)) (name ∷ more) in
    sym (ap (λ b. cond b (Some all) None) (lt-leb (length all) 128 (omega arith)))

-- all of them
pub names_end : (taken : List (Bor (List ℕ))) (n : ℕ) (all : List (List ℕ)) → n ≤ 128 → all ≡ texts (take n taken) ++ []
    → Some (texts (take n taken)) ≡ few all
names_end taken n all le e =
    let whole : all ≡ texts (take n taken) = e ∙ append-nil (texts (take n taken)) in
    let long : length all ≡ length (take n taken) = ap length whole ∙ length-map (take n taken) (λ x. x.now) in
    let front : length (take n taken) ≡ min n (length taken) = length-take n taken in
    let short : length all ≤ 128 = omega arith in
    ap (λ ns. Some ns) (sym whole) ∙ sym (ap (λ b. cond b (Some all) None) (le-leb (length all) 128 short))

-- Slices up to the end, and runs.
use Rattle.std.proofs.Common.{◌≡◌, ℕ, ◌+◌, ◌-◌, min, List, [], ◌++◌, length, take, drop, refl, ◌∙◌, ap, length-append, length-drop, arith}
use Rattle.std.specs.List.{slice_range}
use Rattle.std.proofs.lemmas.List.{take_all, take_at, drop_at}
use Rattle.tinyjson_cells.specs.Cell.{IsRun, IsText, IsBytes}
use Rattle.tinyjson_cells.specs.Texts.{part, part_of}
use Rattle.tinyjson_cells.specs.declared.store.Span.{Span}
use Rattle.tinyjson_cells.specs.declared.store.Store.{Store}

pub slice_rest : {A : Type 0} (xs : List A) (from : ℕ) → slice_range xs from (length xs) ≡ drop from xs
slice_rest xs from = take_all (length xs - from) (drop from xs) (omega (arith, length-drop from xs))

pub run_part : {A : Type 0} (xs : List A) (p : Span) (ys : List A) → IsRun xs p ys → part xs p ≡ ys
run_part xs p ys h =
    let f = length h.front in
    let y = length ys in
    let long : length xs ≡ f + (y + length h.back) = ap length h.whole ∙ length-append h.front (ys ++ h.back)
    ∙ ap (λ z. f + z) (length-append ys h.back) in
    let high : min p.to (length xs) ≡ f + y = omega (arith, long, h.to) in
    let low : min p.from (min p.to (length xs)) ≡ f = omega (arith, long, h.to, h.from) in
    ap (λ a. slice_range xs a (min p.to (length xs))) low ∙ ap (slice_range xs f) high ∙ ap (λ z. slice_range z f (f + y)) h.whole
    ∙ ap (take (f + y - f)) (drop_at h.front (ys ++ h.back) f refl) ∙ take_at ys h.back (f + y - f) (omega arith)

pub part_empty : {A : Type 0} (xs : List A) (p : Span) → p.from ≡ p.to → part xs p ≡ []
part_empty xs p e =
    let from = min p.from (min p.to (length xs)) in
    let none : min p.to (length xs) - from ≡ 0 = omega (arith, e) in
    ap (λ n. take n (drop from xs)) none

-- the text that stands there, as bytes
pub text_part : (s : Store) (cs : List ℕ) (p : Span) → IsText s cs p → IsBytes cs (part_of s.texts p)
text_part s cs p h = (h.utf8, h.characters)

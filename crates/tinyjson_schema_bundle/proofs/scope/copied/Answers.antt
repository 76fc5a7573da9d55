use Rattle.std.proofs.Common.{◌∷◌, [], ◌++◌, ◌+◌, drop, sym, ap, ◌∙◌, append_assoc, append-nil}
use Rattle.std.proofs.lemmas.List.{map-append}
use Rattle.tinyjson_schema_keywords.proofs.Callers.{drop_item, drop_end}
use Rattle.tinyjson_schema_bundle.specs.Bundles.{marked, all_marked}
use Rattle.tinyjson_schema_bundle.proofs.scope.copied.Goals as goal

pub loop-mark-preserved : goal.loop-mark-preserved
loop-mark-preserved c =
    let ms = c.args.marks.now in
    let i = c.loop-mark.mark-index in
    let old = c.loop-mark.copies.items in
    let rest = all_marked (drop (i + 1) ms) in
    ap (λ xs. all_marked xs ++ rest) c.in_ok-push.ensures.items
    ∙ (ap (λ l. l ++ rest) (map-append marked old (c.in_ok-copy.copy ∷ []))
    ∙ (append_assoc (all_marked old) (marked c.in_ok-copy.copy ∷ []) rest
    ∙ (ap (λ m. all_marked old ++ (m ∷ rest)) c.in_ok-copy.ensures
    ∙ (sym (ap (λ xs. all_marked old ++ all_marked xs) (drop_item ms i c.mark-item.result c.loop-mark-test.true c.mark-item.is))
    ∙ c.loop-mark.invariant))))

pub returns : goal.returns
returns c =
    let done = all_marked c.loop-mark.copies.items in
    sym (append-nil done)
    ∙ (sym (ap (λ xs. done ++ all_marked xs) (drop_end c.args.marks.now c.loop-mark.mark-index c.loop-mark-test.false))
    ∙ c.loop-mark.invariant)

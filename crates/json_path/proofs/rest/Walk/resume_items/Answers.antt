use Rattle.std.proofs.Common.{◌≡◌, ◌+◌, ◌++◌, ◌∷◌, [], ◌∙◌, List, ap, ap₂, sym, true, false, arith, chars}
use Rattle.std.specs.Str.{encode_utf8_all}
use Rattle.std.proofs.lemmas.Result.{MatchResult-from_err}
use Rattle.tinyjson.proofs.Callers.{begins, goes, stop, stops, written_none}
use Rattle.tinyjson.specs.Text.{compact, quoted, separator}
use Rattle.tinyjson_document.specs.Comparing.{items_weight}
use Rattle.tinyjson_document.specs.Document.{tree, items_left}
use Rattle.tinyjson_path.specs.Nodes.{Step, path_view}
use Rattle.json_path.proofs.Leaving.{
  item_gone,
  item_kept,
  items_end,
  last_piece,
  nothing_yet,
  ok_always,
  ok_map,
  regrouped_one,
  some_weight,
  stack_last,
  then_goes,
  weight_last,
  found_at,
  beyond,
  all_stays,
}
use Rattle.json_path.specs.Left.{items_bytes, stack_bytes, stack_weight}
use Rattle.json_path.specs.Places.{has_path}
use Rattle.json_path.specs.Without.{without}
use Rattle.json_path.proofs.rest.Walk.resume_items.Goals as goal

pub returns-in_default-clause-sent : goal.returns-in_default-clause-sent
returns-in_default-clause-sent g c =
    let gone = has_path c.args.self.now.places.now in
    let rest = stack_bytes gone c.args.stack.now.items in
    let l = c.args.left in
    last_piece _ _ _ _ (93 ∷ []) rest c.write_all.result c.write_all.ensures
    (written_none _ _ _ (ap (λ z. z ++ rest) (items_end gone (path_view l.array.value) l.index l.is_first _
    c.in_default.ensures.steps.0)))

pub returns-in_default-clause-less : goal.returns-in_default-clause-less
returns-in_default-clause-less g c = ok_always c.write_all.result (omega arith)

pub returns-then-contains-clause-sent : goal.returns-then-contains-clause-sent
returns-then-contains-clause-sent g c =
    let p = c.args.self.now.places.now in
    let gone = has_path p in
    let rest = stack_bytes gone c.args.stack.now.items in
    let l = c.args.left in
    let here = path_view c.in_ok-place.place.value in
    let is_gone = found_at p c.in_ok-path.path _ here _ _ c.in_ok-path.ensures c.as_str.ensures.value c.contains.ensures
    c.if-contains.true in
    written_none _ _ _ (ap (λ z. z ++ rest) (item_gone gone (path_view l.array.value) l.index c.in-Some-checked_add.next here l.is_first
    (tree c.in-Some.item) _ _
    c.in-Some.ensures.steps c.in-Some-checked_add.ensures.1 c.in_ok-place.ensures is_gone)
    ∙ sym (stack_last gone _ _ _ c.in_ok-push.ensures.items))

pub returns-then-contains-clause-less : goal.returns-then-contains-clause-less
returns-then-contains-clause-less g c =
    let n = weight_last _ _ _ c.in_ok-push.ensures.items in
    let w = ap items_weight c.in-Some.ensures.steps in
    let some = some_weight (tree c.in-Some.item) in
    omega (arith, n, w, some)

pub returns-in_err-separate-clause-sent : goal.returns-in_err-separate-clause-sent
returns-in_err-separate-clause-sent g c =
    let p = c.args.self.now.places.now in
    let gone = has_path p in
    let rest = stack_bytes gone c.args.stack.now.items in
    let l = c.args.left in
    let here = path_view c.in_ok-place.place.value in
    let is_kept = found_at p c.in_ok-path.path _ here _ _ c.in_ok-path.ensures c.as_str.ensures.value c.contains.ensures
    c.if-contains.false in
    let kept = item_kept gone (path_view l.array.value) l.index c.in-Some-checked_add.next here l.is_first (tree c.in-Some.item) _ _
    c.in-Some.ensures.steps c.in-Some-checked_add.ensures.1 c.in_ok-place.ensures is_kept in
    let split = ap (λ z. z ++ rest) kept ∙ regrouped_one (encode_utf8_all (separator l.is_first)) (encode_utf8_all (compact
    (without gone here (tree c.in-Some.item)))) (items_bytes gone (path_view l.array.value) c.in-Some-checked_add.next false (items_left
    c.next.new.self)) rest in
    MatchResult-from_err _ _ _ c.from_residual-in_err-separate.ensures.0
    (λ _. stops (encode_utf8_all (compact (without gone here (tree c.in-Some.item))) ++ (items_bytes gone (path_view l.array.value)
    c.in-Some-checked_add.next false (items_left c.next.new.self) ++ rest)) c.in_err-separate.ensures (written_none _ _ _ split))

pub returns-in_err-push-2-clause-sent : goal.returns-in_err-push-2-clause-sent
returns-in_err-push-2-clause-sent g c =
    let p = c.args.self.now.places.now in
    let gone = has_path p in
    let rest = stack_bytes gone c.args.stack.now.items in
    let l = c.args.left in
    let here = path_view c.in_ok-place.place.value in
    let is_kept = found_at p c.in_ok-path.path _ here _ _ c.in_ok-path.ensures c.as_str.ensures.value c.contains.ensures
    c.if-contains.false in
    let kept = item_kept gone (path_view l.array.value) l.index c.in-Some-checked_add.next here l.is_first (tree c.in-Some.item) _ _
    c.in-Some.ensures.steps c.in-Some-checked_add.ensures.1 c.in_ok-place.ensures is_kept in
    let split = ap (λ z. z ++ rest) kept ∙ regrouped_one (encode_utf8_all (separator l.is_first)) (encode_utf8_all (compact
    (without gone here (tree c.in-Some.item)))) (items_bytes gone (path_view l.array.value) c.in-Some-checked_add.next false (items_left
    c.next.new.self)) rest in
    MatchResult-from_err _ _ _ c.from_residual-in_err-push-2.ensures.0
    (λ _. stop (goes (encode_utf8_all (compact (without gone here (tree c.in-Some.item))) ++ (items_bytes gone
    (path_view l.array.value) c.in-Some-checked_add.next false (items_left c.next.new.self) ++ rest)) c.in_ok-separate.ensures (written_none
    _ _ _ split)))

pub returns-then-not-is_longer-clause-sent : goal.returns-then-not-is_longer-clause-sent
returns-then-not-is_longer-clause-sent g c =
    let p = c.args.self.now.places.now in
    let gone = has_path p in
    let rest = stack_bytes gone c.args.stack.now.items in
    let l = c.args.left in
    let here = path_view c.in_ok-place.place.value in
    let is_kept = found_at p c.in_ok-path.path _ here _ _ c.in_ok-path.ensures c.as_str.ensures.value c.contains.ensures
    c.if-contains.false in
    let kept = item_kept gone (path_view l.array.value) l.index c.in-Some-checked_add.next here l.is_first (tree c.in-Some.item) _ _
    c.in-Some.ensures.steps c.in-Some-checked_add.ensures.1 c.in_ok-place.ensures is_kept in
    let split = ap (λ z. z ++ rest) kept ∙ regrouped_one (encode_utf8_all (separator l.is_first)) (encode_utf8_all (compact
    (without gone here (tree c.in-Some.item)))) (items_bytes gone (path_view l.array.value) c.in-Some-checked_add.next false (items_left
    c.next.new.self)) rest in
    let none = beyond p c.in_ok-path.path here _ _ c.requires c.in_ok-path.ensures c.len.ensures c.is_longer.ensures
    c.if-not-is_longer.true in
    let same = all_stays gone here none (tree c.in-Some.item) in
    let pushed = stack_last gone _ _ _ c.in_ok-push-2.ensures.items in
    last_piece _ _ _ _ (encode_utf8_all (compact (tree c.in-Some.item))) (stack_bytes gone c.push-2.new.self.items) c.write_to.result
    c.write_to.ensures
    (goes _ c.in_ok-separate.ensures (written_none _ _ _ (split ∙ ap₂ (λ t s. encode_utf8_all (separator l.is_first) ++
    (encode_utf8_all (compact t) ++ s)) same (sym pushed))))

pub returns-then-not-is_longer-clause-less : goal.returns-then-not-is_longer-clause-less
returns-then-not-is_longer-clause-less g c =
    let n = weight_last _ _ _ c.in_ok-push-2.ensures.items in
    let w = ap items_weight c.in-Some.ensures.steps in
    let some = some_weight (tree c.in-Some.item) in
    ok_always c.write_to.result (omega (arith, n, w, some))

pub returns-clause-sent : goal.returns-clause-sent
returns-clause-sent g c =
    let p = c.args.self.now.places.now in
    let gone = has_path p in
    let rest = stack_bytes gone c.args.stack.now.items in
    let l = c.args.left in
    let here = path_view c.in_ok-place.place.value in
    let is_kept = found_at p c.in_ok-path.path _ here _ _ c.in_ok-path.ensures c.as_str.ensures.value c.contains.ensures
    c.if-contains.false in
    let kept = item_kept gone (path_view l.array.value) l.index c.in-Some-checked_add.next here l.is_first (tree c.in-Some.item) _ _
    c.in-Some.ensures.steps c.in-Some-checked_add.ensures.1 c.in_ok-place.ensures is_kept in
    let split = ap (λ z. z ++ rest) kept ∙ regrouped_one (encode_utf8_all (separator l.is_first)) (encode_utf8_all (compact
    (without gone here (tree c.in-Some.item)))) (items_bytes gone (path_view l.array.value) c.in-Some-checked_add.next false (items_left
    c.next.new.self)) rest in
    let pushed = stack_last gone _ _ _ c.in_ok-push-2.ensures.items in
    then_goes _ _ _ _ _ _ c.begin.result c.begin.ensures.sent
    (goes _ c.in_ok-separate.ensures (written_none _ _ _ (split ∙ ap (λ s. encode_utf8_all (separator l.is_first) ++ (encode_utf8_all
    (compact (without gone here (tree c.in-Some.item))) ++ s)) (sym pushed))))

pub returns-clause-less : goal.returns-clause-less
returns-clause-less g c =
    let n = weight_last _ _ _ c.in_ok-push-2.ensures.items in
    let w = ap items_weight c.in-Some.ensures.steps in
    ok_map c.begin.result (λ h. omega (arith, n, w, h)) c.begin.ensures.less

pub returns-in_err-place-clause-sent : goal.returns-in_err-place-clause-sent
returns-in_err-place-clause-sent g c = nothing_yet _ _ _ _ c.from_residual.ensures.0

pub returns-in_err-path-clause-sent : goal.returns-in_err-path-clause-sent
returns-in_err-path-clause-sent g c = nothing_yet _ _ _ _ c.from_residual-in_err-path.ensures.0

pub returns-in_err-push-clause-sent : goal.returns-in_err-push-clause-sent
returns-in_err-push-clause-sent g c = nothing_yet _ _ _ _ c.from_residual-in_err-push.ensures.0

pub returns-in_default-checked_add-clause-sent : goal.returns-in_default-checked_add-clause-sent
returns-in_default-checked_add-clause-sent g c = stop begins

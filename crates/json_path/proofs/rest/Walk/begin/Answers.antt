use Rattle.std.proofs.Common.{◌≡◌, true, false, ◌++◌, ◌∷◌, [], ◌∙◌, ap, sym, arith}
use Rattle.std.specs.Str.{encode_utf8_all}
use Rattle.std.proofs.lemmas.Result.{MatchResult-from_err}
use Rattle.tinyjson.proofs.Callers.{goes, stop, stops, written_none}
use Rattle.tinyjson.specs.Text.{compact}
use Rattle.tinyjson_document.specs.Comparing.{items_weight, members_weight}
use Rattle.tinyjson_document.specs.Document.{tree}
use Rattle.tinyjson_document.specs.Parts.{items_in, members_in}
use Rattle.tinyjson_path.specs.Nodes.{path_view}
use Rattle.json_path.proofs.Leaving.{
  array_opens,
  array_weight,
  object_opens,
  object_weight,
  scalar_stays,
  some_weight,
  last_piece,
  ok_always,
  stack_last,
  weight_last,
}
use Rattle.json_path.specs.Left.{items_bytes, members_bytes, stack_bytes, stack_weight}
use Rattle.json_path.specs.Places.{has_path}
use Rattle.json_path.proofs.rest.Walk.begin.Goals as goal

pub returns-in_err-write_all-clause-sent : goal.returns-in_err-write_all-clause-sent
returns-in_err-write_all-clause-sent g c =
    let gone = has_path c.args.self.now.places.now in
    let rest = stack_bytes gone c.args.stack.now.items in
    let t = tree c.args.value in
    let path = path_view c.args.place.value in
    MatchResult-from_err _ _ _ c.from_residual.ensures.0
    (λ _. stops (items_bytes gone path 0 true (items_in t) ++ rest) c.in_err-write_all.ensures
    (written_none _ _ _ (ap (λ z. z ++ rest) (array_opens gone path t (sym c.is_array.ensures ∙ c.if-is_array.true)))))

pub returns-in_err-push-clause-sent : goal.returns-in_err-push-clause-sent
returns-in_err-push-clause-sent g c =
    let gone = has_path c.args.self.now.places.now in
    let rest = stack_bytes gone c.args.stack.now.items in
    let t = tree c.args.value in
    let path = path_view c.args.place.value in
    MatchResult-from_err _ _ _ c.from_residual-in_err-push.ensures.0
    (λ _. stop (goes (items_bytes gone path 0 true (items_in t) ++ rest) c.in_ok-write_all.ensures
    (written_none _ _ _ (ap (λ z. z ++ rest) (array_opens gone path t (sym c.is_array.ensures ∙ c.if-is_array.true))))))

pub returns-then-is_array-clause-sent : goal.returns-then-is_array-clause-sent
returns-then-is_array-clause-sent g c =
    let gone = has_path c.args.self.now.places.now in
    let rest = stack_bytes gone c.args.stack.now.items in
    let t = tree c.args.value in
    let path = path_view c.args.place.value in
    goes (stack_bytes gone c.push.new.self.items) c.in_ok-write_all.ensures
    (written_none _ _ _ (ap (λ z. z ++ rest) (array_opens gone path t (sym c.is_array.ensures ∙ c.if-is_array.true))
    ∙ ap (λ z. 91 ∷ z) (ap (λ ts. items_bytes gone path 0 true ts ++ rest) (sym c.items.ensures)
    ∙ sym (stack_last gone _ _ _ c.in_ok-push.ensures.items))))

pub returns-then-is_array-clause-less : goal.returns-then-is_array-clause-less
returns-then-is_array-clause-less g c =
    let t = tree c.args.value in
    let w = array_weight t (sym c.is_array.ensures ∙ c.if-is_array.true) in
    let n = weight_last _ _ _ c.in_ok-push.ensures.items in
    let same = ap items_weight c.items.ensures in
    omega (arith, w, n, same)

pub returns-in_err-write_all-2-clause-sent : goal.returns-in_err-write_all-2-clause-sent
returns-in_err-write_all-2-clause-sent g c =
    let gone = has_path c.args.self.now.places.now in
    let rest = stack_bytes gone c.args.stack.now.items in
    let t = tree c.args.value in
    let path = path_view c.args.place.value in
    MatchResult-from_err _ _ _ c.from_residual-in_err-write_all-2.ensures.0
    (λ _. stops (members_bytes gone path true (members_in t) ++ rest) c.in_err-write_all-2.ensures
    (written_none _ _ _ (ap (λ z. z ++ rest) (object_opens gone path t (sym c.is_object.ensures ∙ c.if-is_object.true)))))

pub returns-in_err-push-2-clause-sent : goal.returns-in_err-push-2-clause-sent
returns-in_err-push-2-clause-sent g c =
    let gone = has_path c.args.self.now.places.now in
    let rest = stack_bytes gone c.args.stack.now.items in
    let t = tree c.args.value in
    let path = path_view c.args.place.value in
    MatchResult-from_err _ _ _ c.from_residual-in_err-push-2.ensures.0
    (λ _. stop (goes (members_bytes gone path true (members_in t) ++ rest) c.in_ok-write_all-2.ensures
    (written_none _ _ _ (ap (λ z. z ++ rest) (object_opens gone path t (sym c.is_object.ensures ∙ c.if-is_object.true))))))

pub returns-then-is_object-clause-sent : goal.returns-then-is_object-clause-sent
returns-then-is_object-clause-sent g c =
    let gone = has_path c.args.self.now.places.now in
    let rest = stack_bytes gone c.args.stack.now.items in
    let t = tree c.args.value in
    let path = path_view c.args.place.value in
    goes (stack_bytes gone c.push-then-is_object.new.self.items) c.in_ok-write_all-2.ensures
    (written_none _ _ _ (ap (λ z. z ++ rest) (object_opens gone path t (sym c.is_object.ensures ∙ c.if-is_object.true))
    ∙ ap (λ z. 123 ∷ z) (ap (λ ts. members_bytes gone path true ts ++ rest) (sym c.members.ensures)
    ∙ sym (stack_last gone _ _ _ c.in_ok-push-2.ensures.items))))

pub returns-then-is_object-clause-less : goal.returns-then-is_object-clause-less
returns-then-is_object-clause-less g c =
    let t = tree c.args.value in
    let w = object_weight t (sym c.is_object.ensures ∙ c.if-is_object.true) in
    let n = weight_last _ _ _ c.in_ok-push-2.ensures.items in
    let same = ap members_weight c.members.ensures in
    omega (arith, w, n, same)

pub returns-clause-sent : goal.returns-clause-sent
returns-clause-sent g c =
    let gone = has_path c.args.self.now.places.now in
    let rest = stack_bytes gone c.args.stack.now.items in
    let t = tree c.args.value in
    let path = path_view c.args.place.value in
    last_piece _ _ _ _ (encode_utf8_all (compact t)) rest c.write_to.result c.write_to.ensures
    (written_none _ _ _ (ap (λ u. encode_utf8_all (compact u) ++ rest) (scalar_stays gone path t
    (sym c.is_array.ensures ∙ c.if-is_array.false) (sym c.is_object.ensures ∙ c.if-is_object.false))))

pub returns-clause-less : goal.returns-clause-less
returns-clause-less g c = let w = some_weight (tree c.args.value) in ok_always c.write_to.result (omega (arith, w))

use Rattle.std.proofs.Common.{◌++◌, ◌∷◌, [], ◌∙◌, ap, sym, false, arith, chars}
use Rattle.std.specs.Box.{box_value}
use Rattle.std.specs.Str.{encode_utf8_all}
use Rattle.std.specs.VecDeque.Iter.{deque_iter_rest}
use Rattle.std.proofs.lemmas.List.{nil_from_length}
use Rattle.std.proofs.lemmas.Result.{MatchResult-from_err}
use Rattle.tinyjson.proofs.Callers.{goes, stop, stops, written_none}
use Rattle.tinyjson.specs.Text.{compact, quoted, separator}
use Rattle.tinyjson.specs.View.{text}
use Rattle.tinyjson_document.specs.Comparing.{weight, items_weight, members_weight}
use Rattle.tinyjson_patch.specs.private.Edited.{tree, items_tree}
use Rattle.tinyjson_patch.specs.private.Writing.{listed}
use Rattle.tinyjson_patch.specs.private.Text.{items_bytes, members_bytes, rest_bytes, rest_weight, stack_bytes}
use Rattle.tinyjson_patch.proofs.Editing.Pieces.{item_next, items_end, member_next, members_end, last_piece, ok_always, ok_map, regrouped_one, regrouped_two, stack_last, then_goes, weight_last}
use Rattle.tinyjson_patch.proofs.edit.text.resume.Goals as goal

pub returns-in_default-clause-sent : goal.returns-in_default-clause-sent
returns-in_default-clause-sent g c =
    let rest = stack_bytes c.args.stack.now.items in
    let none = nil_from_length (deque_iter_rest c.in-Items.items) c.in_default.ensures.steps.0 in
    last_piece _ _ _ _ (93 ∷ []) rest c.write_all.result c.write_all.ensures
    (written_none _ _ _ (ap (λ z. z ++ rest) (ap rest_bytes c.in-Items.is ∙ items_end c.in-Items.is_first _ (ap items_tree none))))

pub returns-in_default-clause-less : goal.returns-in_default-clause-less
returns-in_default-clause-less g c =
    let w = ap rest_weight c.in-Items.is in
    ok_always c.write_all.result (omega (arith, w))

pub returns-in_err-separate-in-Items-clause-sent : goal.returns-in_err-separate-in-Items-clause-sent
returns-in_err-separate-in-Items-clause-sent g c =
    let rest = stack_bytes c.args.stack.now.items in
    let first = c.in-Items.is_first in
    let t = tree (box_value c.in-Some.item.now) in
    let others = items_tree (deque_iter_rest c.next.new.self) in
    let all = ap items_tree c.in-Some.ensures.steps in
    let split = ap (λ z. z ++ rest) (ap rest_bytes c.in-Items.is ∙ item_next first t others _ all)
    ∙ regrouped_one (encode_utf8_all (separator first)) (encode_utf8_all (compact t)) (items_bytes false others) rest in
    MatchResult-from_err _ _ _ c.from_residual.ensures.0
    (λ _. stops (encode_utf8_all (compact t) ++ (items_bytes false others ++ rest)) c.in_err-separate-in-Items.ensures (written_none _ _ _ split))

pub returns-in_err-push-in-Items-clause-sent : goal.returns-in_err-push-in-Items-clause-sent
returns-in_err-push-in-Items-clause-sent g c =
    let rest = stack_bytes c.args.stack.now.items in
    let first = c.in-Items.is_first in
    let t = tree (box_value c.in-Some.item.now) in
    let others = items_tree (deque_iter_rest c.next.new.self) in
    let all = ap items_tree c.in-Some.ensures.steps in
    let split = ap (λ z. z ++ rest) (ap rest_bytes c.in-Items.is ∙ item_next first t others _ all)
    ∙ regrouped_one (encode_utf8_all (separator first)) (encode_utf8_all (compact t)) (items_bytes false others) rest in
    MatchResult-from_err _ _ _ c.from_residual-in_err-push-in-Items.ensures.0
    (λ _. stop (goes (encode_utf8_all (compact t) ++ (items_bytes false others ++ rest)) c.in_ok-separate-in-Items.ensures
    (written_none _ _ _ split)))

pub returns-in_ok-push-in-Items-clause-sent : goal.returns-in_ok-push-in-Items-clause-sent
returns-in_ok-push-in-Items-clause-sent g c =
    let rest = stack_bytes c.args.stack.now.items in
    let first = c.in-Items.is_first in
    let t = tree c.as_ref.result.now in
    let others = items_tree (deque_iter_rest c.next.new.self) in
    let all = ap items_tree c.in-Some.ensures.steps in
    let held = ap tree c.as_ref.ensures in
    let split = ap (λ z. z ++ rest) (ap rest_bytes c.in-Items.is ∙ item_next first _ others _ all)
    ∙ regrouped_one (encode_utf8_all (separator first)) (encode_utf8_all (compact _)) (items_bytes false others) rest in
    let pushed = stack_last _ _ _ c.in_ok-push-in-Items.ensures.items in
    then_goes _ _ _ _ _ _ c.begin.result c.begin.ensures.sent
    (goes _ c.in_ok-separate-in-Items.ensures
    (written_none _ _ _ (split ∙ ap (λ u. encode_utf8_all (separator first) ++ (encode_utf8_all (compact u) ++ (items_bytes false others ++ rest)))
    (sym held) ∙ ap (λ s. encode_utf8_all (separator first) ++ (encode_utf8_all (compact t) ++ s)) (sym pushed))))

pub returns-in_ok-push-in-Items-clause-less : goal.returns-in_ok-push-in-Items-clause-less
returns-in_ok-push-in-Items-clause-less g c =
    let n = weight_last _ _ _ c.in_ok-push-in-Items.ensures.items in
    let w = ap rest_weight c.in-Items.is in
    let held = ap (λ e. weight (tree e)) c.as_ref.ensures in
    let all = ap (λ es. items_weight (items_tree es)) c.in-Some.ensures.steps in
    ok_map c.begin.result (λ h. omega (arith, h, n, w, held, all)) c.begin.ensures.less

pub returns-in_default-next-clause-sent : goal.returns-in_default-next-clause-sent
returns-in_default-next-clause-sent g c =
    let rest = stack_bytes c.args.stack.now.items in
    let none = c.in_default-next.ensures.steps.0 in
    last_piece _ _ _ _ (125 ∷ []) rest c.write_all-in_default-next.result c.write_all-in_default-next.ensures
    (written_none _ _ _ (ap (λ z. z ++ rest) (ap rest_bytes c.in-Members.is ∙ members_end c.in-Members.is_first _ (ap listed none))))

pub returns-in_default-next-clause-less : goal.returns-in_default-next-clause-less
returns-in_default-next-clause-less g c =
    let w = ap rest_weight c.in-Members.is in
    ok_always c.write_all-in_default-next.result (omega (arith, w))

pub returns-in_err-separate-in-Members-clause-sent : goal.returns-in_err-separate-in-Members-clause-sent
returns-in_err-separate-in-Members-clause-sent g c =
    let rest = stack_bytes c.args.stack.now.items in
    let first = c.in-Members.is_first in
    let k = text c.in-Some-next.key.now in
    let t = tree c.in-Some-next.member.now in
    let others = listed c.next-in-Members.new.self in
    let all = ap listed c.in-Some-next.ensures.steps in
    let name = encode_utf8_all (quoted k) ++ 58 ∷ [] in
    let split = ap (λ z. z ++ rest) (ap rest_bytes c.in-Members.is ∙ member_next first k t others _ all)
    ∙ regrouped_two (encode_utf8_all (separator first)) name (encode_utf8_all (compact t)) (members_bytes false others) rest in
    MatchResult-from_err _ _ _ c.from_residual-in_err-separate-in-Members.ensures.0
    (λ _. stops (name ++ (encode_utf8_all (compact t) ++ (members_bytes false others ++ rest))) c.in_err-separate-in-Members.ensures
    (written_none _ _ _ split))

pub returns-in_err-write_key-in-Members-clause-sent : goal.returns-in_err-write_key-in-Members-clause-sent
returns-in_err-write_key-in-Members-clause-sent g c =
    let rest = stack_bytes c.args.stack.now.items in
    let first = c.in-Members.is_first in
    let k = text c.in-Some-next.key.now in
    let t = tree c.in-Some-next.member.now in
    let others = listed c.next-in-Members.new.self in
    let all = ap listed c.in-Some-next.ensures.steps in
    let name = encode_utf8_all (quoted (chars c.as_str.result.now)) ++ 58 ∷ [] in
    let called = encode_utf8_all (quoted k) ++ 58 ∷ [] in
    let split = ap (λ z. z ++ rest) (ap rest_bytes c.in-Members.is ∙ member_next first k t others _ all)
    ∙ regrouped_two (encode_utf8_all (separator first)) called (encode_utf8_all (compact t)) (members_bytes false others) rest
    ∙ ap (λ bs. encode_utf8_all (separator first) ++ ((encode_utf8_all (quoted (chars bs)) ++ 58 ∷ [])
    ++ (encode_utf8_all (compact t) ++ (members_bytes false others ++ rest)))) (sym c.as_str.ensures.value) in
    let begun = goes (name ++ (encode_utf8_all (compact t) ++ (members_bytes false others ++ rest))) c.in_ok-separate-in-Members.ensures
    (written_none _ _ _ split) in
    MatchResult-from_err _ _ _ c.from_residual-in_err-write_key-in-Members.ensures.0
    (λ _. stops (encode_utf8_all (compact t) ++ (members_bytes false others ++ rest)) c.in_err-write_key-in-Members.ensures begun)

pub returns-in_err-push-in-Members-clause-sent : goal.returns-in_err-push-in-Members-clause-sent
returns-in_err-push-in-Members-clause-sent g c =
    let rest = stack_bytes c.args.stack.now.items in
    let first = c.in-Members.is_first in
    let k = text c.in-Some-next.key.now in
    let t = tree c.in-Some-next.member.now in
    let others = listed c.next-in-Members.new.self in
    let all = ap listed c.in-Some-next.ensures.steps in
    let name = encode_utf8_all (quoted (chars c.as_str.result.now)) ++ 58 ∷ [] in
    let called = encode_utf8_all (quoted k) ++ 58 ∷ [] in
    let split = ap (λ z. z ++ rest) (ap rest_bytes c.in-Members.is ∙ member_next first k t others _ all)
    ∙ regrouped_two (encode_utf8_all (separator first)) called (encode_utf8_all (compact t)) (members_bytes false others) rest
    ∙ ap (λ bs. encode_utf8_all (separator first) ++ ((encode_utf8_all (quoted (chars bs)) ++ 58 ∷ [])
    ++ (encode_utf8_all (compact t) ++ (members_bytes false others ++ rest)))) (sym c.as_str.ensures.value) in
    let begun = goes (name ++ (encode_utf8_all (compact t) ++ (members_bytes false others ++ rest))) c.in_ok-separate-in-Members.ensures
    (written_none _ _ _ split) in
    MatchResult-from_err _ _ _ c.from_residual-in_err-push-in-Members.ensures.0
    (λ _. stop (goes (encode_utf8_all (compact t) ++ (members_bytes false others ++ rest)) c.in_ok-write_key-in-Members.ensures begun))

pub returns-in_ok-push-in-Members-clause-sent : goal.returns-in_ok-push-in-Members-clause-sent
returns-in_ok-push-in-Members-clause-sent g c =
    let rest = stack_bytes c.args.stack.now.items in
    let first = c.in-Members.is_first in
    let k = text c.in-Some-next.key.now in
    let t = tree c.in-Some-next.member.now in
    let others = listed c.next-in-Members.new.self in
    let all = ap listed c.in-Some-next.ensures.steps in
    let name = encode_utf8_all (quoted (chars c.as_str.result.now)) ++ 58 ∷ [] in
    let called = encode_utf8_all (quoted k) ++ 58 ∷ [] in
    let split = ap (λ z. z ++ rest) (ap rest_bytes c.in-Members.is ∙ member_next first k t others _ all)
    ∙ regrouped_two (encode_utf8_all (separator first)) called (encode_utf8_all (compact t)) (members_bytes false others) rest
    ∙ ap (λ bs. encode_utf8_all (separator first) ++ ((encode_utf8_all (quoted (chars bs)) ++ 58 ∷ [])
    ++ (encode_utf8_all (compact t) ++ (members_bytes false others ++ rest)))) (sym c.as_str.ensures.value) in
    let pushed = stack_last _ _ _ c.in_ok-push-in-Members.ensures.items in
    then_goes _ _ _ _ _ _ c.begin-in-Members.result c.begin-in-Members.ensures.sent
    (goes _ c.in_ok-write_key-in-Members.ensures (goes _ c.in_ok-separate-in-Members.ensures
    (written_none _ _ _ (split ∙ ap (λ s. encode_utf8_all (separator first) ++ (name ++ (encode_utf8_all (compact t) ++ s))) (sym pushed)))))

pub returns-in_ok-push-in-Members-clause-less : goal.returns-in_ok-push-in-Members-clause-less
returns-in_ok-push-in-Members-clause-less g c =
    let n = weight_last _ _ _ c.in_ok-push-in-Members.ensures.items in
    let w = ap rest_weight c.in-Members.is in
    let all = ap (λ es. members_weight (listed es)) c.in-Some-next.ensures.steps in
    ok_map c.begin-in-Members.result (λ h. omega (arith, h, n, w, all)) c.begin-in-Members.ensures.less

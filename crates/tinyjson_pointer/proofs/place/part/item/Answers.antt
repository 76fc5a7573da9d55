use Rattle.std.proofs.Common.{◌<◌, ◌^◌, List, ℕ, Some, option_map, Bor, length, sym, ap, ◌∙◌, arith}
use Rattle.std.specs.Str.{chars}
use Rattle.tinyjson_pointer.specs.Index.{index_of}
use Rattle.tinyjson_pointer.specs.private.Scan.{without_white}
use Rattle.tinyjson_pointer.proofs.Locating.Walking.{item_at, no_item}
use Rattle.tinyjson_pointer.proofs.place.part.item.Goals as goal

pub returns-in_err-index : goal.returns-in_err-index
returns-in_err-index c = λ es r h e.
    let short : length c.args.inside.now < 2 ^ 64 = omega arith in
    ap (option_map (λ (s : Bor (List ℕ)). chars s.now)) c.from_residual.ensures
    ∙ sym (no_item es r c.args.inside.now (index_of (chars c.args.token.now)) e c.utf8.inside short c.in_err-index.ensures)

pub returns-in_err-rest : goal.returns-in_err-rest
returns-in_err-rest c = λ es r h e.
    ap (option_map (λ (s : Bor (List ℕ)). chars s.now)) c.from_residual-in_err-rest.ensures
    ∙ (ap (option_map without_white) c.in_err-rest.ensures
    ∙ item_at es r (chars c.args.inside.now) (index_of (chars c.args.token.now)) c.in_ok-index.field-0 h e c.in_ok-index.ensures)

pub returns : goal.returns
returns c = λ es r h e.
    ap (λ xs. Some xs) c.after_white.ensures
    ∙ (ap (option_map without_white) c.in_ok-rest.ensures
    ∙ item_at es r (chars c.args.inside.now) (index_of (chars c.args.token.now)) c.in_ok-index.field-0 h e c.in_ok-index.ensures)

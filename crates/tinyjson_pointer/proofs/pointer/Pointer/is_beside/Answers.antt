use Rattle.std.proofs.Common.{◌≡◌, ◌&&◌, sym, ap, ◌∙◌}
use Rattle.std.specs.List.{starts_with}
use Rattle.std.specs.String.{string_eq}
use Rattle.tinyjson_pointer.proofs.Beside.{beside_both}
use Rattle.tinyjson_pointer.specs.Siblings.{are_beside}
use Rattle.tinyjson_pointer.specs.Tokens.{tokens_of}
use Rattle.tinyjson_pointer.proofs.pointer.Pointer.is_beside.Goals as goal

pub returns-then-starts_with : goal.returns-then-starts_with
returns-then-starts_with c =
    let fs = c.in-Some.front.now in
    let gs = c.in-Some-split_last.other_front.now in
    let both : are_beside (tokens_of c.args.self.now) (tokens_of c.args.other.now)
    ≡ (starts_with string_eq fs gs && starts_with string_eq gs fs)
    = beside_both c.args.self.now.tokens.items c.args.other.now.tokens.items fs gs c.in-Some.field-0-0.now
    c.in-Some-split_last.field-0-0.now (sym c.as_slice.ensures.value ∙ c.in-Some.ensures.cases.0)
    (sym c.as_slice-2.ensures.value ∙ c.in-Some-split_last.ensures.cases.0) in
    c.starts_with-then-starts_with.ensures.value
    ∙ sym (both ∙ ap (λ b. b && starts_with string_eq gs fs) (sym c.starts_with.ensures.value ∙ c.if-starts_with.true))

pub returns-else-starts_with : goal.returns-else-starts_with
returns-else-starts_with c =
    let fs = c.in-Some.front.now in
    let gs = c.in-Some-split_last.other_front.now in
    let both : are_beside (tokens_of c.args.self.now) (tokens_of c.args.other.now)
    ≡ (starts_with string_eq fs gs && starts_with string_eq gs fs)
    = beside_both c.args.self.now.tokens.items c.args.other.now.tokens.items fs gs c.in-Some.field-0-0.now
    c.in-Some-split_last.field-0-0.now (sym c.as_slice.ensures.value ∙ c.in-Some.ensures.cases.0)
    (sym c.as_slice-2.ensures.value ∙ c.in-Some-split_last.ensures.cases.0) in
    c.if-starts_with.false
    ∙ sym (both ∙ ap (λ b. b && starts_with string_eq gs fs) (sym c.starts_with.ensures.value ∙ c.if-starts_with.false))

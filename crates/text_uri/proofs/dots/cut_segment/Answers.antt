use Rattle.std.proofs.Common.{◌∙◌, ◌≡◌, ◌∷◌, ◌≤◌, ◌+◌, length, sym, arith}
use Rattle.text_uri.proofs.Cuts.{segment_front, segment_rest, segment_fits, segment_may_be_cut}
use Rattle.text_uri.proofs.dots.cut_segment.Goals as goal

pub overflow_add-end_in : goal.overflow_add-end_in
overflow_add-end_in c =
    let is : c.args.input.now ≡ c.in-Some.field-0-0.now ∷ c.in-Some.more.now
    = sym c.as_bytes.ensures.value ∙ c.in-Some.ensures.cases.0 in
    let fits : 1 + c.end_in.result ≤ length c.args.input.now
    = segment_fits c.args.input.now c.in-Some.more.now c.in-Some.field-0-0.now c.end_in.result is c.end_in.ensures in
    omega arith

pub split_at-requires : goal.split_at-requires
split_at-requires c = segment_may_be_cut c.args.input.now c.in-Some.more.now c.in-Some.field-0-0.now c.end_in.result
    (sym c.as_bytes.ensures.value ∙ c.in-Some.ensures.cases.0) c.end_in.ensures

pub returns-in-Some-clause-segment : goal.returns-in-Some-clause-segment
returns-in-Some-clause-segment c = c.split_at.ensures.front
    ∙ segment_front c.args.input.now c.in-Some.more.now c.in-Some.field-0-0.now c.end_in.result
    (sym c.as_bytes.ensures.value ∙ c.in-Some.ensures.cases.0) c.end_in.ensures

pub returns-in-Some-clause-rest : goal.returns-in-Some-clause-rest
returns-in-Some-clause-rest c = c.split_at.ensures.back
    ∙ segment_rest c.args.input.now c.in-Some.more.now c.in-Some.field-0-0.now c.end_in.result
    (sym c.as_bytes.ensures.value ∙ c.in-Some.ensures.cases.0) c.end_in.ensures

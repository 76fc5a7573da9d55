use Rattle.std.proofs.Common.{◌∙◌, ◌≡◌, sym, ap, length, take, drop, subst, IsCharBoundary}
use Rattle.text_uri.specs.Letters.{before}
use Rattle.text_uri.specs.Splitting.{ends}
use Rattle.text_uri.proofs.Cuts.{take_before, drop_before, may_be_cut, ends_ascii}
use Rattle.text_uri.proofs.cutting.cut_text.Goals as goal

pub returns : goal.returns
returns c =
    let p = ends c.args.end in
    let text = c.args.text.now in
    let wide : c.end_in.result ≡ length (before p text)
    = c.end_in.ensures ∙ ap (λ xs. length (before p xs)) c.as_bytes.ensures.value in
    record {
      front = c.split_at.ensures.front ∙ (ap (λ n. take n text) wide ∙ take_before p text);
      rest = c.split_at.ensures.back ∙ (ap (λ n. drop n text) wide ∙ drop_before p text);
    }

pub split_at-requires : goal.split_at-requires
split_at-requires c =
    let p = ends c.args.end in
    let text = c.args.text.now in
    subst (IsCharBoundary text) (sym (c.end_in.ensures ∙ ap (λ xs. length (before p xs)) c.as_bytes.ensures.value))
    (may_be_cut p text (ends_ascii c.args.end))

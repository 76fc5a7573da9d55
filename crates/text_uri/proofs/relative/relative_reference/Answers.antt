use Rattle.std.proofs.Common.{◌≡◌, ◌∙◌, sym, ap, subst, length, IsCharBoundary}
use Rattle.text_uri.specs.Relative.{shared}
use Rattle.text_uri.proofs.Sharing.{ends_shared, may_be_cut}
use Rattle.text_uri.proofs.relative.relative_reference.Goals as goal

pub split_at-requires : goal.split_at-requires
split_at-requires c =
    let base = c.args.base.now in
    let target = c.args.target.now in
    let wide : c.shared_len-shared.result ≡ length (shared base target)
    = c.shared_len-shared.ensures ∙ (ap (λ xs. length (shared xs c.as_bytes-2.result.now)) c.as_bytes.ensures.value
    ∙ ap (λ ys. length (shared base ys)) c.as_bytes-2.ensures.value) in
    subst (IsCharBoundary base) (sym wide) (may_be_cut base (length (shared base target)) c.utf8.base (ends_shared base target).0)

pub split_at-requires-2 : goal.split_at-requires-2
split_at-requires-2 c =
    let base = c.args.base.now in
    let target = c.args.target.now in
    let wide : c.shared_len-shared.result ≡ length (shared base target)
    = c.shared_len-shared.ensures ∙ (ap (λ xs. length (shared xs c.as_bytes-2.result.now)) c.as_bytes.ensures.value
    ∙ ap (λ ys. length (shared base ys)) c.as_bytes-2.ensures.value) in
    subst (IsCharBoundary target) (sym wide) (may_be_cut target (length (shared base target)) c.utf8.target (ends_shared base target).1)

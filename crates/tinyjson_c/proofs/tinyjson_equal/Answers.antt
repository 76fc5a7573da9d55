use Rattle.std.proofs.Common.{◌≡◌, ap, ◌∙◌, bytes_eq, inl, inr}
use Rattle.tinyjson_c.proofs.Equal.{compared}
use Rattle.tinyjson_c.proofs.Stopping.{stops}
use Rattle.tinyjson_c.proofs.tinyjson_equal.Goals as goal

pub returns-in-Err-clause-stopped : goal.returns-in-Err-clause-stopped
returns-in-Err-clause-stopped c = λ _. inl (stops _ _ c.in-Err.stop 0 _ _ c.in-Err.ensures c.put.ensures.status c.put.ensures.place)

pub returns-in-Err-normal-clause-stopped : goal.returns-in-Err-normal-clause-stopped
returns-in-Err-normal-clause-stopped c = λ _.
    let w = c.in-Ok.ensures in
    let p = c.put-in-Err-normal.ensures in
    inr ((w.1.0, (w.0, w.1.1)), stops _ _ c.in-Err-normal.stop 1 _ _ c.in-Err-normal.ensures p.status p.place)

pub returns-clause-answered : goal.returns-clause-answered
returns-clause-answered c = λ _.
    let a = c.in-Ok.ensures in
    let b = c.in-Ok-normal.ensures in
    let is : c.eq.result ≡ bytes_eq c.in-Ok.written.items c.in-Ok-normal.written.items =
    c.eq.ensures ∙ (ap (λ z. bytes_eq z c.as_slice-2.result.now) c.as_slice.ensures.value
    ∙ ap (λ z. bytes_eq c.in-Ok.written.items z) c.as_slice-2.ensures.value) in
    (a.0, a.1, b.0, b.1, compared _ _ _ _ _ a.0 b.0 _ a.1.1 b.1.1 a.2 b.2 is, c.of_length.ensures)

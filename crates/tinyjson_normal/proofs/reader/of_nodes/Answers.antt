use Rattle.tinyjson_normal.proofs.reader.of_nodes.Goals as goal

pub returns-in-Ok : goal.returns-in-Ok
returns-in-Ok c =
    let h = c.in-Ok.ensures in
    let u = h.answer in
    record {
      consumed = h.consumed;
      rest = h.rest;
      whole = h.whole;
      answer = (u.0, u.1, u.2, u.3.0);
      refused = h.refused;
      broken_off = h.broken_off;
    }

pub returns : goal.returns
returns c =
    let h = c.in-Err.ensures in
    record { consumed = h.consumed; rest = h.rest; whole = h.whole; answer = h.answer; refused = h.refused; broken_off = h.broken_off }

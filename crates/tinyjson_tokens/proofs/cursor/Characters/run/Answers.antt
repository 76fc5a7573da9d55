use Rattle.std.proofs.Common.{rules, ◌≡◌, ◌∷◌, [], true, sym, append-nil}
use Rattle.tinyjson_grammar.specs.Characters.{text}
use Rattle.tinyjson_tokens.proofs.Cursors.{Goes_nil, Goes_append, OnOk_append, OnOk_fewer, OnOk_grown}
use Rattle.std.proofs.lemmas.Result.{err_from_is_err_and}
use Rattle.tinyjson_tokens.proofs.cursor.Characters.run.Goals as goal

pub returns-then-not-passes-clause-run : goal.returns-then-not-passes-clause-run
returns-then-not-passes-clause-run g c =
    let p = c.args.self.now in
    let n = Goes_nil g.I.Iterator.next_gives p.cursor p.line_fits p.column_fits in
    record { skips = record { taken = []; pass = tt; goes = n }; added = sym (append-nil (text c.args.string.now)) }

pub returns-in_err-push-clause-run : goal.returns-in_err-push-clause-run
returns-in_err-push-clause-run g c =
    let p = c.args.self.now in
    let n = Goes_nil g.I.Iterator.next_gives p.cursor p.line_fits p.column_fits in
    let e = err_from_is_err_and c.from_residual.result c.from_residual.ensures.1 in
    record { skips = record { taken = []; pass = tt; goes = n }; added = rw e.1 tt }

pub returns-clause-run : goal.returns-clause-run
returns-clause-run g c =
    let x = c.in-Some.c in
    let r = c.take_run-2.ensures.run in
    let passes : g.C.Class.test x ≡ true = search rules in
    let goes = Goes_append g.I.Iterator.next_gives _ _ _ (x ∷ []) r.skips.taken c.pass.ensures.takes r.skips.goes in
    let added = c.in_ok-push.ensures in
    record {
      skips = record { taken = x ∷ r.skips.taken; pass = (passes, r.skips.pass); goes = goes };
      added = OnOk_append c.take_run-2.result _ r.skips.taken (text c.args.string.now) (x ∷ []) (text c.push.new.string) added r.added;
    }

pub returns-clause-still : goal.returns-clause-still
returns-clause-still g c =
    let taken = c.take_run-2.ensures.run.skips.taken in
    OnOk_grown c.take_run-2.result _ _ (text c.args.string.now) taken c.in-Some.c (OnOk_append c.take_run-2.result _ taken (text c.args.string.now)
    (c.in-Some.c ∷ []) (text c.push.new.string) c.in_ok-push.ensures c.take_run-2.ensures.run.added)

pub returns-clause-fewer : goal.returns-clause-fewer
returns-clause-fewer g c = OnOk_fewer c.take_run-2.result _ _ _ _ (text c.push.new.string) (text c.args.string.now) c.in-Some.c
    c.in_ok-push.ensures c.pass.ensures.left c.take_run-2.ensures.fewer

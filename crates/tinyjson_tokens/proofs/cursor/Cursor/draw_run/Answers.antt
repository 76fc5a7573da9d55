use Rattle.std.proofs.Common.{rules, ◌≡◌, ◌∙◌, ◌∷◌, ◌++◌, [], true, sym, ap}
use Rattle.std.proofs.Common.{append-nil, append_assoc, subst, arith, length, length-append, ◌<◌}
use Rattle.tinyjson_grammar.specs.Position.{advance, position_at}
use Rattle.tinyjson_grammar.specs.Characters.{text}
use Rattle.tinyjson_tokens.proofs.Cursors.{Goes_nil, Goes_filled, Goes_drawn, Ready_filled, run_column}
use Rattle.tinyjson_tokens.specs.Cursor.{left}
use Rattle.tinyjson_tokens.proofs.Sources.{AllByRecursion_push}
use Rattle.tinyjson_tokens.proofs.cursor.Cursor.draw_run.Goals as goal
use Rattle.tinyjson_tokens.proofs.cursor.Cursor.draw_run.Goals.{in_default-via-in-Some+else-passes, in_default-via-in_default}

pub loop-c-init : goal.loop-c-init
loop-c-init g c = let p = c.args.self.now in record {
  ready = c.requires.ready;
  run = record {
    skips = record { taken = []; pass = tt; goes = Goes_nil g.I.Iterator.next_gives p c.requires.place.0 c.requires.place.1 };
    added = sym (append-nil (text c.args.string.now));
  };
  line = c.requires.place.0;
  column = c.requires.place.1;
  none = c.requires.none;
  more = c.requires.more;
  fewer = search rules;
  left = search rules;
}

pub returns-then-is_err-clause-run : goal.returns-then-is_err-clause-run
returns-then-is_err-clause-run g c =
    let p = c.loop-c.self in
    let t = c.loop-c.invariant.run.skips in
    record {
      skips = record {
        taken = t.taken;
        pass = t.pass;
        goes = Goes_filled g.I.Iterator.next_gives c.args.self.now (record p { column = c.loop-c.column }) t.taken _ _ _ t.goes
            c.loop-c.invariant.none c.loop-c.invariant.more c.in-Some.ensures.steps c.loop-c.invariant.more;
      };
      added = tt;
    }

pub loop-c-preserved : goal.loop-c-preserved
loop-c-preserved g c =
    let p = c.loop-c.self in
    let x = c.in-Some.c in
    let i = c.loop-c.invariant in
    let t = i.run.skips in
    let passes : g.C.Class.test x ≡ true = search rules in
    let steps = c.in-Some.ensures.steps in
    let place : position_at p.line c.saturating_add-column.result ≡ advance (position_at p.line c.loop-c.column) (x ∷ []) =
    run_column g.C.Class.test p.line c.loop-c.column x c.saturating_add-column.result i.line c.requires.line passes (search rules) in
    let after = record p { it = c.next-next.new.self; column = c.saturating_add-column.result } in
    let fewer : left g.I.Iterator.remaining after < left g.I.Iterator.remaining p = search rules in
    let added : text c.push.new.string ≡ text c.loop-c.string ++ x ∷ [] = search rules in
    record {
      ready = Ready_filled g.I.Iterator.can_next g.I.Iterator.remaining p _ _ p.done i.ready i.more i.more c.in-Some.ensures.goes;
      run = record {
        skips = record {
          taken = t.taken ++ x ∷ [];
          pass = AllByRecursion_push (λ d. g.C.Class.test d ≡ true) t.taken x t.pass passes;
          goes = Goes_drawn g.I.Iterator.next_gives c.args.self.now (record p { column = c.loop-c.column }) t.taken x _ _ _ t.goes i.none
              i.more steps place;
        };
        added = added ∙ ap (λ cs. cs ++ x ∷ []) i.run.added ∙ append_assoc (text c.args.string.now) t.taken (x ∷ []);
      };
      line = search rules;
      column = search rules;
      none = i.none;
      more = i.more;
      fewer = omega (arith, fewer, ap length added ∙ length-append (text c.loop-c.string) (x ∷ []), i.fewer);
      left = search rules;
    }

pub returns-in_default-clause-run : goal.returns-in_default-clause-run
returns-in_default-clause-run g c =
    let p = c.loop-c.self in
    let t = c.loop-c.invariant.run.skips in
    let same : c.in_default.next ≡ c.next-next.result = elim c.in_default.branch [
      | in_default-via-in-Some+else-passes w ↦ w.next-is
          ∙ sym w.in-Some.is
      | in_default-via-in_default w ↦ w.next-is
    ] in
    let steps = subst (λ r. g.I.Iterator.next_gives p.it r c.next-next.new.self) (sym same) c.next-next.ensures.steps in
    record {
      skips = record {
        taken = t.taken;
        pass = t.pass;
        goes = Goes_filled g.I.Iterator.next_gives c.args.self.now (record p { column = c.loop-c.column }) t.taken c.in_default.next _
            c.is_none-self.result t.goes c.loop-c.invariant.none c.loop-c.invariant.more steps (search rules);
      };
      added = c.loop-c.invariant.run.added;
    }

use Rattle.std.proofs.Common.{rules, ◌≡◌, ◌∙◌, ◌∷◌, ◌++◌, [], true, sym, subst}
use Rattle.tinyjson_grammar.specs.Characters.{is_white}
use Rattle.tinyjson_tokens.proofs.Cursors.{Goes_nil, Goes_filled, Goes_drawn, Ready_filled}
use Rattle.tinyjson_tokens.proofs.Sources.{AllByRecursion_push}
use Rattle.tinyjson_tokens.proofs.cursor.Cursor.draw_white.Goals as goal
use Rattle.tinyjson_tokens.proofs.cursor.Cursor.draw_white.Goals.{in_default-via-in-Some+else-is_white, in_default-via-in_default}

pub loop-c-init : goal.loop-c-init
loop-c-init g c = let p = c.args.self.now in record {
  ready = c.requires.ready;
  white = record { taken = []; pass = tt; goes = Goes_nil g.I.Iterator.next_gives p c.requires.place.0 c.requires.place.1 };
  line = c.requires.place.0;
  column = c.requires.place.1;
  none = c.requires.none;
  more = c.requires.more;
  left = search rules;
}

pub loop-c-preserved : goal.loop-c-preserved
loop-c-preserved g c =
    let p = c.loop-c.self in
    let x = c.in-Some.c in
    let i = c.loop-c.invariant in
    let t = i.white in
    record {
      ready = Ready_filled g.I.Iterator.can_next g.I.Iterator.remaining p _ _ p.done i.ready i.more i.more c.in-Some.ensures.goes;
      white = record {
        taken = t.taken ++ x ∷ [];
        pass = AllByRecursion_push (λ d. is_white d ≡ true) t.taken x t.pass (search rules);
        goes = Goes_drawn g.I.Iterator.next_gives c.args.self.now p t.taken x _ _ _ t.goes i.none i.more c.in-Some.ensures.steps
            c.advance-line.ensures;
      };
      line = search rules;
      column = search rules;
      none = i.none;
      more = i.more;
      left = search rules;
    }

pub returns-in_default-clause-white : goal.returns-in_default-clause-white
returns-in_default-clause-white g c =
    let p = c.loop-c.self in
    let t = c.loop-c.invariant.white in
    let same : c.in_default.next ≡ c.next-next.result = elim c.in_default.branch [
      | in_default-via-in-Some+else-is_white w ↦ w.next-is
          ∙ sym w.in-Some.is
      | in_default-via-in_default w ↦ w.next-is
    ] in
    let steps = subst (λ r. g.I.Iterator.next_gives p.it r c.next-next.new.self) (sym same) c.next-next.ensures.steps in
    record {
      taken = t.taken;
      pass = t.pass;
      goes = Goes_filled g.I.Iterator.next_gives c.args.self.now p t.taken c.in_default.next _ c.is_none-self.result t.goes
          c.loop-c.invariant.none c.loop-c.invariant.more steps (search rules);
    }

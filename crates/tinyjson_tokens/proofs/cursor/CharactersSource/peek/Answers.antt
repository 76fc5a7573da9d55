use Rattle.std.proofs.Common.{◌≡◌, None, rules, refl, sym}
use Rattle.tinyjson_tokens.proofs.Cursors.{filled, Ready_filled, none_from, not_shown}
use Rattle.tinyjson_grammar.proofs.Callers.{advance_nil}
use Rattle.tinyjson_tokens.proofs.cursor.CharactersSource.peek.Goals as goal

pub returns-then-is_some-clause-takes : goal.returns-then-is_some-clause-takes
returns-then-is_some-clause-takes g c = let p = c.args.self.now in record {
  gives = λ zs h. (zs, refl, h);
  moves = sym (advance_nil p.cursor.line p.cursor.column p.line_fits p.column_fits);
}

pub invariant_of-self-clause-ready : goal.invariant_of-self-clause-ready
invariant_of-self-clause-ready g c =
    ∣ Ready_filled g.I.Iterator.can_next g.I.Iterator.remaining c.args.self.now.cursor _ _ _ c.ready.ensures (search rules)
    (search rules) c.next-next.ensures.goes ∣₁

pub returns-clause-takes : goal.returns-clause-takes
returns-clause-takes g c =
    let p = c.args.self.now in
    let n : p.cursor.peeked ≡ None = search (rules, none_from) in
    record {
      gives = λ zs h. (
        zs,
        refl,
        filled g.I.Iterator.next_gives p.cursor _ _ _ zs n (search rules) c.next-next.ensures.steps (search rules) h,
      );
      moves = sym (advance_nil p.cursor.line p.cursor.column p.line_fits p.column_fits);
    }

pub returns-clause-kept : goal.returns-clause-kept
returns-clause-kept g c =
    let p = c.args.self.now.cursor in
    let n : p.peeked ≡ None = search (rules, none_from) in
    λ o s. not_shown g.I.Iterator.next_gives p o _ n (search rules) s

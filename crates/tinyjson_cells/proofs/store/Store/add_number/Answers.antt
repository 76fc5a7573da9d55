use Rattle.std.proofs.Common.{[], inl, inr, rules, arith, refl, subst}
use Rattle.std.specs.Prelude.{IfSome}
use Rattle.tinyjson_cells.specs.Texts.{IsNumberAt}
use Rattle.tinyjson_cells.proofs.store.Store.add_number.Goals as goal

pub returns-in-Some-clause-number : goal.returns-in-Some-clause-number
returns-in-Some-clause-number c =
    let at : IsNumberAt c.add_number.new.self c.args.number c.in-Some.span
    = subst (λ o. IfSome o (IsNumberAt c.add_number.new.self c.args.number)) c.in-Some.is c.in_ok-span.ensures.at in
    inl (
      _,
      refl,
      record { within = at.text.within; text = at.text.bytes; few = at.few; canonical = c.args.number.canonical },
    )

pub returns-clause-number : goal.returns-clause-number
returns-clause-number c = inr (
  _,
  refl,
  record {
    front = c.args.self.now.kept.items;
    here = c.args.number;
    back = [];
    whole = search rules;
    place = omega (arith, c.args.self.now.kept.ok.0);
    decimal = refl;
  },
)

use Rattle.std.proofs.Common.{refl, [], sym, append-nil, arith}
use Rattle.tinyjson_document.specs.Holding.{Gathers, waiting_in}
use Rattle.tinyjson_grammar.specs.Tree.{no_members}
use Rattle.tinyjson_document.proofs.arena.ArenaEvents.open_object.Goals as goal

pub returns : goal.returns
returns c = λ _ fs h.
    let a = c.args.self.now in
    let none : Gathers a.store no_members [] [] = record { entries = []; members = refl; waiting = tt } in (
      (
        waiting_in a,
        [],
        [],
        record {
          place = record { keys = c.len.result; values = c.len-2.result };
          places = c.in_ok-push.ensures.items;
          keys = sym (append-nil a.keys.items);
          values = sym (append-nil a.values.items);
          first_key = omega (arith, a.keys.ok.0);
          first_value = omega (arith, a.values.ok.0);
        },
        none,
        h.0,
      ),
      h.1,
    )

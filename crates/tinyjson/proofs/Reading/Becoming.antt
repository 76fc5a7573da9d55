-- What is built by events that fail by memory alone, from what a reading into them returns.
use Rattle.std.proofs.Common.{◌⊎◌, ℕ, List, [], Option, Ok, Err, refl, sym, subst}
use Rattle.tinyjson.specs.Events.{Becomes, MeetsLiteral, TellsEvents, TellsText}
use Rattle.tinyjson.specs.declared.parser.error.JsonParseError.{JsonParseError}
use Rattle.tinyjson.specs.declared.parser.error.ReadError.{ReadError}
use Rattle.tinyjson.specs.declared.parser.error.ReadError.TheVariants.{Parse, Events}
use Rattle.tinyjson_grammar.specs.Grammar.{IsText}
use Rattle.tinyjson_grammar.specs.Refusal.{IsInterrupted, MayGrow}
use Rattle.tinyjson_grammar.specs.Position.{advance}
use Rattle.tinyjson_grammar.specs.Tree.{Tree}
use Rattle.tinyjson.proofs.Reading.Parse.{all_are_scalars, held_interrupted}

-- nothing was consumed yet
interrupted_here : (limit : Option ℕ) → IsInterrupted limit []
interrupted_here limit =
    held_interrupted limit [] (all_are_scalars [] refl) (record { front = []; late = []; whole = refl; goes = tt; ends = tt })

module _ {E X : Type 0} (is : E → Tree → Type 0) (limit : Option ℕ) (xs : List ℕ) where
  -- what was built of the events
  pub told_text : {D : Type 0} (are : D → Tree → Type 0) (e : E) (d : D) → TellsEvents {X = X} is limit xs (Ok e)
      → ((t : Tree) → is e t → IsText limit xs t → are d t) → TellsText are limit xs (Ok d)
  told_text are e d h b = record {
    consumed = h.consumed;
    rest = h.rest;
    whole = h.whole;
    answer = (h.answer.0, h.answer.1, h.answer.2, b h.answer.1 h.answer.3 h.answer.2);
    refused = tt;
    broken_off = tt;
  }

  -- the error, of whatever was to be built
  pub told_error : {D : Type 0} (are : D → Tree → Type 0) (w : ReadError X) (p : JsonParseError) → TellsEvents is limit xs (Err w)
      → Becomes w p → TellsText are limit xs (Err p)
  unfolding advance
  told_error are (Parse e) p h b = subst (λ q. TellsText are limit xs (Err q)) (sym b) (record {
    consumed = h.consumed;
    rest = h.rest;
    whole = h.whole;
    answer = h.answer;
    refused = h.refused;
    broken_off = h.broken_off;
  })
  told_error are (Events x) p h b =
      let off = h.broken_off tt in
      record {
        consumed = [];
        rest = xs;
        whole = refl;
        answer = (b.1, λ n. absurd (n b.0));
        refused = λ n. absurd (n b.0);
        broken_off = λ _. record { place = interrupted_here limit; begun = subst (λ ys. MayGrow ys ⊎ MeetsLiteral ys) (sym h.whole) off.begun };
      }

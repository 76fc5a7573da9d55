-- Where out of memory may be returned.
use Rattle.std.proofs.Common.{◌≡◌, ℕ, List, [], ◌∷◌, ◌++◌, true, Result, Ok, Err, Some, IfErr, IsTrue, ap, ◌∙◌}
use Rattle.std.specs.List.{AllByRecursion}
use Rattle.tinyjson_grammar.specs.Characters.{is_white}
use Rattle.tinyjson_tokens.specs.Source.{Sight, Whites}
use Rattle.tinyjson.specs.private.Steps.{Grows}
use Rattle.tinyjson_grammar.specs.Refusal.{begins_growth}
use Rattle.tinyjson_grammar.specs.Syntax.{AreWhite}
use Rattle.tinyjson_grammar.specs.declared.error.JsonParseErrorKind.{JsonParseErrorKind}
use Rattle.tinyjson_grammar.specs.declared.error.JsonParseErrorKind.TheVariants.{OutOfMemory}

pub white_list : (ws : List ℕ) → AllByRecursion (λ c. is_white c ≡ true) ws → AreWhite ws
white_list [] h = tt
white_list (w ∷ ws) h = (h.0, white_list ws h.1)

module _ {S : Type 0} (sight : Sight S) where
  -- after white space is a character that begins a string, a number or a container
  pub grows_at : (p q : S) (c : ℕ) → Whites sight p q → sight.shows q (Some c) → IsTrue (begins_growth c) → Grows sight p
  grows_at p q c w s h = λ zs g.
      let x = w.takes.gives zs g in
      let f = sight.first q x.0 c s x.2 in
      record {
        before = w.taken;
        first = c;
        more = f.0;
        whole = x.1 ∙ ap (λ ys. w.taken ++ ys) f.1;
        white =
            white_list w.taken w.white;
        grows = h;
      }

  pub grows_text : {T : Type 0} (p q : S) (c : ℕ) (r : Result T JsonParseErrorKind) → Whites sight p q → sight.shows q (Some c)
      → IfErr r (λ k. k ≡ OutOfMemory → IsTrue (begins_growth c)) → IfErr r (λ k. k ≡ OutOfMemory → Grows sight p)
  grows_text p q c (Ok v) w s h = tt
  grows_text p q c (Err k) w s h = λ m. grows_at p q c w s (h m)

-- The theorem: the machine accepts exactly the texts, each with its one tree, and its errors say what they must.
use Rattle.std.proofs.Common.{◌≡◌, ℕ, List, [], ◌++◌, Option, sym, subst}
use Rattle.std.proofs.lemmas.List.{append_cancel_right}
use Rattle.std.specs.Prelude.{All, ◌↔◌}
use Rattle.std.specs.Char.{IsScalar}
use Rattle.tinyjson_grammar.specs.Machine.{strictly, awaited, accepted, refused, run}
use Rattle.tinyjson_grammar.specs.Tree.{Tree}
use Rattle.tinyjson_grammar.specs.Grammar.{IsText}
use Rattle.tinyjson_grammar.specs.Refusal.{IsRefusal}
use Rattle.tinyjson_grammar.specs.declared.error.JsonParseErrorKind.{JsonParseErrorKind}
use Rattle.tinyjson_grammar.proofs.Prefix.InRange.{ranges}
use Rattle.tinyjson_grammar.proofs.Sound.{accepted_text, refused_so}
use Rattle.tinyjson_grammar.proofs.Accepts.Text.{text_accepted}

pub accepts : (limit : Option ℕ) (xs : List ℕ) → All IsScalar xs → (t : Tree)
    → (run (strictly limit) [] awaited xs ≡ accepted t) ↔ IsText limit xs t
accepts limit xs h t = (accepted_text ranges limit xs h t, text_accepted limit xs t)

pub refuses : (limit : Option ℕ) (used rest : List ℕ) → All IsScalar (used ++ rest) → (k : JsonParseErrorKind)
    → run (strictly limit) [] awaited (used ++ rest) ≡ refused k rest → IsRefusal limit k used rest
refuses limit used rest h k e =
    let r = refused_so ranges limit (used ++ rest) h k rest e in
    subst (λ xs. IsRefusal limit k xs rest) (sym (append_cancel_right used r.0 rest r.1)) r.2

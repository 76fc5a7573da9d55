-- What a new parser returns, from what `parse` says.
use Rattle.std.proofs.Common.{◌≡◌, ℕ, List, [], ◌++◌, Option, Result, Ok, Err, ap, sym, ◌∙◌, subst, append-nil, arith, length}
use Rattle.std.proofs.Common.{length-append}
use Rattle.std.proofs.Math.Seq.{take-append_seam}
use Rattle.tinyjson.specs.Error.{error_position}
use Rattle.tinyjson_grammar.specs.Grammar.{IsText}
use Rattle.tinyjson.specs.Parser.{ParsesText}
use Rattle.tinyjson_grammar.specs.Position.{origin, advance}
use Rattle.tinyjson_grammar.specs.Prefix.{IsLooselyViable}
use Rattle.tinyjson_grammar.specs.Refusal.{RefusalSays}
use Rattle.tinyjson.specs.View.{view}
use Rattle.tinyjson.specs.declared.parser.error.JsonParseError.{JsonParseError}
use Rattle.tinyjson_grammar.specs.declared.error.JsonParseErrorKind.{JsonParseErrorKind}
use Rattle.tinyjson_grammar.specs.declared.error.JsonParseErrorKind.TheVariants as kind
use Rattle.tinyjson.specs.declared.value.JsonValue.{JsonValue}
use Rattle.tinyjson.proofs.Callers.{refused_text}
use Rattle.tinyjson_laws.specs.Headline.{FollowsGrammar, StopsAt, IsTimely}
use Rattle.tinyjson_laws.proofs.PrefixLaws.{viable_at_end, refused_not_too_soon, refused_not_too_late}
use Rattle.tinyjson_laws.proofs.ReadingLaws.{one_tree}
use Rattle.tinyjson_laws.proofs.RefusalLaws.{is_refusal}

pub follows_grammar : (limit : Option ℕ) (xs : List ℕ) (r : Result JsonValue JsonParseError) → ParsesText limit xs r
    → FollowsGrammar limit xs r
follows_grammar limit xs (Ok v) p = λ t. (λ h. one_tree limit xs t (view v) h p.answer.1, λ e. subst (IsText limit xs) (sym e) p.answer.1)
follows_grammar limit xs (Err e) p = λ n. refused_text limit xs e p n

memory_viable : (limit : Option ℕ) (k : JsonParseErrorKind) (used rest : List ℕ) → RefusalSays limit k used rest → k ≡ kind.OutOfMemory
    → IsLooselyViable limit used
memory_viable limit k used rest r o = (subst (λ j. RefusalSays limit j used rest) o r).0.viable

length_whole : (used rest : List ℕ) → rest ≡ [] → length used ≡ length (used ++ rest)
length_whole used rest e = ap length (sym (ap (λ ys. used ++ ys) e ∙ append-nil used))

stops_at : (limit : Option ℕ) (e : JsonParseError) (used rest : List ℕ) → RefusalSays limit e.kind used rest
    → error_position e ≡ advance origin used → StopsAt limit (used ++ rest) e (length used)
stops_at limit e used rest r p = record {
  within = let l = length-append used rest in omega (arith, l);
  position = p ∙ ap (advance origin) (sym (take-append_seam used rest));
  not_too_soon = λ n. (refused_not_too_soon limit e.kind used rest (is_refusal limit e.kind used rest n r)).1;
  at_end = λ n h. length_whole used rest (viable_at_end limit e.kind used rest (is_refusal limit e.kind used rest n r) h);
  not_too_late = refused_not_too_late limit e.kind used rest r;
  viable = λ o. subst (IsLooselyViable limit) (sym (take-append_seam used rest)) (memory_viable limit e.kind used rest r o);
}

pub timely : (limit : Option ℕ) (xs : List ℕ) (r : Result JsonValue JsonParseError) → ParsesText limit xs r → IsTimely limit xs r
timely limit xs (Ok v) p = tt
timely limit xs (Err e) p = (
  length p.consumed,
  subst (λ ys. StopsAt limit ys e (length p.consumed)) (sym p.whole) (stops_at limit e p.consumed p.rest p.answer.1 p.answer.0),
)

-- What is read is the one query of the text.
use Rattle.std.proofs.Common.{◌≡◌, ℕ, ◌≤◌, List, length, take, drop, Ok, Err, sym, ◌∙◌, subst, arith}
use Rattle.tinyjson_path_query.specs.declared.error.ParseError.{ParseError}
use Rattle.tinyjson_path_query.specs.declared.refusal.Refusal.{Refusal}
use Rattle.tinyjson_path_query.specs.declared.error.ParseErrorKind.TheVariants.{OutOfMemory}
use Rattle.tinyjson_path_query.specs.declared.refusal.Cause.TheVariants as cause
use Rattle.tinyjson_path_query.specs.declared.query.Query.{Query}
use Rattle.tinyjson_path_query.specs.Forms.{nesting_limit}
use Rattle.tinyjson_path_query.specs.Refusing.{Says}
use Rattle.tinyjson_path_query.specs.Reading.{IsReading, IsRefused, ReadsQuery}
use Rattle.tinyjson_path_query.proofs.Finds.{some_same, none_some}
use Rattle.tinyjson_path_query.proofs.Conditions.{query_sound}
use Rattle.tinyjson_path_query.proofs.Complete.{expression_faithful, query_complete}

pub reading : (xs cs : List ℕ) (q : Query) → xs ≡ cs → ReadsQuery nesting_limit xs (Ok q) → IsReading cs q
reading xs cs q e h = subst (λ zs. IsReading zs q) e (record {
  segments = h.0;
  text = (query_sound nesting_limit (expression_faithful nesting_limit).sound xs).at h.0 h.1;
  only = λ ss t. some_same (sym (query_complete nesting_limit xs ss t) ∙ h.1);
  same = h.2;
})

pub refused : (xs cs : List ℕ) (e : Refusal) (d : ParseError) → xs ≡ cs → ReadsQuery nesting_limit xs (Err e)
    → Says (take d.place xs) (drop d.place xs) d.kind → (e.cause ≡ cause.OutOfMemory → d.kind ≡ OutOfMemory) → d.place ≤ length xs
    → IsRefused cs d
refused xs cs e d s h k m l = subst (λ zs. IsRefused zs d) s (record {
  none = λ n ss t. none_some (sym (h (λ o. n (m o))) ∙ query_complete nesting_limit xs ss t);
  within = l;
  says = k;
})

pub no_characters : (cs : List ℕ) (d : ParseError) → d.kind ≡ OutOfMemory → d.place ≡ 0 → IsRefused cs d
no_characters cs d k p = record {
  none = λ n. absurd (n k);
  within = omega (arith, p);
  says = subst (Says (take d.place cs) (drop d.place cs)) (sym k) tt;
}

-- What is printed of nodes.
use Rattle.std.proofs.Common.{◌≡◌, ◌==◌, ℕ, true, false, not, List, [], ◌∷◌, ◌++◌, length, Bool, subst, Option, None}
use Rattle.std.proofs.Common.{Some, ◌||◌, Result, Ok, Err, inl, inr, refl, sym, ap, ◌∙◌, ⊎_elim, arith, suc, encode_utf8_all}
use Rattle.std.proofs.lemmas.Bool.Decides.{nat_tests}
use Rattle.std.proofs.KnownBytes.{Keeps-refl}
use Rattle.std.proofs.Math.Path.{fun_ext}
use Rattle.std.proofs.lemmas.Bool.{false≢true}
use Rattle.std.proofs.lemmas.Str.{encode_ascii}
use Rattle.std.specs.HashSet.{contains_text}
use Rattle.std.specs.Result.{IsErr}
use Rattle.std.specs.declared.io.Error.{Error}
use Rattle.tinyjson.proofs.Callers.{Appends_written}
use Rattle.tinyjson.specs.Tree.{Tree, null, boolean, number, string, array, object}
use Rattle.tinyjson.specs.Text.{compact}
use Rattle.tinyjson.specs.Written.{Written, WrittenPart}
use Rattle.tinyjson_document.specs.Parts.{string_in}
use Rattle.tinyjson_path.specs.Query.{Query}
use Rattle.tinyjson_path.specs.Nodes.{Part, Step, Takes, parts_view}
use Rattle.tinyjson_path.specs.Patterns.{judged}
use Rattle.tinyjson_path.specs.Queries.{is_some_part, query_parts}
use Rattle.tinyjson_path.specs.declared.node.Located.{Located}
use Rattle.tinyjson_path.specs.declared.patterns.PatternLimit.{PatternLimit}
use Rattle.json_path.specs.Selected.{Answers, GivesNodes, GivesParts, GivesRest, GivesSelected, is_answer, printed}
use Rattle.json_path.specs.Places.{has_path}
use Rattle.json_path.specs.Shapes.{begun, layout_text, raw_text}
use Rattle.json_path.specs.Without.{is_at, path_bytes, without}
use Rattle.json_path.specs.declared.places.Places.{Places}
use Rattle.json_path.specs.declared.selected.Form.{Form}
use Rattle.json_path.specs.declared.selected.Layout.{Layout}
use Rattle.json_path.specs.declared.selected.Unanswered.{Unanswered}
use Rattle.json_path.specs.declared.selected.Unanswered.TheVariants.{NoNode, NothingLeft, Pattern}
use Rattle.json_path.specs.declared.selected.Wanted.{Wanted}
use Rattle.json_path.specs.declared.selected.Wanted.TheVariants.{Selected, Rest}

pub some_parts : (ns : List Located) (n : ℕ) → n ≡ length ns → not (n == 0) ≡ is_some_part (parts_view ns)
some_parts [] n e = ap (λ k. not (k == 0)) e
some_parts (m ∷ ns) n e =
    let none : (suc (length ns) == 0) ≡ false = grind (arith, nat_tests) in
    ap (λ k. not (k == 0)) e ∙ ap not none

-- ---- nodes one by one

pub took : (old new : List Part) (o : Option Located) → Takes old new o → old ≡ begun o new
took old new (Some n) t = t
took old new None t = t.0

or_true : (b : Bool) → true ≡ (b || true)
or_true true = refl
or_true false = refl

or_false : (b : Bool) → b ≡ (b || false)
or_false true = refl
or_false false = refl

pub begun_some : (form : Form) (o : Option Located) (n : Located) (ps : List Part) → o ≡ Some n → true ≡ is_answer form (begun o ps)
begun_some form o n ps e = or_true form.or_none ∙ ap (λ q. is_answer form (begun q ps)) (sym e)

pub begun_none : (form : Form) (o : Option Located) (ps : List Part) → o ≡ None → form.or_none ≡ is_answer form (begun o ps)
begun_none form o ps e = or_false form.or_none ∙ ap (λ q. is_answer form (begun q ps)) (sym e)

-- ---- a string

pub raw_string : (l : Layout) (t : Tree) (cs : List ℕ) → string_in t ≡ Some cs → encode_utf8_all cs ≡ encode_utf8_all (raw_text l t)
raw_string l (string ds) cs h = let same : cs ≡ ds = cc in ap encode_utf8_all same
raw_string l null cs h = cc
raw_string l (boolean b) cs h = cc
raw_string l (number n) cs h = cc
raw_string l (array ts) cs h = cc
raw_string l (object ms) cs h = cc

pub raw_other : (l : Layout) (t : Tree) → string_in t ≡ None → encode_utf8_all (layout_text l t) ≡ encode_utf8_all (raw_text l t)
raw_other l (string ds) h = cc
raw_other l null h = refl
raw_other l (boolean b) h = refl
raw_other l (number n) h = refl
raw_other l (array ts) h = refl
raw_other l (object ms) h = refl

-- ---- the answer

module _ (form : Form) (ps : List Part) (old new : Option (List ℕ)) where
  pub none_selected : is_answer form ps ≡ false → Answers (GivesSelected form ps) old old (Ok (Some NoNode))
  none_selected e = (e, Keeps-refl old)

  pub nodes_written : is_answer form ps ≡ true → Written old new (printed form ps) [] → Answers (GivesSelected form ps) old new (Ok None)
  nodes_written e w = (printed form ps, (e, refl), Appends_written old new _ w)

  pub nodes_begun : (r : Result (Option Unanswered) Error) → is_answer form ps ≡ true → IsErr r → WrittenPart old new (printed form ps)
      → Answers (GivesSelected form ps) old new r
  nodes_begun (Ok x) e i w = absurd (false≢true i)
  nodes_begun (Err x) e i w = inr (printed form ps, (e, refl), w)

module _ (wanted : Wanted) (q : Query) (old new : Option (List ℕ)) (t : Tree) where
  pub of_parts : (ps : List Part) (r : Result (Option Unanswered) Error) → ps ≡ query_parts judged q t
      → Answers (GivesParts wanted t ps) old new r → Answers (GivesNodes judged wanted q t) old new r
  of_parts ps (Ok None) p w = (w.0, subst (λ z. GivesParts wanted t z (Ok w.0)) p w.1, w.2)
  of_parts ps (Ok (Some NoNode)) p w = (subst (λ z. GivesParts wanted t z (Err NoNode)) p w.0, w.1)
  of_parts ps (Ok (Some NothingLeft)) p w = (subst (λ z. GivesParts wanted t z (Err NothingLeft)) p w.0, w.1)
  of_parts ps (Ok (Some (Pattern l))) p w = absurd (no_pattern wanted ps l w.0)
    where
      no_pattern : (w : Wanted) (ps : List Part) (l : PatternLimit) → GivesParts w t ps (Err (Pattern l)) → ⊥
      no_pattern (Selected form) ps l h = h
      no_pattern Rest ps l h = h
  of_parts ps (Err e) p w = ⊎_elim (λ k. inl k) (λ k. inr (k.0, subst (λ z. GivesParts wanted t z (Ok k.0)) p k.1, k.2)) w

-- ---- the rest

root_bytes : path_bytes [] ≡ 36 ∷ []
root_bytes = ap (λ w. w ++ []) (encode_ascii 36 (omega arith))

pub root_given : (p : Places) (ps : List Part) (b c : Bool) → ((path : List Step) → has_path p path ≡ is_at ps path)
    → b ≡ contains_text p.paths (36 ∷ []) → b ≡ c → is_at ps [] ≡ c
root_given p ps b c same e f = sym (same []) ∙ ap (contains_text p.paths) root_bytes ∙ sym e ∙ f

abbrev pub line_left : Places → Tree → List ℕ
line_left p t = encode_utf8_all (compact (without (has_path p) [] t)) ++ 10 ∷ []

same_line : (p : Places) (ps : List Part) (t : Tree) → ((path : List Step) → has_path p path ≡ is_at ps path)
    → line_left p t ≡ encode_utf8_all (compact (without (is_at ps) [] t)) ++ 10 ∷ []
same_line p ps t same = ap (λ gone. encode_utf8_all (compact (without gone [] t)) ++ 10 ∷ []) (fun_ext same)

pub rest_written : (p : Places) (ps : List Part) (t : Tree) (old new : Option (List ℕ))
    → ((path : List Step) → has_path p path ≡ is_at ps path) → is_at ps [] ≡ false → Written old new (line_left p t) []
    → Answers (GivesRest t ps) old new (Ok None)
rest_written p ps t old new same e w = (line_left p t, (e, same_line p ps t same), Appends_written old new _ w)

pub rest_begun : (p : Places) (ps : List Part) (t : Tree) (old new : Option (List ℕ)) (r : Result (Option Unanswered) Error)
    → ((path : List Step) → has_path p path ≡ is_at ps path) → is_at ps [] ≡ false → IsErr r → WrittenPart old new (line_left p t)
    → Answers (GivesRest t ps) old new r
rest_begun p ps t old new (Ok x) same e i w = absurd (false≢true i)
rest_begun p ps t old new (Err x) same e i w = inr (line_left p t, (e, same_line p ps t same), w)

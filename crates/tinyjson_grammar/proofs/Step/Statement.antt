-- What one step must establish: what comes of a character.
use Rattle.std.proofs.Common.{suc, ◌≡◌, ℕ, ◌+◌, Bool, true, false, List, [], ◌∷◌, ◌++◌, Option, refl, ap, sym, ◌∙◌, cond, append_assoc}
use Rattle.std.proofs.Common.{append-nil, subst, ◌⊎◌, inl, inr, ◌==◌}
use Rattle.std.proofs.lemmas.Bool.{cond_both, eqb-true}
use Rattle.tinyjson_grammar.specs.Machine.{strictly, Frame, Phase, Rules, Next, next, stop, run, accepted}
use Rattle.tinyjson_grammar.specs.Kind.{kind_of}
use Rattle.tinyjson_grammar.specs.Syntax.{Syntax, text, is_key, depth, IsWithin, tree_of}
use Rattle.tinyjson_grammar.specs.Prefix.{IsValue, Pair, pairs_before, pair_text, IsViable, IsLooselyViable}
use Rattle.tinyjson_grammar.specs.Tree.{Tree}
use Rattle.tinyjson_grammar.specs.declared.error.JsonParseErrorKind.{JsonParseErrorKind}
use Rattle.tinyjson_grammar.specs.declared.error.JsonParseErrorKind.TheVariants.{KeyNotString}
use Rattle.tinyjson_grammar.specs.Refusal.{KindSays, AwaitsValue, EndsBefore}
use Rattle.tinyjson_grammar.specs.Grammar.{IsAccepted}
use Rattle.tinyjson_grammar.proofs.Trace.Paths.{Path, key_in, path_text, level, IsPath, closes, closing}
use Rattle.tinyjson_grammar.proofs.Prefix.ErrorFree.{error_free}
use Rattle.tinyjson_grammar.proofs.Prefix.Loose.{is_own}
use Rattle.tinyjson_grammar.proofs.Step.Awaits.{awaits_value}
use Rattle.tinyjson_grammar.proofs.Trace.State.{Spells, loosely_from}

-- ---- what cannot come

abbrev pub loosely : Option ℕ → Rules
loosely limit = record { strict = false; limit = limit }

abbrev pub NoQuoteFrom : Option ℕ → List Frame → Phase → Type 0
NoQuoteFrom limit fs q = (ys : List ℕ) (t : Tree) → run (loosely limit) fs q (34 ∷ ys) ≡ accepted t → ⊥

abbrev pub AcceptsNoneFrom : Option ℕ → List Frame → Phase → Type 0
AcceptsNoneFrom limit fs q = (ys : List ℕ) (t : Tree) → run (strictly limit) fs q ys ≡ accepted t → ⊥

-- What cannot follow what was used, where the machine stands so after it.
pub record Denies (limit : Option ℕ) (used : List ℕ) (fs : List Frame) (q : Phase) : Type 0 where
  pub no_quote : NoQuoteFrom limit fs q → ¬ IsLooselyViable limit (used ++ 34 ∷ [])
  pub unviable : AcceptsNoneFrom limit fs q → ¬ IsViable (IsAccepted limit) used

-- What is denied where the machine stops with its last character.
pub record IsUnviable (limit : Option ℕ) (used : List ℕ) (k : JsonParseErrorKind) : Type 0 where
  pub unviable : ¬ IsViable (IsAccepted limit) used
  pub loosely : is_own k ≡ false → ¬ IsLooselyViable limit used

-- What comes of a character after what was used.
abbrev pub Follows : Option ℕ → List ℕ → List Frame → Phase → ℕ → Next → Type 0
Follows limit used fs q c (next gs p) = Spells limit (used ++ c ∷ []) gs p
Follows limit used fs q c (stop k true) =
    (more : List ℕ) → Denies limit used fs q → IsUnviable limit (used ++ c ∷ []) k → KindSays limit k (used ++ c ∷ []) more
Follows limit used fs q c (stop k false) = (more : List ℕ) → Denies limit used fs q → KindSays limit k used (c ∷ more)

pub either : (limit : Option ℕ) (used : List ℕ) (fs : List Frame) (q : Phase) (c : ℕ) (b : Bool) (x y : Next)
    → (b ≡ true → Follows limit used fs q c x) → (b ≡ false → Follows limit used fs q c y) → Follows limit used fs q c (cond b x y)
either limit used fs q c b x y = cond_both b x y (Follows limit used fs q c)

pub at_code : (limit : Option ℕ) (used : List ℕ) (fs : List Frame) (q : Phase) (c n : ℕ) (x y : Next)
    → (c ≡ n → Follows limit used fs q c x) → ((c == n) ≡ false → Follows limit used fs q c y)
    → Follows limit used fs q c (cond (c == n) x y)
at_code limit used fs q c n x y f g = either limit used fs q c (c == n) x y (λ e. f (eqb-true c n e)) g

-- ---- a value is complete

pub last_comma : (ps : List Pair) (p : Pair) → (prefix : List ℕ) × (pairs_before (p ∷ ps) ≡ prefix ++ 44 ∷ [])
last_comma [] p = (pair_text p, refl)
last_comma (q ∷ ps) p = let r = last_comma ps q in (pair_text p ++ 44 ∷ r.0, rw r.1 (simp append_assoc))

abbrev pub Opener : List ℕ → Type 0
Opener xs = (prefix : List ℕ) × (o : ℕ) × ((o ≡ 123) ⊎ (o ≡ 44)) × (xs ≡ prefix ++ o ∷ [])

pub opener : (xs : List ℕ) (ps : List Pair) → Opener (xs ++ 123 ∷ pairs_before ps)
opener xs [] = (xs, 123, inl refl, refl)
opener xs (p ∷ ps) = let r = last_comma ps p in (xs ++ 123 ∷ r.0, 44, inr refl, rw r.1 (simp append_assoc))

pub regroup : (a b c d : List ℕ) → (a ++ (b ++ c)) ++ d ≡ (a ++ b) ++ (c ++ d)
regroup a b c d = simp append_assoc

pub key_says : (limit : Option ℕ) (p : Path) (ps : List Pair) (w : List ℕ) → IsPath limit (key_in p ps w) → (s : Syntax) → IsValue s
    → is_key s ≡ false → IsWithin limit (suc (level p) + depth s) →
    (used : List ℕ) → used ≡ path_text (key_in p ps w) ++ text s → (rest : List ℕ) → EndsBefore s rest →
    ¬ IsViable (IsAccepted limit) used → KindSays limit (KeyNotString (kind_of (tree_of s))) used rest
key_says limit p ps w hp s hs hk hd used e rest b u =
    let o : Opener (path_text p ++ 123 ∷ pairs_before ps) = opener (path_text p) ps in
    let used_is : used ≡ o.0 ++ o.1 ∷ (w ++ text s) = e
    ∙ (regroup (path_text p) (123 ∷ pairs_before ps) w (text s)
    ∙ (ap (λ xs. xs ++ (w ++ text s)) o.3 ∙ append_assoc o.0 (o.1 ∷ []) (w ++ text s))) in
    let place_is : path_text (key_in p ps w) ≡ o.0 ++ o.1 ∷ w = sym (append_assoc (path_text p) (123 ∷ pairs_before ps) w)
    ∙ (ap (λ xs. xs ++ w) o.3 ∙ append_assoc o.0 (o.1 ∷ []) w) in (
      (
        o.0,
        w,
        o.1,
        s,
        o.2,
        hp.2,
        hs.spelled,
        hs.strict,
        hk,
        refl,
        used_is,
        subst (AwaitsValue limit) place_is (awaits_value limit (key_in p ps w) hp),
        b,
      ),
      (
        rw e (rw (sym (append-nil (text s))) (error_free limit (key_in p ps w) hp s hs hd [] tt (inr (hk, refl)))),
        rw e (loosely_from limit _ (48 ∷ 125 ∷ closing p) (simp append_assoc) (closes limit (key_in p ps w) hp s hs.spelled hd [] tt)),
        u,
      ),
    )

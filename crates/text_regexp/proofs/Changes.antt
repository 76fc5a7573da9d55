-- Trees whose parts have changed.
use Rattle.std.proofs.Common.{◌≡◌, ◌≢◌, ℕ, Bool, ◌&&◌, ◌||◌, ◌==◌, cond, List, Option, ap, refl, subst, sym, ◌∙◌}
use Rattle.std.proofs.lemmas.Bool.{ne_eqb}
use Rattle.text_regexp.specs.Marked.{IsCopy, behind, ends_here, first, is_marked, placed, rest, shifted, skips, standing}
use Rattle.text_regexp.specs.declared.marked.Node.{Node}
use Rattle.text_regexp.specs.declared.marked.Node.TheVariants.{Concat', Alternation', Star'}

pub shifted_concat : {p q : _} (start : Bool) (c : ℕ) (n l r l' r' : Node) (le re ends lm rm ends' lm' rm' : Bool)
    → n ≡ Concat' p l q r le re ends lm rm → l' ≡ shifted start c l → r' ≡ shifted (ends || (start && le)) c r
    → ends' ≡ ends_here l' → lm' ≡ is_marked l' → rm' ≡ is_marked r' → Concat' p l' q r' le re ends' lm' rm' ≡ shifted start c n
shifted_concat start c n l r l' r' le re ends lm rm ends' lm' rm' is left right e m k =
    rw (e, m, k, left, right) (sym (ap (shifted start c) is))

pub shifted_alternation : {p q : _} (start : Bool) (c : ℕ) (n l r l' r' : Node) (lm rm lm' rm' : Bool)
    → n ≡ Alternation' p l q r lm rm → l' ≡ shifted start c l → r' ≡ shifted start c r
    → lm' ≡ is_marked l' → rm' ≡ is_marked r' → Alternation' p l' q r' lm' rm' ≡ shifted start c n
shifted_alternation start c n l r l' r' lm rm lm' rm' is left right m k = rw (m, k, left, right) (sym (ap (shifted start c) is))

pub shifted_star : {p : _} (start : Bool) (c : ℕ) (n b b' : Node) (ends ends' : Bool)
    → n ≡ Star' p b ends → b' ≡ shifted (start || ends) c b → ends' ≡ ends_here b' → Star' p b' ends' ≡ shifted start c n
shifted_star start c n b b' ends ends' is body e = rw (e, body) (sym (ap (shifted start c) is))

pub standing_concat : {p q : _} (b a : Option ℕ) (n l r l' r' : Node) (le re ends lm rm le' re' ends' : Bool)
    → n ≡ Concat' p l q r le re ends lm rm → l' ≡ standing b a l → r' ≡ standing b a r
    → le' ≡ skips l' → re' ≡ skips r' → ends' ≡ ends_here l' → Concat' p l' q r' le' re' ends' lm rm ≡ standing b a n
standing_concat b a n l r l' r' le re ends lm rm le' re' ends' is left right k m e =
    rw (k, m, e, left, right) (sym (ap (standing b a) is))

pub standing_alternation : {p q : _} (b a : Option ℕ) (n l r l' r' : Node) (lm rm : Bool)
    → n ≡ Alternation' p l q r lm rm → l' ≡ standing b a l → r' ≡ standing b a r → Alternation' p l' q r' lm rm ≡ standing b a n
standing_alternation b a n l r l' r' lm rm is left right = rw (left, right) (sym (ap (standing b a) is))

pub standing_star : {p : _} (b a : Option ℕ) (n m m' : Node) (ends ends' : Bool)
    → n ≡ Star' p m ends → m' ≡ standing b a m → ends' ≡ ends_here m' → Star' p m' ends' ≡ standing b a n
standing_star b a n m m' ends ends' is body e = rw (e, body) (sym (ap (standing b a) is))

-- ---- marks of a list

past_first : {A : Type 0} (f : ℕ) (ms : List ℕ) (x y : A) → f ≡ first ms → f ≢ 0 → cond (first ms == 0) x y ≡ y
past_first f ms x y e some = ap (λ b. cond b x y) (ne_eqb (first ms) 0 (λ z. some (e ∙ z)))

pub placed_concat : {p q : _} (n l r l' r' : Node) (ms us vs : List ℕ) (f : ℕ) (le re ends lm rm ends' lm' rm' : Bool)
    → n ≡ Concat' p l q r le re ends lm rm → f ≡ first ms → f ≢ 0 → us ≡ rest ms → l' ≡ placed l us → vs ≡ behind l us
    → r' ≡ placed r vs → ends' ≡ ends_here l' → lm' ≡ is_marked l' → rm' ≡ is_marked r'
    → Concat' p l' q r' le re ends' lm' rm' ≡ placed n ms
placed_concat n l r l' r' ms us vs f le re ends lm rm ends' lm' rm' is e some u left v right g m k =
    rw (g, m, k, left, right, v, u) (sym (past_first f ms _ _ e some) ∙ sym (ap (λ x. placed x ms) is))

pub behind_concat : {p q : _} (n l r : Node) (ms us vs ws : List ℕ) (f : ℕ) (le re ends lm rm : Bool)
    → n ≡ Concat' p l q r le re ends lm rm → f ≡ first ms → f ≢ 0 → us ≡ rest ms → vs ≡ behind l us → ws ≡ behind r vs
    → ws ≡ behind n ms
behind_concat n l r ms us vs ws f le re ends lm rm is e some u v w =
    rw (w, v, u) (sym (past_first f ms _ _ e some) ∙ sym (ap (λ x. behind x ms) is))

pub placed_alternation : {p q : _} (n l r l' r' : Node) (ms us vs : List ℕ) (f : ℕ) (lm rm lm' rm' : Bool)
    → n ≡ Alternation' p l q r lm rm → f ≡ first ms → f ≢ 0 → us ≡ rest ms → l' ≡ placed l us → vs ≡ behind l us
    → r' ≡ placed r vs → lm' ≡ is_marked l' → rm' ≡ is_marked r' → Alternation' p l' q r' lm' rm' ≡ placed n ms
placed_alternation n l r l' r' ms us vs f lm rm lm' rm' is e some u left v right m k =
    rw (m, k, left, right, v, u) (sym (past_first f ms _ _ e some) ∙ sym (ap (λ x. placed x ms) is))

pub behind_alternation : {p q : _} (n l r : Node) (ms us vs ws : List ℕ) (f : ℕ) (lm rm : Bool)
    → n ≡ Alternation' p l q r lm rm → f ≡ first ms → f ≢ 0 → us ≡ rest ms → vs ≡ behind l us → ws ≡ behind r vs
    → ws ≡ behind n ms
behind_alternation n l r ms us vs ws f lm rm is e some u v w =
    rw (w, v, u) (sym (past_first f ms _ _ e some) ∙ sym (ap (λ x. behind x ms) is))

-- ---- copies

-- the value that was copied is in a box
pub copied : (n value copy boxed : Node) → value ≡ n → boxed ≡ copy → IsCopy value copy → IsCopy n boxed
copied n value copy boxed e f = λ h. subst (IsCopy n) (sym f) (subst (λ x. IsCopy x copy) e h)

pub copy_concat : {p q p' q' : _} (n l r l' r' : Node) (le re ends lm rm : Bool) → n ≡ Concat' p l q r le re ends lm rm
    → IsCopy l l' → IsCopy r r' → IsCopy n (Concat' p' l' q' r' le re ends lm rm)
copy_concat {p} {q} {p'} {q'} n l r l' r' le re ends lm rm is left right =
    subst (λ x. IsCopy x (Concat' p' l' q' r' le re ends lm rm)) (sym is) record {
      form = rw (left.form, right.form) refl;
      skipped = rw (left.skipped, right.skipped) refl;
      ended = rw (left.ended, right.ended) refl;
      marked = refl;
      plain = rw (left.plain, right.plain) refl;
      kept = λ k. (
        k.0 ∙ sym left.skipped,
        k.1 ∙ sym right.skipped,
        k.2 ∙ sym left.ended,
        left.kept k.3,
        right.kept k.4,
        k.5 ∙ sym left.marked,
        k.6 ∙ sym right.marked,
      );
      stood = λ b a h. (left.stood b a h.0, right.stood b a h.1);
    }

pub copy_alternation : {p q p' q' : _} (n l r l' r' : Node) (lm rm : Bool) → n ≡ Alternation' p l q r lm rm
    → IsCopy l l' → IsCopy r r' → IsCopy n (Alternation' p' l' q' r' lm rm)
copy_alternation {p} {q} {p'} {q'} n l r l' r' lm rm is left right =
    subst (λ x. IsCopy x (Alternation' p' l' q' r' lm rm)) (sym is) record {
      form = rw (left.form, right.form) refl;
      skipped = rw (left.skipped, right.skipped) refl;
      ended = rw (left.ended, right.ended) refl;
      marked = refl;
      plain = rw (left.plain, right.plain) refl;
      kept = λ k. (left.kept k.0, right.kept k.1, k.2 ∙ sym left.marked, k.3 ∙ sym right.marked);
      stood = λ b a h. (left.stood b a h.0, right.stood b a h.1);
    }

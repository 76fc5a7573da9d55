-- What a tree keeps, as a fact and as a test; and what a tree without marks keeps.
use Rattle.std.proofs.Common.{◌≡◌, ℕ, Option, Bool, true, false, ◌&&◌, not, refl, sym, ap, ◌∙◌, subst, true≢false}
use Rattle.std.proofs.lemmas.Bool.{and_parts, and_from}
use Rattle.text_regexp.specs.Forms.{holds}
use Rattle.text_regexp.specs.Marked.{skips, ends_here, is_marked, IsKept, is_kept, same_bool, IsCopy, cleared, is_plain}
use Rattle.text_regexp.specs.Marked.{is_standing, Stands}
use Rattle.text_regexp.proofs.Marking.{ends_unmarked}
use Rattle.text_regexp.proofs.Running.{kept_cleared, marked_cleared}
use Rattle.text_regexp.specs.declared.marked.Node.{Node}
use Rattle.text_regexp.specs.declared.marked.Node.TheVariants.{Empty, Class, Assert, Concat', Alternation', Star', UpTo}

pub same_true : (a b : Bool) → same_bool a b ≡ true → a ≡ b
same_true true b h = sym h
same_true false true h = absurd (true≢false (sym h))
same_true false false h = refl

same_from : (a b : Bool) → a ≡ b → same_bool a b ≡ true
same_from true b e = sym e
same_from false b e = ap not (sym e)

pub kept_from : (n : Node) → is_kept n ≡ true → IsKept n
kept_from Empty h = tt
kept_from (Class cl mark) h = tt
kept_from (Assert kind held) h = tt
kept_from (Concat' p l q r le re ends lm rm) h =
    let a = and_parts (same_bool le (skips l)) _ h in
    let b = and_parts (same_bool re (skips r)) _ a.1 in
    let c = and_parts (same_bool ends (ends_here l)) _ b.1 in
    let d = and_parts (is_kept l) _ c.1 in
    let e = and_parts (is_kept r) _ d.1 in
    let f = and_parts (same_bool lm (is_marked l)) (same_bool rm (is_marked r)) e.1 in (
      same_true le (skips l) a.0,
      same_true re (skips r) b.0,
      same_true ends (ends_here l) c.0,
      kept_from l d.0,
      kept_from r e.0,
      same_true lm (is_marked l) f.0,
      same_true rm (is_marked r) f.1,
    )
kept_from (Alternation' p l q r lm rm) h =
    let d = and_parts (is_kept l) _ h in
    let e = and_parts (is_kept r) _ d.1 in
    let f = and_parts (same_bool lm (is_marked l)) (same_bool rm (is_marked r)) e.1 in
    (kept_from l d.0, kept_from r e.0, same_true lm (is_marked l) f.0, same_true rm (is_marked r) f.1)
kept_from (Star' p b ends) h = let d = and_parts (same_bool ends (ends_here b)) (is_kept b) h in
    (same_true ends (ends_here b) d.0, kept_from b d.1)
kept_from (UpTo cl most left) h = h

pub kept_to : (n : Node) → IsKept n → is_kept n ≡ true
kept_to Empty k = refl
kept_to (Class cl mark) k = refl
kept_to (Assert kind held) k = refl
kept_to (Concat' p l q r le re ends lm rm) k =
    and_from (same_bool le (skips l)) _ (same_from le (skips l) k.0)
    (and_from (same_bool re (skips r)) _ (same_from re (skips r) k.1)
    (and_from (same_bool ends (ends_here l)) _ (same_from ends (ends_here l) k.2)
    (and_from (is_kept l) _ (kept_to l k.3)
    (and_from (is_kept r) _ (kept_to r k.4)
    (and_from (same_bool lm (is_marked l)) _ (same_from lm (is_marked l) k.5) (same_from rm (is_marked r) k.6))))))
kept_to (Alternation' p l q r lm rm) k =
    and_from (is_kept l) _ (kept_to l k.0)
    (and_from (is_kept r) _ (kept_to r k.1)
    (and_from (same_bool lm (is_marked l)) _ (same_from lm (is_marked l) k.2) (same_from rm (is_marked r) k.3)))
kept_to (Star' p b ends) k = and_from (same_bool ends (ends_here b)) (is_kept b) (same_from ends (ends_here b) k.0) (kept_to b k.1)
kept_to (UpTo cl most left) k = k

-- ---- trees of trees without marks

-- what a choice keeps
abbrev pub keeps_each : Node → Node → Bool
keeps_each l r = is_kept l && (is_kept r && (same_bool false (is_marked l) && same_bool false (is_marked r)))

-- what a sequence keeps
abbrev pub keeps_both : Node → Node → Bool → Bool → Bool
keeps_both l r le re = same_bool le (skips l) && (same_bool re (skips r) && (same_bool false (ends_here l)
    && keeps_each l r))

each_kept : (l r : Node) → is_kept l ≡ true → is_marked l ≡ false → is_kept r ≡ true → is_marked r ≡ false → keeps_each l r ≡ true
each_kept l r kl ul kr ur =
    and_from (is_kept l) _ kl
    (and_from (is_kept r) _ kr
    (and_from (same_bool false (is_marked l)) _ (same_from false (is_marked l) (sym ul)) (same_from false (is_marked r) (sym ur))))

pub kept_concat : (l r l' r' : Node) (le re : Bool) → l' ≡ l → r' ≡ r → is_kept l ≡ true → is_marked l ≡ false → is_kept r ≡ true
    → is_marked r ≡ false → le ≡ skips l → re ≡ skips r → keeps_both l' r' le re ≡ true
kept_concat l r l' r' le re el er kl ul kr ur e f =
    subst (λ n. keeps_both n r' le re ≡ true) (sym el) (subst (λ m. keeps_both l m le re ≡ true) (sym er)
    (and_from (same_bool le (skips l)) _ (same_from le (skips l) e)
    (and_from (same_bool re (skips r)) _ (same_from re (skips r) f)
    (and_from (same_bool false (ends_here l)) _ (same_from false (ends_here l) (sym (ends_unmarked l (kept_from l kl) ul)))
    (each_kept l r kl ul kr ur)))))

pub kept_alternation : (l r l' r' : Node) → l' ≡ l → r' ≡ r → is_kept l ≡ true → is_marked l ≡ false → is_kept r ≡ true
    → is_marked r ≡ false → keeps_each l' r' ≡ true
kept_alternation l r l' r' el er kl ul kr ur =
    subst (λ n. keeps_each n r' ≡ true) (sym el) (subst (λ m. keeps_each l m ≡ true) (sym er) (each_kept l r kl ul kr ur))

pub kept_star : (b b' : Node) → b' ≡ b → is_kept b ≡ true → is_marked b ≡ false → (same_bool false (ends_here b') && is_kept b') ≡ true
kept_star b b' e k u =
    subst (λ n. (same_bool false (ends_here n) && is_kept n) ≡ true) (sym e)
    (and_from (same_bool false (ends_here b)) (is_kept b) (same_from false (ends_here b) (sym (ends_unmarked b (kept_from b k) u))) k)

pub kept_copy : (n m : Node) → IsCopy n m → is_kept n ≡ true → is_kept m ≡ true
kept_copy n m c k = kept_to m (c.kept (kept_from n k))

-- a tree without marks, as it was cleared
pub kept_clear : (n m : Node) → IsKept n → m ≡ cleared n → is_kept m ≡ true
kept_clear n m k e = ap is_kept e ∙ kept_to (cleared n) (kept_cleared n k)

pub unmarked_clear : (n m : Node) → m ≡ cleared n → is_marked m ≡ false
unmarked_clear n m e = ap is_marked e ∙ marked_cleared n

-- ---- trees of trees that stand somewhere

pub plain_both : (l r l' r' : Node) (p q : Bool) → l' ≡ l → r' ≡ r → p ≡ is_plain l → q ≡ is_plain r
    → (p && q) ≡ (is_plain l' && is_plain r')
plain_both l r l' r' p q el er e f = (λ i. (e ∙ ap is_plain (sym el)) i && (f ∙ ap is_plain (sym er)) i)

pub stands_from : (b a : Option ℕ) (n : Node) → is_standing b a n ≡ true → Stands n b a
stands_from b a Empty h = tt
stands_from b a (Class cl mark) h = tt
stands_from b a (Assert kind held) h = same_true held (holds kind b a) h
stands_from b a (Concat' p l q r le re ends lm rm) h =
    let both = and_parts (is_standing b a l) (is_standing b a r) h in
    (stands_from b a l both.0, stands_from b a r both.1)
stands_from b a (Alternation' p l q r lm rm) h =
    let both = and_parts (is_standing b a l) (is_standing b a r) h in
    (stands_from b a l both.0, stands_from b a r both.1)
stands_from b a (Star' p d ends) h = stands_from b a d h
stands_from b a (UpTo cl most left) h = tt

pub stands_to : (b a : Option ℕ) (n : Node) → Stands n b a → is_standing b a n ≡ true
stands_to b a Empty s = refl
stands_to b a (Class cl mark) s = refl
stands_to b a (Assert kind held) s = same_from held (holds kind b a) s
stands_to b a (Concat' p l q r le re ends lm rm) s =
    and_from (is_standing b a l) (is_standing b a r) (stands_to b a l s.0) (stands_to b a r s.1)
stands_to b a (Alternation' p l q r lm rm) s =
    and_from (is_standing b a l) (is_standing b a r) (stands_to b a l s.0) (stands_to b a r s.1)
stands_to b a (Star' p d ends) s = stands_to b a d s
stands_to b a (UpTo cl most left) s = refl

pub standing_both : (l r l' r' : Node) (b a : Option ℕ) → l' ≡ l → r' ≡ r → is_standing b a l ≡ true → is_standing b a r ≡ true
    → (is_standing b a l' && is_standing b a r') ≡ true
standing_both l r l' r' b a el er s t =
    and_from (is_standing b a l') (is_standing b a r') (ap (is_standing b a) el ∙ s) (ap (is_standing b a) er ∙ t)

pub standing_copy : (n m : Node) (b a : Option ℕ) → IsCopy n m → is_standing b a n ≡ true → is_standing b a m ≡ true
standing_copy n m b a c s = stands_to b a m (c.stood b a (stands_from b a n s))

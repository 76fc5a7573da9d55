-- Which of two answers a truth value chooses.
use Rattle.std.proofs.Common.{◌≡◌, Bool, true, false, cond, Option, Some}

chosen : {A : Type 0} (b : Bool) (x z y : A) → b ≡ true → x ≡ z → x ≡ cond b z y
chosen true x z y t k = k
chosen false x z y t k = cc

passed : {A : Type 0} (b : Bool) (x z y : A) → b ≡ false → x ≡ y → x ≡ cond b z y
passed false x z y t k = k
passed true x z y t k = cc

-- the documents `d` are those of the draft `e`, which has what is looked for
pub taken : {A : Type 0} (f : A → Bool) (d e : A) (y : Option A) (r : Bool) → d ≡ e → r ≡ f d → r ≡ true
    → Some d ≡ cond (f e) (Some e) y
taken f d e y r k h t = chosen (f e) (Some d) (Some e) y (cc) (cc)

-- the draft has not what is looked for
pub past : {A : Type 0} (f : A → Bool) (d e : A) (x y : Option A) (r : Bool) → d ≡ e → r ≡ f d → r ≡ false → x ≡ y
    → x ≡ cond (f e) (Some e) y
past f d e x y r k h t same = passed (f e) x (Some e) y (cc) same

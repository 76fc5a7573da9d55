-- The fronts of texts are their tokens.
use Rattle.std.proofs.Common.{◌≡◌, ◌≢◌, ◌⊎◌, inl, inr, ℕ, zero, suc, ◌+◌, ◌-◌, ◌*◌, ◌<◌, ◌≤◌, Bool, true, false, not, ◌&&◌, ◌||◌, ◌==◌}
use Rattle.std.proofs.Common.{nat_le}
use Rattle.std.proofs.Common.{cond, List, [], ◌∷◌, ◌++◌, length, Option, Some, None, option_map, refl, sym, ap, ◌∙◌, subst, arith}
use Rattle.std.proofs.Common.{true≢false}
use Rattle.std.proofs.Common.{append_assoc, append-nil}
use Rattle.std.proofs.lemmas.Bool.{cond-true, cond-false, eqb-false, ne_eqb, eqb-true, leb-true, and_parts, and_from, or_parts, or_left}
use Rattle.std.proofs.lemmas.Bool.{not-true}
use Rattle.std.specs.Prelude.{option_and_then}
use Rattle.text_categories.specs.Categories.{from_to, named}
use Rattle.text_categories.specs.declared.Category.{Category}
use Rattle.text_regexp.specs.declared.class.Item.{Item}
use Rattle.text_regexp.specs.declared.class.Item.TheVariants.{Range, In, NotIn}
use Rattle.text_iregexp.specs.Grammar as is
use Rattle.text_iregexp.specs.Grammar.{Token, characters, opened, closed, bar, quantifier, one, any, is_one_of, is_normal}
use Rattle.text_iregexp.specs.Grammar.{is_plain, is_digit}
use Rattle.text_iregexp.specs.Grammar.{NameText, CategoryText, are_digits, number_on, escape_of, MemberText, ItemText, ItemsText, FirstText}
use Rattle.text_iregexp.specs.Grammar.{LastText}
use Rattle.text_iregexp.specs.Grammar.{CaretText}
use Rattle.text_iregexp.specs.Grammar.{begins_with_caret, Spells}
use Rattle.text_iregexp.specs.Fronts.{escape_front, member_front, up_to, range_end, range_front, item_front, closing, tail_front}
use Rattle.text_iregexp.specs.Fronts.{class_front}
use Rattle.text_iregexp.specs.Fronts.{first_front, bracket_front, digits_front, number_front, most_end, most_front, least_end, counts_front}
use Rattle.text_iregexp.specs.Fronts.{characters_front, named_front, second_front, name_front, signed_front, category_front}
use Rattle.text_iregexp.specs.Fronts.{is_category_letter}
use Rattle.text_iregexp.specs.Fronts.{begins_category, item_token, escape_token, one_front, token_front}
use Rattle.text_iregexp.specs.Levels.{IsFit}
use Rattle.text_iregexp.specs.Limits.{size_limit, LargeNumber, are_counts, LargeCount}
use Rattle.text_iregexp.proofs.TokenFronts.{item_shorter, tail_item, then_more, first_item, bracket_other}

pub record Front (xs : List ℕ) (t : Token) (ys : List ℕ) : Type 0 where
  pub cs : List ℕ
  pub split : xs ≡ cs ++ ys
  pub spelled : Spells cs t
  pub fit : IsFit t

pub spells_some : (cs : List ℕ) (t : Token) → Spells cs t → 0 < length cs
spells_some cs t is.opens = omega arith
spells_some cs t is.closes = omega arith
spells_some cs t is.parts = omega arith
spells_some cs t (is.normal c h) = omega arith
spells_some cs t is.dot = omega arith
spells_some cs t (is.escaped l c h) = omega arith
spells_some cs t (is.category (is.of n)) = omega arith
spells_some cs t (is.category (is.others n)) = omega arith
spells_some cs t (is.bracket a b c d e) = omega arith
spells_some cs t is.star = omega arith
spells_some cs t is.plus = omega arith
spells_some cs t is.question = omega arith
spells_some cs t (is.exactly c ds h k) = omega arith
spells_some cs t (is.at_least c ds h k) = omega arith
spells_some cs t (is.between c cs' d ds h k l m n) = omega arith

-- ---- what a front that is there comes from

pub some_same : {A : Type 0} {x y : A} → Some x ≡ Some y → x ≡ y
some_same h = cc

pub none_some : {A P : Type 0} {x : A} → None ≡ Some x → P
none_some h = cc

pub cond_cases : {A : Type 0} (b : Bool) (x y : Option A) (v : A) → cond b x y ≡ Some v
    → ((b ≡ true) × (x ≡ Some v)) ⊎ ((b ≡ false) × (y ≡ Some v))
cond_cases true x y v e = inl (refl, e)
cond_cases false x y v e = inr (refl, e)

pub then_cases : {A B : Type 0} (f : A → Option B) (o : Option A) (v : B) → option_and_then f o ≡ Some v
    → (p : A) × (o ≡ Some p) × (f p ≡ Some v)
then_cases f None v e = none_some e
then_cases f (Some p) v e = (p, refl, e)

pub map_cases : {A B : Type 0} (f : A → B) (o : Option A) (v : B) → option_map f o ≡ Some v → (p : A) × (o ≡ Some p) × (f p ≡ v)
map_cases f None v e = none_some e
map_cases f (Some p) v e = (p, refl, some_same e)

escape_sound : (xs : List ℕ) (c : ℕ) (ys : List ℕ) → escape_front xs ≡ Some (c, ys) → (l : ℕ) × (xs ≡ l ∷ ys) × (escape_of l ≡ Some c)
escape_sound [] c ys e = none_some e
escape_sound (l ∷ cs) c ys e =
    let m = map_cases (λ d. let p : ℕ × List ℕ = (d, cs) in p) (escape_of l) (c, ys) e in
    (l, ap (λ zs. l ∷ zs) (ap (λ p. p.1) m.2), m.1 ∙ ap (λ p. Some p.0) m.2)

record MemberFront (xs : List ℕ) (c : ℕ) (ys : List ℕ) : Type 0 where
  cs : List ℕ
  split : xs ≡ cs ++ ys
  member : MemberText cs c

member_sound : (xs : List ℕ) (c : ℕ) (ys : List ℕ) → member_front xs ≡ Some (c, ys) → MemberFront xs c ys
member_sound [] c ys e = none_some e
member_sound (x ∷ cs) c ys e =
    elim (cond_cases (x == 92) (escape_front cs) (cond (is_plain x) (Some (x, cs)) None) (c, ys) e) [
      | inl a ↦
          let s = escape_sound cs c ys a.1 in
          record {
            cs = 92 ∷ s.0 ∷ [];
            split = ap (λ y. y ∷ cs) (eqb-true x 92 a.0) ∙ ap (λ zs. 92 ∷ zs) s.1;
            member = is.escaped s.0 c s.2;
          }
      | inr b ↦ elim (cond_cases (is_plain x) (Some (x, cs)) None (c, ys) b.1) [
        | inl p ↦
            let same = some_same p.1 in
            record {
              cs = x ∷ [];
              split = ap (λ q. x ∷ q.1) same;
              member = subst (λ d. MemberText (x ∷ []) d) (ap (λ q. q.0) same) (is.plain x p.0);
            }
        | inr q ↦ none_some q.1
      ]
    ]

record ItemFront (xs : List ℕ) (r : Item) (ys : List ℕ) : Type 0 where
  cs : List ℕ
  split : xs ≡ cs ++ ys
  item : ItemText cs r

single_front : (xs : List ℕ) (c : ℕ) (zs : List ℕ) (r : Item) (ys : List ℕ) → MemberFront xs c zs
    → ◌≡◌ {A = Item × List ℕ} (Range c c, zs) (r, ys) → ItemFront xs r ys
single_front xs c zs r ys m same = record {
  cs = m.cs;
  split = m.split ∙ ap (λ q. m.cs ++ q.1) same;
  item = subst (ItemText m.cs) (ap (λ q. q.0) same) (is.single m.member);
}

range_sound : (xs : List ℕ) (c : ℕ) (zs : List ℕ) (r : Item) (ys : List ℕ) → MemberFront xs c zs → range_front c zs ≡ Some (r, ys)
    → ItemFront xs r ys
range_sound xs c [] r ys m e = single_front xs c [] r ys m (some_same e)
range_sound xs c (d ∷ []) r ys m e =
    elim (cond_cases (d == 45) None (Some (Range c c, d ∷ [])) (r, ys) e) [
      | inl a ↦ none_some a.1
      | inr b ↦ single_front xs c (d ∷ []) r ys m (some_same b.1)
    ]
range_sound xs c (d ∷ f ∷ fs) r ys m e =
    elim (cond_cases (d == 45) (range_end c (d ∷ f ∷ fs) (f ∷ fs)) (Some (Range c c, d ∷ f ∷ fs)) (r, ys) e) [
      | inl a ↦ elim (cond_cases (f == 93) (Some (Range c c, d ∷ f ∷ fs)) (option_and_then (up_to c) (member_front (f ∷ fs))) (r, ys) a.1) [
        | inl p ↦ single_front xs c (d ∷ f ∷ fs) r ys m (some_same p.1)
        | inr q ↦
            let t = then_cases (up_to c) (member_front (f ∷ fs)) (r, ys) q.1 in
            let k = member_sound (f ∷ fs) t.0.0 t.0.1 t.1 in
            elim (cond_cases (nat_le c t.0.0) (Some (Range c t.0.0, t.0.1)) None (r, ys) t.2) [
              | inl u ↦
                  let same = some_same u.1 in
                  record {
                    cs = m.cs ++ 45 ∷ k.cs;
                    split = m.split ∙ (ap (λ y. m.cs ++ y ∷ f ∷ fs) (eqb-true d 45 a.0)
                        ∙ (ap (λ zs. m.cs ++ 45 ∷ zs) (k.split ∙ ap (λ q. k.cs ++ q.1) same) ∙ sym (append_assoc m.cs (45 ∷ k.cs) ys)));
                    item = subst (ItemText (m.cs ++ 45 ∷ k.cs)) (ap (λ q. q.0) same) (is.range m.member k.member u.0);
                  }
              | inr v ↦ none_some v.1
            ]
      ]
      | inr b ↦ single_front xs c (d ∷ f ∷ fs) r ys m (some_same b.1)
    ]

characters_sound : (xs : List ℕ) (r : Item) (ys : List ℕ) → characters_front xs ≡ Some (r, ys) → ItemFront xs r ys
characters_sound xs r ys e =
    let t = then_cases (λ p. range_front p.0 p.1) (member_front xs) (r, ys) e in
    range_sound xs t.0.0 t.0.1 r ys (member_sound xs t.0.0 t.0.1 t.1) t.2

-- ---- categories

record NameFront (xs : List ℕ) (k : Category) (ys : List ℕ) : Type 0 where
  cs : List ℕ
  split : xs ≡ 123 ∷ (cs ++ 125 ∷ ys)
  name : NameText cs k

second_sound : (b g l : ℕ) (xs : List ℕ) (k : Category) (ys : List ℕ) → b ≡ 123 → second_front g l xs ≡ Some (k, ys)
    → NameFront (b ∷ g ∷ l ∷ xs) k ys
second_sound b g l [] k ys f e = none_some e
second_sound b g l (d ∷ cs) k ys f e =
    elim (cond_cases (d == 125) (named_front g (Some l) cs) None (k, ys) e) [
      | inl a ↦
          let m = map_cases (λ x. let p : Category × List ℕ = (x, cs) in p) (named g (Some l)) (k, ys) a.1 in
          record {
            cs = g ∷ l ∷ [];
            split = ap (λ y. y ∷ g ∷ l ∷ d ∷ cs) f ∙ (ap (λ y. 123 ∷ g ∷ l ∷ y ∷ cs) (eqb-true d 125 a.0)
                ∙ ap (λ p. 123 ∷ g ∷ l ∷ 125 ∷ p.1) m.2);
            name = is.category g l k (m.1 ∙ ap (λ p. Some p.0) m.2);
          }
      | inr n ↦ none_some n.1
    ]

name_sound : (xs : List ℕ) (k : Category) (ys : List ℕ) → name_front xs ≡ Some (k, ys) → NameFront xs k ys
name_sound [] k ys e = none_some e
name_sound (b ∷ []) k ys e = none_some e
name_sound (b ∷ g ∷ []) k ys e = none_some e
name_sound (b ∷ g ∷ l ∷ cs) k ys e =
    elim (cond_cases (b == 123) (cond (l == 125) (named_front g None cs) (second_front g l cs)) None (k, ys) e) [
      | inl a ↦ elim (cond_cases (l == 125) (named_front g None cs) (second_front g l cs) (k, ys) a.1) [
        | inl d ↦
            let m = map_cases (λ x. let p : Category × List ℕ = (x, cs) in p) (named g None) (k, ys) d.1 in
            record {
              cs = g ∷ [];
              split = ap (λ y. y ∷ g ∷ l ∷ cs) (eqb-true b 123 a.0) ∙ (ap (λ y. 123 ∷ g ∷ y ∷ cs) (eqb-true l 125 d.0)
                  ∙ ap (λ p. 123 ∷ g ∷ 125 ∷ p.1) m.2);
              name = is.group g k (m.1 ∙ ap (λ p. Some p.0) m.2);
            }
        | inr n ↦ second_sound b g l cs k ys (eqb-true b 123 a.0) n.1
      ]
      | inr n ↦ none_some n.1
    ]

record CategoryFront (xs : List ℕ) (i : Item) (ys : List ℕ) : Type 0 where
  cs : List ℕ
  split : xs ≡ cs ++ ys
  category : CategoryText cs i

regroup_category : (ds ys : List ℕ) (a b c : ℕ) → a ∷ b ∷ c ∷ (ds ++ 125 ∷ ys) ≡ (a ∷ b ∷ c ∷ (ds ++ 125 ∷ [])) ++ ys
regroup_category ds ys a b c = simp append_assoc

category_sound : (c : ℕ) (xs : List ℕ) (i : Item) (ys : List ℕ) → c ≡ 92 → category_front xs ≡ Some (i, ys) → CategoryFront (c ∷ xs) i ys
category_sound c [] i ys f e = none_some e
category_sound c (p ∷ cs) i ys f e =
    let t = then_cases (signed_front p) (name_front cs) (i, ys) e in
    let k = t.0.0 in
    let zs = t.0.1 in
    let n = name_sound cs k zs t.1 in
    elim (cond_cases (p == 112) (Some (In k, zs)) (cond (p == 80) (Some (NotIn k, zs)) None) (i, ys) t.2) [
      | inl a ↦
          let same : ◌≡◌ {A = Item × List ℕ} (In k, zs) (i, ys) = some_same a.1 in
          record {
            cs = 92 ∷ 112 ∷ 123 ∷ (n.cs ++ 125 ∷ []);
            split = ap (λ y. y ∷ p ∷ cs) f ∙ (ap (λ y. 92 ∷ y ∷ cs) (eqb-true p 112 a.0) ∙ (ap (λ us. 92 ∷ 112 ∷ us) n.split
                ∙ (ap (λ q. 92 ∷ 112 ∷ 123 ∷ (n.cs ++ 125 ∷ q.1)) same ∙ regroup_category n.cs ys 92 112 123)));
            category = subst (CategoryText (92 ∷ 112 ∷ 123 ∷ (n.cs ++ 125 ∷ []))) (ap (λ q. q.0) same) (is.of n.name);
          }
      | inr b ↦ elim (cond_cases (p == 80) (Some (NotIn k, zs)) None (i, ys) b.1) [
        | inl a ↦
            let same : ◌≡◌ {A = Item × List ℕ} (NotIn k, zs) (i, ys) = some_same a.1 in
            record {
              cs = 92 ∷ 80 ∷ 123 ∷ (n.cs ++ 125 ∷ []);
              split = ap (λ y. y ∷ p ∷ cs) f ∙ (ap (λ y. 92 ∷ y ∷ cs) (eqb-true p 80 a.0) ∙ (ap (λ us. 92 ∷ 80 ∷ us) n.split
                  ∙ (ap (λ q. 92 ∷ 80 ∷ 123 ∷ (n.cs ++ 125 ∷ q.1)) same ∙ regroup_category n.cs ys 92 80 123)));
              category = subst (CategoryText (92 ∷ 80 ∷ 123 ∷ (n.cs ++ 125 ∷ []))) (ap (λ q. q.0) same) (is.others n.name);
            }
        | inr n ↦ none_some n.1
      ]
    ]

item_sound : (xs : List ℕ) (r : Item) (ys : List ℕ) → item_front xs ≡ Some (r, ys) → ItemFront xs r ys
item_sound [] r ys e = characters_sound [] r ys e
item_sound (c ∷ cs) r ys e =
    elim (cond_cases ((c == 92) && is_category_letter cs) (category_front cs) (characters_front (c ∷ cs)) (r, ys) e) [
      | inl a ↦
          let both = and_parts (c == 92) (is_category_letter cs) a.0 in
          let k = category_sound c cs r ys (eqb-true c 92 both.0) a.1 in
          record { cs = k.cs; split = k.split; item = is.category k.category }
      | inr b ↦ characters_sound (c ∷ cs) r ys b.1
    ]

record TailFront (qs : List Item) (xs : List ℕ) (ss : List Item) (ys : List ℕ) : Type 0 where
  cs : List ℕ
  ds : List ℕ
  rs : List Item
  ls : List Item
  split : xs ≡ cs ++ (ds ++ 93 ∷ ys)
  items : ItemsText cs rs
  ending : LastText ds ls
  whole : ss ≡ qs ++ (rs ++ ls)

closing_sound : (qs : List Item) (cs : List ℕ) (ss : List Item) (ys : List ℕ) (c : ℕ) → c ≡ 45 → closing qs cs ≡ Some (ss, ys)
    → TailFront qs (c ∷ cs) ss ys
closing_sound qs [] ss ys c f e = none_some e
closing_sound qs (d ∷ ds) ss ys c f e =
    elim (cond_cases (d == 93) (Some (qs ++ Range 45 45 ∷ [], ds)) None (ss, ys) e) [
      | inl a ↦
          let same = some_same a.1 in
          record {
            cs = [];
            ds = 45 ∷ [];
            rs = [];
            ls = Range 45 45 ∷ [];
            split = ap (λ y. y ∷ d ∷ ds) f ∙ (ap (λ y. 45 ∷ y ∷ ds) (eqb-true d 93 a.0) ∙ ap (λ q. 45 ∷ 93 ∷ q.1) same);
            items = is.none;
            ending = is.dash;
            whole = sym (ap (λ q. q.0) same);
          }
      | inr b ↦ none_some b.1
    ]

tail_more : (qs ss rs ls : List Item) (r : Item) → ss ≡ (qs ++ r ∷ []) ++ (rs ++ ls) → ss ≡ qs ++ (r ∷ (rs ++ ls))
tail_more qs ss rs ls r e = e ∙ append_assoc qs (r ∷ []) (rs ++ ls)

tail_sound : (n : ℕ) (qs : List Item) (xs : List ℕ) (ss : List Item) (ys : List ℕ) → tail_front n qs xs ≡ Some (ss, ys)
    → TailFront qs xs ss ys
tail_sound zero qs xs ss ys e = none_some e
tail_sound (suc n) qs [] ss ys e = none_some e
tail_sound (suc n) qs (c ∷ cs) ss ys e =
    elim (cond_cases (c == 93) (Some (qs, cs))
    (cond (c == 45) (closing qs cs) (option_and_then (λ p. tail_front n (qs ++ p.0 ∷ []) p.1) (item_front (c ∷ cs)))) (ss, ys) e) [
      | inl a ↦
          let same = some_same a.1 in
          record {
            cs = [];
            ds = [];
            rs = [];
            ls = [];
            split = ap (λ y. y ∷ cs) (eqb-true c 93 a.0) ∙ ap (λ q. 93 ∷ q.1) same;
            items = is.none;
            ending = is.none;
            whole = sym (ap (λ q. q.0) same) ∙ sym (append-nil qs);
          }
      | inr b ↦ elim (cond_cases (c == 45) (closing qs cs) (option_and_then (λ p. tail_front n (qs ++ p.0 ∷ []) p.1) (item_front (c ∷ cs)))
          (ss, ys) b.1) [
            | inl p ↦ closing_sound qs cs ss ys c (eqb-true c 45 p.0) p.1
            | inr q ↦
                let t = then_cases (λ p. tail_front n (qs ++ p.0 ∷ []) p.1) (item_front (c ∷ cs)) (ss, ys) q.1 in
                let i = item_sound (c ∷ cs) t.0.0 t.0.1 t.1 in
                let h = tail_sound n (qs ++ t.0.0 ∷ []) t.0.1 ss ys t.2 in
                record {
                  cs = i.cs ++ h.cs;
                  ds = h.ds;
                  rs = t.0.0 ∷ h.rs;
                  ls = h.ls;
                  split = i.split ∙ (ap (λ zs. i.cs ++ zs) h.split ∙ sym (append_assoc i.cs h.cs (h.ds ++ 93 ∷ ys)));
                  items = is.more i.item h.items;
                  ending = h.ending;
                  whole = tail_more qs ss h.rs h.ls t.0.0 h.whole;
                }
          ]
    ]

record ClassFront (negated : Bool) (xs : List ℕ) (t : Token) (ys : List ℕ) : Type 0 where
  bs : List ℕ
  cs : List ℕ
  ds : List ℕ
  r : Item
  rs : List Item
  ls : List Item
  split : xs ≡ bs ++ (cs ++ (ds ++ 93 ∷ ys))
  begins : FirstText bs r
  items : ItemsText cs rs
  ending : LastText ds ls
  token : t ≡ characters negated (r ∷ (rs ++ ls))

class_sound : (n : ℕ) (negated : Bool) (r : Item) (bs xs zs : List ℕ) (t : Token) (ys : List ℕ) → FirstText bs r → xs ≡ bs ++ zs
    → class_front n negated (r, zs) ≡ Some (t, ys) → ClassFront negated xs t ys
class_sound n negated r bs xs zs t ys f split e =
    let m = map_cases (λ q. let p : Token × List ℕ = (characters negated q.0, q.1) in p) (tail_front n (r ∷ []) zs) (t, ys) e in
    let h = tail_sound n (r ∷ []) zs m.0.0 m.0.1 m.1 in
    record {
      bs = bs;
      cs = h.cs;
      ds = h.ds;
      r = r;
      rs = h.rs;
      ls = h.ls;
      split = split ∙ ap (λ us. bs ++ us) (h.split ∙ ap (λ p. h.cs ++ (h.ds ++ 93 ∷ p.1)) m.2);
      begins = f;
      items = h.items;
      ending = h.ending;
      token = sym (ap (λ p. p.0) m.2) ∙ ap (characters negated) h.whole;
    }

first_sound : (n : ℕ) (negated : Bool) (xs : List ℕ) (t : Token) (ys : List ℕ) → first_front n negated xs ≡ Some (t, ys)
    → ClassFront negated xs t ys
first_sound n negated [] t ys e = none_some e
first_sound n negated (c ∷ cs) t ys e =
    elim (cond_cases (c == 45) (class_front n negated (Range 45 45, cs)) (option_and_then (class_front n negated) (item_front (c ∷ cs)))
    (t, ys) e) [
      | inl a ↦ class_sound n negated (Range 45 45) (45 ∷ []) (c ∷ cs) cs t ys is.dash (ap (λ y. y ∷ cs) (eqb-true c 45 a.0)) a.1
      | inr b ↦
          let k = then_cases (class_front n negated) (item_front (c ∷ cs)) (t, ys) b.1 in
          let i = item_sound (c ∷ cs) k.0.0 k.0.1 k.1 in
          class_sound n negated k.0.0 i.cs (c ∷ cs) k.0.1 t ys (is.item i.item) i.split k.2
    ]

regroup_class : (bs cs ds ys : List ℕ) → bs ++ (cs ++ (ds ++ 93 ∷ ys)) ≡ (bs ++ (cs ++ (ds ++ 93 ∷ []))) ++ ys
regroup_class bs cs ds ys = simp append_assoc

pub no_caret : (bs zs cs : List ℕ) (c : ℕ) → c ∷ cs ≡ bs ++ zs → (c == 94) ≡ false → begins_with_caret bs ≡ false
no_caret [] zs cs c e h = refl
no_caret (b ∷ bs) zs cs c e h = let same : c ≡ b = cc in subst (λ x. (x == 94) ≡ false) same h

bracket_sound : (xs : List ℕ) (t : Token) (ys : List ℕ) (c : ℕ) → c ≡ 91 → bracket_front xs ≡ Some (t, ys) → Front (c ∷ xs) t ys
bracket_sound [] t ys d f e = none_some e
bracket_sound (c ∷ cs) t ys d f e =
    elim (cond_cases (c == 94) (first_front (length cs) true cs) (first_front (suc (length cs)) false (c ∷ cs)) (t, ys) e) [
      | inl a ↦
          let h = first_sound (length cs) true cs t ys a.1 in
          record {
            cs = 91 ∷ 94 ∷ (h.bs ++ (h.cs ++ (h.ds ++ 93 ∷ [])));
            split = ap (λ y. y ∷ c ∷ cs) f
                ∙ (ap (λ y. 91 ∷ y ∷ cs) (eqb-true c 94 a.0) ∙ ap (λ zs. 91 ∷ 94 ∷ zs) (h.split ∙ regroup_class h.bs h.cs h.ds ys));
            spelled = subst (Spells (91 ∷ 94 ∷ (h.bs ++ (h.cs ++ (h.ds ++ 93 ∷ []))))) (sym h.token)
                (is.bracket is.caret h.begins (λ x. absurd (true≢false x)) h.items h.ending);
            fit = subst IsFit (sym h.token) tt;
          }
      | inr b ↦
          let h = first_sound (suc (length cs)) false (c ∷ cs) t ys b.1 in
          record {
            cs = 91 ∷ (h.bs ++ (h.cs ++ (h.ds ++ 93 ∷ [])));
            split = ap (λ y. y ∷ c ∷ cs) f ∙ ap (λ zs. 91 ∷ zs) (h.split ∙ regroup_class h.bs h.cs h.ds ys);
            spelled = subst (Spells (91 ∷ (h.bs ++ (h.cs ++ (h.ds ++ 93 ∷ []))))) (sym h.token)
                (is.bracket is.none h.begins (λ _. no_caret h.bs _ cs c h.split b.0) h.items h.ending);
            fit = subst IsFit (sym h.token) tt;
          }
    ]

-- ---- numbers

record NumberFront (n : ℕ) (xs : List ℕ) (m : ℕ) (ys : List ℕ) : Type 0 where
  cs : List ℕ
  split : xs ≡ cs ++ ys
  digits : are_digits cs ≡ true
  value : m ≡ number_on n cs

digits_sound : (n : ℕ) (xs : List ℕ) (m : ℕ) (ys : List ℕ) → digits_front n xs ≡ (m, ys) → NumberFront n xs m ys
digits_sound n [] m ys e = record { cs = []; split = ap (λ p. p.1) e; digits = refl; value = sym (ap (λ p. p.0) e) }
digits_sound n (c ∷ xs) m ys e = by (is_digit c) refl e (digits_sound (10 * n + (c - 48)) xs m ys)
  where
    by : (b : Bool) → is_digit c ≡ b → cond b (digits_front (10 * n + (c - 48)) xs) (n, c ∷ xs) ≡ (m, ys)
        → (digits_front (10 * n + (c - 48)) xs ≡ (m, ys) → NumberFront (10 * n + (c - 48)) xs m ys) → NumberFront n (c ∷ xs) m ys
    by true d e rec =
        let h = rec e in
        record {
          cs = c ∷ h.cs;
          split = ap (λ zs. c ∷ zs) h.split;
          digits = and_from (is_digit c) (are_digits h.cs) d h.digits;
          value = h.value;
        }
    by false d e rec = record { cs = []; split = ap (λ p. p.1) e; digits = refl; value = sym (ap (λ p. p.0) e) }

record WholeNumber (xs : List ℕ) (m : ℕ) (ys : List ℕ) : Type 0 where
  first : ℕ
  cs : List ℕ
  split : xs ≡ first ∷ (cs ++ ys)
  digit : is_digit first ≡ true
  digits : are_digits cs ≡ true
  value : m ≡ number_on (first - 48) cs

number_sound : (xs : List ℕ) (m : ℕ) (ys : List ℕ) → number_front xs ≡ Some (m, ys) → WholeNumber xs m ys
number_sound [] m ys e = none_some e
number_sound (c ∷ xs) m ys e =
    elim (cond_cases (is_digit c) (Some (digits_front (c - 48) xs)) None (m, ys) e) [
      | inl a ↦
          let h = digits_sound (c - 48) xs m ys (some_same a.1) in
          record { first = c; cs = h.cs; split = ap (λ zs. c ∷ zs) h.split; digit = a.0; digits = h.digits; value = h.value }
      | inr b ↦ none_some b.1
    ]

digits_grow : (n : ℕ) (xs : List ℕ) → n ≤ (digits_front n xs).0
digits_grow n [] = omega arith
digits_grow n (c ∷ xs) = by (is_digit c) (digits_grow (10 * n + (c - 48)) xs)
  where
    by : (b : Bool) → 10 * n + (c - 48) ≤ (digits_front (10 * n + (c - 48)) xs).0
        → n ≤ (cond b (digits_front (10 * n + (c - 48)) xs) (n, c ∷ xs)).0
    by true h = omega arith
    by false h = omega arith

-- the digits that were read are those of a number that is too large
pub large_number : (text after rest end : List ℕ) (first next m : ℕ) → text ≡ first ∷ after → is_digit first ≡ true
    → digits_front m rest ≡ digits_front (first - 48) after → rest ≡ next ∷ end → is_digit next ≡ true
    → size_limit < 10 * m + (next - 48) → LargeNumber text
large_number text after rest end first next m t d e f g l =
    let whole : ℕ × List ℕ = digits_front (first - 48) after in
    let all = digits_sound (first - 48) after whole.0 whole.1 refl in
    let step : digits_front m rest ≡ digits_front (10 * m + (next - 48)) end = ap (digits_front m) f ∙ cond-true (is_digit next) _ _ g in
    let low = digits_grow (10 * m + (next - 48)) end in
    let same : (digits_front (10 * m + (next - 48)) end).0 ≡ whole.0 = ap (λ p. p.0) (sym step ∙ e) in
    let value : whole.0 ≡ number_on (first - 48) all.cs = all.value in
    record {
      first = first;
      digits = all.cs;
      after = whole.1;
      split = t ∙ ap (λ zs. first ∷ zs) all.split;
      is_first = d;
      are = all.digits;
      large = omega arith;
    }

digits_counts : (cs : List ℕ) → are_digits cs ≡ true → are_counts (cs ++ 44 ∷ []) ≡ true
digits_counts [] h = refl
digits_counts (c ∷ cs) h =
    let both = and_parts (is_digit c) (are_digits cs) h in
    and_from (is_digit c || (c == 44)) (are_counts (cs ++ 44 ∷ [])) (or_left (is_digit c) (c == 44) both.0) (digits_counts cs both.1)

regroup_counts : (cs ys : List ℕ) (a : ℕ) → a ∷ (cs ++ 44 ∷ ys) ≡ (a ∷ (cs ++ 44 ∷ [])) ++ ys
regroup_counts cs ys a = simp append_assoc

-- the second count of a quantifier is too large
pub large_most : (xs : List ℕ) (n : ℕ) (rest after : List ℕ) (c : ℕ) → number_front xs ≡ Some (n, rest) → rest ≡ c ∷ after → c ≡ 44
    → LargeNumber after → LargeCount (123 ∷ xs)
large_most xs n rest after c e f g l =
    let w = number_sound xs n rest e in
    record {
      before = w.first ∷ (w.cs ++ 44 ∷ []);
      number = after;
      split = ap (λ zs. 123 ∷ zs) (w.split ∙ (ap (λ zs. w.first ∷ (w.cs ++ zs)) (f ∙ ap (λ y. y ∷ after) g)
          ∙ regroup_counts w.cs after w.first));
      counts = digits_counts (w.first ∷ w.cs) (and_from (is_digit w.first) (are_digits w.cs) w.digit w.digits);
      large = l;
    }

-- no second count stands behind the comma
pub no_most : (xs : List ℕ) (n : ℕ) (rest after end : List ℕ) (c d : ℕ) → number_front xs ≡ Some (n, rest) → rest ≡ c ∷ after → c ≡ 44
    → after ≡ d ∷ end → d ≢ 125 → number_front after ≡ None → counts_front xs ≡ None
no_most xs n rest after end c d e f g h k none =
    ap (option_and_then (λ p. least_end p.0 p.1)) e
    ∙ (ap (least_end n) (f ∙ ap (λ y. y ∷ after) g)
    ∙ (ap (most_front n) h
    ∙ (cond-false (d == 125) _ _ (ne_eqb d 125 k)
    ∙ ap (option_and_then (λ p. most_end n p.0 p.1)) (ap number_front (sym h) ∙ none))))

-- ---- quantifiers

at_most_fit : (n m : ℕ) → nat_le n m ≡ true → IsFit (quantifier n (Some m))
at_most_fit n m h = leb-true n m h

regroup_between : (cs ds ys : List ℕ) (a b c d e : ℕ)
    → a ∷ b ∷ (cs ++ c ∷ d ∷ (ds ++ e ∷ ys)) ≡ (a ∷ b ∷ (cs ++ c ∷ d ∷ (ds ++ e ∷ []))) ++ ys
regroup_between cs ds ys a b c d e = simp append_assoc

regroup_two : (cs ys : List ℕ) (a b c d : ℕ) → a ∷ b ∷ (cs ++ c ∷ d ∷ ys) ≡ (a ∷ b ∷ (cs ++ c ∷ d ∷ [])) ++ ys
regroup_two cs ys a b c d = simp append_assoc

regroup_one : (cs ys : List ℕ) (a b c : ℕ) → a ∷ b ∷ (cs ++ c ∷ ys) ≡ (a ∷ b ∷ (cs ++ c ∷ [])) ++ ys
regroup_one cs ys a b c = simp append_assoc

most_sound : (xs : List ℕ) (n : ℕ) (zs : List ℕ) (t : Token) (ys : List ℕ) (o : ℕ) → o ≡ 123 → WholeNumber xs n (44 ∷ zs)
    → most_front n zs ≡ Some (t, ys) → Front (o ∷ xs) t ys
most_sound xs n [] t ys o f w e = none_some e
most_sound xs n (c ∷ cs) t ys o f w e =
    elim (cond_cases (c == 125) (Some (quantifier n None, cs)) (option_and_then (λ p. most_end n p.0 p.1) (number_front (c ∷ cs)))
    (t, ys) e) [
      | inl a ↦
          let same = some_same a.1 in
          record {
            cs = 123 ∷ w.first ∷ (w.cs ++ 44 ∷ 125 ∷ []);
            split = ap (λ y. y ∷ xs) f ∙ (ap (λ us. 123 ∷ us) w.split
                ∙ (ap (λ y. 123 ∷ w.first ∷ (w.cs ++ 44 ∷ y ∷ cs)) (eqb-true c 125 a.0)
                ∙ (ap (λ p. 123 ∷ w.first ∷ (w.cs ++ 44 ∷ 125 ∷ p.1)) same ∙ regroup_two w.cs ys 123 w.first 44 125)));
            spelled = subst (Spells (123 ∷ w.first ∷ (w.cs ++ 44 ∷ 125 ∷ [])))
                (ap (λ m. quantifier m None) (sym w.value) ∙ ap (λ p. p.0) same) (is.at_least w.first w.cs w.digit w.digits);
            fit = subst IsFit (ap (λ p. p.0) same) tt;
          }
      | inr b ↦
          let k = then_cases (λ p. most_end n p.0 p.1) (number_front (c ∷ cs)) (t, ys) b.1 in
          let v = number_sound (c ∷ cs) k.0.0 k.0.1 k.1 in
          ended k.0.0 k.0.1 v k.2
    ]
  where
    ended : (m : ℕ) (us : List ℕ) → WholeNumber (c ∷ cs) m us → most_end n m us ≡ Some (t, ys) → Front (o ∷ xs) t ys
    ended m [] v e = none_some e
    ended m (d ∷ us) v e =
        elim (cond_cases (d == 125) (cond (nat_le n m) (Some (quantifier n (Some m), us)) None) None (t, ys) e) [
          | inl a ↦ elim (cond_cases (nat_le n m) (Some (quantifier n (Some m), us)) None (t, ys) a.1) [
            | inl p ↦
                let same = some_same p.1 in
                let low : nat_le (number_on (w.first - 48) w.cs) (number_on (v.first - 48) v.cs) ≡ true = subst
                (λ x. nat_le x (number_on (v.first - 48) v.cs) ≡ true) w.value (subst (λ x. nat_le n x ≡ true) v.value p.0) in
                record {
                  cs = 123 ∷ w.first ∷ (w.cs ++ 44 ∷ v.first ∷ (v.cs ++ 125 ∷ []));
                  split = ap (λ y. y ∷ xs) f ∙ (ap (λ zs. 123 ∷ zs) w.split
                      ∙ (ap (λ zs. 123 ∷ w.first ∷ (w.cs ++ 44 ∷ zs))
                      (v.split ∙ (ap (λ y. v.first ∷ (v.cs ++ y ∷ us)) (eqb-true d 125 a.0) ∙ ap (λ q. v.first ∷ (v.cs ++ 125 ∷ q.1)) same))
                      ∙ regroup_between w.cs v.cs ys 123 w.first 44 v.first 125));
                  spelled = subst (Spells (123 ∷ w.first ∷ (w.cs ++ 44 ∷ v.first ∷ (v.cs ++ 125 ∷ []))))
                      (ap (λ x. quantifier x (Some (number_on (v.first - 48) v.cs))) (sym w.value)
                      ∙ (ap (λ x. quantifier n (Some x)) (sym v.value) ∙ ap (λ q. q.0) same))
                      (is.between w.first w.cs v.first v.cs w.digit w.digits v.digit v.digits low);
                  fit = subst IsFit (ap (λ q. q.0) same) (at_most_fit n m p.0);
                }
            | inr q ↦ none_some q.1
          ]
          | inr b ↦ none_some b.1
        ]

least_sound : (xs : List ℕ) (n : ℕ) (zs : List ℕ) (t : Token) (ys : List ℕ) (o : ℕ) → o ≡ 123 → WholeNumber xs n zs
    → least_end n zs ≡ Some (t, ys) → Front (o ∷ xs) t ys
least_sound xs n [] t ys o f w e = none_some e
least_sound xs n (c ∷ cs) t ys o f w e =
    elim (cond_cases (c == 125) (Some (quantifier n (Some n), cs)) (cond (c == 44) (most_front n cs) None) (t, ys) e) [
      | inl a ↦
          let same = some_same a.1 in
          record {
            cs = 123 ∷ w.first ∷ (w.cs ++ 125 ∷ []);
            split = ap (λ y. y ∷ xs) f ∙ (ap (λ us. 123 ∷ us) w.split
                ∙ (ap (λ y. 123 ∷ w.first ∷ (w.cs ++ y ∷ cs)) (eqb-true c 125 a.0)
                ∙ (ap (λ p. 123 ∷ w.first ∷ (w.cs ++ 125 ∷ p.1)) same ∙ regroup_one w.cs ys 123 w.first 125)));
            spelled = subst (Spells (123 ∷ w.first ∷ (w.cs ++ 125 ∷ [])))
                (ap (λ m. quantifier m (Some m)) (sym w.value) ∙ ap (λ p. p.0) same) (is.exactly w.first w.cs w.digit w.digits);
            fit = subst IsFit (ap (λ p. p.0) same) (let l : n ≤ n = omega arith in l);
          }
      | inr b ↦ elim (cond_cases (c == 44) (most_front n cs) None (t, ys) b.1) [
        | inl p ↦ most_sound xs n cs t ys o f (subst (λ y. WholeNumber xs n (y ∷ cs)) (eqb-true c 44 p.0) w) p.1
        | inr q ↦ none_some q.1
      ]
    ]

counts_sound : (xs : List ℕ) (t : Token) (ys : List ℕ) (o : ℕ) → o ≡ 123 → counts_front xs ≡ Some (t, ys) → Front (o ∷ xs) t ys
counts_sound xs t ys o f e =
    let k = then_cases (λ p. least_end p.0 p.1) (number_front xs) (t, ys) e in
    least_sound xs k.0.0 k.0.1 t ys o f (number_sound xs k.0.0 k.0.1 k.1) k.2

-- ---- every token

sign : (c k : ℕ) (u t : Token) (cs ys : List ℕ) → (c == k) ≡ true → ◌≡◌ {A = Option (Token × List ℕ)} (Some (u, cs)) (Some (t, ys))
    → Spells (k ∷ []) u → IsFit u → Front (c ∷ cs) t ys
sign c k u t cs ys h e s f =
    let same = some_same e in
    record {
      cs = k ∷ [];
      split = ap (λ y. y ∷ cs) (eqb-true c k h) ∙ ap (λ p. k ∷ p.1) same;
      spelled = subst (Spells (k ∷ [])) (ap (λ p. p.0) same) s;
      fit = subst IsFit (ap (λ p. p.0) same) f;
    }

single_sound : (c : ℕ) (cs : List ℕ) (t : Token) (ys : List ℕ) → (c == 92) ≡ true → one_front (escape_front cs) ≡ Some (t, ys)
    → Front (c ∷ cs) t ys
single_sound c cs t ys h e =
    let m = map_cases (λ p. let q : Token × List ℕ = (one p.0, p.1) in q) (escape_front cs) (t, ys) e in
    let s = escape_sound cs m.0.0 m.0.1 m.1 in
    record {
      cs = 92 ∷ s.0 ∷ [];
      split = ap (λ y. y ∷ cs) (eqb-true c 92 h) ∙ (ap (λ zs. 92 ∷ zs) s.1 ∙ ap (λ p. 92 ∷ s.0 ∷ p.1) m.2);
      spelled = subst (Spells (92 ∷ s.0 ∷ [])) (ap (λ p. p.0) m.2) (is.escaped s.0 m.0.0 s.2);
      fit = subst IsFit (ap (λ p. p.0) m.2) tt;
    }

escaped_sound : (c : ℕ) (cs : List ℕ) (t : Token) (ys : List ℕ) → (c == 92) ≡ true → escape_token cs ≡ Some (t, ys) → Front (c ∷ cs) t ys
escaped_sound c cs t ys h e =
    elim (cond_cases (is_category_letter cs) (item_token (category_front cs)) (one_front (escape_front cs)) (t, ys) e) [
      | inl a ↦
          let m = map_cases (λ p. let q : Token × List ℕ = (characters false (p.0 ∷ []), p.1) in q) (category_front cs) (t, ys) a.1 in
          let k = category_sound c cs m.0.0 m.0.1 (eqb-true c 92 h) m.1 in
          record {
            cs = k.cs;
            split = k.split ∙ ap (λ p. k.cs ++ p.1) m.2;
            spelled = subst (Spells k.cs) (ap (λ p. p.0) m.2) (is.category k.category);
            fit = subst IsFit (ap (λ p. p.0) m.2) tt;
          }
      | inr b ↦ single_sound c cs t ys h b.1
    ]

normal_sound : (c : ℕ) (cs : List ℕ) (t : Token) (ys : List ℕ)
    → ◌≡◌ {A = Option (Token × List ℕ)} (cond (is_normal c) (Some (one c, cs)) None) (Some (t, ys)) → Front (c ∷ cs) t ys
normal_sound c cs t ys e =
    elim (cond_cases (is_normal c) (Some (one c, cs)) None (t, ys) e) [
      | inl a ↦
          let same = some_same a.1 in
          record {
            cs = c ∷ [];
            split = ap (λ p. c ∷ p.1) same;
            spelled = subst (Spells (c ∷ [])) (ap (λ p. p.0) same) (is.normal c a.0);
            fit = subst IsFit (ap (λ p. p.0) same) tt;
          }
      | inr b ↦ none_some b.1
    ]

pub front_sound : (xs : List ℕ) (t : Token) (ys : List ℕ) → token_front xs ≡ Some (t, ys) → Front xs t ys
front_sound [] t ys e = none_some e
front_sound (c ∷ cs) t ys e =
    elim (cond_cases (c == 40) _ _ (t, ys) e) [
      | inl a ↦ sign c 40 opened t cs ys a.0 a.1 is.opens tt
      | inr e1 ↦
          elim (cond_cases (c == 41) _ _ (t, ys) e1.1) [
            | inl a ↦ sign c 41 closed t cs ys a.0 a.1 is.closes tt
            | inr e2 ↦
                elim (cond_cases (c == 124) _ _ (t, ys) e2.1) [
                  | inl a ↦ sign c 124 bar t cs ys a.0 a.1 is.parts tt
                  | inr e3 ↦
                      elim (cond_cases (c == 42) _ _ (t, ys) e3.1) [
                        | inl a ↦ sign c 42 (quantifier 0 None) t cs ys a.0 a.1 is.star tt
                        | inr e4 ↦
                            elim (cond_cases (c == 43) _ _ (t, ys) e4.1) [
                              | inl a ↦ sign c 43 (quantifier 1 None) t cs ys a.0 a.1 is.plus tt
                              | inr e5 ↦
                                  elim (cond_cases (c == 63) _ _ (t, ys) e5.1) [
                                    | inl a ↦ sign c 63 (quantifier 0 (Some 1)) t cs ys a.0 a.1 is.question (at_most_fit 0 1 refl)
                                    | inr e6 ↦
                                        elim (cond_cases (c == 123) _ _ (t, ys) e6.1) [
                                          | inl a ↦ counts_sound cs t ys c (eqb-true c 123 a.0) a.1
                                          | inr e7 ↦
                                              elim (cond_cases (c == 46) _ _ (t, ys) e7.1) [
                                                | inl a ↦ sign c 46 any t cs ys a.0 a.1 is.dot tt
                                                | inr e8 ↦
                                                    elim (cond_cases (c == 92) _ _ (t, ys) e8.1) [
                                                      | inl a ↦ escaped_sound c cs t ys a.0 a.1
                                                      | inr e9 ↦
                                                          elim (cond_cases (c == 91) _ _ (t, ys) e9.1) [
                                                            | inl a ↦
                                                                bracket_sound cs t ys c (eqb-true c 91 a.0) a.1
                                                            | inr e10 ↦ normal_sound c cs t ys e10.1
                                                          ]
                                                    ]
                                              ]
                                        ]
                                  ]
                            ]
                      ]
                ]
          ]
    ]

-- ---- each spelling is its front

pub not_equal : (c k : ℕ) (ds es : List ℕ) → not (is_one_of (ds ++ k ∷ es) c) ≡ true → (c == k) ≡ false
not_equal c k [] es h = (or_parts (c == k) (is_one_of es c) (not-true (is_one_of (k ∷ es) c) h)).0
not_equal c k (d ∷ ds) es h =
    let rest = (or_parts (c == d) (is_one_of (ds ++ k ∷ es) c) (not-true (is_one_of ((d ∷ ds) ++ k ∷ es) c) h)).1 in
    not_equal c k ds es (ap not rest)

member_complete : (cs : List ℕ) (c : ℕ) → MemberText cs c → (ys : List ℕ) → member_front (cs ++ ys) ≡ Some (c, ys)
member_complete cs c (is.plain d h) ys = cond-false (d == 92) _ _ (not_equal d 92 (45 ∷ 91 ∷ []) (93 ∷ []) h) ∙ cond-true (is_plain d) _ _ h
member_complete cs c (is.escaped l d h) ys = ap (option_map (λ x. let p : ℕ × List ℕ = (x, ys) in p)) h

-- the letter of an escape begins no category
escaped_letter : (l c : ℕ) → escape_of l ≡ Some c → ((l == 112) || (l == 80)) ≡ false
escaped_letter l c h = by (l == 112) (l == 80) refl refl
  where
    by : (a b : Bool) → (l == 112) ≡ a → (l == 80) ≡ b → (a || b) ≡ false
    by true b e f = none_some (sym (ap escape_of (eqb-true l 112 e)) ∙ h)
    by false true e f = none_some (sym (ap escape_of (eqb-true l 80 f)) ∙ h)
    by false false e f = refl

member_no_category : (cs : List ℕ) (c : ℕ) → MemberText cs c → (ys : List ℕ) → begins_category (cs ++ ys) ≡ false
member_no_category cs c (is.plain d h) ys = ap (λ b. b && is_category_letter ys) (not_equal d 92 (45 ∷ 91 ∷ []) (93 ∷ []) h)
member_no_category cs c (is.escaped l d h) ys = escaped_letter l d h

cond_none : {A : Type 0} (b : Bool) (o : Option A) → o ≡ None → cond b None o ≡ None
cond_none true o e = refl
cond_none false o e = e

-- a brace is no letter of a category
named_brace : (g : ℕ) → named g (Some 125) ≡ None
named_brace g =
    ap (option_map (λ n. from_to (n, n)))
    (cond_none (g == 76) _ (cond_none (g == 77) _ (cond_none (g == 78) _ (cond_none (g == 80) _ (cond_none (g == 90) _
    (cond_none (g == 83) _ (cond_none (g == 67) None refl)))))))

not_brace : (g l : ℕ) (k : Category) → named g (Some l) ≡ Some k → (l == 125) ≡ false
not_brace g l k h = by (l == 125) refl
  where
    by : (b : Bool) → (l == 125) ≡ b → b ≡ false
    by true e = none_some (sym (named_brace g) ∙ (ap (λ x. named g (Some x)) (sym (eqb-true l 125 e)) ∙ h))
    by false e = refl

name_complete : (cs : List ℕ) (k : Category) → NameText cs k → (ys : List ℕ) → name_front (123 ∷ (cs ++ 125 ∷ ys)) ≡ Some (k, ys)
name_complete cs k (is.group g m h) ys = ap (option_map (λ x. let p : Category × List ℕ = (x, ys) in p)) h
name_complete cs k (is.category g l m h) ys =
    cond-false (l == 125) _ _ (not_brace g l m h) ∙ ap (option_map (λ x. let p : Category × List ℕ = (x, ys) in p)) h

signed_complete : (p : ℕ) (cs : List ℕ) (k : Category) (o : Option (Item × List ℕ)) → NameText cs k → (ys : List ℕ)
    → signed_front p (k, ys) ≡ o → category_front (p ∷ 123 ∷ ((cs ++ 125 ∷ []) ++ ys)) ≡ o
signed_complete p cs k o n ys e =
    ap (λ zs. option_and_then (signed_front p) (name_front (123 ∷ zs))) (append_assoc cs (125 ∷ []) ys)
    ∙ (ap (option_and_then (signed_front p)) (name_complete cs k n ys) ∙ e)

-- the first character of an item
record Starts (cs : List ℕ) : Type 0 where
  first : ℕ
  rest : List ℕ
  split : cs ≡ first ∷ rest
  not_closing : (first == 93) ≡ false
  not_dash : (first == 45) ≡ false

member_starts : (cs : List ℕ) (c : ℕ) → MemberText cs c → Starts cs
member_starts cs c (is.plain d h) =
    record {
      first = d;
      rest = [];
      split = refl;
      not_closing = not_equal d 93 (45 ∷ 91 ∷ 92 ∷ []) [] h;
      not_dash = not_equal d 45 [] (91 ∷ 92 ∷ 93 ∷ []) h;
    }
member_starts cs c (is.escaped l d h) = record { first = 92; rest = l ∷ []; split = refl; not_closing = refl; not_dash = refl }

starts_on : (cs ds : List ℕ) → Starts cs → Starts (cs ++ ds)
starts_on cs ds s = record {
  first = s.first;
  rest = s.rest ++ ds;
  split = ap (λ xs. xs ++ ds) s.split;
  not_closing = s.not_closing;
  not_dash = s.not_dash;
}

item_starts : (cs : List ℕ) (r : Item) → ItemText cs r → Starts cs
item_starts cs r (is.category (is.of {cs = ds} n)) =
    record { first = 92; rest = 112 ∷ 123 ∷ (ds ++ 125 ∷ []); split = refl; not_closing = refl; not_dash = refl }
item_starts cs r (is.category (is.others {cs = ds} n)) =
    record { first = 92; rest = 80 ∷ 123 ∷ (ds ++ 125 ∷ []); split = refl; not_closing = refl; not_dash = refl }
item_starts cs r (is.single {cs = ds} {c = c} m) = member_starts ds c m
item_starts cs r (is.range {cs = ds} {ds = es} {c = c} m k h) = starts_on ds (45 ∷ es) (member_starts ds c m)

Ended : List ℕ → Type 0
Ended ys = (c : ℕ) → range_front c ys ≡ Some (Range c c, ys)

range_end_at : (c : ℕ) (ws xs : List ℕ) (p : ℕ × List ℕ) → Starts xs → member_front xs ≡ Some p → range_end c ws xs ≡ up_to c p
range_end_at c ws xs p s m =
    ap (range_end c ws) s.split
    ∙ (cond-false (s.first == 93) _ _ s.not_closing
    ∙ ap (option_and_then (up_to c)) (ap member_front (sym s.split) ∙ m))

range_front_at : (xs : List ℕ) → Starts xs → Ended xs
unfolding Ended
range_front_at xs s c =
    ap (range_front c) s.split
    ∙ (cond-false (s.first == 45) _ _ s.not_dash
    ∙ ap (λ ys. let o : Option (Item × List ℕ) = Some (Range c c, ys) in o) (sym s.split))

item_complete : (cs : List ℕ) (r : Item) → ItemText cs r → (ys : List ℕ) → Ended ys → item_front (cs ++ ys) ≡ Some (r, ys)
unfolding Ended
item_complete cs r (is.category (is.of {cs = ds} {k = k} n)) ys e = signed_complete 112 ds k (Some (In k, ys)) n ys refl
item_complete cs r (is.category (is.others {cs = ds} {k = k} n)) ys e = signed_complete 80 ds k (Some (NotIn k, ys)) n ys refl
item_complete cs r (is.single {cs = ds} {c = c} m) ys e =
    cond-false (begins_category (ds ++ ys)) _ _ (member_no_category ds c m ys)
    ∙ (ap (option_and_then (λ p. range_front p.0 p.1)) (member_complete ds c m ys) ∙ e c)
item_complete cs r (is.range {cs = ds} {ds = es} {c = c} {d = d} m k h) ys e =
    cond-false (begins_category ((ds ++ 45 ∷ es) ++ ys)) _ _
    (ap begins_category (append_assoc ds (45 ∷ es) ys) ∙ member_no_category ds c m (45 ∷ (es ++ ys)))
    ∙ (ap characters_front (append_assoc ds (45 ∷ es) ys)
    ∙ (ap (option_and_then (λ p. range_front p.0 p.1)) (member_complete ds c m (45 ∷ (es ++ ys)))
    ∙ (range_end_at c (45 ∷ (es ++ ys)) (es ++ ys) (d, ys) (starts_on es ys (member_starts es d k)) (member_complete es d k ys)
    ∙ cond-true (nat_le c d) _ _ h)))

tail_ended : (cs : List ℕ) (rs : List Item) (ds : List ℕ) (ls : List Item) (ys : List ℕ) → ItemsText cs rs → LastText ds ls
    → Ended (cs ++ (ds ++ 93 ∷ ys))
unfolding Ended
tail_ended cs rs ds ls ys is.none is.none c = refl
tail_ended cs rs ds ls ys is.none is.dash c = refl
tail_ended cs rs ds ls ys (is.more {cs = hs} {ds = ks} {r = r} i k) l c =
    range_front_at ((hs ++ ks) ++ (ds ++ 93 ∷ ys)) (starts_on (hs ++ ks) (ds ++ 93 ∷ ys) (starts_on hs ks (item_starts hs r i))) c

last_complete : (n : ℕ) (qs : List Item) (ds : List ℕ) (ls : List Item) (ys : List ℕ) → LastText ds ls
    → tail_front (suc n) qs (ds ++ 93 ∷ ys) ≡ Some (qs ++ ls, ys)
last_complete n qs ds ls ys is.none = ap (λ rs. let o : Option (List Item × List ℕ) = Some (rs, ys) in o) (sym (append-nil qs))
last_complete n qs ds ls ys is.dash = refl

tail_complete : (cs : List ℕ) (rs : List Item) → ItemsText cs rs
    → (n : ℕ) (qs : List Item) (ds : List ℕ) (ls : List Item) (ys : List ℕ) → LastText ds ls → length (cs ++ (ds ++ 93 ∷ ys)) < n
    → tail_front n qs (cs ++ (ds ++ 93 ∷ ys)) ≡ Some (qs ++ (rs ++ ls), ys)
tail_complete cs rs is.none zero qs ds ls ys l h = absurd (omega arith)
tail_complete cs rs is.none (suc n) qs ds ls ys l h = last_complete n qs ds ls ys l
tail_complete cs rs (is.more i k) zero qs ds ls ys l h = absurd (omega arith)
tail_complete cs rs (is.more {cs = hs} {ds = ks} {r = r} {rs = ts} i k) (suc n) qs ds ls ys l h =
    let rest : List ℕ = ks ++ (ds ++ 93 ∷ ys) in
    let s = starts_on hs rest (item_starts hs r i) in
    let front : item_front (hs ++ rest) ≡ Some (r, rest) = item_complete hs r i rest (tail_ended ks ts ds ls ys k l) in
    let shorter = item_shorter (hs ++ rest) r rest front in
    let same : (hs ++ ks) ++ (ds ++ 93 ∷ ys) ≡ hs ++ rest = append_assoc hs ks (ds ++ 93 ∷ ys) in
    let len : length ((hs ++ ks) ++ (ds ++ 93 ∷ ys)) ≡ length (hs ++ rest) = ap length same in
    ap (tail_front (suc n) qs) same
    ∙ (tail_item n qs (hs ++ rest) s.rest s.first s.split (eqb-false s.first 93 s.not_closing) (eqb-false s.first 45 s.not_dash)
    ∙ (ap (option_and_then (then_more n qs)) front
    ∙ (tail_complete ks ts k n (qs ++ r ∷ []) ds ls ys l (omega arith)
    ∙ ap (λ us. let o : Option (List Item × List ℕ) = Some (us, ys) in o) (append_assoc qs (r ∷ []) (ts ++ ls)))))

class_complete : (n : ℕ) (negated : Bool) (r : Item) (cs : List ℕ) (rs : List Item) (ds : List ℕ) (ls : List Item) (ys : List ℕ)
    → ItemsText cs rs → LastText ds ls → length (cs ++ (ds ++ 93 ∷ ys)) < n
    → class_front n negated (r, cs ++ (ds ++ 93 ∷ ys)) ≡ Some (characters negated (r ∷ (rs ++ ls)), ys)
class_complete n negated r cs rs ds ls ys i l h =
    ap (option_map (λ q. let p : Token × List ℕ = (characters negated q.0, q.1) in p)) (tail_complete cs rs i n (r ∷ []) ds ls ys l h)

first_complete : (n : ℕ) (negated : Bool) (bs : List ℕ) (r : Item) (cs : List ℕ) (rs : List Item) (ds : List ℕ) (ls : List Item)
    (ys : List ℕ) → FirstText bs r → ItemsText cs rs → LastText ds ls → length (bs ++ (cs ++ (ds ++ 93 ∷ ys))) ≤ n
    → first_front n negated (bs ++ (cs ++ (ds ++ 93 ∷ ys))) ≡ Some (characters negated (r ∷ (rs ++ ls)), ys)
first_complete n negated bs r cs rs ds ls ys is.dash i l h = class_complete n negated (Range 45 45) cs rs ds ls ys i l (omega arith)
first_complete n negated bs r cs rs ds ls ys (is.item {cs = hs} {r = q} f) i l h =
    let rest : List ℕ = cs ++ (ds ++ 93 ∷ ys) in
    let s = starts_on hs rest (item_starts hs q f) in
    let front : item_front (hs ++ rest) ≡ Some (q, rest) = item_complete hs q f rest (tail_ended cs rs ds ls ys i l) in
    let shorter = item_shorter (hs ++ rest) q rest front in
    first_item n negated (hs ++ rest) s.rest s.first s.split (eqb-false s.first 45 s.not_dash)
    ∙ (ap (option_and_then (class_front n negated)) front ∙ class_complete n negated q cs rs ds ls ys i l (omega arith))

no_caret_first : (bs : List ℕ) (r : Item) (zs : List ℕ) → FirstText bs r → begins_with_caret bs ≡ false
    → bracket_front (bs ++ zs) ≡ first_front (length (bs ++ zs)) false (bs ++ zs)
unfolding starts_on item_starts
no_caret_first bs r zs is.dash h = refl
no_caret_first bs r zs (is.item {cs = hs} {r = q} f) h =
    let s = item_starts hs q f in
    let t = starts_on hs zs s in
    bracket_other (hs ++ zs) t.rest t.first t.split (eqb-false t.first 94 (subst (λ xs. begins_with_caret xs ≡ false) s.split h))

bracket_complete : (hs : List ℕ) (negated : Bool) (bs : List ℕ) (r : Item) (cs : List ℕ) (rs : List Item) (ds : List ℕ)
    (ls : List Item) (ys : List ℕ) → CaretText hs negated → FirstText bs r → (negated ≡ false → begins_with_caret bs ≡ false)
    → ItemsText cs rs → LastText ds ls
    → bracket_front ((hs ++ (bs ++ (cs ++ (ds ++ 93 ∷ [])))) ++ ys) ≡ Some (characters negated (r ∷ (rs ++ ls)), ys)
bracket_complete hs negated bs r cs rs ds ls ys is.none f c i l =
    let all : List ℕ = bs ++ (cs ++ (ds ++ 93 ∷ ys)) in
    ap bracket_front (sym (regroup_class bs cs ds ys))
    ∙ (no_caret_first bs r (cs ++ (ds ++ 93 ∷ ys)) f (c refl) ∙ first_complete (length all) false bs r cs rs ds ls ys f i l (omega arith))
bracket_complete hs negated bs r cs rs ds ls ys is.caret f c i l =
    let all : List ℕ = bs ++ (cs ++ (ds ++ 93 ∷ ys)) in
    ap (λ zs. bracket_front (94 ∷ zs)) (sym (regroup_class bs cs ds ys))
    ∙ first_complete (length all) true bs r cs rs ds ls ys f i l (omega arith)

digits_complete : (cs : List ℕ) (n d : ℕ) (zs : List ℕ) → are_digits cs ≡ true → is_digit d ≡ false
    → digits_front n (cs ++ d ∷ zs) ≡ (number_on n cs, d ∷ zs)
digits_complete [] n d zs h e = cond-false (is_digit d) _ _ e
digits_complete (c ∷ cs) n d zs h e =
    let both = and_parts (is_digit c) (are_digits cs) h in
    cond-true (is_digit c) _ _ both.0 ∙ digits_complete cs (10 * n + (c - 48)) d zs both.1 e

number_complete : (c : ℕ) (cs : List ℕ) (d : ℕ) (zs : List ℕ) → is_digit c ≡ true → are_digits cs ≡ true → is_digit d ≡ false
    → number_front (c ∷ (cs ++ d ∷ zs)) ≡ Some (number_on (c - 48) cs, d ∷ zs)
number_complete c cs d zs h k e = cond-true (is_digit c) _ _ h ∙ ap Some (digits_complete cs (c - 48) d zs k e)

digit_not : (d : ℕ) → is_digit d ≡ true → (d == 125) ≡ false
digit_not d h =
    let high : d ≤ 57 = leb-true d 57 (and_parts (nat_le 48 d) (nat_le d 57) h).1 in
    ne_eqb d 125 (λ e. absurd (omega arith))

counted : (xs : List ℕ) (n : ℕ) (zs : List ℕ) → number_front xs ≡ Some (n, zs) → counts_front xs ≡ least_end n zs
counted xs n zs e = ap (option_and_then (λ p. least_end p.0 p.1)) e

pub front_complete : (cs : List ℕ) (t : Token) → Spells cs t → (ys : List ℕ) → token_front (cs ++ ys) ≡ Some (t, ys)
front_complete cs t is.opens ys = refl
front_complete cs t is.closes ys = refl
front_complete cs t is.parts ys = refl
front_complete cs t (is.normal c h) ys =
    cond-false (c == 40) _ _ (not_equal c 40 [] (41 ∷ 42 ∷ 43 ∷ 46 ∷ 63 ∷ 91 ∷ 92 ∷ 93 ∷ 123 ∷ 124 ∷ 125 ∷ []) h)
    ∙ (cond-false (c == 41) _ _ (not_equal c 41 (40 ∷ []) (42 ∷ 43 ∷ 46 ∷ 63 ∷ 91 ∷ 92 ∷ 93 ∷ 123 ∷ 124 ∷ 125 ∷ []) h)
    ∙ (cond-false (c == 124) _ _ (not_equal c 124 (40 ∷ 41 ∷ 42 ∷ 43 ∷ 46 ∷ 63 ∷ 91 ∷ 92 ∷ 93 ∷ 123 ∷ []) (125 ∷ []) h)
    ∙ (cond-false (c == 42) _ _ (not_equal c 42 (40 ∷ 41 ∷ []) (43 ∷ 46 ∷ 63 ∷ 91 ∷ 92 ∷ 93 ∷ 123 ∷ 124 ∷ 125 ∷ []) h)
    ∙ (cond-false (c == 43) _ _ (not_equal c 43 (40 ∷ 41 ∷ 42 ∷ []) (46 ∷ 63 ∷ 91 ∷ 92 ∷ 93 ∷ 123 ∷ 124 ∷ 125 ∷ []) h)
    ∙ (cond-false (c == 63) _ _ (not_equal c 63 (40 ∷ 41 ∷ 42 ∷ 43 ∷ 46 ∷ []) (91 ∷ 92 ∷ 93 ∷ 123 ∷ 124 ∷ 125 ∷ []) h)
    ∙ (cond-false (c == 123) _ _ (not_equal c 123 (40 ∷ 41 ∷ 42 ∷ 43 ∷ 46 ∷ 63 ∷ 91 ∷ 92 ∷ 93 ∷ []) (124 ∷ 125 ∷ []) h)
    ∙ (cond-false (c == 46) _ _ (not_equal c 46 (40 ∷ 41 ∷ 42 ∷ 43 ∷ []) (63 ∷ 91 ∷ 92 ∷ 93 ∷ 123 ∷ 124 ∷ 125 ∷ []) h)
    ∙ (cond-false (c == 92) _ _ (not_equal c 92 (40 ∷ 41 ∷ 42 ∷ 43 ∷ 46 ∷ 63 ∷ 91 ∷ []) (93 ∷ 123 ∷ 124 ∷ 125 ∷ []) h)
    ∙ (cond-false (c == 91) _ _ (not_equal c 91 (40 ∷ 41 ∷ 42 ∷ 43 ∷ 46 ∷ 63 ∷ []) (92 ∷ 93 ∷ 123 ∷ 124 ∷ 125 ∷ []) h)
    ∙ cond-true (is_normal c) _ _ h)))))))))
front_complete cs t is.dot ys = refl
front_complete cs t (is.category (is.of {cs = ds} {k = k} n)) ys = ap item_token (signed_complete 112 ds k (Some (In k, ys)) n ys refl)
front_complete cs t (is.category (is.others {cs = ds} {k = k} n)) ys =
    ap item_token (signed_complete 80 ds k (Some (NotIn k, ys)) n ys refl)
front_complete cs t (is.escaped l c h) ys =
    cond-false (is_category_letter (l ∷ ys)) _ _ (escaped_letter l c h)
    ∙ ap (λ o. one_front (option_map (λ x. let p : ℕ × List ℕ = (x, ys) in p) o)) h
front_complete cs t (is.bracket {hs = hs} {bs = bs} {cs = us} {ds = ds} {negated = negated} {r = r} {rs = rs} {ls = ls} a f c i l) ys =
    bracket_complete hs negated bs r us rs ds ls ys a f c i l
front_complete cs t is.star ys = refl
front_complete cs t is.plus ys = refl
front_complete cs t is.question ys = refl
front_complete cs t (is.exactly c ds h k) ys =
    ap (λ zs. counts_front (c ∷ zs)) (append_assoc ds (125 ∷ []) ys)
    ∙ counted (c ∷ (ds ++ 125 ∷ ys)) _ _ (number_complete c ds 125 ys h k refl)
front_complete cs t (is.at_least c ds h k) ys =
    ap (λ zs. counts_front (c ∷ zs)) (append_assoc ds (44 ∷ 125 ∷ []) ys)
    ∙ counted (c ∷ (ds ++ 44 ∷ 125 ∷ ys)) _ _ (number_complete c ds 44 (125 ∷ ys) h k refl)
front_complete cs t (is.between c ds d es h k m n low) ys =
    ap (λ zs. counts_front (c ∷ zs)) (append_assoc ds (44 ∷ d ∷ (es ++ 125 ∷ [])) ys)
    ∙ (ap (λ zs. counts_front (c ∷ (ds ++ 44 ∷ d ∷ zs))) (append_assoc es (125 ∷ []) ys)
    ∙ (counted (c ∷ (ds ++ 44 ∷ d ∷ (es ++ 125 ∷ ys))) _ _ (number_complete c ds 44 (d ∷ (es ++ 125 ∷ ys)) h k refl)
    ∙ (cond-false (d == 125) _ _ (digit_not d m)
    ∙ (ap (option_and_then (λ p. most_end (number_on (c - 48) ds) p.0 p.1)) (number_complete d es 125 ys m n refl)
    ∙ cond-true (nat_le (number_on (c - 48) ds) (number_on (d - 48) es)) _ _ low))))

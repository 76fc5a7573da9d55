-- A document and one of one resource that does the same accept the same values. For each value, at some number of nested
-- schemas both have the same results, whatever those of deeper ones are. So the results of neither depend on these.
use Rattle.std.proofs.Common.{◌≡◌, ℕ, zero, suc, ◌+◌, ◌≤◌, ◌<◌, Bool, true, sym, ap, ◌∙◌, true≢false, subst, arith}
use Rattle.std.specs.Prelude.{◌↔◌}
use Rattle.tinyjson.specs.Tree.{Tree, array, object, Items, no_items, item, Members, no_members, member}
use Rattle.tinyjson_schema_keywords.specs.Applied.{schema_at, items_in, members_in}
use Rattle.tinyjson_schema_keywords.specs.Forms.{form_of}
use Rattle.tinyjson_schema_keywords.specs.Names.{name}
use Rattle.tinyjson_schema_keywords.specs.References.{referenced}
use Rattle.tinyjson_schema_keywords.specs.declared.keyword.Keyword.{Keyword}
use Rattle.tinyjson_schema.specs.Circles.{settles, reference_steps}
use Rattle.tinyjson_schema.specs.Evaluated.{Answers}
use Rattle.tinyjson_schema.specs.Nested.{is_reference}
use Rattle.tinyjson_schema.specs.Valid as valid
use Rattle.tinyjson_schema.specs.Valid.{IsValidIn, judge}
use Rattle.tinyjson_schema_laws.specs.Laws.{by_value}
use Rattle.tinyjson_schema_laws.specs.Scoped as scoped
use Rattle.tinyjson_schema_laws.specs.Scoped.{Scope, Scoped, IsValidScoped, outer, entered, target_in, judged}
use Rattle.tinyjson_schema_laws.proofs.Alike.{here_applied, ItemsBelow, MembersBelow}
use Rattle.tinyjson_schema_laws.proofs.Bisimilar.{ValueRel, LedRel, Simulates, is_applied}
use Rattle.tinyjson_schema_laws.proofs.Relations.{value_map, value_and, led_map}
use Rattle.tinyjson_schema_laws.proofs.Settled.{settled, here_settles, led_settles}
use Rattle.tinyjson_schema_laws.proofs.Sizes.{size, items_size, members_size, opt_size, key_size, referenced_size}
use Rattle.tinyjson_schema_laws.proofs.Stepping.{HereIn, UnderIn, step, in_whole, scoped_more, valid_more}

-- ---- what is below a value

module _ (d : ℕ) where
  abbrev IsSmall : Tree → Type 0
  IsSmall w = size w < d

  items_small : (vs : Items) → items_size vs < d → ItemsBelow IsSmall vs
  items_small no_items h = tt
  items_small (item v vs) h = (omega arith, items_small vs (omega arith))

  members_small : (ms : Members) → members_size ms < d → MembersBelow IsSmall ms
  members_small no_members h = tt
  members_small (member k v ms) h = (omega arith, omega arith, members_small ms (omega arith))

  items_below : (u : Tree) → size u ≤ d → ItemsBelow IsSmall (items_in u)
  items_below (array vs) h = items_small vs (omega arith)
  items_below _ h = tt

  members_below : (u : Tree) → size u ≤ d → MembersBelow IsSmall (members_in u)
  members_below (object ms) h = members_small ms (omega arith)
  members_below _ h = tt

-- as many nested schemas as a value of the size d needs before those for values of the size 0, at most k for one value
abbrev steps : ℕ → ℕ → ℕ
steps k zero = 0
steps k (suc d) = suc k + steps k d

module _ (t whole : Tree) (B : Scope → Tree → Tree → Type 0) (sim : Simulates t whole B) (formats : Bool) where
  -- at most this many are applied to one value
  abbrev most : ℕ
  most = suc (reference_steps + size whole)

  abbrev Within : Scope → Tree → Tree → Type 0
  Within c s r = B c s r × (size r ≤ size whole)

  within_parts : (c : Scope) (s r : Tree) → Within c s r → (k : Keyword) → is_applied k ≡ true
      → ValueRel (λ q v. Within (entered c q) q v) (form_of k) (schema_at s k) (schema_at r k)
  within_parts c s r m k e = value_map (λ q v. B (entered c q) q v) (λ q v. Within (entered c q) q v) (form_of k) (schema_at s k)
      (schema_at r k) (λ q v l h. (h, (let n : opt_size (schema_at r k) ≤ size r = key_size r (name k) in let o = m.1 in omega arith)))
      (sim.parts c s r m.0 k e)

  within_led : (c : Scope) (s r : Tree) → Within c s r → (k : Keyword) → is_reference k ≡ true
      → LedRel Within (referenced whole k r) (target_in t c k s)
  within_led c s r m k e = led_map B Within (referenced whole k r) (target_in t c k s)
      (λ d q v f h. (h, subst (λ o. opt_size o ≤ size whole) f (referenced_size whole k r))) (sim.led c s r m.0 k e)

  all_settle : (c : Scope) (s r : Tree) → Within c s r → settles whole most r ≡ true
  all_settle c s r m =
      let fit = sim.fit c s r m.0 in
      let l : size r ≤ size whole = m.1 in
      settled whole most fit.0 r fit.1 (omega arith)

  -- With n nested schemas the results are the same for values up to the size d, by schemas that apply at most k to one
  -- value, if n is large enough.
  abbrev AgreeAt : ℕ → Scoped → Answers → Type 0
  AgreeAt n g h = (d k : ℕ) → steps most d + k ≤ n → (c : Scope) (s r : Tree) → Within c s r → settles whole k r ≡ true → (u : Tree)
      → size u ≤ d → HereIn t whole B sim formats (scoped.answers t formats n g) (valid.answers (in_whole t whole B sim formats) n h) u
      (IsSmall d) c s r

  module _ (n : ℕ) (g : Scoped) (h : Answers) (rec : AgreeAt n g h) where
    abbrev a : Scoped
    a = scoped.answers t formats n g

    abbrev b : Answers
    b = valid.answers (in_whole t whole B sim formats) n h

    under_same : (d k : ℕ) → steps most d + suc k ≤ suc n → (c : Scope) (s r : Tree) → Within c s r → (u : Tree)
        → UnderIn t whole B sim formats a b u (IsSmall d) c s r
    under_same zero k l c s r m u w j = absurd (omega arith)
    under_same (suc d) k l c s r m u w j = (rec d most (omega arith) c s r m (all_settle c s r m) w (omega arith)).0

    one_more : AgreeAt (suc n) g h
    one_more d zero l c s r m e u j = absurd (true≢false (sym e))
    one_more d (suc k) l c s r m e u j = step t whole B sim formats a b u (IsSmall d) (members_below d u j) (items_below d u j) c s r m.0
        (λ x is. value_map (λ q v. Within (entered c q) q v × (settles whole k v ≡ true))
        (λ q v. HereIn t whole B sim formats a b u (IsSmall d) (entered c q) q v) (form_of x) (schema_at s x) (schema_at r x)
        (λ q v small p. rec d k (omega arith) (entered c q) q v p.0 p.1 u j)
        (value_and (λ q v. Within (entered c q) q v) (settles whole k) (form_of x) (schema_at s x) (schema_at r x)
        (within_parts c s r m x (here_applied x is)) (here_settles whole k r e x is)))
        (λ x is. value_map (λ q v. Within (entered c q) q v) (λ q v. UnderIn t whole B sim formats a b u (IsSmall d) (entered c q) q v)
        (form_of x) (schema_at s x) (schema_at r x) (λ q v small p. under_same d k l (entered c q) q v p u) (within_parts c s r m x is))
        (λ x is. led_map Within (HereIn t whole B sim formats a b u (IsSmall d)) (referenced whole x r) (target_in t c x s)
        (λ f q v o p. rec d k (omega arith) f q v p (led_settles whole k r e x is v o) u j) (within_led c s r m x is))

  agree : (n : ℕ) (g : Scoped) (h : Answers) → AgreeAt n g h
  agree zero g h d zero l c s r m e u j = absurd (true≢false (sym e))
  agree zero g h d (suc k) l c s r m e u j = absurd (omega arith)
  agree (suc n) g h d k l c s r m e u j = one_more n g h (agree n g h) d k l c s r m e u j

  module _ (start : B (outer t) t whole) (u : Tree) where
    abbrev enough : ℕ
    enough = steps most (size u) + most

    one_result : (g : Scoped) (h : Answers) → judged t formats enough g u ≡ judge (in_whole t whole B sim formats) enough h whole u
    one_result g h =
        let within : Within (outer t) t whole = (start, omega arith) in
        (agree enough g h (size u) most (omega arith) (outer t) t whole within (all_settle (outer t) t whole within) u (omega arith)).0

    more : (n m : ℕ) → n + m ≡ m + n
    more n m = omega arith

    to_whole : IsValidScoped t formats u → IsValidIn (in_whole t whole B sim formats) u
    to_whole v = (
      enough,
      λ h.
          let g : Scoped = λ c. by_value (λ w. true) (λ w x. true) in
          sym (one_result (scoped.answers t formats v.0 g) h)
          ∙ (ap (λ s. (s (outer t)).accepts t u) (scoped_more t formats enough v.0 g ∙ (ap (λ k. scoped.answers t formats k g)
          (more enough v.0) ∙ sym (scoped_more t formats v.0 enough g)))
          ∙ v.1 (scoped.answers t formats enough g)),
    )

    from_whole : IsValidIn (in_whole t whole B sim formats) u → IsValidScoped t formats u
    from_whole v = (
      enough,
      λ g.
          let h : Answers = by_value (λ w. true) (λ w x. true) in
          one_result g (valid.answers (in_whole t whole B sim formats) v.0 h)
          ∙ (ap (λ s. s.accepts whole u) (valid_more (in_whole t whole B sim formats) enough v.0 h
          ∙ (ap (λ k. valid.answers (in_whole t whole B sim formats) k h) (more enough v.0)
          ∙ sym (valid_more (in_whole t whole B sim formats) v.0 enough h)))
          ∙ v.1 (valid.answers (in_whole t whole B sim formats) enough h)),
    )

    decided : (is : Bool) × (n : ℕ) × ((g : Scoped) → judged t formats n g u ≡ is)
    decided =
        let h : Answers = by_value (λ w. true) (λ w x. true) in
        (judge (in_whole t whole B sim formats) enough h whole u, enough, λ g. one_result g h)

pub exactly : (t whole : Tree) (B : Scope → Tree → Tree → Type 0) → Simulates t whole B → B (outer t) t whole → (formats : Bool) (u : Tree)
    → IsValidScoped t formats u ↔ IsValidIn (record { tree = whole; formats = formats }) u
exactly t whole B sim start formats u =
    (to_whole t whole B sim formats start u, from_whole t whole B sim formats start u)

pub each_value_decided : (t whole : Tree) (B : Scope → Tree → Tree → Type 0) → Simulates t whole B → B (outer t) t whole → (formats : Bool)
    (u : Tree) → (is : Bool) × (n : ℕ) × ((g : Scoped) → judged t formats n g u ≡ is)
each_value_decided t whole B sim start formats u = decided t whole B sim formats start u

-- Schemas that do the same have the same results for a value, if the schemas that they apply have.
use Rattle.std.proofs.Common.{◌≡◌, ℕ, zero, suc, ◌+◌, Bool, true, false, ◌&&◌, ◌||◌, Option, Some, None, refl, ap, ◌∙◌, arith}
use Rattle.std.specs.Option.{option_map_or}
use Rattle.std.specs.Prelude.{⊤}
use Rattle.tinyjson.specs.Tree.{Tree, Items, no_items, item, Members, no_members, member}
use Rattle.tinyjson_schema_keywords.specs.Applied.{schema_at, items_in, members_in}
use Rattle.tinyjson_schema_keywords.specs.Forms.{form_of}
use Rattle.tinyjson_schema_keywords.specs.References.{referenced}
use Rattle.tinyjson_schema_keywords.specs.declared.keyword.Keyword.{Keyword}
use Rattle.tinyjson_schema_keywords.specs.declared.keyword.Keyword.TheVariants as kw
use Rattle.tinyjson_schema.specs.Evaluated as evaluated
use Rattle.tinyjson_schema.specs.Evaluated.{Answers, Child, value_of}
use Rattle.tinyjson_schema.specs.Nested.{is_reference}
use Rattle.tinyjson_schema.specs.Valid as valid
use Rattle.tinyjson_schema.specs.Valid.{Root}
use Rattle.tinyjson_schema_laws.specs.Scoped as scoped
use Rattle.tinyjson_schema_laws.specs.Scoped.{Scope, Scoped, entered, inner, target_in}
use Rattle.tinyjson_schema_laws.proofs.Alike.{is_here, here_applied, ItemsBelow, MembersBelow, Here, Under, accepts_same, evaluates_same}
use Rattle.tinyjson_schema_laws.proofs.Bisimilar.{ValueRel, LedRel, Simulates, is_applied}
use Rattle.tinyjson_schema_laws.proofs.Relations.{value_map, led_map}

-- ---- more nested schemas

suc_more : (n m : ℕ) → suc (n + m) ≡ suc n + m
suc_more n m = omega arith

pub scoped_more : (t : Tree) (formats : Bool) (n m : ℕ) (g : Scoped)
    → scoped.answers t formats n (scoped.answers t formats m g) ≡ scoped.answers t formats (n + m) g
scoped_more t formats zero m g = ap (λ k. scoped.answers t formats k g) (let e : m ≡ zero + m = omega arith in e)
scoped_more t formats (suc n) m g = ap (scoped.by_rules t formats) (scoped_more t formats n m g)
    ∙ ap (λ k. scoped.answers t formats k g) (suc_more n m)

pub valid_more : (root : Root) (n m : ℕ) (g : Answers) → valid.answers root n (valid.answers root m g) ≡ valid.answers root (n + m) g
valid_more root zero m g = ap (λ k. valid.answers root k g) (let e : m ≡ zero + m = omega arith in e)
valid_more root (suc n) m g = ap (valid.by_rules root) (valid_more root n m g) ∙ ap (λ k. valid.answers root k g) (suc_more n m)

-- ---- one schema

module _ (t whole : Tree) (B : Scope → Tree → Tree → Type 0) (sim : Simulates t whole B) (formats : Bool) where
  abbrev pub in_whole : Root
  in_whole = record { tree = whole; formats = formats }

  module _ (a : Scoped) (b : Answers) (u : Tree) (Below : Tree → Type 0) where
    -- the results for u are the same
    abbrev pub HereIn : Scope → Tree → Tree → Type 0
    HereIn c s r = Here (a c) b u Below s r

    abbrev pub UnderIn : Scope → Tree → Tree → Type 0
    UnderIn c s r = Under (a c) b u Below s r

    led_same : {X : Type 0} (F : Scope × Tree → X) (G : Tree → X) (x : X) (o : Option Tree) (d : Option (Scope × Tree))
        → ((e : Scope × Tree) (q : Tree) → HereIn e.0 e.1 q → F e ≡ G q) → LedRel HereIn o d → option_map_or F d x ≡ option_map_or G o x
    led_same F G x None None f l = refl
    led_same F G x None (Some d) f l = absurd l
    led_same F G x (Some q) None f l = absurd l
    led_same F G x (Some q) (Some d) f l = f d q l

    module _ (members : MembersBelow Below (members_in u)) (items : ItemsBelow Below (items_in u)) (c : Scope) (s r : Tree) (m : B c s r)
        (here : (k : Keyword) → is_here k ≡ true
        → ValueRel (λ q v. HereIn (entered c q) q v) (form_of k) (schema_at s k) (schema_at r k))
        (under : (k : Keyword) → is_applied k ≡ true → ValueRel (λ q v. UnderIn (entered c q) q v) (form_of k) (schema_at s k)
        (schema_at r k))
        (led : (k : Keyword) → is_reference k ≡ true → LedRel HereIn (referenced whole k r) (target_in t c k s))
      where
        references_accept : scoped.reference_accepts t formats a c s u ≡ valid.reference_accepts whole b.accepts r u
        references_accept = λ i.
            led_same (λ d. (a d.0).accepts d.1 u) (λ q. b.accepts q u) true _ _ (λ e q l. l.0) (led kw.Ref refl) i
            && led_same (λ d. (a d.0).accepts d.1 u) (λ q. b.accepts q u) true _ _ (λ e q l. l.0) (led kw.DynamicRef refl) i

        references_evaluate : (x : Child) → Below (value_of x) → scoped.reference_evaluates t formats a c s u x
            ≡ evaluated.reference_evaluates whole b r u x
        references_evaluate x g = λ i.
            led_same (λ d. (a d.0).evaluates d.1 u x) (λ q. b.evaluates q u x) false _ _ (λ e q l. l.1 x g) (led kw.Ref refl) i
            || led_same (λ d. (a d.0).evaluates d.1 u x) (λ q. b.evaluates q u x) false _ _ (λ e q l. l.1 x g) (led kw.DynamicRef refl) i

        pub step : Here (scoped.by_rules t formats a c) (valid.by_rules in_whole b) u Below s r
        step = (
          accepts_same (inner a c) b u Below members items s r (sim.refuses c s r m) here under
              (scoped.reference_evaluates t formats a c s u) (evaluated.reference_evaluates whole b r u) references_evaluate
              formats _ _ references_accept,
          evaluates_same (inner a c) b u Below members items s r (sim.refuses c s r m) here under
              (scoped.reference_evaluates t formats a c s u) (evaluated.reference_evaluates whole b r u) references_evaluate,
        )

  -- ---- all schemas, if those that are nested deeper have the same results for each value

  abbrev pub Agree : Scoped → Answers → Type 0
  Agree a b = (c : Scope) (s r : Tree) → B c s r → (u : Tree) → HereIn a b u (λ w. ⊤) c s r

  all_items : (vs : Items) → ItemsBelow (λ w. ⊤) vs
  all_items no_items = tt
  all_items (item v vs) = (tt, all_items vs)

  all_members : (ms : Members) → MembersBelow (λ w. ⊤) ms
  all_members no_members = tt
  all_members (member k v ms) = (tt, tt, all_members ms)

  agree_one : (a : Scoped) (b : Answers) → Agree a b → Agree (scoped.by_rules t formats a) (valid.by_rules in_whole b)
  agree_one a b h c s r m u = step a b u (λ w. ⊤) (all_members (members_in u)) (all_items (items_in u)) c s r m
      (λ k e. value_map (λ q v. B (entered c q) q v) (λ q v. HereIn a b u (λ w. ⊤) (entered c q) q v) (form_of k) _ _
      (λ q v l g. h (entered c q) q v g u) (sim.parts c s r m k (here_applied k e)))
      (λ k e. value_map (λ q v. B (entered c q) q v) (λ q v. UnderIn a b u (λ w. ⊤) (entered c q) q v) (form_of k) _ _
      (λ q v l g w j. (h (entered c q) q v g w).0) (sim.parts c s r m k e))
      (λ k e. led_map B (HereIn a b u (λ w. ⊤)) _ _ (λ d q v f g. h d q v g u) (sim.led c s r m k e))

  -- at each number of nested schemas the results are the same, if those of deeper ones are
  pub simulated : (n : ℕ) (a : Scoped) (b : Answers) → Agree a b → Agree (scoped.answers t formats n a) (valid.answers in_whole n b)
  simulated zero a b h = h
  simulated (suc n) a b h = agree_one (scoped.answers t formats n a) (valid.answers in_whole n b) (simulated n a b h)

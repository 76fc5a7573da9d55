-- The bundled document does the same as the document by its dynamic scope.
use Rattle.std.proofs.Common.{◌≡◌, ℕ, Bool, true, false, List, [], ◌∷◌, Option, Some, None}
use Rattle.std.proofs.Common.{cond, refl, sym, ap, ◌∙◌, true≢false, subst}
use Rattle.std.specs.Option.{option_map_or}
use lib.Utf8.{encode}
use Rattle.tinyjson.specs.Access.{is_string}
use Rattle.tinyjson.specs.Tree.{Tree, string, object, Members, find}
use Rattle.tinyjson_grammar.specs.Soundness.{IsTree}
use Rattle.tinyjson_schema_keywords.specs.Applied.{schema_at}
use Rattle.tinyjson_schema_keywords.specs.Forms.{form_of}
use Rattle.tinyjson_schema_keywords.specs.Names.{name}
use Rattle.tinyjson_schema_keywords.specs.References.{referenced}
use Rattle.tinyjson_schema_keywords.specs.declared.keyword.Keyword.{Keyword}
use Rattle.tinyjson_schema_keywords.specs.declared.keyword.Keyword.TheVariants as kw
use Rattle.tinyjson_schema_bundle.specs.Bundles.{marks_of, base_by, base_in, pointed, pointed_among}
use Rattle.tinyjson_schema_bundle.specs.Scopes.{Reached, some_contested}
use Rattle.tinyjson_schema.specs.Nested.{is_reference}
use Rattle.tinyjson_schema.specs.Schemas.{is_schema, keywords_fit}
use Rattle.tinyjson_schema.specs.Valid.{refuses_all}
use Rattle.tinyjson_schema_laws.specs.Laws.{BeginsIn}
use Rattle.tinyjson_schema_laws.proofs.Leading.{to_place, lead_in, lead_among, all_lead}
use Rattle.tinyjson_schema_laws.specs.Scoped.{Scope, base, entered, outer, target_in}
use Rattle.tinyjson_schema_laws.proofs.Bisimilar.{ValueRel, LedRel, Simulates}
use Rattle.tinyjson_schema_laws.proofs.Pointed.{no_schema_same}
use Rattle.tinyjson_schema_laws.proofs.Parts.{keyword_related}
use Rattle.tinyjson_schema_laws.proofs.Walk.{fit_member}
use Rattle.tinyjson_schema_laws.proofs.Dynamic.{IsBase, AreBases, empty_base, in_base, ends_more}
use Rattle.tinyjson_schema_laws.proofs.Referring.{guide, root, Bundled, AreLed, keyword_led}

-- ---- the scope of a subschema

pub base_entered : (c : Scope) (s : Tree) → base (entered c s) ≡ base_in (base c) s
base_entered c s = by (schema_at s kw.Id)
  where
    by : (o : Option Tree) → base (cond (option_map_or is_string o false) (base_by (base c) o ∷ c) c) ≡ base_by (base c) o
    by None = refl
    by (Some (string cs)) = refl
    by (Some _) = refl

module _ (r : List ℕ) (c : Scope) (s : Tree) (ends : BeginsIn r c) (bases : AreBases c) where
  ends_entered : BeginsIn r (entered c s)
  ends_entered = by (option_map_or is_string (schema_at s kw.Id) false)
    where
      by : (x : Bool) → BeginsIn r (cond x (base_in (base c) s ∷ c) c)
      by true = ends_more r (base_in (base c) s) c ends
      by false = ends

  bases_entered : AreBases (entered c s)
  bases_entered = by (option_map_or is_string (schema_at s kw.Id) false)
    where
      first : (d : Scope) → AreBases d → IsBase (base d)
      first [] h = empty_base
      first (u ∷ d) h = h.0

      by : (x : Bool) → AreBases (cond x (base_in (base c) s ∷ c) c)
      by true = (in_base (base c) s (first c bases), bases)
      by false = bases

-- ---- the document

module _ (t : Tree) (sound : IsTree t) (z : List ℕ) (copies : List Reached)
    (none : some_contested (marks_of t) (base_in [] t) (marks_of t) ≡ false)
    (fit : is_schema (root t sound z copies none) true (root t sound z copies none) ≡ true) (leading : all_lead t ≡ true) where
  abbrev whole : Tree
  whole = root t sound z copies none

  abbrev IsBundle : List ℕ → Tree → Tree → Type 0
  IsBundle = Bundled t sound z copies none fit leading

  -- the schema r is the schema s bundled, in a scope that begins with the document
  abbrev pub Related : Scope → Tree → Tree → Type 0
  Related c s r = BeginsIn (base_in [] t) c × AreBases c × IsBundle (base c) s r

  module _ (c : Scope) (ends : BeginsIn (base_in [] t) c) (bases : AreBases c) where
    abbrev IsPart : Tree → Tree → Type 0
    IsPart q v = Related (entered c q) q v

    -- the keywords of a schema
    members_alike : (p : List ℕ) (ms : Members) (x : Bool)
        → keywords_fit whole x (pointed_among (guide t sound z copies none) (base c) p ms) ≡ true
        → lead_among (to_place (marks_of t)) (base c) ms ≡ true → IsTree (object ms) → (k : Keyword)
        → ValueRel IsPart (form_of k) (find (name k) ms) (find (name k) (pointed_among (guide t sound z copies none) (base c) p ms))
    members_alike p ms x fits leads sounds k =
        keyword_related whole (to_place (marks_of t)) (guide t sound z copies none) (base c) p ms leads sounds IsPart k
        (λ w v e i q r made s l f. (
          ends_entered (base_in [] t) c v ends bases,
          bases_entered (base_in [] t) c v ends bases,
          subst (λ b. IsBundle b v r) (sym (base_entered c v)) (record {
            around = base c;
            place = q;
            whole = f.0;
            based = refl;
            made = made;
            fit = f.1;
            sound = s;
            leading = l;
          }),
        ))
        (λ v. fit_member whole (name k) (pointed_among (guide t sound z copies none) (base c) p ms) v x fits)

    made_alike : (d p : List ℕ) (s : Tree) (x : Bool) → base_in d s ≡ base c → IsTree s → lead_in (to_place (marks_of t)) d s ≡ true
        → is_schema whole x (pointed (guide t sound z copies none) d p s) ≡ true → (k : Keyword)
        → ValueRel IsPart (form_of k) (schema_at s k) (schema_at (pointed (guide t sound z copies none) d p s) k)
    made_alike d p (object ms) x e s l f k = subst (λ u. ValueRel IsPart (form_of k) (find (name k) ms)
        (find (name k) (pointed_among (guide t sound z copies none) u p ms))) (sym e)
        (members_alike p ms x (subst (λ u. keywords_fit whole x (pointed_among (guide t sound z copies none) u p ms) ≡ true) e f)
        (subst (λ u. lead_among (to_place (marks_of t)) u ms ≡ true) e l) s k)
    made_alike d p _ x e s l f k = no_schema_same IsPart (guide t sound z copies none) (base c) (form_of k)

    made_refuses : (d p : List ℕ) (s : Tree) → refuses_all s ≡ refuses_all (pointed (guide t sound z copies none) d p s)
    made_refuses d p (object ms) = refl
    made_refuses d p _ = refl

    module _ (s r : Tree) (m : IsBundle (base c) s r) where
      alike : (k : Keyword) → ValueRel IsPart (form_of k) (schema_at s k) (schema_at r k)
      alike k = subst (λ x. ValueRel IsPart (form_of k) (schema_at s k) (schema_at x k)) (sym m.made)
          (made_alike m.around m.place s m.whole m.based m.sound m.leading (subst (λ x. is_schema whole m.whole x ≡ true) m.made m.fit) k)

      refuses : refuses_all s ≡ refuses_all r
      refuses = made_refuses m.around m.place s ∙ ap refuses_all (sym m.made)

      led_related : (o : Option Tree) (d : Option (Scope × Tree)) → AreLed t sound z copies none fit leading c ends bases o d
          → LedRel Related o d
      led_related None None h = tt
      led_related None (Some d) h = absurd h
      led_related (Some q) None h = absurd h
      led_related (Some q) (Some d) h = subst (λ e. Related e d.1 q) (sym h.1) (ends_more (base_in [] t) h.0 c ends, (h.2, bases), h.3)

      led : (k : Keyword) → is_reference k ≡ true → LedRel Related (referenced whole k r) (target_in t c k s)
      unfolding encode
      led kw.Ref e = led_related _ _ (keyword_led t sound z copies none fit leading c ends bases kw.Ref refl refl s r m)
      led kw.DynamicRef e = led_related _ _ (keyword_led t sound z copies none fit leading c ends bases kw.DynamicRef refl refl s r m)
      led _ e = absurd (true≢false (sym e))

  pub simulates : Simulates t whole Related
  simulates = record {
    refuses = λ c s r h. refuses c h.0 h.1 s r h.2;
    parts = λ c s r h k e. alike c h.0 h.1 s r h.2 k;
    led = λ c s r h. led c h.0 h.1 s r h.2;
    fit = λ c s r h. (h.2.whole, h.2.fit);
  }

  pub begins : Related (outer t) t whole
  begins = (
    refl,
    (in_base [] t empty_base, tt),
    record { around = []; place = []; whole = true; based = refl; made = refl; fit = fit; sound = sound; leading = leading },
  )

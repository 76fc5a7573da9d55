-- The port of a tree that is changed, beside the other settings.
use Rattle.std.proofs.Common.{◌≡◌, ℕ, pos, ◌<◌, false, Option, Some, None, option_map, codes, refl, sym, ap, ◌∙◌, subst}
use Rattle.std.specs.HashMap.{get_by_text}
use Rattle.std.specs.Option.{is_some}
use Rattle.std.specs.Str.{chars}
use Rattle.tinyjson.proofs.Callers.{view_Number, chars_literal, find_put_same, find_put_other}
use Rattle.tinyjson.specs.Access.{JsonMap, object_part}
use Rattle.tinyjson.specs.Index.{tree_at_key, with_tree_at_key}
use Rattle.tinyjson.specs.Number.{integer_decimal, JsonNumber}
use Rattle.tinyjson.specs.Tree.{Tree, number, object, Members}
use Rattle.tinyjson.specs.View.{view}
use Rattle.tinyjson.specs.declared.value.JsonValue.{JsonValue}
use Rattle.tinyjson.specs.declared.value.JsonValue.TheVariants as made
use Rattle.example_settings.proofs.Reading.{member_is}
use Rattle.example_settings.specs.Settings.{IsTls, HasSettings, KeepsSettings, with_port}

nothing_there : (o : Option JsonValue) → is_some o ≡ false → option_map view o ≡ None
nothing_there None h = refl
nothing_there (Some v) h = cc

-- a map without the key is an object without a port
pub no_port_there : (v : JsonValue) (m : JsonMap) → object_part v ≡ Some m → is_some (get_by_text m (codes "port")) ≡ false
    → tree_at_key (view v) (codes "port") ≡ None
no_port_there v m held h = sym (member_is v m (codes "port") held refl (get_by_text m (codes "port")) refl) ∙ nothing_there _ h

-- which has no settings
pub no_settings : (t u : Tree) (n : ℕ) → tree_at_key t (codes "port") ≡ None → KeepsSettings t n u
no_settings t u n h s (o, p, host, tls) low = let port = p.0 in cc

-- what `replace_member` says of a literal key
module _ (v part : JsonValue) where
  pub was_there : tree_at_key (view v) (chars (codes "port")) ≡ Some (view part) → tree_at_key (view v) (codes "port") ≡ Some (view part)
  was_there h = ap (tree_at_key (view v)) (sym (chars_literal (codes "port") refl)) ∙ h

  pub port_is_put : (w : JsonValue) (x : JsonNumber) (n : ℕ) → view w ≡ with_tree_at_key (view v) (chars (codes "port")) (view part)
      → part ≡ made.Number x → x.decimal ≡ integer_decimal (pos n)
      → view w ≡ with_port (view v) n
  port_is_put w x n h is whole =
      h
      ∙ (ap (λ k. with_tree_at_key (view v) k (view part)) (chars_literal (codes "port") refl)
      ∙ ap (with_tree_at_key (view v) (codes "port")) (ap view is ∙ (view_Number x ∙ ap number whole)))

keeps_members : (ms : Members) (n : ℕ) → n < 65536 → KeepsSettings (object ms) n (with_port (object ms) n)
keeps_members ms n fits s (o, p, h, l) low = (
  (_, refl),
  (find_put_same (codes "port") _ ms, low, fits),
  find_put_other (codes "host") (codes "port") _ ms (λ e. cc) ∙ h,
  subst (λ m. IsTls m s.tls) (sym (find_put_other (codes "tls") (codes "port") _ ms (λ e. cc))) l,
)

-- the other settings stay where the port is put
pub keeps : (t : Tree) (n : ℕ) → n < 65536 → KeepsSettings t n (with_port t n)
keeps t n fits s has low =
    let o = has.0 in
    subst (λ x. HasSettings (with_port x n) (record { port = n; host = s.host; tls = s.tls })) (sym o.1)
    (keeps_members o.0 n fits s (subst (λ x. HasSettings x s) o.1 has) low)

-- The bytes, the tokens and the schemas of references.
use Rattle.std.proofs.Common.{◌≡◌, ◌∷◌, [], ◌++◌, ℕ, suc, ◌<◌, ◌≤◌, ◌+◌, ◌==◌, Bool, true, false, List, Ok, Err, arith}
use Rattle.std.proofs.Common.{Option, Some, None, cond}
use Rattle.std.proofs.Common.{option_map, length, get_or, drop, map, String, string_bytes, Global, refl, sym, ap, ◌∙◌, append_assoc}
use Rattle.std.proofs.Common.{append-nil}
use Rattle.std.proofs.lemmas.Str.{is_utf8-from_IsUtf8, IsUtf8-from_is_utf8}
use Rattle.std.specs.Prelude.{option_and_then}
use Rattle.std.specs.Str.{chars, is_utf8, IsUtf8}
use Rattle.tinyjson.proofs.Callers.{view_String}
use Rattle.tinyjson.specs.Tree.{Tree}
use Rattle.tinyjson.specs.View.{view, text}
use Rattle.tinyjson.specs.declared.value.JsonValue.{JsonValue}
use Rattle.tinyjson.specs.declared.value.JsonValue.TheVariants as is
use Rattle.tinyjson_pointer.specs.Reading.{Reads}
use Rattle.tinyjson_pointer.specs.Text.{pointer_tokens}
use Rattle.tinyjson_pointer.specs.Tokens.{tokens_of}
use Rattle.tinyjson_pointer.specs.declared.pointer.Pointer.{Pointer}
use Rattle.tinyjson_pointer.specs.declared.pointer.PointerError.{PointerError}
use Rattle.tinyjson_pointer.specs.declared.pointer.PointerError.TheVariants.{NoSlash, BadEscape, OutOfMemory}
use Rattle.tinyjson_pointer.proofs.Callers.{tokens_read, no_tokens_read}
use Rattle.tinyjson_pointer.specs.Walk.{part_at}
use Rattle.tinyjson_schema_keywords.specs.Anchors.{anchors_in, anchored, is_plain_name}
use Rattle.tinyjson_schema_keywords.specs.References.{percent_decoded, after_percent, hex_byte, escape_front, byte_front, reference_bytes}
use Rattle.tinyjson_schema_keywords.specs.References.{form_in, form_after, is_schema_form, schema_from, at_pointer, at_text, at_fragment}
use Rattle.tinyjson_schema_keywords.specs.References.{target}
use Rattle.tinyjson_schema_keywords.specs.declared.keyword.Form.{Form}
use Rattle.tinyjson_schema_keywords.specs.declared.keyword.Form.TheVariants as form
use Rattle.tinyjson_schema_keywords.proofs.Lookups.{text_bytes}
use Rattle.tinyjson_schema_keywords.proofs.Turns.{drop_item, drop_end}

-- ---- percent-encoded bytes, of which those before the rest are decoded

more_decoded : (done : List ℕ) (b : ℕ) (o : Option (List ℕ))
    → option_map (λ ds. done ++ ds) (option_map (λ ds. b ∷ ds) o) ≡ option_map (λ ds. (done ++ b ∷ []) ++ ds) o
more_decoded done b None = refl
more_decoded done b (Some ds) = ap Some (sym (append_assoc done (b ∷ []) ds))

abbrev pub IsDecoded : List ℕ → List ℕ → List ℕ → Type 0
IsDecoded bytes done rest = percent_decoded bytes ≡ option_map (λ ds. done ++ ds) (percent_decoded rest)

pub none_decoded : (bytes : List ℕ) → IsDecoded bytes [] bytes
none_decoded bytes = by (percent_decoded bytes)
  where
    by : (o : Option (List ℕ)) → o ≡ option_map (λ ds. [] ++ ds) o
    by None = refl
    by (Some ds) = refl

empty : (xs : List ℕ) → length xs ≡ 0 → xs ≡ []
empty [] e = refl
empty (x ∷ xs) e = absurd (omega (arith, e))

pub all_decoded : (bytes done rest : List ℕ) → length rest ≡ 0 → IsDecoded bytes done rest → Some done ≡ percent_decoded bytes
all_decoded bytes done rest e h = ap Some (sym (append-nil done))
    ∙ sym (h ∙ ap (λ xs. option_map (λ ds. done ++ ds) (percent_decoded xs)) (empty rest e))

-- the first byte, and what follows
front_decoded : (b : ℕ) (bs : List ℕ) → percent_decoded (b ∷ bs)
    ≡ option_and_then (λ (p : ℕ × List ℕ). option_map (λ ds. p.0 ∷ ds) (percent_decoded p.1)) (byte_front b bs)
front_decoded b bs = by (b == 37) refl
  where
    paired : (o : Option ℕ) (more : List ℕ) → option_and_then (λ d. option_map (λ ds. d ∷ ds) (percent_decoded more)) o
        ≡ option_and_then (λ (p : ℕ × List ℕ). option_map (λ ds. p.0 ∷ ds) (percent_decoded p.1))
        (option_map {U = ℕ × List ℕ} (λ d. (d, more)) o)
    paired None more = refl
    paired (Some d) more = refl

    escaped : (xs : List ℕ) → after_percent xs ≡ option_and_then (λ (p : ℕ × List ℕ). option_map (λ ds. p.0 ∷ ds) (percent_decoded p.1))
        (escape_front xs)
    escaped [] = refl
    escaped (x ∷ []) = refl
    escaped (x ∷ y ∷ xs) = paired (hex_byte x y) xs

    by : (t : Bool) → (b == 37) ≡ t → cond t (after_percent bs) (option_map (λ ds. b ∷ ds) (percent_decoded bs))
        ≡ option_and_then (λ (p : ℕ × List ℕ). option_map (λ ds. p.0 ∷ ds) (percent_decoded p.1)) (cond t (escape_front bs) (Some (b, bs)))
    by true e = escaped bs
    by false e = refl

pub next_decoded : (bytes done rest more after : List ℕ) (b d : ℕ) → rest ≡ b ∷ more → byte_front b more ≡ Some (d, after)
    → IsDecoded bytes done rest → IsDecoded bytes (done ++ d ∷ []) after
next_decoded bytes done rest more after b d e f h = h ∙ (ap (λ xs. option_map (λ ds. done ++ ds) (percent_decoded xs)) e
    ∙ (ap (option_map (λ ds. done ++ ds)) (front_decoded b more
    ∙ ap (option_and_then (λ (p : ℕ × List ℕ). option_map (λ ds. p.0 ∷ ds) (percent_decoded p.1))) f)
    ∙ more_decoded done d (percent_decoded after)))

pub bad_decoded : (bytes done rest more : List ℕ) (b : ℕ) → rest ≡ b ∷ more → byte_front b more ≡ None → IsDecoded bytes done rest
    → None ≡ percent_decoded bytes
bad_decoded bytes done rest more b e f h = sym (h ∙ (ap (λ xs. option_map (λ ds. done ++ ds) (percent_decoded xs)) e
    ∙ ap (option_map (λ ds. done ++ ds)) (front_decoded b more
    ∙ ap (option_and_then (λ (p : ℕ × List ℕ). option_map (λ ds. p.0 ∷ ds) (percent_decoded p.1))) f)))

-- what follows is shorter
abbrev rest_of : Option (ℕ × List ℕ) → List ℕ
rest_of None = []
rest_of (Some p) = p.1

pub front_shorter : (b : ℕ) (more after : List ℕ) (d : ℕ) → byte_front b more ≡ Some (d, after) → length after < suc (length more)
front_shorter b more after d h = by (b == 37) h
  where
    digits : (o : Option ℕ) (xs : List ℕ) → option_map {U = ℕ × List ℕ} (λ x. (x, xs)) o ≡ Some (d, after) → xs ≡ after
    digits None xs e = cc
    digits (Some x) xs e = ap rest_of e

    escaped : (xs : List ℕ) → escape_front xs ≡ Some (d, after) → length after < suc (length xs)
    escaped [] e = cc
    escaped (x ∷ []) e = cc
    escaped (x ∷ y ∷ xs) e = omega (arith, ap length (digits (hex_byte x y) xs e))

    by : (t : Bool) → cond t (escape_front more) (Some (b, more)) ≡ Some (d, after) → length after < suc (length more)
    by true e = escaped more e
    by false e = omega (arith, ap length (ap rest_of e))

-- ---- the tokens of a pointer

pub read_tokens : (cs : List ℕ) (p : Pointer) → Reads cs (Ok p) → Some (tokens_of p) ≡ pointer_tokens cs
read_tokens cs p h = sym (tokens_read cs (tokens_of p) ((h (tokens_of p)).1 refl))

pub no_pointer : (cs : List ℕ) (e : PointerError) → Reads cs (Err e) → (e ≡ OutOfMemory → ⊥) → None ≡ pointer_tokens cs
no_pointer cs NoSlash h n = sym (no_tokens_read cs h.1)
no_pointer cs BadEscape h n = sym (no_tokens_read cs h.2)
no_pointer cs OutOfMemory h n = absurd (n refl)

-- ---- what stands where tokens lead

pub form_turn : (tokens : List (String Global)) (i : ℕ) (x : String Global) (f : Form) (g : Form) → i < length tokens → x ≡ get_or tokens i
    x
    → form_after f (map text (drop i tokens)) ≡ form_after g (map text tokens)
    → form_after (form_in f (text x)) (map text (drop (i + 1) tokens)) ≡ form_after g (map text tokens)
form_turn tokens i x f g h e left = sym (ap (λ xs. form_after f (map text xs)) (drop_item tokens i x h e)) ∙ left

pub form_end : (tokens : List (String Global)) (i : ℕ) (f : Form) (g : Form) → length tokens ≤ i
    → form_after f (map text (drop i tokens)) ≡ form_after g (map text tokens) → f ≡ form_after g (map text tokens)
form_end tokens i f g h left = sym (ap (λ xs. form_after f (map text xs)) (drop_end tokens i h)) ∙ left

-- ---- the schema that a reference leads to

module _ (root : Tree) (cs : List ℕ) where
  pub no_tokens_there : None ≡ pointer_tokens cs → None ≡ at_pointer root cs
  no_tokens_there e = ap (option_and_then (schema_from root)) e

  pub no_schema_there : (ks : List (List ℕ)) → Some ks ≡ pointer_tokens cs → is_schema_form (form_after form.Schema ks) ≡ false
      → None ≡ at_pointer root cs
  no_schema_there ks e f = sym (ap (option_and_then (schema_from root)) (sym e) ∙ ap (λ b. cond b (part_at root ks) None) f)

  pub schema_there : (ks : List (List ℕ)) (o : Option Tree) → Some ks ≡ pointer_tokens cs
      → is_schema_form (form_after form.Schema ks) ≡ true → o ≡ part_at root ks → o ≡ at_pointer root cs
  schema_there ks o e f h = h
      ∙ sym (ap (option_and_then (schema_from root)) (sym e) ∙ ap (λ b. cond b (part_at root ks) None) f)

module _ (root : Tree) (bs : List ℕ) where
  pub no_text : ¬ IsUtf8 bs → None ≡ at_fragment root bs
  no_text n = by (is_utf8 bs) refl
    where
      by : (b : Bool) → is_utf8 bs ≡ b → None ≡ cond b (at_text root bs) None
      by true e = absurd (n (IsUtf8-from_is_utf8 bs e))
      by false e = refl

  text_there : (o : Option Tree) → IsUtf8 bs → o ≡ at_text root bs → o ≡ at_fragment root bs
  text_there o u h = h ∙ ap (λ b. cond b (at_text root bs) None) (sym (is_utf8-from_IsUtf8 bs u))

  pub name_there : (o : Option Tree) → IsUtf8 bs → is_plain_name bs ≡ true → o ≡ anchored (anchors_in root) bs → o ≡ at_fragment root bs
  name_there o u n h =
      text_there o u (h ∙ ap (λ b. cond b (anchored (anchors_in root) bs) (at_pointer root (chars bs))) (sym n))

  pub pointer_there : IsUtf8 bs → is_plain_name bs ≡ false → at_pointer root (chars bs) ≡ at_fragment root bs
  pointer_there u n =
      text_there _ u (ap (λ b. cond b (anchored (anchors_in root) bs) (at_pointer root (chars bs))) (sym n))

pub string_target : (root : Tree) (v : JsonValue) (s : String Global) (bs : List ℕ) → v ≡ is.String s → bs ≡ string_bytes s
    → target root (view v) ≡ option_and_then (at_fragment root) (reference_bytes bs)
string_target root v s bs e h = ap (target root) (ap view e ∙ view_String s)
    ∙ ap (λ xs. option_and_then (at_fragment root) (reference_bytes xs)) (sym (text_bytes s bs h))

-- What stands in compact text that is being built, when a value comes or a container is closed.
use Rattle.std.proofs.Common.{◌≡◌, ℕ, ◌+◌, Bool, true, false, ◌==◌, List, [], ◌∷◌, ◌++◌, length, take, drop, refl, sym, ◌∙◌}
use Rattle.std.proofs.Common.{ap, subst, append_assoc, append-nil, length-append, arith, Option, None, Some, Result, Ok, Err, OnOk}
use Rattle.std.proofs.lemmas.List.{take_at, drop_at, same_from_push}
use Rattle.std.proofs.lemmas.Str.{encodes-append, chars_from_encodes}
use Rattle.tinyjson.specs.Events.{Open, in_array, at_key, at_value, Puts, TellsText}
use Rattle.tinyjson_grammar.specs.Grammar as grammar
use Rattle.tinyjson_grammar.specs.Text.{text, escapes, items_text, members_text, compact}
use Rattle.tinyjson_grammar.specs.Text.{quoted, before, closing, has_no_items, has_no_members}
use Rattle.tinyjson_grammar.specs.Tree.{Tree, null, boolean, number, string, array, object, items_of, put}
use Rattle.tinyjson_grammar.specs.Tree.{Items, no_items, item, Members, no_members, member}
use Rattle.std.specs.Str.{IsUtf8, chars}
use Rattle.tinyjson_output.proofs.Callers.{enc, enc_cons, quoted_bytes}
use Rattle.tinyjson_output.specs.Written.{Written}
use Rattle.tinyjson_grammar.proofs.Callers.{compact_text}
use Rattle.tinyjson_grammar.proofs.Callers.Laws.{only_tree}
use Rattle.tinyjson_grammar.specs.Soundness as sound
use Rattle.tinyjson_grammar.proofs.Callers.{text_sound}
use Rattle.tinyjson_cells.proofs.Callers.{gathered_by}
use Rattle.tinyjson_cells.proofs.Callers.{text_stays}
use Rattle.tinyjson_cells.proofs.Callers.{run_part}
use Rattle.tinyjson_cells.proofs.Callers.{put_last}
use Rattle.tinyjson_normal.specs.Compacting.{value_bytes, items_bytes, key_bytes, entry_bytes, entries_bytes, members_bytes}
use Rattle.tinyjson_normal.specs.Compacting.{next_from, members_of, placed, all_placed, AreBegun, Has, HasKey, IsOpen}
use Rattle.tinyjson_normal.specs.Compacting.{Standing, Splits, HoldsIn, standing, Holds, IsOf}
use Rattle.tinyjson_cells.specs.Entries.{Entry, put_all, AreEntriesBy}
use Rattle.tinyjson_cells.specs.Cell.{IsText, Grows}
use Rattle.tinyjson_cells.specs.Order.{IsOrdered, AreMembersBy, lasts, paired}
use Rattle.tinyjson_normal.specs.Normal.{HasTree}
use Rattle.tinyjson_normal.specs.declared.normal.NormalText.{NormalText}
use Rattle.tinyjson_normal.specs.declared.compact.Begun.{Begun}
use Rattle.tinyjson_normal.specs.declared.compact.Compact.{Compact}
use Rattle.tinyjson_normal.specs.declared.compact.Start.{Start}
use Rattle.tinyjson_cells.specs.declared.store.Member.{Member}
use Rattle.tinyjson_cells.specs.declared.store.Cell.{Cell}
use Rattle.tinyjson_cells.specs.declared.store.Cell.TheVariants as node
use Rattle.tinyjson_cells.specs.declared.store.Span.{Span}
use Rattle.tinyjson_cells.specs.declared.store.Store.{Store}

-- ---- compact text has no levels

mutual
  pub level : (k j : ℕ) (t : Tree) → text None k t ≡ text None j t
  level k j null = refl
  level k j (boolean b) = refl
  level k j (number d) = refl
  level k j (string cs) = refl
  level k j (array ts) = ap (λ z. 91 ∷ (z ++ closing None k (has_no_items ts) 93)) (items_level (k + 1) (j + 1) true ts)
  level k j (object ms) = ap (λ z. 123 ∷ (z ++ closing None k (has_no_members ms) 125)) (members_level (k + 1) (j + 1) true ms)

  items_level : (k j : ℕ) (first : Bool) (ts : Items) → items_text None k first ts ≡ items_text None j first ts
  items_level k j first no_items = refl
  items_level k j first (item t ts) = (λ i. before None k first ++ (level k j t i ++ items_level k j false ts i))

  members_level : (k j : ℕ) (first : Bool) (ms : Members) → members_text None k first ms ≡ members_text None j first ms
  members_level k j first no_members = refl
  members_level k j first (member key t ms) =
      (λ i. before None k first ++ ((quoted key ++ (58 ∷ level k j t i)) ++ members_level k j false ms i))

-- ---- a comma behind each

-- a value, and what comes behind it
behind : (k : ℕ) (t : Tree) (rest bytes : List ℕ) → enc rest ++ 44 ∷ [] ≡ 44 ∷ bytes
    → enc (text None k t ++ rest) ++ 44 ∷ [] ≡ value_bytes t ++ bytes
behind k t rest bytes h =
    ap (λ z. z ++ 44 ∷ []) (encodes-append (text None k t) rest) ∙ append_assoc (enc (text None k t)) (enc rest) (44 ∷ [])
    ∙ ap (λ z. enc (text None k t) ++ z) h ∙ ap (λ z. enc z ++ 44 ∷ bytes) (level k 0 t)
    ∙ sym (append_assoc (enc (compact t)) (44 ∷ []) bytes)

items_after : (k : ℕ) (ts : List Tree) → enc (items_text None k false (items_of ts)) ++ 44 ∷ [] ≡ 44 ∷ items_bytes ts
items_after k [] = refl
items_after k (t ∷ ts) =
    ap (λ z. z ++ 44 ∷ []) (enc_cons 44 (text None k t ++ items_text None k false (items_of ts)) (omega arith))
    ∙ ap (λ z. 44 ∷ z) (behind k t (items_text None k false (items_of ts)) (items_bytes ts) (items_after k ts))

items_all : (k : ℕ) (t : Tree) (ts : List Tree)
    → enc (items_text None k true (items_of (t ∷ ts))) ++ 44 ∷ [] ≡ items_bytes (t ∷ ts)
items_all k t ts = behind k t (items_text None k false (items_of ts)) (items_bytes ts) (items_after k ts)

-- a member, and what comes behind it
behind_member : (k : ℕ) (key : List ℕ) (t : Tree) (rest bytes : List ℕ) → enc rest ++ 44 ∷ [] ≡ 44 ∷ bytes
    → enc ((quoted key ++ (58 ∷ text None k t)) ++ rest) ++ 44 ∷ [] ≡ entry_bytes key t ++ bytes
behind_member k key t rest bytes h =
    ap (λ z. enc z ++ 44 ∷ []) (append_assoc (quoted key) (58 ∷ text None k t) rest)
    ∙ ap (λ z. z ++ 44 ∷ []) (encodes-append (quoted key) (58 ∷ (text None k t ++ rest)))
    ∙ append_assoc (enc (quoted key)) (enc (58 ∷ (text None k t ++ rest))) (44 ∷ [])
    ∙ ap (λ z. enc (quoted key) ++ (z ++ 44 ∷ [])) (enc_cons 58 (text None k t ++ rest) (omega arith))
    ∙ ap (λ z. enc (quoted key) ++ 58 ∷ z) (behind k t rest bytes h)
    ∙ sym (append_assoc (enc (quoted key)) (58 ∷ []) (value_bytes t ++ bytes))
    ∙ sym (append_assoc (key_bytes key) (value_bytes t) bytes)

members_after : (k : ℕ) (ms : Members) → enc (members_text None k false ms) ++ 44 ∷ [] ≡ 44 ∷ members_bytes ms
members_after k no_members = refl
members_after k (member key t ms) =
    ap (λ z. z ++ 44 ∷ []) (enc_cons 44 ((quoted key ++ (58 ∷ text None k t)) ++ members_text None k false ms) (omega arith))
    ∙ ap (λ z. 44 ∷ z) (behind_member k key t (members_text None k false ms) (members_bytes ms) (members_after k ms))

members_all : (k : ℕ) (key : List ℕ) (t : Tree) (ms : Members)
    → enc (members_text None k true (member key t ms)) ++ 44 ∷ [] ≡ members_bytes (member key t ms)
members_all k key t ms = behind_member k key t (members_text None k false ms) (members_bytes ms) (members_after k ms)

-- ---- a closing bracket in place of the last comma

-- what stands between brackets
between : (begin close : ℕ) (inside : List ℕ) → enc (begin ∷ []) ≡ begin ∷ [] → enc (close ∷ []) ≡ close ∷ []
    → enc (begin ∷ (inside ++ close ∷ [])) ++ 44 ∷ [] ≡ begin ∷ (enc inside ++ close ∷ 44 ∷ [])
between begin close inside o c =
    ap (λ z. z ++ 44 ∷ []) (encodes-append (begin ∷ []) (inside ++ close ∷ []))
    ∙ ap (λ z. (z ++ enc (inside ++ close ∷ [])) ++ 44 ∷ []) o
    ∙ ap (λ z. begin ∷ (z ++ 44 ∷ [])) (encodes-append inside (close ∷ []))
    ∙ ap (λ z. begin ∷ ((enc inside ++ z) ++ 44 ∷ [])) c
    ∙ ap (λ z. begin ∷ z) (append_assoc (enc inside) (close ∷ []) (44 ∷ []))

pub on_ok : {T E A B : Type 0} (r : Result T E) → (A → B) → OnOk r A → OnOk r B
on_ok (Ok x) f h = f h
on_ok (Err e) f h = tt

module _ {T E : Type 0} (r : Result T E) (close : ℕ) (old new outer : List ℕ)
    (some : (xs : List ℕ) → old ≡ xs ++ 44 ∷ [] → OnOk r (new ≡ xs ++ close ∷ 44 ∷ []))
    (none : (xs : List ℕ) (x : ℕ) → old ≡ xs ++ x ∷ [] → (x == 44) ≡ false → OnOk r (new ≡ xs ++ x ∷ close ∷ 44 ∷ [])) where
  closes : (begin : ℕ) (inside : List ℕ) (bytes : List ℕ) → enc (begin ∷ []) ≡ begin ∷ [] → enc (close ∷ []) ≡ close ∷ []
      → enc inside ++ 44 ∷ [] ≡ bytes → old ≡ outer ++ begin ∷ bytes
      → OnOk r (new ≡ outer ++ (enc (begin ∷ (inside ++ close ∷ [])) ++ 44 ∷ []))
  closes begin inside bytes o c e h =
      let whole : old ≡ (outer ++ begin ∷ enc inside) ++ 44 ∷ [] =
      h ∙ ap (λ z. outer ++ begin ∷ z) (sym e) ∙ sym (append_assoc outer (begin ∷ enc inside) (44 ∷ [])) in
      on_ok r (λ k. k ∙ append_assoc outer (begin ∷ enc inside) (close ∷ 44 ∷ [])
      ∙ ap (λ z. outer ++ z) (sym (between begin close inside o c)))
      (some (outer ++ begin ∷ enc inside) whole)

  closes_empty : (begin : ℕ) → enc (begin ∷ []) ≡ begin ∷ [] → enc (close ∷ []) ≡ close ∷ [] → (begin == 44) ≡ false
      → old ≡ outer ++ begin ∷ [] → OnOk r (new ≡ outer ++ (enc (begin ∷ close ∷ []) ++ 44 ∷ []))
  closes_empty begin o c d h = on_ok r (λ k. k ∙ ap (λ z. outer ++ z) (sym (between begin close [] o c))) (none outer begin h d)

pub array_closed : {T E : Type 0} (r : Result T E) (old new outer : List ℕ) (ts : List Tree)
    → ((xs : List ℕ) → old ≡ xs ++ 44 ∷ [] → OnOk r (new ≡ xs ++ 93 ∷ 44 ∷ []))
    → ((xs : List ℕ) (x : ℕ) → old ≡ xs ++ x ∷ [] → (x == 44) ≡ false → OnOk r (new ≡ xs ++ x ∷ 93 ∷ 44 ∷ []))
    → old ≡ outer ++ 91 ∷ items_bytes ts → OnOk r (new ≡ outer ++ value_bytes (array (items_of ts)))
array_closed r old new outer [] some none h = closes_empty r 93 old new outer some none 91 (enc_cons 91 [] (omega arith))
    (enc_cons 93 [] (omega arith)) refl h
array_closed r old new outer (t ∷ ts) some none h =
    closes r 93 old new outer some none 91 (items_text None 1 true (items_of (t ∷ ts))) (items_bytes (t ∷ ts)) (enc_cons 91 []
    (omega arith))
    (enc_cons 93 [] (omega arith))
    (items_all 1 t ts) h

pub object_closed : {T E : Type 0} (r : Result T E) (old new outer : List ℕ) (ms : Members)
    → ((xs : List ℕ) → old ≡ xs ++ 44 ∷ [] → OnOk r (new ≡ xs ++ 125 ∷ 44 ∷ []))
    → ((xs : List ℕ) (x : ℕ) → old ≡ xs ++ x ∷ [] → (x == 44) ≡ false → OnOk r (new ≡ xs ++ x ∷ 125 ∷ 44 ∷ []))
    → old ≡ outer ++ 123 ∷ members_bytes ms → OnOk r (new ≡ outer ++ value_bytes (object ms))
object_closed r old new outer no_members some none h = closes_empty r 125 old new outer some none 123 (enc_cons 123 [] (omega arith))
    (enc_cons 125 [] (omega arith)) refl h
object_closed r old new outer (member k t ms) some none h =
    closes r 125 old new outer some none 123 (members_text None 1 true (member k t ms)) (members_bytes (member k t ms))
    (enc_cons 123 [] (omega arith)) (enc_cons 125 [] (omega arith))
    (members_all 1 k t ms) h

-- characters that need no escape, between quotes
pub plain_quoted : (old new cs bytes : List ℕ) (b : ℕ) → IsUtf8 cs → bytes ≡ cs → escapes bytes ≡ bytes
    → new ≡ ((old ++ 34 ∷ []) ++ bytes) ++ 34 ∷ b ∷ [] → new ≡ old ++ (enc (quoted (chars cs)) ++ b ∷ [])
plain_quoted old new cs bytes b u e plain h =
    h ∙ append_assoc (old ++ 34 ∷ []) bytes (34 ∷ b ∷ []) ∙ append_assoc old (34 ∷ []) (bytes ++ 34 ∷ b ∷ [])
    ∙ ap (λ z. old ++ 34 ∷ z) (ap (λ z. z ++ 34 ∷ b ∷ []) (sym plain ∙ ap escapes e) ∙ sym (append_assoc (escapes cs) (34 ∷ []) (b ∷ [])))
    ∙ ap (λ z. old ++ (z ++ b ∷ [])) (sym (quoted_bytes cs u))

-- ---- one more item, one more member

items_push : (ts : List Tree) (t : Tree) → items_bytes ts ++ value_bytes t ≡ items_bytes (ts ++ t ∷ [])
items_push [] t = sym (append-nil (value_bytes t))
items_push (u ∷ ts) t = append_assoc (value_bytes u) (items_bytes ts) (value_bytes t) ∙ ap (λ z. value_bytes u ++ z) (items_push ts t)

entries_push : (es : List Entry) (k : List ℕ) (t : Tree) → entries_bytes es ++ entry_bytes k t ≡ entries_bytes (es ++ (k, t) ∷ [])
entries_push [] k t = sym (append-nil (entry_bytes k t))
entries_push (e ∷ es) k t = append_assoc (entry_bytes e.0 e.1) (entries_bytes es) (entry_bytes k t)
    ∙ ap (λ z. entry_bytes e.0 e.1 ++ z) (entries_push es k t)

begun_push : (s : Store) (at : ℕ) (es : List Entry) (bs : List Begun) (k : List ℕ) (t : Tree) (b : Begun) → AreBegun s at es bs
    → IsText s k b.key → b.from ≡ at + length (entries_bytes es) → AreBegun s at (es ++ (k, t) ∷ []) (bs ++ b ∷ [])
begun_push s at [] [] k t b h x f = (x, omega (arith, f), tt)
begun_push s at [] (c ∷ bs) k t b h x f = absurd h
begun_push s at (e ∷ es) [] k t b h x f = absurd h
begun_push s at (e ∷ es) (c ∷ bs) k t b h x f = (
  h.0,
  h.1,
  begun_push s (at + length (entry_bytes e.0 e.1)) es bs k t b h.2 x
      (omega (arith, f, length-append (entry_bytes e.0 e.1) (entries_bytes es))),
)

-- ---- what stands stays while the keys grow

begun_still : (s r : Store) (at : ℕ) (es : List Entry) (bs : List Begun) → Grows s r → AreBegun s at es bs → AreBegun r at es bs
begun_still s r at [] [] g h = h
begun_still s r at [] (b ∷ bs) g h = h
begun_still s r at (e ∷ es) [] g h = h
begun_still s r at (e ∷ es) (b ∷ bs) g h =
    (text_stays s r e.0 b.key g h.0, h.1, begun_still s r (at + length (entry_bytes e.0 e.1)) es bs g h.2)

has_still : (s r : Store) (start : ℕ) (ms : Members) (bs : List Begun) (own : List ℕ) → Grows s r → Has s start ms bs own
    → Has r start ms bs own
has_still s r start ms bs own g h = record {
  entries = h.entries;
  members = h.members;
  written = h.written;
  begun = begun_still s r (start + 1) h.entries bs g h.begun;
}

open_still : (s r : Store) (start : ℕ) (o : Open) (bs : List Begun) (own : List ℕ) → Grows s r → IsOpen s start o bs own
    → IsOpen r start o bs own
open_still s r start (in_array ts) bs own g h = h
open_still s r start (at_key ms) bs own g h = has_still s r start ms bs own g h
open_still s r start (at_value ms k) bs own g h = record {
  before = h.before;
  last = h.last;
  begun = h.begun;
  text = h.text;
  written = h.written;
  key = text_stays s r k h.last.key g h.key;
  from = h.from;
  has = has_still s r start ms h.before h.text g h.has;
}

holds_still : (s r : Store) (w : Standing) (os : List Open) → Grows s r → HoldsIn s w os → HoldsIn r w os
holds_still s r w [] g h = h
holds_still s r w (o ∷ os) g h =
    (h.0, h.1, h.2, h.3, open_still s r (length h.0.text) o h.1 h.2 g h.4, holds_still s r h.0 os g h.5)

-- ---- a value comes

-- the text of the innermost container grows
more_text : (w outer : Standing) (bs : List Begun) (own bytes : List ℕ) → Splits w outer bs own
    → Splits (record { places = w.places; begun = w.begun; text = w.text ++ bytes }) outer bs (own ++ bytes)
more_text w outer bs own bytes h = record {
  place = h.place;
  places = h.places;
  begun = h.begun;
  text = ap (λ z. z ++ bytes) h.text ∙ append_assoc outer.text own bytes;
  inside = h.inside;
  first = h.first;
}

has_value : (s : Store) (start : ℕ) (ms : Members) (k : List ℕ) (t : Tree) (bs : List Begun) (own : List ℕ)
    → HasKey s start ms k bs own → Has s start (put k t ms) bs (own ++ value_bytes t)
has_value s start ms k t bs own h =
    let es = h.has.entries in
    record {
      entries = es ++ (k, t) ∷ [];
      members = ap (put k t) h.has.members ∙ put_last no_members es k t;
      written = ap (λ z. z ++ value_bytes t) (h.written ∙ ap (λ z. z ++ key_bytes k) h.has.written)
          ∙ append_assoc (123 ∷ entries_bytes es) (key_bytes k) (value_bytes t) ∙ ap (λ z. 123 ∷ z) (entries_push es k t);
      begun = subst (AreBegun s (start + 1) (es ++ (k, t) ∷ [])) (sym h.begun)
          (begun_push s (start + 1) es h.before k t h.last h.has.begun h.key (omega (arith, h.from, ap length h.has.written)));
    }

puts_in : (s : Store) (w : Standing) (os : List Open) (t : Tree) (b : Compact) → HoldsIn s w os → b.store ≡ s
    → standing b ≡ record { places = w.places; begun = w.begun; text = w.text ++ value_bytes t } → Puts Holds IsOf os t b
puts_in s w [] t b h es ew = ap (λ x. x.text) ew ∙ ap (λ z. z ++ value_bytes t) h.2
puts_in s w (in_array ts ∷ os) t b h es ew =
    let own : h.2 ++ value_bytes t ≡ 91 ∷ items_bytes (ts ++ t ∷ []) =
    ap (λ z. z ++ value_bytes t) h.4.1 ∙ ap (λ z. 91 ∷ z) (items_push ts t) in
    let here : HoldsIn s (record { places = w.places; begun = w.begun; text = w.text ++ value_bytes t }) (in_array (ts ++ t ∷ []) ∷ os)
    = (h.0, h.1, h.2 ++ value_bytes t, more_text w h.0 h.1 h.2 (value_bytes t) h.3, (h.4.0, own), h.5) in
    subst (λ x. HoldsIn x (standing b) (in_array (ts ++ t ∷ []) ∷ os)) (sym es)
    (subst (λ x. HoldsIn s x (in_array (ts ++ t ∷ []) ∷ os)) (sym ew) here)
puts_in s w (at_key ms ∷ os) t b h es ew = tt
puts_in s w (at_value ms k ∷ os) t b h es ew =
    let here : HoldsIn s (record { places = w.places; begun = w.begun; text = w.text ++ value_bytes t }) (at_key (put k t ms) ∷ os)
    = (
      h.0,
      h.1,
      h.2 ++ value_bytes t,
      more_text w h.0 h.1 h.2 (value_bytes t) h.3,
      has_value s (length h.0.text) ms k t h.1 h.2 h.4,
      h.5,
    ) in
    subst (λ x. HoldsIn x (standing b) (at_key (put k t ms) ∷ os)) (sym es)
    (subst (λ x. HoldsIn s x (at_key (put k t ms) ∷ os)) (sym ew) here)

pub puts : (a b : Compact) (os : List Open) (t : Tree) → Holds a os → b.store ≡ a.store → b.opened.items ≡ a.opened.items
    → b.begun.items ≡ a.begun.items → b.text.items ≡ a.text.items ++ value_bytes t → Puts Holds IsOf os t b
puts a b os t h s o u e = puts_in a.store (standing a) os t b h s (λ i. record { places = o i; begun = u i; text = e i })

pub puts_result : {T E : Type 0} (r : Result T E) (a b : Compact) (os : List Open) (t : Tree) → Holds a os → b.store ≡ a.store
    → b.opened.items ≡ a.opened.items → b.begun.items ≡ a.begun.items → OnOk r (b.text.items ≡ a.text.items ++ value_bytes t)
    → OnOk r (Puts Holds IsOf os t b)
puts_result r a b os t h s o u e = on_ok r (λ k. puts a b os t h s o u k) e

-- a value that was written, and the comma
pub puts_written : (a b : Compact) (os : List Open) (t : Tree) (text : List ℕ) → Holds a os → b.store ≡ a.store
    → b.opened.items ≡ a.opened.items → b.begun.items ≡ a.begun.items → Written (Some a.text.items) (Some text) (enc (compact t)) []
    → b.text.items ≡ text ++ 44 ∷ [] → Puts Holds IsOf os t b
puts_written a b os t text h s o u w e =
    puts a b os t h s o u
    (e ∙ ap (λ z. z ++ 44 ∷ []) (w.appended ∙ ap (λ z. a.text.items ++ z) (sym (append-nil w.done) ∙ sym w.split))
    ∙ append_assoc a.text.items (enc (compact t)) (44 ∷ []))

-- a container is opened
pub opens : (a b : Compact) (os : List Open) (o : Open) (bracket : ℕ) (place : Start) → Holds a os → b.store ≡ a.store
    → IsOpen a.store (length a.text.items) o [] (bracket ∷ []) → b.opened.items ≡ a.opened.items ++ place ∷ []
    → b.begun.items ≡ a.begun.items → b.text.items ≡ a.text.items ++ bracket ∷ []
    → place.inside ≡ length b.text.items → place.members ≡ length a.begun.items → Holds b (o ∷ os)
opens a b os o bracket place h s is eo eu et ei em =
    subst (λ x. HoldsIn x (standing b) (o ∷ os)) (sym s) (
      standing a,
      [],
      bracket ∷ [],
      record {
        place = place;
        places = eo;
        begun = eu ∙ sym (append-nil a.begun.items);
        text = et;
        inside = ei ∙ ap length et ∙ length-append a.text.items (bracket ∷ []);
        first = em;
      },
      is,
      h,
    )

-- a key comes
pub awaits : (a b : Compact) (ms : Members) (os : List Open) (k : List ℕ) (p : Span) (from : ℕ) → Holds a (at_key ms ∷ os)
    → Grows a.store b.store → IsText b.store k p → from ≡ length a.text.items → b.opened.items ≡ a.opened.items
    → b.begun.items ≡ a.begun.items ++ record { key = p; from = from } ∷ [] → b.text.items ≡ a.text.items ++ key_bytes k
    → Holds b (at_value ms k ∷ os)
awaits a b ms os k p from h g x f eo eu et =
    let last : Begun = record { key = p; from = from } in (
      h.0,
      h.1 ++ last ∷ [],
      h.2 ++ key_bytes k,
      record {
        place = h.3.place;
        places = eo ∙ h.3.places;
        begun = eu ∙ ap (λ z. z ++ last ∷ []) h.3.begun ∙ append_assoc h.0.begun h.1 (last ∷ []);
        text = et ∙ ap (λ z. z ++ key_bytes k) h.3.text ∙ append_assoc h.0.text h.2 (key_bytes k);
        inside = h.3.inside;
        first = h.3.first;
      },
      record {
        before = h.1;
        last = last;
        begun = refl;
        text = h.2;
        written = refl;
        key = x;
        from = f ∙ ap length h.3.text ∙ length-append h.0.text h.2;
        has = has_still a.store b.store (length h.0.text) ms h.1 h.2 g h.4;
      },
      holds_still a.store b.store h.0 os g h.5,
    )

pub awaits_result : {T E : Type 0} (r : Result T E) (a b : Compact) (ms : Members) (os : List Open) (k : List ℕ) (p : Span) (from : ℕ)
    → Holds a (at_key ms ∷ os) → Grows a.store b.store → IsText b.store k p → from ≡ length a.text.items
    → b.opened.items ≡ a.opened.items → b.begun.items ≡ a.begun.items ++ record { key = p; from = from } ∷ []
    → OnOk r (b.text.items ≡ a.text.items ++ key_bytes k) → OnOk r (Holds b (at_value ms k ∷ os))
awaits_result r a b ms os k p from h g x f o u e = on_ok r (λ t. awaits a b ms os k p from h g x f o u t) e

-- ---- a container is closed

-- what the innermost container has, and what the others have
pub record Innermost (w outer : Standing) (bs : List Begun) (own : List ℕ) (place : Start) (places : List Start) : Type 0 where
  pub others : outer.places ≡ places
  pub own_begun : drop place.members w.begun ≡ bs
  pub outer_begun : take place.members w.begun ≡ outer.begun
  pub inside : place.inside ≡ length outer.text + 1

pub innermost : (w outer : Standing) (bs : List Begun) (own : List ℕ) (place : Start) (places : List Start) → Splits w outer bs own
    → w.places ≡ places ++ place ∷ [] → Innermost w outer bs own place places
innermost w outer bs own place places h e =
    let same = same_from_push outer.places places h.place place (sym h.places ∙ e) in
    let at : length outer.begun ≡ place.members = sym h.first ∙ ap (λ p. p.members) same.1 in
    record {
      others = same.0;
      own_begun = ap (drop place.members) h.begun ∙ drop_at outer.begun bs place.members at;
      outer_begun = ap (take place.members) h.begun ∙ take_at outer.begun bs place.members at;
      inside = sym (ap (λ p. p.inside) same.1) ∙ h.inside;
    }

-- an array, whose items stand as they came
pub closes_array : {T E : Type 0} (r : Result T E) (a b : Compact) (ts : List Tree) (os : List Open) (place : Start) (places : List Start)
    → Holds a (in_array ts ∷ os) → a.opened.items ≡ places ++ place ∷ []
    → ((xs : List ℕ) → a.text.items ≡ xs ++ 44 ∷ [] → OnOk r (b.text.items ≡ xs ++ 93 ∷ 44 ∷ []))
    → ((xs : List ℕ) (x : ℕ) → a.text.items ≡ xs ++ x ∷ [] → (x == 44) ≡ false → OnOk r (b.text.items ≡ xs ++ x ∷ 93 ∷ 44 ∷ []))
    → b.store ≡ a.store → b.opened.items ≡ places → b.begun.items ≡ a.begun.items
    → OnOk r (Puts Holds IsOf os (array (items_of ts)) b)
closes_array r a b ts os place places h o some none es eo eu =
    let inner = innermost (standing a) h.0 h.1 h.2 place places h.3 o in
    let whole : a.text.items ≡ h.0.text ++ 91 ∷ items_bytes ts = h.3.text ∙ ap (λ z. h.0.text ++ z) h.4.1 in
    let none_begun : a.begun.items ≡ h.0.begun = h.3.begun ∙ ap (λ z. h.0.begun ++ z) h.4.0 ∙ append-nil h.0.begun in
    on_ok r (λ e. puts_in a.store h.0 os (array (items_of ts)) b h.5 es
    (λ i. record { places = (eo ∙ sym inner.others) i; begun = (eu ∙ none_begun) i; text = e i }))
    (array_closed r a.text.items b.text.items h.0.text ts some none whole)

-- ---- the members of the object that is closed

abbrev keys_of : List Begun → List Span
keys_of [] = []
keys_of (b ∷ bs) = b.key ∷ keys_of bs

abbrev spans_of : List Begun → ℕ → List Cell
spans_of [] end = []
spans_of (b ∷ bs) end = node.String (record { from = b.from; to = next_from bs end }) ∷ spans_of bs end

members_paired : (bs : List Begun) (end : ℕ) → members_of bs end ≡ paired (keys_of bs) (spans_of bs end)
members_paired [] end = refl
members_paired (b ∷ bs) end =
    ap (λ z. record { key = b.key; value = node.String (record { from = b.from; to = next_from bs end }) } ∷ z) (members_paired bs end)

next_is : (s : Store) (at end : ℕ) (es : List Entry) (bs : List Begun) → AreBegun s at es bs → end ≡ at + length (entries_bytes es)
    → next_from bs end ≡ at
next_is s at end [] [] h e = omega (arith, e)
next_is s at end [] (b ∷ bs) h e = absurd h
next_is s at end (x ∷ es) [] h e = absurd h
next_is s at end (x ∷ es) (b ∷ bs) h e = h.1

module _ (s : Store) (text : List ℕ) where
  -- at the place of the value stands the member of the key
  abbrev Stands : List ℕ → Tree → Cell → Type 0
  Stands k t n = placed text n ≡ entry_bytes k t

  stand : (front : List ℕ) (at : ℕ) (es : List Entry) (bs : List Begun) → AreBegun s at es bs → text ≡ front ++ entries_bytes es
      → at ≡ length front
      → AreEntriesBy s Stands es (keys_of bs) (spans_of bs (length text)) × (all_placed text (members_of bs
      (length text)) ≡ entries_bytes es)
  stand front at [] [] h w f = (tt, refl)
  stand front at [] (b ∷ bs) h w f = absurd h
  stand front at (e ∷ es) [] h w f = absurd h
  stand front at (e ∷ es) (b ∷ bs) h w f =
      let own = entry_bytes e.0 e.1 in
      let apart : text ≡ (front ++ own) ++ entries_bytes es = w ∙ sym (append_assoc front own (entries_bytes es)) in
      let long : length text ≡ (at + length own) + length (entries_bytes es) =
      omega (arith, ap length apart, length-append (front ++ own) (entries_bytes es), length-append front own, f) in
      let more = stand (front ++ own) (at + length own) es bs h.2 apart (omega (arith, f, length-append front own)) in
      let here : placed text (node.String (record { from = b.from; to = next_from bs (length text) })) ≡ own =
      run_part text (record { from = b.from; to = next_from bs (length text) }) own (record {
        front = front;
        back = entries_bytes es;
        whole = w;
        from = h.1 ∙ f;
        to = next_is s (at + length own) (length text) es bs h.2 long ∙ ap (λ z. z + length own) f;
      }) in
      ((h.0, here, more.0), (λ i. here i ++ more.1 i))

  -- members in order
  all_stand : (ms : Members) (ns : List Member) → AreMembersBy s Stands ms ns → all_placed text ns ≡ members_bytes ms
  all_stand no_members [] h = refl
  all_stand no_members (n ∷ ns) h = absurd h
  all_stand (member k t ms) [] h = absurd h
  all_stand (member k t ms) (n ∷ ns) h = (λ i. h.1 i ++ all_stand ms ns h.2 i)

  pub members_stand : (front : List ℕ) (at : ℕ) (es : List Entry) (bs : List Begun) (ns : List Member) → AreBegun s at es bs
      → text ≡ front ++ entries_bytes es → at ≡ length front → IsOrdered s.texts (members_of bs (length text)) ns
      → all_placed text (lasts s.texts ns) ≡ members_bytes (put_all no_members es)
  members_stand front at es bs ns h w f o =
      let order : IsOrdered s.texts (paired (keys_of bs) (spans_of bs (length text))) ns =
      subst (λ z. IsOrdered s.texts z ns) (members_paired bs (length text)) o in
      all_stand (put_all no_members es) (lasts s.texts ns) (gathered_by s Stands es (keys_of bs) (spans_of bs (length text)) ns
      (stand front at es bs h w f).0 order.permuted order.sorted order.stable)

-- what stands before the members, and they
pub placed_whole : (s : Store) (all outer own : List ℕ) (inside : ℕ) (ms : Members) (bs : List Begun)
    → Has s (length outer) ms bs own → all ≡ outer ++ own → inside ≡ length outer + 1
    → (take inside all ≡ outer ++ 123 ∷ []) × (all ≡ take inside all ++ all_placed all (members_of bs (length all)))
placed_whole s all outer own inside ms bs h e i =
    let front = outer ++ 123 ∷ [] in
    let whole : all ≡ front ++ entries_bytes h.entries =
    e ∙ ap (λ z. outer ++ z) h.written ∙ sym (append_assoc outer (123 ∷ []) (entries_bytes h.entries)) in
    let at : length front ≡ inside = length-append outer (123 ∷ []) ∙ sym i in
    let taken : take inside all ≡ front = ap (take inside) whole ∙ take_at front (entries_bytes h.entries) inside at in
    let placed = (stand s all front (length outer + 1) h.entries bs h.begun whole (sym (length-append outer (123 ∷ [])))).1 in
    (taken, whole ∙ (λ x. sym taken x ++ sym placed x))

pub placed_now : (a : Compact) (ms : Members) (os : List Open) (place : Start) (places : List Start) (members : List Member)
    → Holds a (at_key ms ∷ os) → a.opened.items ≡ places ++ place ∷ []
    → members ≡ members_of (drop place.members a.begun.items) (length a.text.items)
    → a.text.items ≡ take place.inside a.text.items ++ all_placed a.text.items members
placed_now a ms os place places members h o e =
    let inner = innermost (standing a) h.0 h.1 h.2 place places h.3 o in
    (placed_whole a.store a.text.items h.0.text h.2 place.inside ms h.1 h.4 h.3.text inner.inside).1
    ∙ ap (λ z. take place.inside a.text.items ++ all_placed a.text.items z)
    (ap (λ z. members_of z (length a.text.items)) (sym inner.own_begun) ∙ sym e)

pub closes_object : {T E : Type 0} (r : Result T E) (a b c : Compact) (ms : Members) (os : List Open) (place : Start)
    (places : List Start) (members ns : List Member)
    → Holds a (at_key ms ∷ os) → a.opened.items ≡ places ++ place ∷ []
    → members ≡ members_of (drop place.members a.begun.items) (length a.text.items)
    → IsOrdered a.store.texts members ns
    → b.text.items ≡ take place.inside a.text.items ++ all_placed a.text.items (lasts a.store.texts ns)
    → ((xs : List ℕ) → b.text.items ≡ xs ++ 44 ∷ [] → OnOk r (c.text.items ≡ xs ++ 125 ∷ 44 ∷ []))
    → ((xs : List ℕ) (x : ℕ) → b.text.items ≡ xs ++ x ∷ [] → (x == 44) ≡ false → OnOk r (c.text.items ≡ xs ++ x ∷ 125 ∷ 44 ∷ []))
    → c.store ≡ a.store → c.opened.items ≡ places → c.begun.items ≡ take place.members a.begun.items
    → OnOk r (Puts Holds IsOf os (object ms) c)
closes_object r a b c ms os place places members ns h o em ordered et some none es eo eu =
    let inner = innermost (standing a) h.0 h.1 h.2 place places h.3 o in
    let front = h.0.text ++ 123 ∷ [] in
    let apart = placed_whole a.store a.text.items h.0.text h.2 place.inside ms h.1 h.4 h.3.text inner.inside in
    let whole : a.text.items ≡ front ++ entries_bytes h.4.entries =
    h.3.text ∙ ap (λ z. h.0.text ++ z) h.4.written ∙ sym (append_assoc h.0.text (123 ∷ []) (entries_bytes h.4.entries)) in
    let mine : members ≡ members_of h.1 (length a.text.items) = em ∙ ap (λ z. members_of z (length a.text.items)) inner.own_begun in
    let stands = members_stand a.store a.text.items front (length h.0.text + 1) h.4.entries h.1 ns h.4.begun whole
    (sym (length-append h.0.text (123 ∷ []))) (subst (λ z. IsOrdered a.store.texts z ns) mine ordered) in
    let sorted : b.text.items ≡ h.0.text ++ 123 ∷ members_bytes ms =
    et ∙ (λ i. apart.0 i ++ (stands ∙ ap members_bytes (sym h.4.members)) i)
    ∙ append_assoc h.0.text (123 ∷ []) (members_bytes ms) in
    on_ok r (λ e. puts_in a.store h.0 os (object ms) c h.5 es
    (λ i. record { places = (eo ∙ sym inner.others) i; begun = (eu ∙ inner.outer_begun) i; text = e i }))
    (object_closed r b.text.items c.text.items h.0.text ms some none sorted)

-- ---- compact text in a box

-- ---- what is kept of a text

pub whole_kept : (text kept bytes : List ℕ) (n : ℕ) → text ≡ bytes ++ 44 ∷ [] → n + 1 ≡ length text → kept ≡ take n text → kept ≡ bytes
whole_kept text kept bytes n e l k =
    k ∙ ap (take n) e ∙ take_at bytes (44 ∷ []) n (omega (arith, l, ap length e, length-append bytes (44 ∷ [])))

-- the tree of a text that was built is one that a value may have
pub told_kept : {E : Type 0} (is : E → Tree → Type 0) (limit : Option ℕ) (xs : List ℕ) (e : E) (n : NormalText)
    → ((t : Tree) → is e t → sound.IsTree t → HasTree n t) → TellsText is limit xs (Ok e) → TellsText HasTree limit xs (Ok n)
told_kept is limit xs e n f h = record {
  consumed = h.consumed;
  rest = h.rest;
  whole = h.whole;
  answer = (h.answer.0, h.answer.1, h.answer.2, f h.answer.1 h.answer.3 (text_sound limit xs h.answer.1 h.answer.2));
  refused = tt;
  broken_off = tt;
}

-- a compact text has no other tree
pub read_again : (bytes : List ℕ) (t u : Tree) → IsUtf8 bytes → bytes ≡ enc (compact t) → sound.IsTree t
    → grammar.IsText None (chars bytes) u → u ≡ t
read_again bytes t u utf8 e k h =
    only_tree None (compact t) u t (subst (λ z. grammar.IsText None z u) (sym (chars_from_encodes (compact t) bytes utf8 (sym e))) h)
    (compact_text t k)

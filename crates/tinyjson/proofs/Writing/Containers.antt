-- What is left of open containers, piece by piece.
use Rattle.std.proofs.Common.{◌≡◌, ℕ, suc, ◌+◌, ◌<◌, Bool, true, false, not, Option, None, Some, Result, Ok, Err, string_bytes, List, []}
use Rattle.std.proofs.Common.{◌∷◌, ◌++◌, length, drop, take, refl, sym, ◌∙◌, ap, append_assoc, append-nil, length-append, add-one, arith}
use Rattle.std.proofs.Common.{subst}
use Rattle.std.specs.Borrow.{Bor}
use Rattle.std.specs.Str.{chars, IsUtf8}
use Rattle.std.proofs.lemmas.Str.{encodes-append}
use Rattle.tinyjson.specs.declared.value.JsonValue.{JsonValue}
use Rattle.tinyjson.specs.declared.generator.frames.Frame.{Frame}
use Rattle.tinyjson.specs.declared.generator.frames.Frame.TheVariants.{Items, Member, Members}
use Rattle.tinyjson.specs.declared.generator.frames.Stack.{Stack}
use Rattle.tinyjson_output.specs.Buffer.{Output, Sent, SentPart, SendsFrom}
use Rattle.std.specs.Bool.{IsTrue}
use Rattle.std.specs.Option.{is_some}
use Rattle.tinyjson.specs.Indent.{indent_of}
use Rattle.tinyjson_grammar.specs.Text.{text, items_text, members_text, before, separator, newline, closing, quoted, escapes, after_colon}
use Rattle.tinyjson_grammar.specs.Text.{has_no_items, has_no_members}
use Rattle.tinyjson_grammar.specs.Tree.{Members as Entries, array, object, member, no_members}
use Rattle.tinyjson.specs.View.{view, items_view, members_view}
use Rattle.tinyjson.specs.private.Sorted.{sorted_view}
use Rattle.tinyjson.specs.private.Encoding.{Gathered, frame_text, others, unwritten, frames, IsStack, Opened, BeginsFrom, Advanced}
use Rattle.tinyjson.specs.private.Encoding.{AdvancesFrom}
use Rattle.tinyjson_output.proofs.Callers.{sent_goes as goes, sent_stop as stop, sent_stops as stops, sent_written_more as written_more}
use Rattle.tinyjson_output.proofs.Callers.{sent_written_none as written_none, enc, enc_cons, closed, three, quoted_bytes}
use Rattle.tinyjson.proofs.Writing.Sorted.{Entry}
use Rattle.tinyjson.proofs.Writing.Text.{member_text, some_members, enc_separator}

-- ---- lists

piece_first : (b t i c o : List ℕ) → ((b ++ (t ++ i)) ++ c) ++ o ≡ (b ++ t) ++ ((i ++ c) ++ o)
piece_first b t i c o = simp append_assoc

encoded_first : (b t r : List ℕ) → enc ((b ++ t) ++ r) ≡ (enc b ++ enc t) ++ enc r
encoded_first b t r = encodes-append (b ++ t) r ∙ ap (λ v. v ++ enc r) (encodes-append b t)

bracket_first : (n : List ℕ) (b : ℕ) (o : List ℕ) → b < 128 → enc ((n ++ b ∷ []) ++ o) ≡ enc n ++ (b ∷ [] ++ enc o)
bracket_first n b o h = encodes-append (n ++ b ∷ []) o ∙ ap (λ v. v ++ enc o) (closed n b h) ∙ append_assoc (enc n) (b ∷ []) (enc o)

shorter : {old mid : Output} {bytes : List ℕ} (piece left rest : List ℕ) → Sent old mid bytes (piece ++ rest) → length left < length piece
    → length (left ++ rest) < length bytes
shorter {old} {mid} {bytes} piece left rest h less =
    let e = ap length h.split in
    let a = length-append h.done (piece ++ rest) in
    let b = length-append piece rest in
    let c = length-append left rest in
    omega (arith, e, a, b, c)

module _ (w : Option (List ℕ)) where
  -- ---- a container begins

  pub array_begins : (k : ℕ) (rest : Bor (List JsonValue)) (gs : List Gathered) → has_no_items (items_view rest.now) ≡ false
      → enc (text w k (array (items_view rest.now))) ≡ 91 ∷ [] ++ enc (frame_text w k (Items rest true) gs)
  array_begins k rest gs e =
      let its = items_text w (k + 1) true (items_view rest.now) in
      ap (λ b. enc (91 ∷ (its ++ closing w k b 93))) e ∙ enc_cons 91 (its ++ (newline w k ++ 93 ∷ [])) (omega arith)

  pub object_begins : (k : ℕ) (ms : Entries) → has_no_members ms ≡ false
      → enc (text w k (object ms)) ≡ 123 ∷ [] ++ enc (members_text w (k + 1) true ms ++ (newline w k ++ 125 ∷ []))
  object_begins k ms e =
      let its = members_text w (k + 1) true ms in
      ap (λ b. enc (123 ∷ (its ++ closing w k b 125))) e ∙ enc_cons 123 (its ++ (newline w k ++ 125 ∷ [])) (omega arith)

  pub opened : {old new : Output} {bytes : List ℕ} (bracket k : ℕ) (f : Frame) (gs hs : List Gathered)
      → bytes ≡ bracket ∷ [] ++ enc (frame_text w k f hs) → others f hs ≡ gs → Sent old new (bracket ∷ []) []
      → Opened w k old new bytes gs f hs
  opened {old} {new} {bytes} bracket k f gs hs e o h =
      let n = ap length e in
      record {
        written = goes {piece = bracket ∷ []} (enc (frame_text w k f hs)) h (written_none old bytes _ e);
        outside = o;
        less = omega (arith, n);
      }

  -- ---- an item or a member comes next

  pub items_next : (fs : List Frame) (gs : List Gathered) (level : ℕ) (first : Bool) (xs ys : List JsonValue) (x : JsonValue) → xs ≡ x ∷ ys
      → level ≡ length fs + 1
      → enc ((items_text w (length fs + 1) first (items_view xs) ++ (newline w (length fs) ++ 93 ∷ [])) ++ unwritten w fs gs)
      ≡ (enc (before w level first) ++ enc (text w level (view x))) ++ enc
      ((items_text w (length fs + 1) false (items_view ys) ++ (newline w (length fs) ++ 93 ∷ [])) ++ unwritten w fs gs)
  items_next fs gs level first xs ys x e l =
      let k = length fs in
      let close = newline w k ++ 93 ∷ [] in
      let rest = items_text w (k + 1) false (items_view ys) in
      rw l (ap (λ zs. enc ((items_text w (k + 1) first (items_view zs) ++ close) ++ unwritten w fs gs)) e
      ∙ ap enc (piece_first (before w (k + 1) first) (text w (k + 1) (view x)) rest close (unwritten w fs gs))
      ∙ encoded_first (before w (k + 1) first) (text w (k + 1) (view x)) ((rest ++ close) ++ unwritten w fs gs))

  pub members_next : (fs : List Frame) (gs hs : List Gathered) (level left more : ℕ) (first : Bool) (x : Gathered) → gs ≡ x ∷ hs
      → left ≡ suc more → level ≡ length fs + 1
      → enc (unwritten w (Members left first ∷ fs) gs) ≡ (enc (before w level first) ++ enc (member_text w level x.0.now x.1.now)) ++ enc
      (unwritten w (Members more false ∷ fs) hs)
  members_next fs gs hs level left more first x e n l =
      let k = length fs in
      let close = newline w k ++ 125 ∷ [] in
      let rest = members_text w (k + 1) false (sorted_view (take more hs)) in
      let out = unwritten w fs (drop more hs) in
      rw l (ap (λ zs. enc (unwritten w (Members left first ∷ fs) zs)) e ∙ ap (λ i. enc (unwritten w (Members i first ∷ fs) (x ∷ hs))) n
      ∙ ap enc (piece_first (before w (k + 1) first) (member_text w (k + 1) x.0.now x.1.now) rest close out)
      ∙ encoded_first (before w (k + 1) first) (member_text w (k + 1) x.0.now x.1.now) ((rest ++ close) ++ out))

  pub member_next : (fs : List Frame) (gs : List Gathered) (level : ℕ) (key : Bor (List ℕ)) (value : Bor JsonValue) → level ≡ length fs + 1
      → enc (unwritten w (Member key value ∷ fs) gs) ≡ (enc (before w level true) ++ enc (member_text w level key.now value.now)) ++ enc
      (unwritten w (Members 0 false ∷ fs) gs)
  member_next fs gs level key value l =
      let k = length fs in
      let close = newline w k ++ 125 ∷ [] in
      rw l (ap enc (piece_first (before w (k + 1) true) (member_text w (k + 1) key.now value.now) [] close (unwritten w fs gs))
      ∙ encoded_first (before w (k + 1) true) (member_text w (k + 1) key.now value.now) (([] ++ close) ++ unwritten w fs gs))

  -- ---- none comes

  pub items_end : (fs : List Frame) (gs : List Gathered) (first : Bool) (xs : List JsonValue) → xs ≡ []
      → enc ((items_text w (length fs + 1) first (items_view xs) ++ (newline w (length fs) ++ 93 ∷ [])) ++ unwritten w fs gs) ≡ enc
      (newline w (length fs)) ++ (93 ∷ [] ++ enc (unwritten w fs gs))
  items_end fs gs first xs e =
      let close = newline w (length fs) ++ 93 ∷ [] in
      ap (λ zs. enc ((items_text w (length fs + 1) first (items_view zs) ++ close) ++ unwritten w fs gs)) e
      ∙ bracket_first (newline w (length fs)) 93 (unwritten w fs gs) (omega arith)

  pub members_end : (fs : List Frame) (gs hs : List Gathered) (first : Bool) (left : ℕ) → take left gs ≡ [] → drop left gs ≡ hs
      → enc (unwritten w (Members left first ∷ fs) gs) ≡ enc (newline w (length fs)) ++ (125 ∷ [] ++ enc (unwritten w fs hs))
  members_end fs gs hs first left e d =
      let close = newline w (length fs) ++ 125 ∷ [] in
      ap (λ zs. enc ((members_text w (length fs + 1) first (sorted_view zs) ++ close) ++ unwritten w fs (drop left gs))) e
      ∙ ap (λ zs. enc (close ++ unwritten w fs zs)) d ∙ bracket_first (newline w (length fs)) 125 (unwritten w fs hs) (omega arith)

  -- ---- what is left of the stack then

  -- a container was begun inside the outer one
  pub advanced_open : {old mid new : Output} {bytes piece : List ℕ} (fs : List Frame) (gs₀ gs hs : List Gathered) (level : ℕ) (f g : Frame)
      (s₀ s₂ : Stack) → bytes ≡ enc (unwritten w fs gs₀) → IsStack s₂ → frames s₂ ≡ f ∷ g ∷ frames s₀ → level ≡ length (frames s₀) + 1
      → Opened w level mid new piece gs f hs → Sent old mid bytes (piece ++ enc (unwritten w (g ∷ frames s₀) gs))
      → Advanced w old new fs gs₀ s₂ hs
  advanced_open {old} {mid} {new} {bytes} {piece} fs gs₀ gs hs level f g s₀ s₂ whole is e l o h =
      let rest = enc (unwritten w (g ∷ frames s₀) gs) in
      let same : enc (frame_text w level f hs) ++ rest ≡ enc (unwritten w (frames s₂) hs) =
      sym (encodes-append (frame_text w level f hs) (unwritten w (g ∷ frames s₀) gs))
      ∙ ap (λ zs. enc (frame_text w level f hs ++ unwritten w (g ∷ frames s₀) zs)) (sym o.outside)
      ∙ ap (λ n. enc (frame_text w n f hs ++ unwritten w (g ∷ frames s₀) (others f hs))) (l ∙ add-one (length (frames s₀)))
      ∙ ap (λ zs. enc (unwritten w zs hs)) (sym e) in
      record {
        stack = is;
        written = subst (λ b. Sent old new b (enc (unwritten w (frames s₂) hs))) whole
            (subst (Sent old new bytes) same (written_more rest h o.written));
        less = subst (λ b. length (enc (unwritten w (frames s₂) hs)) < length b) whole
            (subst (λ r. length r < length bytes) same (shorter piece (enc (frame_text w level f hs)) rest h o.less));
      }

  -- or the stack had no memory for it
  pub stopped_open : {old mid new : Output} {bytes piece : List ℕ} (gs hs : List Gathered) (level : ℕ) (f : Frame) (rest : List ℕ)
      → Opened w level mid new piece gs f hs → Sent old mid bytes (piece ++ rest) → SentPart old new bytes
  stopped_open gs hs level f rest o h = stop (written_more rest h o.written)

  closed_rest : {old mid : Output} {bytes : List ℕ} (fs₁ : List Frame) (gs₁ hs : List Gathered) (line : List ℕ) (bracket : ℕ) (s : Stack)
      → frames s ≡ fs₁ → hs ≡ gs₁ → Sent old mid bytes (line ++ (bracket ∷ [] ++ enc (unwritten w fs₁ gs₁)))
      → Sent old mid bytes ((line ++ bracket ∷ []) ++ enc (unwritten w (frames s) hs))
  closed_rest {old} {mid} {bytes} fs₁ gs₁ hs line bracket s ef eg h =
      let e : enc (unwritten w fs₁ gs₁) ≡ enc (unwritten w (frames s) hs) = ap (λ z. enc (unwritten w z gs₁)) (sym ef)
      ∙ ap (λ z. enc (unwritten w (frames s) z)) (sym eg) in
      rw (append_assoc line (bracket ∷ []) (enc (unwritten w (frames s) hs)))
      (subst (λ z. Sent old mid bytes (line ++ (bracket ∷ [] ++ z))) e h)

  -- the container was closed, where `line` stands before its bracket
  pub closes : {E : Type 0} (old mid new : Output) (fs fs₁ : List Frame) (gs gs₁ hs : List Gathered) (line : List ℕ) (bracket : ℕ)
      (s : Stack) (r : Result (Unit {0}) E) → IsStack s → frames s ≡ fs₁ → hs ≡ gs₁
      → SendsFrom mid new (line ++ bracket ∷ []) r → Sent old mid (enc (unwritten w fs gs))
      (line ++ (bracket ∷ [] ++ enc (unwritten w fs₁ gs₁))) → AdvancesFrom w old new fs gs r s hs
  closes old mid new fs fs₁ gs gs₁ hs line bracket s (Ok u) is ef eg k h =
      let rest = enc (unwritten w (frames s) hs) in
      let whole = closed_rest fs₁ gs₁ hs line bracket s ef eg h in
      record {
        stack = is;
        written = goes {piece = line ++ bracket ∷ []} rest k whole;
        less = shorter (line ++ bracket ∷ []) [] rest whole (omega (arith, length-append line (bracket ∷ [])));
      }
  closes old mid new fs fs₁ gs gs₁ hs line bracket s (Err e) is ef eg k h =
      stops {piece = line ++ bracket ∷ []} (enc (unwritten w (frames s) hs)) k (closed_rest fs₁ gs₁ hs line bracket s ef eg h)

  -- ---- a member in compact text

  pub is_compact : (o : Option (Bor (List ℕ))) (b : Bool) → is_some o ≡ not b → IsTrue b → indent_of o ≡ None
  is_compact None b e t = refl
  is_compact (Some i) true e t = absurd cc
  is_compact (Some i) false e t = absurd cc

  pieces_joined : (a b c d : List ℕ) → a ++ (b ++ (c ++ d)) ≡ (a ++ (b ++ c)) ++ d
  pieces_joined a b c d = simp append_assoc

  pub compact_member : (level : ℕ) (first : Bool) (key v : List ℕ) → IsUtf8 key → w ≡ None
      → enc (before w level first) ++ enc (quoted (chars key) ++ (58 ∷ (after_colon w ++ v))) ≡
      (separator first ++ ((34 ∷ [] ++ (escapes key ++ 34 ∷ [])) ++ 58 ∷ [])) ++ enc v
  compact_member level first key v u e = ap (λ i. enc (before i level first) ++ enc (quoted (chars key) ++ (58 ∷ (after_colon i ++ v)))) e
      ∙ ap (λ z. z ++ enc (quoted (chars key) ++ (58 ∷ v))) (enc_separator first)
      ∙ ap (λ z. separator first ++ z) (three (quoted (chars key)) (58 ∷ []) v)
      ∙ ap (λ q. separator first ++ (q ++ (enc (58 ∷ []) ++ enc v))) (quoted_bytes key u)
      ∙ ap (λ c. separator first ++ ((34 ∷ [] ++ (escapes key ++ 34 ∷ [])) ++ (c ++ enc v))) (enc_cons 58 [] (omega arith))
      ∙ pieces_joined (separator first) (34 ∷ [] ++ (escapes key ++ 34 ∷ [])) (58 ∷ []) (enc v)

  -- ---- what begins after what was written

  pub begins_after : {E : Type 0} (k : ℕ) (old mid new : Output) (bytes piece : List ℕ) (gs hs : List Gathered)
      (r : Result (Option Frame) E) → Sent old mid bytes piece → BeginsFrom w k mid new piece gs r hs → BeginsFrom w k old new bytes gs r hs
  begins_after k old mid new bytes piece gs hs (Err e) h b = stops {piece = piece} [] b (rw append-nil h)
  begins_after k old mid new bytes piece gs hs (Ok None) h b = record {
    written = goes {piece = piece} [] b.written (rw append-nil h);
    outside = b.outside;
  }
  begins_after k old mid new bytes piece gs hs (Ok (Some f)) h b =
      let n = ap length h.split in
      let rest = enc (frame_text w k f hs) in
      record {
        written = subst (Sent old new bytes) (append-nil rest) (written_more {piece = piece} [] (rw append-nil h) b.written);
        outside = b.outside;
        less = omega (arith, n, length-append h.done piece, b.less);
      }

  -- ---- objects

  object_start : (k : ℕ) (es : List Entry) → 0 < length es
      → enc (text w k (object (members_view es))) ≡ 123 ∷ [] ++ enc (members_text w (k + 1) true (members_view es) ++
      (newline w k ++ 125 ∷ []))
  object_start k es h = object_begins k (members_view es) (some_members es false (λ z. absurd (omega arith)) refl)

  pub object_stops : {old new : Output} (k : ℕ) (es : List Entry) → 0 < length es → SentPart old new (123 ∷ [])
      → SentPart old new (enc (text w k (object (members_view es))))
  object_stops {old} k es h p = stops {piece = 123 ∷ []} _ p (written_none old _ _ (object_start k es h))

  -- or its members were not gathered
  pub object_ungathered : {old new : Output} (k : ℕ) (es : List Entry) → 0 < length es → Sent old new (123 ∷ []) []
      → SentPart old new (enc (text w k (object (members_view es))))
  object_ungathered {old} k es some h =
      let rest = enc (members_text w (k + 1) true (members_view es) ++ (newline w k ++ 125 ∷ [])) in
      stop (goes {piece = 123 ∷ []} rest h (written_none old _ _ (object_start k es some)))

  pub members_open : {old new : Output} (k n : ℕ) (es : List Entry) (gs hs : List Gathered) → 0 < length es → n ≡ length es
      → sorted_view (take (length es) hs) ≡ members_view es → drop (length es) hs ≡ gs
      → Sent old new (123 ∷ []) [] → Opened w k old new (enc (text w k (object (members_view es)))) gs (Members n true) hs
  members_open k n es gs hs some is seen outside h = opened 123 k (Members n true) gs hs
      (object_start k es some ∙ ap (λ ms. 123 ∷ [] ++ enc (members_text w (k + 1) true ms ++ (newline w k ++ 125 ∷ [])))
      (sym seen ∙ ap (λ m. sorted_view (take m hs)) (sym is))) (ap (λ m. drop m hs) is ∙ outside) h

  pub member_opens : {old new : Output} (k : ℕ) (es rest : List Entry) (e : Entry) (gs : List Gathered) (key : Bor (List ℕ))
      (value : Bor JsonValue) → es ≡ e ∷ rest → length es < 2 → key.now ≡ string_bytes e.0 → value.now ≡ e.1
      → Sent old new (123 ∷ []) [] → Opened w k old new (enc (text w k (object (members_view es)))) gs (Member key value) gs
  member_opens k es (f ∷ rest) e gs key value is n a b h = absurd (let m = ap length is in omega arith)
  member_opens k es [] e gs key value is n a b h =
      let m = ap length is in
      opened 123 k (Member key value) gs gs
      (object_start k es (omega arith) ∙ ap (λ zs. 123 ∷ [] ++ enc (members_text w (k + 1) true (members_view zs) ++
      (newline w k ++ 125 ∷ []))) is
      ∙ ap (λ c. 123 ∷ [] ++ enc (members_text w (k + 1) true (member (chars c) (view e.1) no_members) ++ (newline w k ++ 125 ∷ [])))
      (sym a)
      ∙ ap (λ v. 123 ∷ [] ++ enc (members_text w (k + 1) true (member (chars key.now) (view v) no_members) ++ (newline w k ++ 125 ∷ [])))
      (sym b)) refl h

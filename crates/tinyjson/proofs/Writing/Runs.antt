-- Items and members that are buffered one after another in compact text, and what is left of them.
use Rattle.std.proofs.Common.{◌≡◌, ℕ, suc, ◌+◌, ◌-◌, ◌<◌, Bool, true, false, Option, None, Some, List, [], ◌∷◌, ◌++◌, length, take, drop}
use Rattle.std.proofs.Common.{refl, sym, ◌∙◌, ap, subst, append_assoc, length-append, arith, MatchOption, MatchResult, Result, Ok, Err}
use Rattle.std.proofs.lemmas.Bool.{false≢true}
use Rattle.std.specs.Prelude.{IsErr, IsOk}
use Rattle.std.specs.Borrow.{Bor}
use Rattle.std.specs.Str.{chars, IsUtf8}
use Rattle.std.proofs.lemmas.Str.{encodes-append}
use Rattle.std.proofs.lemmas.List.{take_at}
use Rattle.tinyjson.specs.declared.value.JsonValue.{JsonValue}
use Rattle.tinyjson.specs.declared.generator.frames.Frame.{Frame}
use Rattle.tinyjson.specs.declared.generator.frames.Frame.TheVariants.{Items, Member, Members}
use Rattle.tinyjson.specs.private.Encoding.{Gathered, frame_text, others, unwritten, BeginsFrom, Opened}
use Rattle.tinyjson_output.specs.Buffer.{Output, Sent, SendsFrom}
use Rattle.tinyjson.specs.private.Sorted.{sorted_view}
use Rattle.tinyjson_grammar.specs.Text.{text, items_text, members_text, separator, quoted, escapes, newline, has_no_items}
use Rattle.tinyjson_grammar.specs.Tree.{array, member, no_members}
use Rattle.tinyjson.specs.View.{view, items_view}
use Rattle.tinyjson_output.proofs.Callers.{enc, enc_cons, three, sent_begins as begins, sent_goes as goes, sent_buffered as buffers}
use Rattle.tinyjson_output.proofs.Callers.{sent_written_more as written_more}
use Rattle.tinyjson.proofs.Writing.Containers.{begins_after, compact_member, opened, array_begins}
use Rattle.tinyjson.proofs.Writing.Text.{member_text, enc_separator}

-- what was appended to the buffer is taken back
pub taken_back : (p q r s more : List ℕ) (n : ℕ) → n ≡ length p → r ≡ take n q → q ≡ s → s ≡ p ++ more → r ≡ p
taken_back p q r s more n e a b c = a ∙ ap (λ m. take m q) e ∙ ap (λ z. take (length p) z) (b ∙ c) ∙ take_at p more (length p) refl

-- ---- one more

piece_first : (first : Bool) (t r : List ℕ) → enc ((separator first ++ []) ++ (t ++ r)) ≡ (separator first ++ enc t) ++ enc r
piece_first first t r = three (separator first ++ []) t r ∙ ap (λ b. b ++ (enc t ++ enc r)) (enc_separator first)
    ∙ sym (append_assoc (separator first) (enc t) (enc r))

pub item_on : {old : Output} {bytes : List ℕ} (held : Option (List ℕ)) (k : ℕ) (first : Bool) (xs ys : List JsonValue) (x : JsonValue)
    (p q : List ℕ) → xs ≡ x ∷ ys
    → q ≡ p ++ (separator first ++ enc (text None k (view x))) → Sent old (held, p) bytes (enc (items_text None k first (items_view xs)))
    → Sent old (held, q) bytes (enc (items_text None k false (items_view ys)))
item_on {old} {bytes} held k first xs ys x p q e w h =
    let t = text None k (view x) in
    let r = items_text None k false (items_view ys) in
    goes {piece = separator first ++ enc t} (enc r) (buffers held p q _ w)
    (subst (Sent old (held, p) bytes) (ap (λ zs. enc (items_text None k first (items_view zs))) e ∙ piece_first first t r) h)

pub member_on : {old : Output} {bytes : List ℕ} (held : Option (List ℕ)) (k : ℕ) (first : Bool) (gs hs : List Gathered) (x : Gathered)
    (left more : ℕ) (p q : List ℕ) → gs ≡ x ∷ hs → left ≡ suc more → q ≡ p ++ (separator first ++ enc (member_text None k x.0.now x.1.now))
    → Sent old (held, p) bytes (enc (members_text None k first (sorted_view (take left gs))))
    → Sent old (held, q) bytes (enc (members_text None k false (sorted_view (take more hs))))
member_on {old} {bytes} held k first gs hs x left more p q e n w h =
    let t = member_text None k x.0.now x.1.now in
    let r = members_text None k false (sorted_view (take more hs)) in
    goes {piece = separator first ++ enc t} (enc r) (buffers held p q _ w)
    (subst (Sent old (held, p) bytes) (ap (λ zs. enc (members_text None k first (sorted_view (take left zs)))) e
    ∙ ap (λ i. enc (members_text None k first (sorted_view (take i (x ∷ hs))))) n ∙ piece_first first t r) h)

-- a member that is buffered: its key, the colon and its value
pub member_buffered : (k : ℕ) (first : Bool) (key v p q r : List ℕ) → IsUtf8 key
    → q ≡ p ++ (separator first ++ ((34 ∷ [] ++ (escapes key ++ 34 ∷ [])) ++ 58 ∷ [])) → r ≡ q ++ enc v
    → r ≡ p ++ (separator first ++ enc (quoted (chars key) ++ (58 ∷ v)))
member_buffered k first key v p q r u a b =
    let t = enc (quoted (chars key) ++ (58 ∷ v)) in
    b ∙ ap (λ z. z ++ enc v) a ∙ append_assoc p (separator first ++ ((34 ∷ [] ++ (escapes key ++ 34 ∷ [])) ++ 58 ∷ [])) (enc v)
    ∙ ap (λ z. p ++ z) (sym (compact_member None k first key v u refl) ∙ ap (λ z. z ++ t) (enc_separator first))

-- the member that was looked at is gone
pub skipped : (r : Option Gathered) (left : ℕ) (gs hs : List Gathered) (m : Gathered) → 0 < left → gs ≡ m ∷ drop 1 gs
    → MatchOption r ((take left gs ≡ []) × (drop left gs ≡ hs)) (λ x. (0 < left) × (gs ≡ x ∷ hs)) → gs ≡ m ∷ hs
skipped (Some x) left gs hs m l e h = e ∙ ap (λ z. m ∷ drop 1 z) h.1
skipped None left gs hs m l e h =
    let one : left ≡ suc (left - 1) = omega (arith, l) in
    let n = ap length (sym h.0 ∙ ap (λ i. take i gs) one ∙ ap (take (suc (left - 1))) e) in
    absurd (omega (arith, n))

pub left_after : (left more : ℕ) (gs hs : List Gathered) (m : Gathered) → left ≡ suc more → gs ≡ m ∷ hs → drop more hs ≡ drop left gs
left_after left more gs hs m n e = sym (ap (λ i. drop i gs) n ∙ ap (drop (suc more)) e)

-- ---- a run of them, after what was sent and before what is left

tail : (a c d : List ℕ) → enc ((a ++ c) ++ d) ≡ enc a ++ (enc c ++ enc d)
tail a c d = encodes-append (a ++ c) d ∙ ap (λ v. v ++ enc d) (encodes-append a c) ∙ append_assoc (enc a) (enc c) (enc d)

pub run_on : {old mid new : Output} {bytes : List ℕ} (a b c d : List ℕ) → Sent mid new (enc a) (enc b)
    → Sent old mid bytes (enc ((a ++ c) ++ d)) → Sent old new bytes (enc ((b ++ c) ++ d))
run_on {old} {mid} {new} {bytes} a b c d k h =
    subst (Sent old new bytes) (sym (tail b c d)) (written_more (enc c ++ enc d) (subst (Sent old mid bytes) (tail a c d) h) k)

empty_items : (xs : List JsonValue) → has_no_items (items_view xs) ≡ true → xs ≡ []
empty_items [] h = refl
empty_items (x ∷ xs) h = absurd (cc)

module _ (w : Option (List ℕ)) where
  -- a run of the gathered members of the innermost container
  pub members_on : {old mid new : Output} {bytes : List ℕ} (fs : List Frame) (count left : ℕ) (first next : Bool) (hs is : List Gathered)
      → drop left is ≡ drop count hs → Sent mid new (enc (members_text w (length fs + 1) first (sorted_view (take count hs))))
      (enc (members_text w (length fs + 1) next (sorted_view (take left is))))
      → Sent old mid bytes (enc (unwritten w (Members count first ∷ fs) hs))
      → Sent old new bytes (enc (unwritten w (Members left next ∷ fs) is))
  members_on {old} {mid} {new} {bytes} fs count left first next hs is e r h =
      let b = members_text w (length fs + 1) next (sorted_view (take left is)) in
      let close = newline w (length fs) ++ 125 ∷ [] in
      subst (λ zs. Sent old new bytes (enc ((b ++ close) ++ unwritten w fs zs))) (sym e)
      (run_on _ b close (unwritten w fs (drop count hs)) r h)

  -- a container was begun, and then a run of what it holds
  pub opened_run : {old mid new : Output} {bytes : List ℕ} (k : ℕ) (gs hs is : List Gathered) (f g : Frame) (a b c : List ℕ)
      → frame_text w k f hs ≡ a ++ c → frame_text w k g is ≡ b ++ c → others g is ≡ others f hs
      → Sent mid new (enc a) (enc b) → Opened w k old mid bytes gs f hs → Opened w k old new bytes gs g is
  opened_run {old} {mid} {new} {bytes} k gs hs is f g a b c ef eg same r o =
      let before = ap enc ef ∙ encodes-append a c in
      let after = ap enc eg ∙ encodes-append b c in
      let n = ap length r.split in
      record {
        written = subst (Sent old new bytes) (sym after) (written_more (enc c) (subst (Sent old mid bytes) before o.written) r);
        outside = same ∙ o.outside;
        less = omega (
          arith,
          o.less,
          n,
          ap length before,
          ap length after,
          length-append (enc a) (enc c),
          length-append (enc b) (enc c),
          length-append r.done (enc b),
        );
      }

  pub array_run : {old mid new : Output} (k : ℕ) (items rest : Bor (List JsonValue)) (first : Bool) (gs : List Gathered)
      → has_no_items (items_view items.now) ≡ false → Sent old mid (91 ∷ []) []
      → Sent mid new (enc (items_text w (k + 1) true (items_view items.now))) (enc (items_text w (k + 1) first (items_view rest.now)))
      → Opened w k old new (enc (text w k (array (items_view items.now)))) gs (Items rest first) gs
  array_run k items rest first gs some h r =
      opened_run k gs gs gs (Items items true) (Items rest first) _ _ (newline w k ++ 93 ∷ []) refl refl refl r
      (opened w 91 k (Items items true) gs gs (array_begins w k items gs some) refl h)

  pub members_run : {old mid new : Output} {bytes : List ℕ} (k count left : ℕ) (first : Bool) (gs hs is : List Gathered)
      → drop left is ≡ drop count hs → Sent mid new (enc (members_text w (k + 1) true (sorted_view (take count hs))))
      (enc (members_text w (k + 1) first (sorted_view (take left is)))) → Opened w k old mid bytes gs (Members count true) hs
      → Opened w k old new bytes gs (Members left first) is
  members_run k count left first gs hs is e r o = opened_run k gs hs is (Members count true) (Members left first) _ _
      (newline w k ++ 125 ∷ []) refl refl e r o

  pub member_run : {old mid new : Output} {bytes : List ℕ} (k : ℕ) (gs : List Gathered) (key : Bor (List ℕ)) (value : Bor JsonValue)
      → Sent mid new (enc (members_text w (k + 1) true (member (chars key.now) (view value.now) no_members))) []
      → Opened w k old mid bytes gs (Member key value) gs → Opened w k old new bytes gs (Members 0 false) gs
  member_run k gs key value r o = opened_run k gs gs gs (Member key value) (Members 0 false) _ []
      (newline w k ++ 125 ∷ []) refl refl refl r o

  pub only_member_buffered : (held : Option (List ℕ)) (k : ℕ) (key : Bor (List ℕ)) (value : Bor JsonValue) (p q : List ℕ) → w ≡ None
      → q ≡ p ++ (separator true ++ enc (member_text None k key.now value.now))
      → Sent (held, p) (held, q) (enc (members_text w k true (member (chars key.now) (view value.now) no_members))) []
  only_member_buffered held k key value p q e h =
      subst (λ i. Sent (held, p) (held, q) (enc (members_text i k true (member (chars key.now) (view value.now) no_members))) []) (sym e)
      (member_on held k true ((key, value) ∷ []) [] (key, value) 1 0 p q refl refl h begins)

  -- nothing but the bracket is left, in compact text
  pub array_end : (k : ℕ) (rest : Bor (List JsonValue)) (first : Bool) (gs : List Gathered) → has_no_items (items_view rest.now) ≡ true
      → w ≡ None → enc (frame_text w k (Items rest first) gs) ≡ 93 ∷ []
  array_end k rest first gs e n =
      ap (λ zs. enc (items_text w (k + 1) first (items_view zs) ++ (newline w k ++ 93 ∷ []))) (empty_items rest.now e)
      ∙ ap (λ i. enc (newline i k ++ 93 ∷ [])) n ∙ enc_cons 93 [] (omega arith)

  pub object_end : (k left : ℕ) (first : Bool) (hs : List Gathered) → left ≡ 0 → w ≡ None
      → enc (frame_text w k (Members left first) hs) ≡ 125 ∷ []
  object_end k left first hs e n = ap (λ i. enc (members_text w (k + 1) first (sorted_view (take i hs)) ++ (newline w k ++ 125 ∷ []))) e
      ∙ ap (λ i. enc (newline i k ++ 125 ∷ [])) n ∙ enc_cons 125 [] (omega arith)

  -- the bytes of a whole value were written, if the writer took them
  pub complete_at_once : {E D : Type 0} (k : ℕ) (old new : Output) (bytes : List ℕ) (gs hs : List Gathered) (r : Result (Unit {0}) D)
      (s : Result (Option Frame) E) → MatchResult s (λ o. (o ≡ None) × IsOk r) (λ e. IsErr r)
      → SendsFrom old new bytes r → hs ≡ gs → BeginsFrom w k old new bytes gs s hs
  complete_at_once k old new bytes gs hs (Ok u) (Ok None) c h e = record { written = h; outside = e }
  complete_at_once k old new bytes gs hs (Ok u) (Ok (Some f)) c h e = absurd cc
  complete_at_once k old new bytes gs hs (Err d) (Ok o) c h e = absurd (false≢true c.1)
  complete_at_once k old new bytes gs hs (Ok u) (Err e) c h g = absurd (false≢true c)
  complete_at_once k old new bytes gs hs (Err d) (Err e) c h g = h

  -- all that a container holds was written, so that only its bracket is left
  pub closed_at_once : {E D : Type 0} {old mid : Output} {bytes : List ℕ} (new : Output) (k bracket : ℕ) (gs hs is : List Gathered)
      (f : Frame) (r : Result (Unit {0}) D) (s : Result (Option Frame) E)
      → enc (frame_text w k f hs) ≡ bracket ∷ [] → others f hs ≡ hs → is ≡ hs
      → MatchResult s (λ o. (o ≡ None) × IsOk r) (λ e. IsErr r) → SendsFrom mid new (bracket ∷ []) r
      → Opened w k old mid bytes gs f hs → BeginsFrom w k old new bytes gs s is
  closed_at_once {old = old} {mid} {bytes} new k bracket gs hs is f r s e same kept c h o =
      begins_after w k old mid new bytes (bracket ∷ []) gs is s (subst (Sent old mid bytes) e o.written)
      (complete_at_once k mid new (bracket ∷ []) gs is r s c h (kept ∙ sym same ∙ o.outside))

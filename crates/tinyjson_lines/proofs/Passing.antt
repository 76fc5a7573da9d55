-- A line that is passed over, of which a part is read.
use Rattle.std.proofs.Common.{◌≡◌, ◌<◌, ◌==◌, ℕ, ◌+◌, ◌-◌, Bool, true, false, cond, List, [], ◌∷◌, ◌++◌, All, length, take, drop, get_or}
use Rattle.std.proofs.Common.{Option, None, Some, IfSome, Result, Ok, Err, refl, sym, ap, ◌∙◌, ◌≢◌, ◌⊎◌, inl, inr}
use Rattle.std.proofs.Common.{subst, append_assoc, append-nil, length-append, arith}
use Rattle.std.proofs.KnownBytes.{Consumes-nil}
use Rattle.std.proofs.Math.Seq.{drop-append_seam, take-append-add, take-append_seam}
use Rattle.std.proofs.lemmas.Bool.{lt-ltb}
use Rattle.std.proofs.lemmas.List.{get_or-append-add}
use Rattle.std.proofs.lemmas.List.Elements.{All-append, All-drop, All-nil, All-take}
use Rattle.std.proofs.lemmas.Str.{IsUtf8-append, IsUtf8-nil}
use Rattle.std.specs.Io.BufRead.{take_through, drop_through, DropsThrough}
use Rattle.std.specs.Io.KnownBytes.{Consumes, prepend_known}
use Rattle.std.specs.IoError.{error_kind}
use Rattle.std.specs.Prelude.{MatchResult}
use Rattle.std.specs.Result.{IsErrAnd, is_ok}
use Rattle.std.specs.declared.io.Error.{Error}
use Rattle.std.specs.declared.io.ErrorKind.TheVariants.{Interrupted, OutOfMemory}
use Rattle.tinyjson.specs.Grammar.{IsAccepted}
use Rattle.std.specs.Str.{IsUtf8, chars}
use Rattle.tinyjson_lines.proofs.Beginnings.{rest_utf8}
use Rattle.tinyjson_lines.proofs.Callers.{first_line}
use Rattle.tinyjson_lines.proofs.Pieces.{IsInLine, content_part, memory_kind, part_alone, part_first, some_taken}
use Rattle.tinyjson_lines.specs.Checked.{BeginsRejected, IsRefused, ReadsChecked, RejectsNext, StopsChecked}
use Rattle.tinyjson_lines.specs.Lines.{content, lines, onto_first, BeginsLonger, LinesRead, AllRead, Stops, StopsInLine}
use Rattle.tinyjson_lines.specs.declared.checked.CheckedRead.{CheckedRead}
use Rattle.tinyjson_lines.specs.private.Beginnings.{IsCutAfter, IsNoUtf8, PassesOver, Rejects, TellsUtf8, usize_max}
use Rattle.tinyjson_lines.specs.declared.refusal.Cause.{Cause}
use Rattle.tinyjson_lines.specs.declared.refusal.Cause.TheVariants.{NotUtf8, NotJson, TooLong}
use Rattle.tinyjson_lines.specs.declared.within.LineRead.{LineRead}
use Rattle.tinyjson_lines.specs.declared.within.LineRead.TheVariants.{Whole, End}
use Rattle.tinyjson_lines.specs.private.Pieces.{Extends, IsPart, TakesPiece}

-- ---- lines that begin with a part

content_by : (b : Bool) (n : ℕ) (front line : List ℕ)
    → cond b (take (length front + n) (front ++ line)) (front ++ line) ≡ front ++ cond b (take n line) line
content_by true n front line = take-append-add front line n
content_by false n front line = refl

content_some : (line : List ℕ) → 0 < length line
    → content line ≡ cond (get_or line (length line - 1) 0 == 10) (take (length line - 1) line) line
content_some line some = let is = lt-ltb 0 (length line) some in rw is refl

-- what comes before the last byte stays
content_join : (front line : List ℕ) → All IsInLine front → content (front ++ line) ≡ front ++ content line
content_join front [] h = ap content (append-nil front) ∙ content_part front h ∙ sym (append-nil front)
content_join front (y ∷ ys) h =
    let line : List ℕ = y ∷ ys in
    let n : ℕ = length line - 1 in
    let some : 0 < length (front ++ line) = omega (arith, length-append front line) in
    let before : length (front ++ line) - 1 ≡ length front + n = omega (arith, length-append front line) in
    let last : get_or (front ++ line) (length (front ++ line) - 1) 0 ≡ get_or line n 0 =
    ap (λ i. get_or (front ++ line) i 0) before ∙ get_or-append-add front line n 0 in
    content_some (front ++ line) some
    ∙ (ap (λ b. cond (b == 10) (take (length (front ++ line) - 1) (front ++ line)) (front ++ line)) last
    ∙ (ap (λ i. cond (get_or line n 0 == 10) (take i (front ++ line)) (front ++ line)) before
    ∙ (content_by (get_or line n 0 == 10) n front line ∙ ap (λ l. front ++ l) (sym (content_some line (omega arith))))))

joined : (unread middle after : Option (List ℕ)) (front line : List ℕ) → Consumes unread middle front → All IsInLine front
    → LinesRead middle after (line ∷ []) → LinesRead unread after ((front ++ line) ∷ [])
joined None middle after front line taken h r = tt
joined (Some u) None after front line taken h r = absurd taken
joined (Some u) (Some m) None front line taken h r = absurd r
joined (Some u) (Some m) (Some a) front line taken h r = ap lines taken ∙ part_first front m line (lines a) h r

-- where no line is left, nothing is
no_line : (c : Bool) (b : ℕ) (ls : List (List ℕ)) → ¬ (cond c ((b ∷ []) ∷ ls) (onto_first b ls) ≡ [])
no_line true b ls e = omega (arith, ap length e)
no_line false b [] e = omega (arith, ap length e)
no_line false b (l ∷ ls) e = omega (arith, ap length e)

nothing_left : (xs : List ℕ) → lines xs ≡ [] → xs ≡ []
nothing_left [] e = refl
nothing_left (b ∷ bs) e = absurd (no_line (b == 10) b (lines bs) e)

alone : (front : List ℕ) → All IsInLine front → 0 < length front → lines front ≡ front ∷ []
alone [] h some = absurd (omega (arith, some))
alone (x ∷ xs) h some = part_alone x xs h

joined_end : (unread middle after : Option (List ℕ)) (front : List ℕ) → Consumes unread middle front → All IsInLine front
    → 0 < length front → AllRead middle after [] → LinesRead unread after (front ∷ [])
joined_end None middle after front taken h some r = tt
joined_end (Some u) None after front taken h some r = absurd taken
joined_end (Some u) (Some m) after front taken h some r =
    let whole : u ≡ front = taken ∙ (ap (λ l. front ++ l) (nothing_left m r.0) ∙ append-nil front) in
    subst (λ o. LinesRead (Some u) o (front ∷ [])) (sym r.1) (ap lines whole ∙ alone front h some)

-- the rest of a line is passed over unseen
passed : (unread left after : Option (List ℕ)) (part : List ℕ) → Consumes unread left part → All IsInLine part → 0 < length part
    → DropsThrough left after 10 → (more : List ℕ) × LinesRead unread after ((part ++ more) ∷ [])
passed None left after part taken h some drops = ([], tt)
passed (Some u) None after part taken h some drops = absurd taken
passed (Some u) (Some []) after part taken h some drops = (
  [],
  subst (λ o. LinesRead (Some u) o ((part ++ []) ∷ [])) (sym drops)
      (ap lines (taken ∙ append-nil part) ∙ (alone part h some ∙ ap (λ l. l ∷ []) (sym (append-nil part)))),
)
passed (Some u) (Some (x ∷ xs)) after part taken h some drops =
    let l : List ℕ = x ∷ xs in (
      take_through 10 l,
      subst (λ o. LinesRead (Some u) o ((part ++ take_through 10 l) ∷ [])) (sym drops)
          (ap lines taken
          ∙ part_first part l (take_through 10 l) (lines (drop_through 10 l)) h (first_line l (some_taken x xs))),
    )

-- ---- passing over

-- Before a step: the bytes at the front are a text, and passed over; some are held.
pub record Passing (unread left : Option (List ℕ)) (part held : List ℕ) : Type 0 where
  pub front : List ℕ
  pub middle : Option (List ℕ)
  pub rest : List ℕ
  pub text : IsUtf8 front
  pub taken : Consumes unread middle front
  pub unended : All IsInLine front
  pub piece : IsPart usize_max middle left held
  pub begins : front ++ held ≡ part ++ rest

pub begun : (unread left : Option (List ℕ)) (part : List ℕ) → IsPart usize_max unread left part → Passing unread left part part
begun unread left part p = record {
  front = [];
  middle = unread;
  rest = [];
  text = IsUtf8-nil;
  taken = Consumes-nil unread;
  unended = All-nil IsInLine;
  piece = p;
  begins = sym (append-nil part);
}

cut_taken : (unread middle left : Option (List ℕ)) (front text tail : List ℕ) → Consumes unread middle front
    → Consumes middle left (text ++ tail) → Consumes unread (prepend_known tail left) (front ++ text)
cut_taken None middle left front text tail h k = tt
cut_taken (Some u) None left front text tail h k = absurd h
cut_taken (Some u) (Some m) None front text tail h k = absurd k
cut_taken (Some u) (Some m) (Some l) front text tail h k =
    h ∙ (ap (λ t. front ++ t) (k ∙ append_assoc text tail l) ∙ sym (append_assoc front text (tail ++ l)))

tail_left : (left : Option (List ℕ)) (tail : List ℕ) → Consumes (prepend_known tail left) left tail
tail_left None tail = tt
tail_left (Some l) tail = refl

module _ (unread left : Option (List ℕ)) (part held : List ℕ) (p : Passing unread left part held) where
  -- a text is cut off
  pub cut : (text tail : List ℕ) → IsCutAfter text held → tail ≡ drop (length text) held → Passing unread left part tail
  cut text tail c e =
      let whole : held ≡ text ++ tail = c.2
      ∙ ap (λ t. text ++ t) (sym (drop-append_seam text c.1) ∙ (ap (drop (length text)) (sym c.2) ∙ sym e)) in
      let front_text : All IsInLine text = subst (All IsInLine) (ap (take (length text)) whole ∙ take-append_seam text tail)
      (All-take IsInLine (length text) held p.piece.unended) in
      let in_tail : All IsInLine tail = subst (All IsInLine) (sym e) (All-drop IsInLine (length text) held p.piece.unended) in
      record {
        front = p.front ++ text;
        middle = prepend_known tail left;
        rest = p.rest;
        text = IsUtf8-append p.front text p.text c.0;
        taken = cut_taken unread p.middle left p.front text tail p.taken (subst (Consumes p.middle left) whole p.piece.taken);
        unended = All-append IsInLine p.front text p.unended front_text;
        piece = record {
          taken = tail_left left tail;
          unended = in_tail;
          within = omega (arith, p.piece.within, ap length whole, length-append text tail);
        };
        begins = append_assoc p.front text tail ∙ (ap (λ l. p.front ++ l) (sym whole) ∙ p.begins);
      }

  -- more of the line is held
  pub held_more : (after : Option (List ℕ)) (new more : List ℕ) → new ≡ held ++ more → IsPart usize_max p.middle after new
      → Passing unread after part new
  held_more after new more e q = record {
    front = p.front;
    middle = p.middle;
    rest = p.rest ++ more;
    text = p.text;
    taken = p.taken;
    unended = p.unended;
    piece = q;
    begins = ap (λ l. p.front ++ l) e ∙ (sym (append_assoc p.front held more)
        ∙ (ap (λ l. l ++ more) p.begins ∙ append_assoc part p.rest more));
  }

  tells : (b : Bool) (text : List ℕ) → TellsUtf8 text b → TellsUtf8 (p.front ++ text) b
  tells true text u = IsUtf8-append p.front text p.text u
  tells false text n = λ u. n (rest_utf8 p.front text p.text u)

  -- the line ends
  pub finish : (after : Option (List ℕ)) (new more : List ℕ) (b : Bool) → new ≡ held ++ more → LinesRead p.middle after (new ∷ [])
      → TellsUtf8 (content new) b → PassesOver unread after part (Ok b)
  finish after new more b e read told =
      let whole : p.front ++ content new ≡ part ++ (p.rest ++ content more) =
      ap (λ l. p.front ++ l) (ap content e ∙ content_join held more p.piece.unended)
      ∙ (sym (append_assoc p.front held (content more))
      ∙ (ap (λ l. l ++ content more) p.begins ∙ append_assoc part p.rest (content more))) in (
        p.front ++ new,
        p.rest ++ content more,
        joined unread p.middle after p.front new p.taken p.unended read,
        content_join p.front new p.unended ∙ whole,
        subst (λ l. TellsUtf8 l b) whole (tells b (content new) told),
      )

  -- nothing was held, and the input ends
  pub finish_end : (after : Option (List ℕ)) (b : Bool) → held ≡ [] → 0 < length part → AllRead p.middle after []
      → b ≡ true → PassesOver unread after part (Ok b)
  finish_end after b none some read is =
      let whole : p.front ≡ part ++ p.rest = sym (append-nil p.front) ∙ (ap (λ l. p.front ++ l) (sym none) ∙ p.begins) in
      let long : 0 < length p.front = omega (arith, some, ap length whole, length-append part p.rest) in (
        p.front,
        p.rest,
        joined_end unread p.middle after p.front p.taken p.unended long read,
        content_part p.front p.unended ∙ whole,
        subst (TellsUtf8 (part ++ p.rest)) (sym is) (subst IsUtf8 whole p.text),
      )

  -- it is not UTF-8
  pub finish_broken : (after : Option (List ℕ)) (b : Bool) → IsNoUtf8 held → DropsThrough left after 10 → b ≡ false
      → PassesOver unread after part (Ok b)
  finish_broken after b n drops is =
      let some : 0 < length held = longer held n in
      let rest = passed p.middle left after held p.piece.taken p.piece.unended some drops in
      finish after (held ++ rest.0) rest.0 b refl rest.1
      (subst (TellsUtf8 (content (held ++ rest.0))) (sym is)
      (λ u. n (content rest.0) (subst IsUtf8 (content_join held rest.0 p.piece.unended) u)))
    where
      longer : (held : List ℕ) → IsNoUtf8 held → 0 < length held
      longer [] n = absurd (n [] IsUtf8-nil)
      longer (x ∷ xs) n = omega arith

  -- ---- after a piece was taken

  pub ends_whole : (after : Option (List ℕ)) (new : List ℕ) (o : Option LineRead) (r : LineRead) (b : Bool) → o ≡ Some r → r ≡ Whole
      → TakesPiece usize_max p.middle after new (Ok o) → Extends held new (Ok o) → TellsUtf8 (content new) b
      → PassesOver unread after part (Ok b)
  ends_whole after new o r b is whole taken extends told =
      let t : TakesPiece usize_max p.middle after new (Ok (Some Whole)) =
      subst (λ x. TakesPiece usize_max p.middle after new (Ok x)) (is ∙ ap Some whole) taken in
      let e : Extends held new (Ok (Some Whole)) = subst (λ x. Extends held new (Ok x)) (is ∙ ap Some whole) extends in
      finish after new e.0 b e.1 t.0 told

  pub ends_input : (after : Option (List ℕ)) (new : List ℕ) (o : Option LineRead) (r : LineRead) → o ≡ Some r → r ≡ End
      → TakesPiece usize_max p.middle after new (Ok o) → Extends held new (Ok o) → 0 < length part
      → PassesOver unread after part (Ok true)
  ends_input after new o r is end taken extends some =
      let t : TakesPiece usize_max p.middle after new (Ok (Some End)) =
      subst (λ x. TakesPiece usize_max p.middle after new (Ok x)) (is ∙ ap Some end) taken in
      let e : Extends held new (Ok (Some End)) = subst (λ x. Extends held new (Ok x)) (is ∙ ap Some end) extends in
      finish_end after true e.0 some t refl

  pub goes_on : (after : Option (List ℕ)) (new : List ℕ) (o : Option LineRead) → o ≡ None
      → TakesPiece usize_max p.middle after new (Ok o) → Extends held new (Ok o) → Passing unread after part new
  goes_on after new o is taken extends =
      let t : TakesPiece usize_max p.middle after new (Ok None) =
      subst (λ x. TakesPiece usize_max p.middle after new (Ok x)) is taken in
      let e : Extends held new (Ok None) = subst (λ x. Extends held new (Ok x)) is extends in
      held_more after new e.0 e.1 t

-- what the test of UTF-8 returns
pub tells_utf8 : {S E : Type 0} (xs : List ℕ) (P : S → Type 0) (Q : E → Type 0) (r : Result S E) (b : Bool) → b ≡ is_ok r
    → MatchResult r (λ s. P s × IsUtf8 xs) (λ e. ¬ IsUtf8 xs × Q e) → TellsUtf8 xs b
tells_utf8 xs P Q (Ok s) b e h = subst (TellsUtf8 xs) (sym e) h.1
tells_utf8 xs P Q (Err x) b e h = subst (TellsUtf8 xs) (sym e) h.0

-- ---- errors

-- an error that is no interruption is handed on
pub passes_err : (unread after : Option (List ℕ)) (part : List ℕ) (e : Error) (r : Result Bool Error) → IsErrAnd r (λ d. d ≡ e)
    → error_kind e ≢ Interrupted → PassesOver unread after part r
passes_err unread after part e (Ok x) is h = absurd is
passes_err unread after part e (Err d) is h = subst (λ y. error_kind y ≢ Interrupted) (sym is) h

-- ---- a line that is rejected by its beginning

module _ (limit : Option ℕ) (unread after : Option (List ℕ)) (part : List ℕ) where
  pub rejected_text : (c : Cause) (b : Bool) → b ≡ true → Rejects limit part c → PassesOver unread after part (Ok b)
      → RejectsNext limit unread after c
  rejected_text NotUtf8 b is n h = (h.0, h.2, λ u. n h.1 (subst IsUtf8 h.3 u))
  rejected_text (NotJson e) b is n h = (
    h.0,
    h.2,
    (
      subst IsUtf8 (sym h.3) (subst (TellsUtf8 (part ++ h.1)) is h.4),
      subst (λ l. IsRefused limit (chars l) e) (sym h.3) (n h.1),
    ),
  )
  rejected_text (TooLong m) b is n h = absurd n

  pub rejected_bytes : (b : Bool) → b ≡ false → PassesOver unread after part (Ok b) → RejectsNext limit unread after NotUtf8
  rejected_bytes b is h = (h.0, h.2, λ u. subst (TellsUtf8 (part ++ h.1)) is h.4 (subst IsUtf8 h.3 u))

-- the line that begins with the part is no text
no_text : (limit : Option ℕ) (part rest : List ℕ) (c : Cause) → Rejects limit part c → IsUtf8 (part ++ rest)
    → ¬ IsAccepted limit (chars (part ++ rest))
no_text limit part rest NotUtf8 n u = absurd (n rest u)
no_text limit part rest (NotJson e) n u = (n rest).2
no_text limit part rest (TooLong m) n u = absurd n

pub begins_rejected : (limit : Option ℕ) (unread left : Option (List ℕ)) (part : List ℕ) (c : Cause) → IsPart usize_max unread left part
    → 0 < length part → Rejects limit part c → BeginsRejected limit unread
begins_rejected limit None left part c p some n = tt
begins_rejected limit (Some u) None part c p some n = absurd p.taken
begins_rejected limit (Some u) (Some l) part c p some n =
    let r = passed (Some u) (Some l) (Some (drop_through 10 l)) part p.taken p.unended some refl in (
      part ++ r.0,
      lines (drop_through 10 l),
      r.1,
      λ t. let is = content_join part r.0 p.unended in
          subst (λ x. ¬ IsAccepted limit (chars x)) (sym is) (no_text limit part (content r.0) c n (subst IsUtf8 is t)),
    )

module _ (limit : Option ℕ) (unread left : Option (List ℕ)) (line : List ℕ) where
  stops_in : (e : Error) → Stops usize_max unread left line e → StopsChecked limit unread left line e
  stops_in e h = record { kind = h.kind; within = by h.within }
    where
      by : StopsInLine unread left line ⊎ BeginsLonger usize_max unread
          → StopsInLine unread left line ⊎ (BeginsLonger usize_max unread ⊎ BeginsRejected limit unread)
      by (inl s) = inl s
      by (inr b) = inr (inl b)

  -- the error of a piece is handed on
  pub checked_stops : (e : Error) (r : Result CheckedRead Error) → IsErrAnd r (λ d. d ≡ e) → Stops usize_max unread left line e
      → ReadsChecked limit unread left line r
  checked_stops e (Ok x) is h = absurd is
  checked_stops e (Err d) is h = subst (StopsChecked limit unread left line) (sym is) (stops_in e h)

  -- there was no memory to check a part
  pub checked_memory : (e : Error) (r : Result CheckedRead Error) → IsErrAnd r (λ d. d ≡ e) → error_kind e ≡ OutOfMemory
      → IsPart usize_max unread left line → ReadsChecked limit unread left line r
  checked_memory e (Ok x) is k p = absurd is
  checked_memory e (Err d) is k p = subst (StopsChecked limit unread left line) (sym is) (record {
    kind = memory_kind e k;
    within = inl (record { taken = p.taken; unended = p.unended });
  })

  -- a rejected line was passed over
  pub checked_passing : (e : Error) (r : Result CheckedRead Error) → IsErrAnd r (λ d. d ≡ e) → error_kind e ≢ Interrupted
      → BeginsRejected limit unread → ReadsChecked limit unread left line r
  checked_passing e (Ok x) is k b = absurd is
  checked_passing e (Err d) is k b = subst (StopsChecked limit unread left line) (sym is) (record { kind = k; within = inr (inr b) })

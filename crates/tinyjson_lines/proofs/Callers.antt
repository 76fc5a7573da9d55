-- For proofs of callers: lines that are read one after the other, and what is written and told of them.
use Rattle.std.proofs.Common.{◌≡◌, ◌<◌, ◌==◌, ℕ, Bool, true, false, cond, List, [], ◌∷◌, ◌++◌, length, Option, None, Some, IfSome}
use Rattle.std.proofs.Common.{suc, Result, Ok, Err, ◌+◌, refl, sym, ap, ◌∙◌, subst}
use Rattle.std.proofs.Common.{append_assoc, append-nil, length-append, arith}
use Rattle.std.proofs.KnownBytes.{Appends-nil, Appends-trans}
use Rattle.std.specs.Io.BufRead.{take_through, drop_through}
use Rattle.std.specs.Io.KnownBytes.{Appends, Keeps}
use Rattle.std.specs.Prelude.{if◌then◌else◌}
use Rattle.tinyjson.proofs.Callers.{Appends_keeps, stop, stops_then, written_same}
use Rattle.tinyjson.specs.Written.{Written, WrittenPart}
use Rattle.tinyjson_lines.specs.Lines.{lines, onto_first, LinesRead, AllRead, AllGive, said, AnswersAll, StopsAmong}
use Rattle.tinyjson_lines.specs.Within.{GivesNext, IsGiven, ReadsWithin, given_as}
use Rattle.tinyjson_lines.specs.declared.within.LineRead.{LineRead}
use Rattle.tinyjson_lines.specs.declared.within.LineRead.TheVariants.{Whole, TooLong, End}

first_by : (b : Bool) (x : ℕ) (xs : List ℕ) → cond b ((x ∷ []) ∷ lines xs) (onto_first x (lines xs)) ≡
    (if b then x ∷ [] else x ∷ take_through 10 xs) ∷ lines (if b then xs else drop_through 10 xs)
first_by true x xs = refl
first_by false x [] = refl
first_by false x (y ∷ ys) = ap (onto_first x) (first_by (y == 10) y ys)

pub first_line : (xs : List ℕ) → 0 < length (take_through 10 xs) → lines xs ≡ take_through 10 xs ∷ lines (drop_through 10 xs)
first_line [] h = absurd (omega (arith, h))
first_line (x ∷ xs) h = first_by (x == 10) x xs

-- the next line, as it is given where it is read up to a limit
pub given_next : (max : Option ℕ) (left after : Option (List ℕ)) (read : LineRead) (line slice : List ℕ) (given : Result (List ℕ) ℕ)
    → ¬ (read ≡ End) → slice ≡ line → given ≡ given_as read slice → ReadsWithin max left after line (Ok read)
    → GivesNext max left after given
given_next max left after Whole line slice given n s e h =
    (line, h.0, subst (IsGiven max line) (sym (e ∙ ap Ok s)) (refl, h.1))
given_next max left after (TooLong m) line slice given n s e h =
    (h.1.0, h.1.1, subst (IsGiven max h.1.0) (sym e) (h.0, h.1.2))
given_next max left after End line slice given n s e h = absurd (n refl)

-- ---- one line after the others

pub lines_read_next : (unread left after : Option (List ℕ)) (read : List (List ℕ)) (line : List ℕ) → LinesRead unread left read
    → LinesRead left after (line ∷ []) → LinesRead unread after (read ++ line ∷ [])
lines_read_next None left after read line h k = tt
lines_read_next (Some xs) None after read line h k = absurd h
lines_read_next (Some xs) (Some ys) None read line h k = absurd k
lines_read_next (Some xs) (Some ys) (Some zs) read line h k =
    h ∙ (ap (λ ls. read ++ ls) k ∙ sym (append_assoc read (line ∷ []) (lines zs)))

pub all_read : (unread left after : Option (List ℕ)) (read : List (List ℕ)) → LinesRead unread left read → AllRead left after []
    → AllRead unread after read
all_read None left after read h k = tt
all_read (Some xs) None after read h k = absurd h
all_read (Some xs) (Some ys) after read h k = (h ∙ (ap (λ ls. read ++ ls) k.0 ∙ append-nil read), k.1)

pub first_lines : (unread left : Option (List ℕ)) (read : List (List ℕ)) → LinesRead unread left read
    → IfSome unread (λ xs. (more : List (List ℕ)) × (lines xs ≡ read ++ more))
first_lines None left read h = tt
first_lines (Some xs) None read h = absurd h
first_lines (Some xs) (Some ys) read h = (lines ys, h)

-- ---- what is written and told of them

give_next : {F : Type 0} (gives : List ℕ → F → Type 0) (read : List (List ℕ)) (fs : List F) (line : List ℕ) (f : F)
    → AllGive gives read fs → gives line f → AllGive gives (read ++ line ∷ []) (fs ++ f ∷ [])
give_next gives [] [] line f h k = (k, tt)
give_next gives [] (g ∷ fs) line f h k = absurd h
give_next gives (l ∷ ls) [] line f h k = absurd h
give_next gives (l ∷ ls) (g ∷ fs) line f h k = (h.0, give_next gives ls fs line f h.1 k)

-- the lines before are counted from n, and the next one is number m
said_next : {F : Type 0} (says : ℕ → F → List ℕ) (n m : ℕ) (fs : List F) (f : F) → m ≡ n + length fs
    → said says n (fs ++ f ∷ []) ≡ said says n fs ++ says m f
said_next says n m [] f e = let is : n ≡ m = omega (arith, e) in append-nil (says n f) ∙ ap (λ k. says k f) is
said_next says n m (g ∷ fs) f e =
    let is : m ≡ suc n + length fs = omega (arith, e) in
    ap (λ l. says n g ++ l) (said_next says (suc n) m fs f is)
    ∙ sym (append_assoc (says n g) (said says (suc n) fs) (says m f))

all_written : (held holds : Option (List ℕ)) (bytes : List ℕ) → Appends held holds bytes → Written held holds bytes []
all_written held holds bytes w = record { done = bytes; split = sym (append-nil bytes); appended = w }

-- Before the line of this number: the lines before it are read, and what is to be written and told of them is.
pub record Progress {F : Type 0} (gives : List ℕ → F → Type 0) (output telling : ℕ → F → List ℕ)
    (unread left held holds told tells : Option (List ℕ)) (number : ℕ) (fs : List F) : Type 0 where
  pub read : List (List ℕ)
  pub are : AllGive gives read fs
  pub lines_read : LinesRead unread left read
  pub written : Appends held holds (said output 1 fs)
  pub told_of : Appends told tells (said telling 1 fs)
  pub count : number ≡ 1 + length fs

module _ {F : Type 0} (gives : List ℕ → F → Type 0) (output telling : ℕ → F → List ℕ) where
  pub begun : (unread held told : Option (List ℕ)) → Progress gives output telling unread unread held held told told 1 []
  begun unread held told = record {
    read = [];
    are = tt;
    lines_read = none unread;
    written = Appends-nil held;
    told_of = Appends-nil told;
    count = refl;
  }
    where
      none : (o : Option (List ℕ)) → LinesRead o o []
      none None = tt
      none (Some xs) = refl

  module _ (unread left held holds told tells : Option (List ℕ)) (n : ℕ) (fs : List F)
      (p : Progress gives output telling unread left held holds told tells n fs) where
    -- nothing more was written, and nothing told
    pub stopped : (new news : Option (List ℕ)) → Keeps holds new → Keeps tells news
        → StopsAmong gives output telling unread held new told news
    stopped new news k l = record {
      read = p.read;
      fs = fs;
      are = p.are;
      first = first_lines unread left p.read p.lines_read;
      written = stop (written_same (all_written held holds (said output 1 fs) p.written) k);
      told_of = stop (written_same (all_written told tells (said telling 1 fs) p.told_of) l);
    }

    -- no line is left
    pub ended : (after new : Option (List ℕ)) → AllRead left after [] → Keeps holds new
        → AnswersAll gives output telling unread after held new told tells fs
    ended after new end k = record {
      read = p.read;
      are = p.are;
      reaches = all_read unread left after p.read p.lines_read end;
      written = Appends_keeps held holds new (said output 1 fs) p.written k;
      told_of = p.told_of;
    }

    module _ (after new news : Option (List ℕ)) (line : List ℕ) (one : LinesRead left after (line ∷ [])) (f : F)
        (given : gives line f) where
      -- one more is read, and what is to be written and told of it is
      pub next : Appends holds new (output n f) → Appends tells news (telling n f)
          → Progress gives output telling unread after held new told news (n + 1) (fs ++ f ∷ [])
      next w t = record {
        read = p.read ++ line ∷ [];
        are = give_next gives p.read fs line f p.are given;
        lines_read = lines_read_next unread left after p.read line p.lines_read one;
        written = subst (Appends held new) (sym (said_next output 1 n fs f p.count))
            (Appends-trans held holds new (said output 1 fs) (output n f) p.written w);
        told_of = subst (Appends told news) (sym (said_next telling 1 n fs f p.count))
            (Appends-trans told tells news (said telling 1 fs) (telling n f) p.told_of t);
        count = omega (arith, p.count, length-append fs (f ∷ []));
      }

      -- writing it or telling of it failed
      pub cut : WrittenPart holds new (output n f) → WrittenPart tells news (telling n f)
          → StopsAmong gives output telling unread held new told news
      cut w t = record {
        read = p.read ++ line ∷ [];
        fs = fs ++ f ∷ [];
        are = give_next gives p.read fs line f p.are given;
        first = first_lines unread after (p.read ++ line ∷ []) (lines_read_next unread left after p.read line p.lines_read one);
        written = stops_then (output n f)
            (record { done = said output 1 fs; split = said_next output 1 n fs f p.count; appended = p.written }) w;
        told_of = stops_then (telling n f)
            (record { done = said telling 1 fs; split = said_next telling 1 n fs f p.count; appended = p.told_of }) t;
      }

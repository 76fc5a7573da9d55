-- What is written reads back.
use Rattle.std.proofs.Common.{Some, None, refl, ap, IsTrue}
use Rattle.tinyjson_number.specs.Numeral.{power_width}
use Rattle.tinyjson_grammar.specs.Syntax.{text}
use Rattle.tinyjson_grammar.specs.Text as written
use Rattle.tinyjson_grammar.proofs.Callers.Laws.{only_tree, written_text, from_text}
use Rattle.tinyjson_laws.specs.Writing.{CompactReadsBack, IndentedReadsBack, SameCompact, SameIndented, SameNormal}
use Rattle.tinyjson_laws.specs.Writing.{WrittenOnce, CompactWithin}
use Rattle.tinyjson_laws.specs.Writing.{IndentedWithin, LimitKept, TextsAreUtf8, CompactIsUtf8, IndentedIsUtf8}
use Rattle.tinyjson_laws.proofs.ReadingLaws.{tree_within, rewritten}
use Rattle.tinyjson_grammar.proofs.Callers.{compact_text, one_compact, text_sound}
use Rattle.tinyjson.proofs.Callers as trees
use Rattle.tinyjson.proofs.Callers.{encoded_utf8}
use Rattle.tinyjson.proofs.Callers.Laws.{scalars_append}
use Rattle.tinyjson_laws.proofs.TextScalars.{white_scalars, text_of_scalars}

pub compact_reads_back : CompactReadsBack
compact_reads_back t h = compact_text t h

pub indented_reads_back : IndentedReadsBack
indented_reads_back t indent i h = written_text power_width None (Some indent) 0 t i h tt

pub same_compact : SameCompact
same_compact t u h j = (one_compact t u h j, λ e. ap written.compact e)

pub same_normal : SameNormal
same_normal limit other xs ys t u h j = same_compact t u (text_sound limit xs t h) (text_sound other ys u j)

pub same_indented : SameIndented
same_indented t u indent i h j = (
  from_text t u _ _ (indented_reads_back t indent i h) (indented_reads_back u indent i j),
  λ e. ap (λ v. written.indented v indent 0) e,
)

pub limit_kept : LimitKept
limit_kept limit xs t indent i h = (rewritten power_width limit xs t None tt h, rewritten power_width limit xs t (Some indent) i h)

pub written_once : WrittenOnce
written_once limit xs t h =
    let c = rewritten power_width limit xs t None tt h in
    (c, λ u j. ap written.compact (only_tree limit (written.compact t) u t j c))

pub compact_within : CompactWithin
compact_within t n h = (tree_within power_width (Some n) (written.compact t) t, written_text power_width (Some n) None 0 t tt h)

pub indented_within : IndentedWithin
indented_within t indent n i h = (
  tree_within power_width (Some n) (written.indented t indent 0) t,
  written_text power_width (Some n) (Some indent) 0 t i h,
)

pub texts_are_utf8 : TextsAreUtf8
texts_are_utf8 limit xs t h =
    let l = h.loose in
    let s : IsTrue _ = rw l.whole (scalars_append l.before _ (white_scalars l.before l.white_before)
    (scalars_append (text l.value) l.after (text_of_scalars l.value l.spelled) (white_scalars l.after l.white_after))) in
    (s, (xs, (s, refl)))

pub compact_is_utf8 : CompactIsUtf8
compact_is_utf8 t h = encoded_utf8 (written.compact t) (trees.text_of_scalars None tt 0 t h)

pub indented_is_utf8 : IndentedIsUtf8
indented_is_utf8 t indent i h = encoded_utf8 (written.indented t indent 0) (trees.text_of_scalars (Some indent) i 0 t h)

use Rattle.std.proofs.Common.{string_bytes, codes, sym}
use Rattle.jsonnorm.proofs.Asking.{asks_indent, asks_limit, asks_indent_limit, asks_limit_indent, one, two, three}
use Rattle.jsonnorm.proofs.options.Goals as goal

pub returns-in-len1-clause-asked : goal.returns-in-len1-clause-asked
returns-in-len1-clause-asked c =
    asks_indent _ (one string_bytes c.args.words.now c.i-item.result (codes "-i") c.in-len1.len_at_least c.in-len1.len_below c.i-item.is
    c.if-is_word.ensures)

pub returns-in_ok-depth-in-len2-clause-asked : goal.returns-in_ok-depth-in-len2-clause-asked
returns-in_ok-depth-in-len2-clause-asked c =
    asks_limit _ c.as_str.result.now c.in_ok-depth-in-len2.field-0
    (two string_bytes c.args.words.now c.d-item.result c.n-item.result (codes "-d") c.as_str.result.now c.in-len2.len_at_least
    c.in-len2.len_below
    c.d-item.is c.n-item.is c.if-is_word-2.ensures (sym c.as_str.ensures.value))
    c.in_ok-depth-in-len2.ensures

pub returns-in_ok-depth-in-len3-clause-asked : goal.returns-in_ok-depth-in-len3-clause-asked
returns-in_ok-depth-in-len3-clause-asked c =
    asks_indent_limit _ c.as_str-in-len3.result.now c.in_ok-depth-in-len3.field-0
    (three string_bytes c.args.words.now c.i-item-then-words-lt4.result c.d-item-then-words-lt4.result c.n-item-then-words-lt4.result
    (codes "-i") (codes "-d") c.as_str-in-len3.result.now
    c.in-len3.len_at_least c.in-len3.len_below c.i-item-then-words-lt4.is c.d-item-then-words-lt4.is c.n-item-then-words-lt4.is
    c.if-is_word-3.ensures c.if-is_word-4.ensures (sym c.as_str-in-len3.ensures.value))
    c.in_ok-depth-in-len3.ensures

pub returns-in_ok-depth-in-len3-2-clause-asked : goal.returns-in_ok-depth-in-len3-2-clause-asked
returns-in_ok-depth-in-len3-2-clause-asked c =
    asks_limit_indent _ c.as_str-in-len3-2.result.now c.in_ok-depth-in-len3-2.field-0
    (three string_bytes c.args.words.now c.d-item-then-words-lt4-2.result c.n-item-then-words-lt4-2.result c.i-item-then-words-lt4-2.result
    (codes "-d") c.as_str-in-len3-2.result.now (codes "-i")
    c.in-len3.len_at_least c.in-len3.len_below c.d-item-then-words-lt4-2.is c.n-item-then-words-lt4-2.is c.i-item-then-words-lt4-2.is
    c.if-is_word-5.ensures (sym c.as_str-in-len3-2.ensures.value) c.if-is_word-6.ensures)
    c.in_ok-depth-in-len3-2.ensures

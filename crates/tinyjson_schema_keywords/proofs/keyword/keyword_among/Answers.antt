use Rattle.std.proofs.Common.{◌≡◌, ℕ, ◌<◌, ◌≤◌, false, rules, arith, get_or, length, bytes_eq, ⊎_elim}
use Rattle.std.proofs.lemmas.Bool.{cases_order}
use Rattle.std.proofs.lemmas.Fn.{always_returns_same}
use Rattle.std.proofs.lemmas.List.Sorted.{searchable_from_sorted}
use Rattle.std.specs.Cmp.Lexicographic.{nat_list_cmp_total}
use Rattle.std.specs.declared.cmp.Ordering.TheVariants.{Less, Equal, Greater}
use Rattle.tinyjson_schema_keywords.specs.Names.{name}
use Rattle.tinyjson_schema_keywords.specs.declared.keyword.Keyword.{Keyword}
use Rattle.tinyjson_schema_keywords.specs.declared.keyword.Keyword.TheVariants as kw
use Rattle.tinyjson_schema_keywords.proofs.Search.{compared, equal, rising_sorted, found, not_found}
use Rattle.tinyjson_schema_keywords.proofs.keyword.keyword_among.Goals as goal

pub returns-in-Ok : goal.returns-in-Ok
returns-in-Ok c =
    let ks = c.args.keywords.now in
    let key = c.args.key.now in
    let at = c.in-Ok.ensures.position (compared key) (always_returns_same _ _ _ (λ a r f called. search rules)) in
    found ks key c.in-Ok.index kw.Schema c.requires.apart c.in-Ok.ensures.bound
    (equal key (get_or ks c.in-Ok.index kw.Schema) Equal (at kw.Schema))

pub returns-in-Err : goal.returns-in-Err
returns-in-Err c =
    let ks = c.args.keywords.now in
    let key = c.args.key.now in
    let i = c.in-Err.field-0 in
    let parted = c.in-Err.ensures.position (compared key) (always_returns_same _ _ _ (λ a r f called. search rules))
    (searchable_from_sorted nat_list_cmp_total name ks key (rising_sorted ks c.requires.rising)) in
    let less : (j : ℕ) (d : Keyword) → j < i → bytes_eq (name (get_or ks j d)) key ≡ false
    = λ j d h. equal key (get_or ks j d) Less (parted.0 j d (omega arith) h) in
    let more : (j : ℕ) (d : Keyword) → i ≤ j → j < length ks → bytes_eq (name (get_or ks j d)) key ≡ false
    = λ j d h l. equal key (get_or ks j d) Greater (parted.1 j d h l) in
    not_found ks key (λ j d l. ⊎_elim (λ e. more j d (omega (arith, e)) l)
    (λ o. ⊎_elim (λ h. less j d h) (λ h. more j d (omega (arith, h)) l) o) (cases_order j i))

-- A list without an error so far is viable in the loose grammar.
use Rattle.std.proofs.Common.{ℕ, ◌+◌, List, [], ◌++◌, Option, refl, sym, subst, append_assoc, append-nil, arith, ⊎_elim}
use Rattle.tinyjson_grammar.specs.Syntax.{string, IsWithin}
use Rattle.tinyjson_grammar.specs.Grammar.{IsLoose}
use Rattle.tinyjson_grammar.specs.Prefix.{IsErrorFree, IsCutOffText, CutOff, bad_key, in_key, in_member, in_item, cut_off_text, IsCutOff}
use Rattle.tinyjson_grammar.specs.Prefix.{cut_off_depth, IsLooselyViable}
use Rattle.tinyjson_grammar.proofs.Callers.Laws.{Path, outside, item_in, key_in, value_in, path_text, level, IsPath, within_le, closes}
use Rattle.tinyjson_grammar.proofs.Callers.Laws.{closing, loosely_from, viable_before}

cut_off_loosely : (limit : Option ℕ) (b : CutOff) (p : Path) → IsPath limit p → IsCutOff b → IsWithin limit (level p + cut_off_depth b)
    → IsLooselyViable limit (path_text p ++ cut_off_text b)
cut_off_loosely limit (bad_key ps w s) p hp h hd = loosely_from limit _ (closing (key_in p ps w)) (simp append_assoc)
    (closes limit (key_in p ps w) (hp, h.0, h.1, within_le limit _ _ hd (omega arith)) s h.2.spelled (within_le limit _ _ hd (omega arith))
    [] tt)
cut_off_loosely limit (in_key ps w b) p hp h hd = subst (IsLooselyViable limit) (simp append_assoc)
    (cut_off_loosely limit b (key_in p ps w) (hp, h.0, h.1, within_le limit _ _ hd (omega arith)) h.2
    (within_le limit _ _ hd (omega arith)))
cut_off_loosely limit (in_member ps a k v u b) p hp h hd = subst (IsLooselyViable limit) (simp append_assoc)
    (cut_off_loosely limit b (value_in p ps a (string k) v u)
    (hp, h.0, h.1, record { spelled = h.2; strict = h.3 }, refl, h.4, h.5, within_le limit _ _ hd (omega arith)) h.6
    (within_le limit _ _ hd (omega arith)))
cut_off_loosely limit (in_item es w b) p hp h hd = subst (IsLooselyViable limit) (simp append_assoc)
    (cut_off_loosely limit b (item_in p es w) (hp, h.0, h.1, within_le limit _ _ hd (omega arith)) h.2
    (within_le limit _ _ hd (omega arith)))

pub cut_off_viable : (limit : Option ℕ) (xs : List ℕ) → IsCutOffText limit xs → IsLooselyViable limit xs
cut_off_viable limit xs h = rw h.whole (cut_off_loosely limit h.cut_off (outside h.before) h.white_before h.is_cut_off
    (within_le limit _ _ h.shallow (omega arith)))

pub error_free_loosely : (limit : Option ℕ) (xs : List ℕ) → IsErrorFree limit xs → IsLooselyViable limit xs
error_free_loosely limit xs h = viable_before (λ us. IsLoose limit us) xs h.0
    (⊎_elim (λ a. ([], subst (IsLoose limit) (sym (append-nil (xs ++ h.0))) a.1.loose)) (λ b. cut_off_viable limit (xs ++ h.0) b) h.1)

use Rattle.std.proofs.Common.{◌≡◌, map, take}
use Rattle.std.specs.Str.{chars}
use Rattle.text_iregexp.specs.PatternTexts.{case_text}
use Rattle.text_iregexp.proofs.CaseTexts.{NoneMatch}
use Rattle.text_regexp.specs.declared.work.Work.TheVariants.{Unlimited}
use Rattle.text_iregexp.proofs.search.any_found.Given as goal

abbrev pub invariant-loop-case : goal.invariant-loop-case
invariant-loop-case l = record {
  same : map case_text l.cases ≡ map case_text l.fn.cases;
  texts : NoneMatch (take l.case-index (map case_text l.fn.cases)) (chars l.fn.text);
  work : l.fn.work ≡ Unlimited → l.work ≡ Unlimited;
}

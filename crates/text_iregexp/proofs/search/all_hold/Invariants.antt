use Rattle.std.proofs.Common.{◌≡◌, map, take}
use Rattle.std.specs.Str.{chars}
use Rattle.text_iregexp.specs.PatternTexts.{look_text, AllMatch}
use Rattle.text_regexp.specs.declared.work.Work.TheVariants.{Unlimited}
use Rattle.text_iregexp.proofs.search.all_hold.Given as goal

abbrev pub invariant-loop-look : goal.invariant-loop-look
invariant-loop-look l = record {
  same : map look_text l.looks ≡ map look_text l.fn.looks;
  texts : AllMatch (take l.look-index (map look_text l.fn.looks)) (chars l.fn.text);
  work : l.fn.work ≡ Unlimited → l.work ≡ Unlimited;
}

use Rattle.std.proofs.Common.{sym, ap, ◌∙◌}
use Rattle.text_iregexp.specs.Patterns.{is_among}
use Rattle.text_iregexp.specs.PatternFronts.{names_of}
use Rattle.text_iregexp.proofs.PatternNames.{unnamed, repeated, taken}
use Rattle.text_iregexp.proofs.names.next_named.Goals as goal

pub returns-in_default : goal.returns-in_default
returns-in_default c =
    unnamed c.args.text.now (names_of c.args.names.now.items) c.next_mark.result c.in_default.ensures c.next_mark.ensures

pub returns-then-is_among : goal.returns-then-is_among
returns-then-is_among c =
    repeated c.args.text.now (names_of c.args.names.now.items) c.in-Some.found.now c.in-Some.after.now c.in-Some.ensures
    (sym (ap (λ us. is_among (names_of us) c.in-Some.found.now) c.as_slice.ensures.value) ∙ (sym c.is_among.ensures ∙ c.if-is_among.true))

pub returns : goal.returns
returns c =
    taken c.args.text.now c.args.names.now.items c.push.new.self.items c.in_ok-kept.kept c.in-Some.found.now c.in-Some.after.now
    c.in-Some.ensures
    (sym (ap (λ us. is_among (names_of us) c.in-Some.found.now) c.as_slice.ensures.value) ∙ (sym c.is_among.ensures ∙ c.if-is_among.false))
    c.in_ok-push.ensures.items c.in_ok-kept.ensures

use Rattle.std.proofs.Common.{◌∙◌, ◌++◌, sym, ap, append-nil, append_assoc, subst, IsUtf8, chars}
use Rattle.std.proofs.lemmas.Str.{IsUtf8-past_char, chars_past_char}
use Rattle.std.proofs.StrCases.{chars_of_empty}
use Rattle.std.specs.Str.Iter.{chars_rest}
use Rattle.tinyjson.specs.View.{text}
use Rattle.tinyjson_path.specs.Paths.{escape, escape_char}
use Rattle.tinyjson_path.proofs.path.push_escaped.Goals as goal

pub loop-c-init : goal.loop-c-init
loop-c-init c =
    let rest = ap chars_rest c.into_iter-c-iterator.ensures.into_iter_gives ∙ c.chars-c-items.ensures.rest in
    (subst IsUtf8 (sym rest) c.utf8.name, ap (λ bs. text c.args.path.now ++ escape (chars bs)) rest)

pub loop-c-preserved : goal.loop-c-preserved
loop-c-preserved c =
    let held = c.loop-c.invariant in
    let parts = c.in-Some.ensures.steps.0 in
    let x = c.in-Some.c in
    let more = escape (chars (chars_rest c.next.new.self)) in (
      IsUtf8-past_char _ _ x held.0 parts,
      ap (λ cs. cs ++ more) c.in_ok-push_escaped_char.ensures
          ∙ (append_assoc (text c.loop-c.path) (escape_char x) more
          ∙ (ap (λ cs. text c.loop-c.path ++ escape cs) (sym (chars_past_char _ _ x held.0 parts)) ∙ held.1)),
    )

pub returns : goal.returns
returns c =
    let held = c.loop-c.invariant in
    sym (append-nil (text c.loop-c.path))
    ∙ (ap (λ cs. text c.loop-c.path ++ escape cs) (sym (chars_of_empty (chars_rest c.loop-c.c-iterator) c.in-None.ensures.steps.0.0))
    ∙ held.1)

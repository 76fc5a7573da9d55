use Rattle.std.proofs.Common.{◌∷◌, [], ◌++◌, Err, true, false, map, sym, ap, ◌∙◌, refl, subst}
use Rattle.std.proofs.lemmas.Str.{chars_past_char, IsUtf8-past_char, chars-nil}
use Rattle.std.proofs.StrCases.{chars_of_empty}
use Rattle.std.specs.Str.{chars, IsUtf8}
use Rattle.std.specs.Str.Iter.{chars_rest}
use Rattle.tinyjson.specs.View.{text}
use Rattle.tinyjson_pointer.proofs.Tokens.{Stands, Stands_at, Stands_as, texts_push, no_tokens_stand, slash_stands, other_stands}
use Rattle.tinyjson_pointer.proofs.Tokens.{escaped_stands, stands_bad, stands_whole, error_back, bad_escape}
use Rattle.tinyjson_pointer.specs.Reading.{ReadsTokens}
use Rattle.tinyjson_pointer.specs.Text.{pointer_text}
use Rattle.tinyjson_pointer.proofs.parse.read_tokens.Goals as goal

pub loop-c-init : goal.loop-c-init
loop-c-init c =
    let rest = ap chars_rest c.into_iter-c-iterator.ensures.into_iter_gives ∙ c.chars-c-items.ensures.rest in (
      subst IsUtf8 (sym rest) c.utf8.text,
      no_tokens_stand (chars c.args.text.now) _ _ _ (ap (map text) c.new-tokens.ensures.items) (ap chars c.new-token.ensures.bytes
          ∙ chars-nil) (ap chars rest),
    )

pub returns-in_err-unescaped : goal.returns-in_err-unescaped
returns-in_err-unescaped c =
    let held = c.loop-c.invariant in
    let cs = chars c.args.text.now in
    let ts = map text c.loop-c.tokens.items in
    let t = text c.loop-c.token in
    let xs = chars (chars_rest c.next.new.self) in
    let here = Stands_at cs ts t _ (c.in-Some.c ∷ xs) c.loop-c.after_tilde true held.1 c.if-after_tilde.true
    (chars_past_char _ _ c.in-Some.c held.0 c.in-Some.ensures.steps.0) in
    let says = c.in_err-unescaped.ensures in
    error_back (ReadsTokens cs) c.from_residual.result c.in_err-unescaped.field-0.0 c.from_residual.ensures.1
    (subst (λ d. ReadsTokens cs (Err d)) (sym says.0) (bad_escape cs ts t xs c.in-Some.c here says.1))

pub loop-c-preserved-then-after_tilde : goal.loop-c-preserved-then-after_tilde
loop-c-preserved-then-after_tilde c =
    let held = c.loop-c.invariant in
    let parts = c.in-Some.ensures.steps.0 in
    let step = chars_past_char _ _ c.in-Some.c held.0 parts in
    let cs = chars c.args.text.now in
    let ts = map text c.loop-c.tokens.items in
    let here = Stands_at cs ts (text c.loop-c.token) _ _ c.loop-c.after_tilde true held.1 c.if-after_tilde.true step in (
      IsUtf8-past_char _ _ c.in-Some.c held.0 parts,
      subst (λ t. Stands cs ts t false (chars (chars_rest c.next.new.self))) (sym c.in_ok-push.ensures)
          (escaped_stands cs ts (text c.loop-c.token) _ _ c.in_ok-unescaped.field-0 here c.in_ok-unescaped.ensures),
    )

pub loop-c-preserved-then-c-eq126 : goal.loop-c-preserved-then-c-eq126
loop-c-preserved-then-c-eq126 c =
    let held = c.loop-c.invariant in
    let parts = c.in-Some.ensures.steps.0 in
    let step = chars_past_char _ _ c.in-Some.c held.0 parts ∙ ap (λ x. x ∷ chars (chars_rest c.next.new.self)) c.if-c-eq126.true in (
      IsUtf8-past_char _ _ c.in-Some.c held.0 parts,
      Stands_at (chars c.args.text.now) (map text c.loop-c.tokens.items)
          (text c.loop-c.token) _ _ c.loop-c.after_tilde false held.1 c.if-after_tilde.false step,
    )

pub loop-c-preserved-in_ok-push-2 : goal.loop-c-preserved-in_ok-push-2
loop-c-preserved-in_ok-push-2 c =
    let held = c.loop-c.invariant in
    let parts = c.in-Some.ensures.steps.0 in
    let step = chars_past_char _ _ c.in-Some.c held.0 parts ∙ ap (λ x. x ∷ chars (chars_rest c.next.new.self)) c.if-c-eq47.true in
    let cs = chars c.args.text.now in
    let ts = map text c.loop-c.tokens.items in
    let here = Stands_at cs ts (text c.loop-c.token) _ _ c.loop-c.after_tilde false held.1 c.if-after_tilde.false step in
    let t = text c.loop-c.token in
    let xs = chars (chars_rest c.next.new.self) in
    let there = slash_stands cs ts t xs here in
    let pushed = texts_push c.loop-c.tokens.items c.push-then-c-eq47.new.self.items c.replace.result c.in_ok-push-2.ensures.items
    ∙ ap (λ s. ts ++ text s ∷ []) c.replace.ensures.value in
    let fresh = ap text c.replace.ensures.after ∙ (ap chars c.new.ensures.bytes ∙ chars-nil) in (
      IsUtf8-past_char _ _ c.in-Some.c held.0 parts,
      Stands_as cs (ts ++ t ∷ []) (map text c.push-then-c-eq47.new.self.items) []
          (text c.replace.new.dest) xs false c.loop-c.after_tilde there pushed fresh c.if-after_tilde.false,
    )

pub loop-c-preserved : goal.loop-c-preserved
loop-c-preserved c =
    let held = c.loop-c.invariant in
    let parts = c.in-Some.ensures.steps.0 in
    let step = chars_past_char _ _ c.in-Some.c held.0 parts in
    let cs = chars c.args.text.now in
    let ts = map text c.loop-c.tokens.items in
    let here = Stands_at cs ts (text c.loop-c.token) _ _ c.loop-c.after_tilde false held.1 c.if-after_tilde.false step in
    let t = text c.loop-c.token in
    let xs = chars (chars_rest c.next.new.self) in
    let there = other_stands cs ts t xs c.in-Some.c c.if-c-eq126.false c.if-c-eq47.false here in (
      IsUtf8-past_char _ _ c.in-Some.c held.0 parts,
      Stands_as cs ts ts (t ++ c.in-Some.c ∷ []) (text c.push-else-c-eq47.new.token) xs false c.loop-c.after_tilde there refl
          c.in_ok-push-3.ensures c.if-after_tilde.false,
    )

pub returns-then-after_tilde-2 : goal.returns-then-after_tilde-2
returns-then-after_tilde-2 c =
    let cs = chars c.args.text.now in
    let ts = map text c.loop-c.tokens.items in
    let t = text c.loop-c.token in
    stands_bad cs ts t [] (Stands_at cs ts t _ [] c.loop-c.after_tilde true c.loop-c.invariant.1 c.if-after_tilde-2.true
    (chars_of_empty (chars_rest c.loop-c.c-iterator) c.in-None.ensures.steps.0.0)) (λ h. h)

pub returns : goal.returns
returns c =
    let cs = chars c.args.text.now in
    let ts = map text c.loop-c.tokens.items in
    let t = text c.loop-c.token in
    let here = Stands_at cs ts t _ [] c.loop-c.after_tilde false c.loop-c.invariant.1 c.if-after_tilde-2.false
    (chars_of_empty (chars_rest c.loop-c.c-iterator) c.in-None.ensures.steps.0.0) in
    stands_whole cs ts t here ∙ ap pointer_text (sym
    (texts_push c.loop-c.tokens.items c.push-2.new.self.items c.loop-c.token c.in_ok-push-4.ensures.items))

use Rattle.std.proofs.Common.{◌∷◌, Some, cond, option_map, sym, subst, ◌∙◌}
use Rattle.std.specs.Str.{chars}
use Rattle.tinyjson_pointer.specs.private.Keys.{last_with, member_chars, without_whites}
use Rattle.tinyjson_pointer.proofs.Locating.Members.{Left, Goes, left_colon, name_text, member_step, step_shorter}
use Rattle.tinyjson_pointer.proofs.Locating.Keyed.{exhausted_member}
use Rattle.tinyjson_pointer.proofs.place.member.last_member.Goals as goal

pub returns-in_err-is_key : goal.returns-in_err-is_key
returns-in_err-is_key c = λ ps r h z e.
    let key = chars c.args.key.now in
    let found = option_map member_chars c.loop-name.found in
    let left = c.loop-name.invariant.1 ps r h z e in
    exhausted_member (125 ∷ r) (last_with key ps) c.from_residual.result c.in_err-is_key.field-0.0 c.from_residual.ensures.1
    (c.in_err-is_key.ensures _ (name_text key r (chars c.loop-name.members.now) (chars c.in-Some.name.now)
    (chars c.in-Some.value.now) ps found left c.in-Some.ensures.0 c.in-Some.ensures.1))

pub returns-in_default-after : goal.returns-in_default-after
returns-in_default-after c = λ ps r h z e.
    let key = chars c.args.key.now in
    let xs = chars c.loop-name.members.now in
    let name = chars c.in-Some.name.now in
    let value = chars c.in-Some.value.now in
    let found = option_map member_chars c.loop-name.found in
    let left = c.loop-name.invariant.1 ps r h z e in
    let is = c.in_ok-is_key.ensures _ (name_text key r xs name value ps found left c.in-Some.ensures.0 c.in-Some.ensures.1) in
    let step = member_step key r xs name value ps found left c.in_ok-is_key.field-0 c.in-Some.ensures.0 is in
    let newest = cond c.in_ok-is_key.field-0 (Some (without_whites xs value)) found in
    c.newest-found.ensures ∙ sym (subst (Goes key r ps newest) (sym c.in_default-after.ensures.finds) step)

pub loop-name-smaller : goal.loop-name-smaller
loop-name-smaller c =
    step_shorter (chars c.loop-name.members.now) (chars c.in-Some.value.now) (chars c.in-Some-after.next.now) (chars c.in-Some.name.now)
    c.in-Some.ensures.1 (sym c.in-Some-after.ensures.finds)

pub loop-name-preserved : goal.loop-name-preserved
loop-name-preserved c = (
  c.in-Some-after.ensures.utf8,
  λ ps r h z e.
      let key = chars c.args.key.now in
      let xs = chars c.loop-name.members.now in
      let name = chars c.in-Some.name.now in
      let value = chars c.in-Some.value.now in
      let next = chars c.in-Some-after.next.now in
      let found = option_map member_chars c.loop-name.found in
      let left = c.loop-name.invariant.1 ps r h z e in
      let is = c.in_ok-is_key.ensures _ (name_text key r xs name value ps found left c.in-Some.ensures.0 c.in-Some.ensures.1) in
      let step = member_step key r xs name value ps found left c.in_ok-is_key.field-0 c.in-Some.ensures.0 is in
      let newest = cond c.in_ok-is_key.field-0 (Some (without_whites xs value)) found in
      subst (λ o. Left key r ps o next) (sym c.newest-found.ensures)
      (subst (Goes key r ps newest) (sym c.in-Some-after.ensures.finds) step),
)

pub returns : goal.returns
returns c = λ ps r h z e.
    let found = option_map member_chars c.loop-name.found in
    absurd (left_colon (chars c.args.key.now) r (chars c.loop-name.members.now) ps found (c.loop-name.invariant.1 ps r h z e)
    c.in_default.ensures)

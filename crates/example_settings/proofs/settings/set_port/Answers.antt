use Rattle.std.proofs.Common.{◌≡◌, pos, refl, sym, ap, ◌∙◌, subst}
use Rattle.tinyjson.specs.Number.{integer_decimal}
use Rattle.tinyjson.specs.View.{view}
use Rattle.example_settings.proofs.Changing.{no_port_there, no_settings, was_there, port_is_put, keeps}
use Rattle.example_settings.specs.Settings.{KeepsSettings, with_port}
use Rattle.example_settings.proofs.settings.set_port.Goals as goal

pub returns-then-not-contains_key-clause-change : goal.returns-then-not-contains_key-clause-change
returns-then-not-contains_key-clause-change c = (no_port_there c.args.value.now c.in-Some.members.now (sym c.in-Some.ensures) cc, refl)

pub returns-then-not-contains_key-clause-settings : goal.returns-then-not-contains_key-clause-settings
returns-then-not-contains_key-clause-settings c = no_settings (view c.args.value.now) _ c.args.port
    (no_port_there c.args.value.now c.in-Some.members.now (sym c.in-Some.ensures) cc)

module _ (c : goal.After-replace_member) where
  put_in_place : view c.replace_member.new.self ≡ with_port (view c.args.value.now) c.args.port
  put_in_place = port_is_put c.args.value.now c.from-2.result c.replace_member.new.self c.in_ok-number.number c.args.port
      c.replace_member.ensures.tree c.from-2.ensures (c.in_ok-number.ensures.decimal ∙ ap (λ n. integer_decimal (pos n)) c.from.ensures)

pub returns-clause-change : goal.returns-clause-change
returns-clause-change c = (was_there c.args.value.now c.replace_member.result c.replace_member.ensures.old.1, put_in_place c)

pub returns-clause-settings : goal.returns-clause-settings
returns-clause-settings c = subst (KeepsSettings (view c.args.value.now) c.args.port) (sym (put_in_place c))
    (keeps (view c.args.value.now) c.args.port c.ranges.port.fits)

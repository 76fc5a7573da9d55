use Rattle.std.proofs.Common.{◌≡◌, ℕ, Bool, List, codes, refl, subst}
use Rattle.tinyjson.specs.View.{view, text}
use Rattle.example_settings.proofs.Reading.{is_object, member_is, lent_is}
use Rattle.example_settings.specs.Settings.{IsObject, IsPort, IsHost, IsTls}
use Rattle.example_settings.proofs.settings.from_value.Goals as goal

pub returns-in_default : goal.returns-in_default
returns-in_default c =
    let v = c.args.value in
    let m = c.in-Ok.members in
    let held = c.in-Ok.ensures in (
      is_object v m held,
      tt,
      subst (λ o. (n : ℕ) → ¬ IsPort o n) (lent_is v m (codes "port") held refl c.get.result c.get.ensures.value)
          c.in_default.ensures,
    )

pub returns-in_default-tls : goal.returns-in_default-tls
returns-in_default-tls c =
    let v = c.args.value in
    let m = c.in-Ok.members in
    let held = c.in-Ok.ensures in (
      is_object v m held,
      (_, subst (λ o. IsPort o c.in-Some.port) (lent_is v m (codes "port") held refl c.get.result c.get.ensures.value) c.in-Some.ensures),
      subst (λ o. (b : Bool) → ¬ IsTls o b) (lent_is v m (codes "tls") held refl c.get-2.result c.get-2.ensures.value)
          c.in_default-tls.ensures,
    )

pub returns-in_default-host : goal.returns-in_default-host
returns-in_default-host c =
    let v = c.args.value in
    let m = c.in-Ok.members in
    let held = c.in-Ok.ensures in (
      is_object v m held,
      (
        (_, subst (λ o. IsPort o c.in-Some.port) (lent_is v m (codes "port") held refl c.get.result c.get.ensures.value) c.in-Some.ensures),
        (
          _,
          subst (λ o. IsTls o c.in-Some-tls.tls) (lent_is v m (codes "tls") held refl c.get-2.result c.get-2.ensures.value)
              c.in-Some-tls.ensures,
        ),
      ),
      subst (λ o. (cs : List ℕ) → ¬ IsHost o cs) (member_is v m (codes "host") held refl c.remove.result c.remove.ensures.value)
          c.in_default-host.ensures,
    )

pub returns : goal.returns
returns c =
    let v = c.args.value in
    let m = c.in-Ok.members in
    let held = c.in-Ok.ensures in (
      is_object v m held,
      subst (λ o. IsPort o c.in-Some.port) (lent_is v m (codes "port") held refl c.get.result c.get.ensures.value) c.in-Some.ensures,
      subst (λ o. IsHost o (text c.in-Some-host.host)) (member_is v m (codes "host") held refl c.remove.result c.remove.ensures.value)
          c.in-Some-host.ensures,
      subst (λ o. IsTls o c.in-Some-tls.tls) (lent_is v m (codes "tls") held refl c.get-2.result c.get-2.ensures.value)
          c.in-Some-tls.ensures,
    )

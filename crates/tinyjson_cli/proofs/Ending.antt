-- The greater of two statuses, of which one is `Failed`.
use Rattle.std.proofs.Common.{◌≡◌, ◌∙◌, max, refl, subst, true}
use Rattle.tinyjson_cli.specs.Failures.{failure_status, status_code}
use Rattle.tinyjson_cli.specs.declared.failure.Failure.{Failure}
use Rattle.tinyjson_cli.specs.declared.failure.Failure.TheVariants as failure
use Rattle.tinyjson_cli.specs.declared.status.Status.{Status}
use Rattle.tinyjson_cli.specs.declared.status.Status.TheVariants.{Done, No, Misused, Refused, Failed}
use Rattle.tinyjson_cli.specs.Changing.{is_last}

greatest_failed : (a c : Status) → status_code c ≡ max (status_code a) 4 → c ≡ Failed
greatest_failed a Failed e = refl
greatest_failed Done Done e = cc
greatest_failed Done No e = cc
greatest_failed Done Misused e = cc
greatest_failed Done Refused e = cc
greatest_failed No Done e = cc
greatest_failed No No e = cc
greatest_failed No Misused e = cc
greatest_failed No Refused e = cc
greatest_failed Misused Done e = cc
greatest_failed Misused No e = cc
greatest_failed Misused Misused e = cc
greatest_failed Misused Refused e = cc
greatest_failed Refused Done e = cc
greatest_failed Refused No e = cc
greatest_failed Refused Misused e = cc
greatest_failed Refused Refused e = cc
greatest_failed Failed Done e = cc
greatest_failed Failed No e = cc
greatest_failed Failed Misused e = cc
greatest_failed Failed Refused e = cc

last_fails : (f : Failure) → is_last f ≡ true → failure_status f ≡ Failed
last_fails failure.OutOfMemory e = refl
last_fails failure.Closed e = refl
last_fails (failure.Writing x) e = refl
last_fails (failure.No w) e = cc
last_fails (failure.Misused w) e = cc
last_fails (failure.NotJson x) e = cc
last_fails (failure.NotUtf8 p) e = cc
last_fails (failure.Refused w) e = cc
last_fails (failure.Failed w) e = refl
last_fails (failure.Reading x) e = refl

-- the status after a failure that ends the run
pub failed : (a b c : Status) (f : Failure) → is_last f ≡ true → b ≡ failure_status f
    → status_code c ≡ max (status_code a) (status_code b) → c ≡ Failed
failed a b c f h is e =
    greatest_failed a c (subst (λ s. status_code c ≡ max (status_code a) (status_code s)) (is ∙ last_fails f h) e)

use Rattle.std.proofs.Common.{◌≡◌, ◌||◌, true, false, bytes_eq, codes, refl, sym, ap, ◌∙◌}
use Rattle.std.specs.Str.{chars}
use Rattle.tinyjson.proofs.Callers.{is_key}
use Rattle.example_pick.proofs.tests.NameAndVersionWanted.wants.Goals as goal

pub returns-then-eq : goal.returns-then-eq
returns-then-eq c =
    let key = c.args.key.now in
    let is : bytes_eq (chars key) (codes "name") ≡ true
    = sym (is_key key (codes "name") c.utf8.key refl) ∙ sym c.eq.ensures ∙ c.if-eq.true in
    c.if-eq.true ∙ sym (ap (λ b. b || bytes_eq (chars key) (codes "version")) is)

pub returns-else-eq : goal.returns-else-eq
returns-else-eq c =
    let key = c.args.key.now in
    let is : bytes_eq (chars key) (codes "name") ≡ false
    = sym (is_key key (codes "name") c.utf8.key refl) ∙ sym c.eq.ensures ∙ c.if-eq.false in
    c.eq-else-eq.ensures ∙ is_key key (codes "version") c.utf8.key refl ∙ sym (ap (λ b. b || bytes_eq (chars key) (codes "version")) is)

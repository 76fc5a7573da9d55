use Rattle.std.proofs.Common.{codes, refl, sym, ◌∙◌}
use Rattle.tinyjson_patch.proofs.Documents.{is_named, no_name}
use Rattle.tinyjson_patch.proofs.document.Name.from_text.Goals as goal

pub returns-then-eq : goal.returns-then-eq
returns-then-eq c = is_named c.args.text.now (codes "add") refl (sym c.if-eq.true ∙ c.eq.ensures)

pub returns-then-eq-2 : goal.returns-then-eq-2
returns-then-eq-2 c = is_named c.args.text.now (codes "remove") refl (sym c.if-eq-2.true ∙ c.eq-else-eq.ensures)

pub returns-then-eq-3 : goal.returns-then-eq-3
returns-then-eq-3 c = is_named c.args.text.now (codes "replace") refl (sym c.if-eq-3.true ∙ c.eq-else-eq-2.ensures)

pub returns-then-eq-4 : goal.returns-then-eq-4
returns-then-eq-4 c = is_named c.args.text.now (codes "move") refl (sym c.if-eq-4.true ∙ c.eq-else-eq-3.ensures)

pub returns-then-eq-5 : goal.returns-then-eq-5
returns-then-eq-5 c = is_named c.args.text.now (codes "copy") refl (sym c.if-eq-5.true ∙ c.eq-else-eq-4.ensures)

pub returns-then-eq-6 : goal.returns-then-eq-6
returns-then-eq-6 c = is_named c.args.text.now (codes "test") refl (sym c.if-eq-6.true ∙ c.eq-else-eq-5.ensures)

pub returns-else-eq-6 : goal.returns-else-eq-6
returns-else-eq-6 c =
    no_name c.args.text.now c.utf8.text
    (sym c.if-eq.false ∙ c.eq.ensures)
    (sym c.if-eq-2.false ∙ c.eq-else-eq.ensures)
    (sym c.if-eq-3.false ∙ c.eq-else-eq-2.ensures)
    (sym c.if-eq-4.false ∙ c.eq-else-eq-3.ensures)
    (sym c.if-eq-5.false ∙ c.eq-else-eq-4.ensures)
    (sym c.if-eq-6.false ∙ c.eq-else-eq-5.ensures)

use Rattle.std.proofs.Common.{◌≡◌, ◌∙◌, slice_index_or, refl, sym, ap, subst}
use Rattle.tinyjson_cells.specs.Cell.{Is}
use Rattle.tinyjson_document.proofs.arena.Arena.built.Goals as goal

pub returns : goal.returns
returns c = λ t h.
    let a = c.args.self in
    let root : h.0 ≡ c.index.result.now = sym (c.index.ensures ∙ ap (λ z. slice_index_or z 0 c.index.result.now) h.1) in
    record {
      store = a.store;
      text = refl;
      added = sym c.with_source.ensures.added;
      kept = sym c.with_source.ensures.kept;
      items = sym c.with_source.ensures.items;
      members = sym c.with_source.ensures.members;
      is = subst (Is a.store t) root h.2;
    }

use Rattle.std.proofs.Common.{◌≡◌, option_map, slice_get, arith}
use Rattle.std.proofs.lemmas.Grind.{common_steps}
use Rattle.std.proofs.lemmas.Option.{slice_get_cases}
use Rattle.tinyjson_document.proofs.Values.{item_viewed, no_item_viewed}
use Rattle.tinyjson_document.proofs.view.RefJsonValueJsonView.item.Goals as goal

pub returns-in-Array : goal.returns-in-Array
returns-in-Array c =
    let got : option_map (λ x. x.now) c.get.result ≡ slice_get c.in-Array.items.items c.args.index
    = grind (arith, common_steps, slice_get_cases c.in-Array.items.items c.args.index) in
    item_viewed _ c.in-Array.items c.args.index c.get.result c.in-Array.is got

pub returns-in_default : goal.returns-in_default
returns-in_default c = no_item_viewed _ c.args.index (λ l. c.in_default.not-Array l)

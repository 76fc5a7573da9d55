use Rattle.std.proofs.Common.{◌≡◌, ap, ◌∙◌}
use Rattle.std.specs.HashMap.{get_by_text}
use Rattle.std.specs.Option.{unwrap_or}
use Rattle.json_store.specs.Store.{key_of}
use Rattle.json_store.proofs.Counting.{bytes_key}
use Rattle.json_store.proofs.store.Store.count.Goals as goal

pub returns : goal.returns
returns c = λ t h.
    let m = c.args.self.now.counts in
    let at : c.as_str.result.now ≡ key_of t = c.as_str.ensures.value ∙ bytes_key c.in-Ok.key t (c.in-Ok.ensures t h) in
    let read : c.unwrap_or.result ≡ unwrap_or (get_by_text m c.as_str.result.now) 0 = cc in
    read ∙ ap (λ bs. unwrap_or (get_by_text m bs) 0) at

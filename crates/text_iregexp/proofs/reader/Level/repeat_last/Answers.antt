use Rattle.std.proofs.Common.{◌+◌, ◌*◌, ◌<◌, ap, refl, sym, subst, ◌∙◌}
use Rattle.text_iregexp.specs.Limits.{size_limit}
use Rattle.text_iregexp.proofs.Levels.{quantified_stands, quantified_large}
use Rattle.text_iregexp.proofs.Sizes.{product_below, product_above}
use Rattle.text_iregexp.proofs.reader.Level.repeat_last.Goals as goal

pub returns : goal.returns
returns c = λ l s.
    quantified_stands c.args.self.now _ c.in-Some.node _ c.args.least c.args.most l
    (sym c.in-Some.ensures.value) c.in_ok-repeat.ensures refl c.in_ok-push.ensures.items c.take.ensures.after
    (product_below _ _ _ c.args.self.now.size c.saturating_mul-more.ensures c.in-Some-grown.ensures.0 c.in-Some-grown.ensures.1
    ∙ ap (λ n. c.args.self.now.size + n * c.args.self.now.last_size) c.repeated.ensures) c.in-Some-grown.ensures.1 s

pub returns-in_default-grown : goal.returns-in_default-grown
returns-in_default-grown c = λ l s.
    quantified_large c.args.self.now c.in-Some.node c.args.least c.args.most l (sym c.in-Some.ensures.value)
    (subst (λ n. size_limit < c.args.self.now.size + n * c.args.self.now.last_size) c.repeated.ensures
    (product_above _ _ c.args.self.now.size c.saturating_mul-more.ensures c.in_default-grown.ensures)) s

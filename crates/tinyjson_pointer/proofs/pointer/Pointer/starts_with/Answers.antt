use Rattle.std.proofs.Common.{◌∙◌, ap}
use Rattle.std.specs.List.{starts_with}
use Rattle.std.specs.String.{string_eq}
use Rattle.tinyjson_pointer.proofs.Children.{begins}
use Rattle.tinyjson_pointer.proofs.pointer.Pointer.starts_with.Goals as goal

pub returns : goal.returns
returns c = c.starts_with.ensures.value
    ∙ (ap (λ ys. starts_with string_eq c.deref.result.now ys) c.as_slice.ensures.value
    ∙ (ap (λ xs. starts_with string_eq xs c.args.other.now.tokens.items) c.deref.ensures.value
    ∙ begins c.args.self.now.tokens.items c.args.other.now.tokens.items))

use Rattle.std.proofs.Common.{◌≡◌, ◌+◌, ap, ◌∙◌, drop}
use Rattle.std.proofs.lemmas.Str.{IsUtf8-had}
use Rattle.std.specs.List.{prefix_len}
use Rattle.tinyjson_grammar.specs.Characters.{is_white}
use Rattle.tinyjson_tokens.specs.Slice.{run_end}
use Rattle.tinyjson_tokens.proofs.Slices.{white_small, ascii_boundary}
use Rattle.tinyjson_tokens.proofs.text.TextBytes.pass_run.Goals as goal

pub invariant_of-self : goal.invariant_of-self
invariant_of-self c =
    let self = c.args.self.now in
    let e : c.white_end-self.result ≡ run_end is_white self.text.now self.at = c.white_end-self.ensures
    ∙ ap (λ bs. self.at + prefix_len is_white (drop self.at bs)) c.as_bytes.ensures.value in
    record {
      utf8 = self.utf8;
      boundary = ascii_boundary is_white white_small self.text.now (IsUtf8-had self.text.now self.utf8) self.at self.boundary _ e;
    }

use Rattle.std.proofs.Common.{◌≡◌, ◌∙◌, ◌++◌, ap, codes, subst, string_bytes}
use Rattle.std.specs.Prelude.{IfOk}
use lib.Utf8.{encode}
use Rattle.tinyjson_schema_drafts.specs.declared.draft.Draft.TheVariants.{Draft202012}
use Rattle.tinyjson_schema_drafts.specs.References.{embed, seen}
use Rattle.tinyjson_schema_drafts.specs.Retrieval.{way_to}
use Rattle.tinyjson_schema_drafts.proofs.retrieval.with_way.Goals as goal

pub returns : goal.returns
unfolding encode
returns c =
    let uri : c.as_str.result.now ≡ c.args.uri.now ++ codes "#" =
    c.as_str.ensures.value ∙ (c.in_ok-push.ensures.bytes ∙ ap (λ bs. bs ++ codes "#") c.in_ok-key.ensures.ok) in
    subst (λ u. IfOk c.embed.result (λ r. seen r ≡ embed Draft202012 u (way_to (string_bytes c.args.other)) (seen c.args.compound))) uri
    (subst (λ d. IfOk c.embed.result (λ r. seen r ≡ embed Draft202012 c.as_str.result.now d (seen c.args.compound)))
    c.in_ok-way.ensures c.embed.ensures)

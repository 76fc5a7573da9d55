-- The messages of errors.
use Rattle.std.specs.Prelude.{ℕ, List, ◌++◌, codes}
use Rattle.tinyjson_schema_drafts.specs.declared.compound.EmbedError.{EmbedError}
use Rattle.tinyjson_schema_drafts.specs.declared.compound.EmbedError.TheVariants.{NotJson, OutOfMemory}

abbrev pub embed_error_message : EmbedError → List ℕ
embed_error_message (NotJson schema error) = codes "the meta-schema " ++ (schema.uri.now ++ codes " is no JSON text")
embed_error_message OutOfMemory = codes "out of memory"

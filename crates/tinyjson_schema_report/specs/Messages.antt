-- The messages of errors.
use Rattle.std.specs.Prelude.{ℕ, List, ◌++◌, codes, string_bytes}
use Rattle.tinyjson_schema_drafts.specs.Messages.{embed_error_message}
use Rattle.tinyjson_schema_report.specs.declared.meta.MetaError.{MetaError}
use Rattle.tinyjson_schema_report.specs.declared.meta.MetaError.TheVariants.{Unknown, Refused, Embed, OutOfMemory}

abbrev pub meta_error_message : MetaError → List ℕ
meta_error_message (Unknown uri) = codes "the meta-schema " ++ (string_bytes uri ++ codes " is not known")
meta_error_message (Refused place words) = string_bytes place ++ (codes " " ++ string_bytes words)
meta_error_message (Embed e) = embed_error_message e
meta_error_message OutOfMemory = codes "out of memory"

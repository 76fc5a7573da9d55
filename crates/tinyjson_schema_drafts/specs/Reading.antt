-- A schema in the words of 2020-12, by the draft that it names.
use Rattle.tinyjson.specs.Tree.{Tree}
use Rattle.tinyjson_schema_drafts.specs.Dialects.{dialect_of, without_dialect}
use Rattle.tinyjson_schema_drafts.specs.Translated.{translated}
use Rattle.tinyjson_schema_drafts.specs.declared.draft.Dialect.{Dialect}
use Rattle.tinyjson_schema_drafts.specs.declared.draft.Dialect.TheVariants.{Missing, Known, Unknown}
use Rattle.tinyjson_schema_drafts.specs.declared.draft.Draft.{Draft}
use Rattle.tinyjson_schema_drafts.specs.declared.draft.Draft.TheVariants.{Draft202012}

abbrev pub in_draft : Draft → Tree → Tree
in_draft Draft202012 t = t
in_draft d t = translated d t

abbrev pub read_by : Dialect → Draft → Tree → Tree
read_by Missing d t = in_draft d t
read_by (Known e) d t = in_draft e (without_dialect t)
read_by Unknown d t = in_draft d (without_dialect t)

-- in the draft that `$schema` names, or else in d
abbrev pub read_as : Draft → Tree → Tree
read_as d t = read_by (dialect_of t) d t

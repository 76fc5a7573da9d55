-- The program's arguments.
use Rattle.tinyjson_cli.specs.Arguments.{Given, is_given}
use Rattle.json_part.specs.declared.part.Form.{Form}

-- `-i`, `-r` and `-n`
abbrev pub form_asked : Given → Form
form_asked a = record { is_indented = is_given 105 a; is_raw = is_given 114 a; or_null = is_given 110 a }

-- The formats, and their names (JSON Schema Validation 2020-12, section 7.3).
use Rattle.std.specs.Prelude.{ℕ, Bool, List, [], ◌∷◌, Option, codes}
use Rattle.std.specs.List.{find}
use Rattle.std.specs.Str.{bytes_eq}
use Rattle.text_ecma_regexp.specs.Regex.{is_regex}
use Rattle.text_formats.specs.Date.{is_date, is_time, is_date_time}
use Rattle.text_formats.specs.Duration.{is_duration}
use Rattle.text_formats.specs.Email.{is_email}
use Rattle.text_formats.specs.Form.{is_uuid}
use Rattle.text_formats.specs.Host.{is_hostname}
use Rattle.text_formats.specs.Ip.{is_ipv4, is_ipv6}
use Rattle.text_formats.specs.Pointer.{is_pointer, is_relative_pointer}
use Rattle.text_formats.specs.Template.{is_template}
use Rattle.text_formats.specs.Uri.{is_uri, is_reference}
use Rattle.text_formats.specs.declared.format.Format.{Format}
use Rattle.text_formats.specs.declared.format.Format.TheVariants as at

abbrev pub name : Format → List ℕ
name at.DateTime = codes "date-time"
name at.Date = codes "date"
name at.Time = codes "time"
name at.Duration = codes "duration"
name at.Email = codes "email"
name at.Hostname = codes "hostname"
name at.Ipv4 = codes "ipv4"
name at.Ipv6 = codes "ipv6"
name at.Uri = codes "uri"
name at.UriReference = codes "uri-reference"
name at.UriTemplate = codes "uri-template"
name at.Uuid = codes "uuid"
name at.JsonPointer = codes "json-pointer"
name at.RelativeJsonPointer = codes "relative-json-pointer"
name at.Regex = codes "regex"

abbrev pub accepts : Format → List ℕ → Bool
accepts at.DateTime = is_date_time
accepts at.Date = is_date
accepts at.Time = is_time
accepts at.Duration = is_duration
accepts at.Email = is_email
accepts at.Hostname = is_hostname
accepts at.Ipv4 = is_ipv4
accepts at.Ipv6 = is_ipv6
accepts at.Uri = is_uri
accepts at.UriReference = is_reference
accepts at.UriTemplate = is_template
accepts at.Uuid = is_uuid
accepts at.JsonPointer = is_pointer
accepts at.RelativeJsonPointer = is_relative_pointer
accepts at.Regex = is_regex

abbrev pub formats : List Format
formats = at.DateTime ∷ at.Date ∷ at.Time ∷ at.Duration ∷ at.Email ∷ at.Hostname ∷ at.Ipv4 ∷ at.Ipv6 ∷ at.Uri ∷ at.UriReference
    ∷ at.UriTemplate ∷ at.Uuid ∷ at.JsonPointer ∷ at.RelativeJsonPointer ∷ at.Regex ∷ []

-- the format of the name
abbrev pub format_named : List ℕ → Option Format
format_named text = find (λ f. bytes_eq text (name f)) formats

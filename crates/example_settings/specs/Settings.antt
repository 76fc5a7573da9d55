-- The settings of a text.
use Rattle.std.specs.Prelude.{◌≡◌, ℕ, ◌<◌, Bool, false, List, Option, Some, None, Result, Ok, Err, MatchOption, ◌⊎◌, ⊤, codes, pos}
use Rattle.std.specs.declared.alloc.AllocError.{AllocError}
use Rattle.tinyjson.specs.Error.{error_message}
use Rattle.tinyjson.specs.Grammar.{IsText}
use Rattle.tinyjson.specs.Index.{tree_at_key, with_tree_at_key}
use Rattle.tinyjson.specs.Number.{integer_decimal}
use Rattle.tinyjson.specs.Parser.{ParsesText}
use Rattle.tinyjson.specs.Tree.{Tree, boolean, number, string, object, Members}
use Rattle.tinyjson.specs.View.{view, text}
use Rattle.tinyjson.specs.declared.value.JsonValue.{JsonValue}
use Rattle.example_settings.specs.declared.settings.Key.{Key}
use Rattle.example_settings.specs.declared.settings.Key.TheVariants.{Port, Host, Tls}
use Rattle.example_settings.specs.declared.settings.Settings.{Settings}
use Rattle.example_settings.specs.declared.settings.SettingsError.{SettingsError}
use Rattle.example_settings.specs.declared.settings.SettingsError.TheVariants.{Text, NotAnObject, Lacks}

-- the member is a whole number from 1 to 65535
abbrev pub IsPort : Option Tree → ℕ → Type 0
IsPort member n = (member ≡ Some (number (integer_decimal (pos n)))) × (0 < n) × (n < 65536)

-- the member is a string
abbrev pub IsHost : Option Tree → List ℕ → Type 0
IsHost member cs = member ≡ Some (string cs)

-- the member is a boolean, or it is absent, which means false
abbrev pub IsTls : Option Tree → Bool → Type 0
IsTls member b = (member ≡ Some (boolean b)) ⊎ ((member ≡ None) × (b ≡ false))

abbrev pub IsObject : Tree → Type 0
IsObject t = (ms : Members) × (t ≡ object ms)

-- the tree is an object with these settings
abbrev pub HasSettings : Tree → Settings → Type 0
HasSettings t s =
    IsObject t × IsPort (tree_at_key t (codes "port")) s.port
    × IsHost (tree_at_key t (codes "host")) (text s.host)
    × IsTls (tree_at_key t (codes "tls")) s.tls

-- what the tree lacks at the key
abbrev pub LacksAt : Tree → Key → Type 0
LacksAt t Port = (n : ℕ) → ¬ IsPort (tree_at_key t (codes "port")) n
LacksAt t Host = (cs : List ℕ) → ¬ IsHost (tree_at_key t (codes "host")) cs
LacksAt t Tls = (b : Bool) → ¬ IsTls (tree_at_key t (codes "tls")) b

-- what the tree has, if it lacks something at the key: the port is checked first, then tls, then the host
abbrev pub HasBefore : Tree → Key → Type 0
HasBefore t Port = ⊤
HasBefore t Tls = (n : ℕ) × IsPort (tree_at_key t (codes "port")) n
HasBefore t Host = ((n : ℕ) × IsPort (tree_at_key t (codes "port")) n) × ((b : Bool) × IsTls (tree_at_key t (codes "tls")) b)

-- the result if this is the tree of the text
abbrev pub AnswersTree : Tree → Result Settings SettingsError → Type 0
AnswersTree t (Ok s) = HasSettings t s
AnswersTree t (Err (Text e)) = ⊥
AnswersTree t (Err NotAnObject) = ¬ IsObject t
AnswersTree t (Err (Lacks k)) = IsObject t × HasBefore t k × LacksAt t k

-- the result for the text: the parser's error, or the result for its tree
abbrev pub AnswersText : List ℕ → Result Settings SettingsError → Type 0
AnswersText xs (Err (Text e)) = ParsesText None xs (Err e)
AnswersText xs result = (t : Tree) × IsText None xs t × AnswersTree t result

-- the message of an error; for a rejected text that of the parser
abbrev pub settings_error_message : SettingsError → List ℕ
settings_error_message (Text e) = error_message e
settings_error_message NotAnObject = codes "not an object"
settings_error_message (Lacks Port) = codes "no port from 1 to 65535"
settings_error_message (Lacks Host) = codes "no host"
settings_error_message (Lacks Tls) = codes "tls is neither true nor false"

-- the only thing for which P is true, by its view; or nothing, if there is none
abbrev pub GivesOnly : {S T : Type 0} → (S → Type 0) → (T → S) → Option T → Type 0
GivesOnly {S} P seen result = MatchOption result ((x : S) → ¬ P x) (λ y. P (seen y))

-- the tree with n as the port
abbrev pub with_port : Tree → ℕ → Tree
with_port t n = with_tree_at_key t (codes "port") (number (integer_decimal (pos n)))

-- w is v with the port n, and the old `port` of v is returned; or w is v
abbrev pub SetsPort : JsonValue → ℕ → Result (Option JsonValue) AllocError → JsonValue → Type 0
SetsPort v n (Ok (Some old)) w =
    (tree_at_key (view v) (codes "port") ≡ Some (view old)) × (view w ≡ with_port (view v) n)
SetsPort v n (Ok None) w = (tree_at_key (view v) (codes "port") ≡ None) × (w ≡ v)
SetsPort v n (Err e) w = w ≡ v

-- if t has settings, u has the same except for the port, which is n; 0 is no port
abbrev pub KeepsSettings : Tree → ℕ → Tree → Type 0
KeepsSettings t n u =
    (s : Settings) → HasSettings t s → 0 < n
    → HasSettings u (record { port = n; host = s.host; tls = s.tls })

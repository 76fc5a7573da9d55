-- What a contract reads of a generator.
use Rattle.std.specs.Prelude.{ℕ, List, Option}
use Rattle.tinyjson.specs.declared.generator.JsonGenerator.{JsonGenerator}
use Rattle.tinyjson.specs.Indent.{indent_of}

-- the writer
abbrev pub generator_out : {W : Type 0} → JsonGenerator W → W
generator_out g = g.out

-- the characters of the indent, where there is one
abbrev pub generator_indent : {W : Type 0} → JsonGenerator W → Option (List ℕ)
generator_indent g = indent_of g.indent

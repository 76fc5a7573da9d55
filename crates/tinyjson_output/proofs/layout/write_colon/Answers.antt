use Rattle.tinyjson_output.proofs.Bytes.{colon_alone, colon_spaced}
use Rattle.tinyjson_output.proofs.Sending.{sends_same}
use Rattle.tinyjson_output.proofs.layout.write_colon.Goals as goal

pub returns-in-None : goal.returns-in-None
returns-in-None g c = sends_same _ _ _ _ c.write_bytes.result (colon_alone c.args.indent c.in-None.is) c.write_bytes.ensures

pub returns-in-Some : goal.returns-in-Some
returns-in-Some g c = sends_same _ _ _ _ c.write_bytes-in-Some.result (colon_spaced c.args.indent c.in-Some.field-0 c.in-Some.is)
    c.write_bytes-in-Some.ensures

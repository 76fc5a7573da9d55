use Rattle.std.proofs.Common.{Some, refl}
use Rattle.tinyjson_c.proofs.Judging.{unchecked_bad, unchecked_limit, unchecked_memory, unchecked_other, unchecked_stops}
use Rattle.tinyjson_c.proofs.Judging.{verdict_fault, verdict_invalid, verdict_left, verdict_one}
use Rattle.tinyjson_c.proofs.Judging.{verdict_other, verdict_small, verdict_valid}
use Rattle.tinyjson_c.specs.Schema.{schema_depth}
use Rattle.tinyjson_c.specs.declared.status.TheConstants.{BAD_SCHEMA, INVALID, OK, OUT_OF_MEMORY, SCHEMA_FAULT, STEP_LIMIT, TOO_SMALL}
use Rattle.tinyjson_c.proofs.tinyjson_valid.Goals as goal

pub returns-in-Ok-clause-valid : goal.returns-in-Ok-clause-valid
returns-in-Ok-clause-valid c =
    verdict_valid (Some (schema_depth c.args.depth)) c.args.text.now c.args.schema.now _ _ _ _
    c.in-Ok.verdict c.in-Ok.ensures c.put.ensures

pub returns-in-Ok-clause-invalid : goal.returns-in-Ok-clause-invalid
returns-in-Ok-clause-invalid c =
    verdict_invalid (Some (schema_depth c.args.depth)) c.args.text.now c.args.schema.now _ _ _ _
    c.in-Ok.verdict c.in-Ok.ensures c.put.ensures

pub returns-in-Ok-clause-fault : goal.returns-in-Ok-clause-fault
returns-in-Ok-clause-fault c =
    verdict_fault (Some (schema_depth c.args.depth)) c.args.text.now c.args.schema.now _ _ _ _
    c.in-Ok.verdict c.in-Ok.ensures c.put.ensures

pub returns-in-Ok-clause-too_small : goal.returns-in-Ok-clause-too_small
returns-in-Ok-clause-too_small c =
    verdict_small (Some (schema_depth c.args.depth)) c.args.text.now c.args.schema.now _ _ _ _
    c.in-Ok.verdict c.in-Ok.ensures c.put.ensures

pub returns-in-Ok-clause-bad_schema : goal.returns-in-Ok-clause-bad_schema
returns-in-Ok-clause-bad_schema c =
    verdict_other _ _ _ _ c.in-Ok.verdict c.put.ensures BAD_SCHEMA refl refl refl refl

pub returns-in-Ok-clause-limit : goal.returns-in-Ok-clause-limit
returns-in-Ok-clause-limit c =
    verdict_other _ _ _ _ c.in-Ok.verdict c.put.ensures STEP_LIMIT refl refl refl refl

pub returns-in-Ok-clause-memory : goal.returns-in-Ok-clause-memory
returns-in-Ok-clause-memory c =
    verdict_other _ _ _ _ c.in-Ok.verdict c.put.ensures OUT_OF_MEMORY refl refl refl refl

pub returns-in-Ok-clause-stopped : goal.returns-in-Ok-clause-stopped
returns-in-Ok-clause-stopped c = λ ok invalid fault small bad steps memory.
    verdict_one _ _ _ _ c.in-Ok.verdict c.put.ensures ok invalid fault small

pub returns-in-Ok-clause-left : goal.returns-in-Ok-clause-left
returns-in-Ok-clause-left c =
    verdict_left _ _ _ _ c.in-Ok.verdict c.put.ensures

pub returns-in-Err-clause-valid : goal.returns-in-Err-clause-valid
returns-in-Err-clause-valid c =
    unchecked_other c.in-Err.error _ c.put-in-Err.ensures.status OK refl refl refl refl refl

pub returns-in-Err-clause-invalid : goal.returns-in-Err-clause-invalid
returns-in-Err-clause-invalid c =
    unchecked_other c.in-Err.error _ c.put-in-Err.ensures.status INVALID refl refl refl refl refl

pub returns-in-Err-clause-fault : goal.returns-in-Err-clause-fault
returns-in-Err-clause-fault c =
    unchecked_other c.in-Err.error _ c.put-in-Err.ensures.status SCHEMA_FAULT refl refl refl refl refl

pub returns-in-Err-clause-too_small : goal.returns-in-Err-clause-too_small
returns-in-Err-clause-too_small c =
    unchecked_other c.in-Err.error _ c.put-in-Err.ensures.status TOO_SMALL refl refl refl refl refl

pub returns-in-Err-clause-bad_schema : goal.returns-in-Err-clause-bad_schema
returns-in-Err-clause-bad_schema c =
    unchecked_bad (Some (schema_depth c.args.depth)) c.args.text.now c.args.schema.now 0 _ _ c.in-Err.error c.in-Err.ensures
    c.put-in-Err.ensures.status c.put-in-Err.ensures.place

pub returns-in-Err-clause-limit : goal.returns-in-Err-clause-limit
returns-in-Err-clause-limit c =
    unchecked_limit (Some (schema_depth c.args.depth)) c.args.text.now c.args.schema.now 0 _ _ c.in-Err.error c.in-Err.ensures
    c.put-in-Err.ensures.status c.put-in-Err.ensures.place

pub returns-in-Err-clause-memory : goal.returns-in-Err-clause-memory
returns-in-Err-clause-memory c =
    unchecked_memory (Some (schema_depth c.args.depth)) c.args.text.now c.args.schema.now 0 _ _ c.in-Err.error
    c.put-in-Err.ensures.status c.put-in-Err.ensures.place

pub returns-in-Err-clause-stopped : goal.returns-in-Err-clause-stopped
returns-in-Err-clause-stopped c = λ ok invalid fault small bad steps memory.
    unchecked_stops (Some (schema_depth c.args.depth)) c.args.text.now c.args.schema.now 0 _ _ c.in-Err.error c.in-Err.ensures
    c.put-in-Err.ensures.status c.put-in-Err.ensures.place bad steps memory

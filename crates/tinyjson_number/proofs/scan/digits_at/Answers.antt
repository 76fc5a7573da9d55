use Rattle.tinyjson_number.proofs.Scans.{digits_pass, digits_split, digits_stop, digits_within}
use Rattle.tinyjson_number.proofs.scan.digits_at.Goals as goal

pub slice_bounds-result-end : goal.slice_bounds-result-end
slice_bounds-result-end c = search digits_within

pub returns-clause-digits : goal.returns-clause-digits
returns-clause-digits c = digits_pass c.args.bytes.now c.args.from _ c.digits_end-end.ensures

pub returns-clause-text : goal.returns-clause-text
returns-clause-text c = digits_split c.args.bytes.now c.args.from _ c.digits_end-end.ensures

pub returns-clause-stops : goal.returns-clause-stops
returns-clause-stops c = digits_stop c.args.bytes.now c.args.from _ c.digits_end-end.ensures

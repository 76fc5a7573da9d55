use Rattle.tinyjson_diff.proofs.Documents.{add_written, remove_written, replace_written}
use Rattle.tinyjson_diff.proofs.document.operation.Goals as goal

pub returns-in-Add : goal.returns-in-Add
returns-in-Add c = add_written c.valued.result c.args.step c.in-Add.value c.in-Add.is c.valued.ensures

pub returns-in-Replace : goal.returns-in-Replace
returns-in-Replace c =
    replace_written c.valued-in-Replace.result c.args.step c.in-Replace.value c.in-Replace.is c.valued-in-Replace.ensures

pub returns : goal.returns
returns c = remove_written c.args.step c.in_ok-named-in-Remove.field-0 c.in-Remove.is c.in_ok-named-in-Remove.ensures

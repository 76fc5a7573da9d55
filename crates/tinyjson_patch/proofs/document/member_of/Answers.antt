use Rattle.tinyjson_patch.proofs.Documents.{member_found}
use Rattle.tinyjson_patch.proofs.document.member_of.Goals as goal

pub returns-in-Object : goal.returns-in-Object
returns-in-Object c = member_found c.args.document.now c.in-Object.members c.args.member c.key.result.now c.get.result c.in-Object.is
    c.key.ensures c.get.ensures.value

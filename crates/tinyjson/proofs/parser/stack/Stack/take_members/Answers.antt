use Rattle.std.proofs.Common.{rules}
use Rattle.tinyjson.proofs.parser.stack.Stack.take_members.Goals as goal

pub returns-clause-members : goal.returns-clause-members
returns-clause-members c = search rules

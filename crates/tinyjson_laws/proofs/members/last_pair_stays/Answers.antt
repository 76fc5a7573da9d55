use Rattle.tinyjson_laws.proofs.MemberLaws.{last_pair_stays}
use Rattle.tinyjson_laws.proofs.members.last_pair_stays.Goals as goal

pub returns : goal.returns
returns c = last_pair_stays

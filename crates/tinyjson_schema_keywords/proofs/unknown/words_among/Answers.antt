use Rattle.tinyjson_schema_keywords.proofs.Words.{member_gathered}
use Rattle.tinyjson_schema_keywords.proofs.unknown.words_among.Goals as goal

pub loop-member-preserved : goal.loop-member-preserved
loop-member-preserved c =
    member_gathered c.args.members.now c.loop-member.member-index c.new-words.result c.loop-member.words c.loop-member.invariant
    c.member-item.result c.gather_word.new.words c.loop-member-test.true c.member-item.is c.in_ok-gather_word.ensures

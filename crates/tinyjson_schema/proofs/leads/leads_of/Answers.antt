use Rattle.tinyjson_schema.proofs.leads.leads_of.Goals as goal

pub loop-member-preserved : goal.loop-member-preserved
loop-member-preserved c = c.in_ok-add_lead.ensures c.loop-member.invariant

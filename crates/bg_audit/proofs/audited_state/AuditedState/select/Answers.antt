use Rattle.bg_audit.proofs.audited_state.AuditedState.select.Goals as goal

pub returns-in-Deploy-clause-selectors : goal.returns-in-Deploy-clause-selectors
returns-in-Deploy-clause-selectors c = λ past h. rw c.in-Deploy.is (c.deploy.ensures.selectors past c.in-Deploy.name c.in-Deploy.ports h)

use Rattle.commands.proofs.ServiceOutcomes.{dir_fault_of, link_fault_of, prints_nothing, refusals_of_service}
use Rattle.commands.proofs.metadata_service.metadata_service.Goals as goal

pub returns-clause-link_cause : goal.returns-clause-link_cause
returns-clause-link_cause g c fault = c.serve-served.ensures.link_cause (link_fault_of c.serve-served.result c.service_outcome.result c.service_outcome.ensures fault)

pub returns-clause-cause : goal.returns-clause-cause
returns-clause-cause g c fault = c.serve-served.ensures.dir_cause (dir_fault_of c.serve-served.result c.service_outcome.result c.service_outcome.ensures fault)

pub returns-clause-refusals : goal.returns-clause-refusals
returns-clause-refusals g c = refusals_of_service c.serve-served.result c.service_outcome.result c.service_outcome.ensures

pub returns-clause-silent : goal.returns-clause-silent
returns-clause-silent g c = prints_nothing c.serve-served.result c.service_outcome.result c.service_outcome.ensures

pub returns-clause-serves : goal.returns-clause-serves
returns-clause-serves g c l d none = (c.serve-served.result, c.service_outcome.ensures, c.serve-served.ensures.serves l d none)

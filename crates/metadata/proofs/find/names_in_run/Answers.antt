use Rattle.metadata.proofs.Asking.{asks_names}
use Rattle.metadata.proofs.find.names_in_run.Goals as goal

pub returns-in-Ok-clause-only : goal.returns-in-Ok-clause-only
returns-in-Ok-clause-only g c = asks_names c.names_of.result c.names_of.ensures.called

pub returns-in-Err-clause-only : goal.returns-in-Err-clause-only
returns-in-Err-clause-only g c = asks_names c.names_of.result c.names_of.ensures.called

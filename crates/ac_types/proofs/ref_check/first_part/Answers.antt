use Rattle.ac_types.proofs.RefChecks.{first_alone, first_and_rest}
use Rattle.ac_types.proofs.ref_check.first_part.Goals as goal

pub returns-in-Some : goal.returns-in-Some
returns-in-Some c = first_and_rest c.args.text.now c.in-Some.part.now c.in-Some.rest.now c.in-Some.ensures

pub returns-in-None : goal.returns-in-None
returns-in-None c = first_alone c.args.text.now c.in-None.ensures

use Rattle.std.proofs.Common.{◌==◌}
use Rattle.dir_memory.proofs.Places.{place_or_end, place_within}
use Rattle.dir_memory.proofs.listing.segment_len.Goals as goal

pub returns-clause-len : goal.returns-clause-len
returns-clause-len c = rw (c.unwrap_or.ensures, c.first_slash.ensures) (place_or_end (λ b. b == 47) c.args.rest.now)

pub returns-clause-within : goal.returns-clause-within
returns-clause-within c = rw (c.unwrap_or.ensures, c.first_slash.ensures, place_or_end (λ b. b == 47) c.args.rest.now) (place_within (λ b. b == 47) c.args.rest.now)

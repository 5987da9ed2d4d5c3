-- What the lists that change stand for.
use Rattle.dir_rules.specs.declared.standing.Standing.{Standing}
use Rattle.lock_rules.specs.declared.standing.StandingTable.{StandingTable}

abbrev pub table_standing : StandingTable → Standing
table_standing t = record { intent = t.intent; made = t.made; embryo_under_lock = t.embryo_under_lock; holdings = t.holdings.items; moves = t.moves.items; seen_unowned = t.seen_unowned.items; seen_unowned_under_claim = t.seen_unowned_under_claim.items }

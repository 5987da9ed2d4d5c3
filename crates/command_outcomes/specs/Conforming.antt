-- Whether a process has asked for nothing but what the local rules allow.
use Rattle.std.specs.Prelude.{◌≡◌, true}
use Rattle.dir_model.specs.declared.intent.Intent.{Intent}
use Rattle.dir_model.specs.declared.request.Request.TheVariants.{Begin}
use Rattle.dir_model.specs.declared.request.Reply.TheVariants.{Done}
use Rattle.dir_rules.specs.declared.seen.Seen.{Seen}
use Rattle.dir_rules.specs.Conforms.{Conforms, nothing_seen, seen_replied}
use Rattle.dir_trait.specs.DirCalls.{DirAt}
use Rattle.dir_trait.specs.Knowledge.{Knows}

-- by what the process knows, each of its requests so far was allowed
pub record KeepsRules (d : DirAt) : Type 0 where
  pub known : Seen
  pub knows : Knows d known
  pub kept : known.kept ≡ true

-- what a process knows that has just begun
abbrev pub seen_at_begin : Intent → Seen
seen_at_begin intent = seen_replied nothing_seen (Begin intent) Done

-- a process that had just begun has kept the rules since
abbrev pub StaysConforming : Intent → DirAt → DirAt → Type 0
StaysConforming intent old new = Knows old (seen_at_begin intent) → KeepsRules new

-- where the process kept the local rules before, it keeps them afterwards
abbrev pub KeepsConforming : DirAt → DirAt → Type 0
KeepsConforming old new = Conforms old.process old.trace → Conforms old.process new.trace

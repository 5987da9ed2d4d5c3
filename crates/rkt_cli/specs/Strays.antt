-- What status 20 tells, a stray reply, while every process keeps the local rules.
use Rattle.std.specs.Prelude.{◌≡◌, ℕ, Bool, true, false, Option, Some, None}
use Rattle.dir_trait.specs.DirCalls.{DirAt}
use Rattle.lifecycle.specs.Executions.{IsConforming}
use Rattle.impossible_replies.specs.Replies.{AppWroteOn}
use Rattle.rkt_cli.specs.declared.line.Line.{Line}
use Rattle.rkt_cli.specs.declared.line.Line.TheVariants as line

-- the two commands that delete pods
abbrev pub deletes_pods : Line → Bool
deletes_pods (line.Rm word) = true
deletes_pods (line.Gc grace expire) = true
deletes_pods line = false

-- such a command was answered by what a started app wrote that had outlived its owner
abbrev pub MeetsApp : Option Line → DirAt → DirAt → Type 0
MeetsApp None old new = ⊥
MeetsApp (Some line) old new = (deletes_pods line ≡ true) × AppWroteOn old.process old.trace new.trace

-- it comes of nothing else
abbrev pub StraysOfApps : Option Line → ℕ → DirAt → DirAt → Type 0
StraysOfApps line status old new = IsConforming new.trace → status ≡ 20 → MeetsApp line old new

-- What a stray answer comes of while every process keeps the local rules.
use Rattle.std.specs.Prelude.{ℕ, List}
use Rattle.dir_model.specs.declared.event.Event.{Event}
use Rattle.lifecycle.specs.Executions.{IsConforming}
use Rattle.impossible_replies.specs.Replies.{AppWroteOn}

-- a started app that outlived its owner wrote on
abbrev pub ComesOfApp : ℕ → List Event → List Event → Type 0
ComesOfApp me old new = IsConforming new → AppWroteOn me old new

-- it doesn't come
abbrev pub NeverComes : List Event → Type 0
NeverComes new = IsConforming new → ⊥

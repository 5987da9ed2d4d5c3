-- The effect of calls on a directory: what was asked for, what is open afterwards, and what a process knows then.
use Rattle.std.specs.Prelude.{◌≡◌, ◌≤◌, Bool, true}
use Rattle.dir_model.specs.declared.request.Request.{Request}
use Rattle.dir_model.specs.Local.{Local}
use Rattle.dir_rules.specs.declared.seen.Seen.{Seen}
use Rattle.dir_trait.specs.DirCalls.{DirAt, ExtendsBy}
use Rattle.dir_trait.specs.Knowledge.{Knows}

-- calls were made, each for something of this kind, and every handle is as it was
pub record OnlyAsks (observed : Bool) (asks : Request → Bool) (old new : DirAt) : Type 0 where
  pub same : new.process ≡ old.process
  pub faults : old.faults ≤ new.faults
  pub local : new.local ≡ old.local
  pub extends : observed ≡ true → ExtendsBy asks old new

-- calls were made, each for something of this kind, and this is open after them
pub record LeavesOpen (observed : Bool) (asks : Request → Bool) (local : Local) (old new : DirAt) : Type 0 where
  pub same : new.process ≡ old.process
  pub faults : old.faults ≤ new.faults
  pub local_is : new.local ≡ local
  pub extends : observed ≡ true → ExtendsBy asks old new

-- calls were made, each for something of this kind; every handle is as it was, and so much is known still
pub record OnlyAsksAndKeeps (observed : Bool) (asks : Request → Bool) (Keeps : DirAt → DirAt → Type 0) (old new : DirAt) : Type 0 where
  pub same : new.process ≡ old.process
  pub faults : old.faults ≤ new.faults
  pub local : new.local ≡ old.local
  pub extends : observed ≡ true → ExtendsBy asks old new
  pub known : observed ≡ true → Keeps old new

-- wherever a process knew this of itself before, this holds of what it knew and of what is now
abbrev pub Given : (Seen → Type 0) → DirAt → (Seen → Type 0) → Type 0
Given May old After = (s : Seen) → Knows old s → May s → After s

-- Calls that follow one another, whatever they leave open, and a lock that is given back.
use Rattle.std.proofs.Common.{arith, ◌≡◌, ◌≤◌, Bool, true, false, refl}
use Rattle.dir_model.specs.declared.spot.Handle.{Handle}
use Rattle.dir_model.specs.declared.request.Request.{Request}
use Rattle.dir_model.specs.Local.{without}
use Rattle.dir_model.proofs.Chains.{nothing_yet}
use Rattle.dir_trait.specs.DirCalls.{DirAt, ExtendsBy}
use Rattle.dir_trait.specs.Effects.{OnlyAsks}
use Rattle.dir_files.specs.AreaLocks.{closes}

pub record Follows (observed : Bool) (old new : DirAt) : Type 0 where
  pub same : new.process ≡ old.process
  pub faults : old.faults ≤ new.faults
  pub asks : Request → Bool
  pub extends : observed ≡ true → ExtendsBy asks old new

pub follows_work : {observed : Bool} {asks : Request → Bool} {a b : DirAt} → OnlyAsks observed asks a b → Follows observed a b
follows_work {observed} {asks} w = record { same = w.same; faults = w.faults; asks = asks; extends = w.extends }

pub nothing_follows : {observed : Bool} {a : DirAt} → Follows observed a a
nothing_follows {observed} {a} = record { same = refl; faults = omega arith; asks = λ r. false; extends = λ t. nothing_yet }

-- the lock was given back
pub record GivesBack (observed : Bool) (h : Handle) (old new : DirAt) : Type 0 where
  pub same : new.process ≡ old.process
  pub faultless : new.faults ≡ old.faults
  pub local : new.local ≡ without old.local h
  pub extends : observed ≡ true → ExtendsBy (closes h) old new

pub follows_back : {observed : Bool} {h : Handle} {a b : DirAt} → GivesBack observed h a b → Follows observed a b
follows_back {observed} {h} g = record { same = g.same; faults = omega (arith, g.faultless); asks = closes h; extends = g.extends }

-- What came about in a part of a time came about in the whole.
use Rattle.std.proofs.Common.{◌≡◌, ◌⊎◌, inl, inr, ℕ, Bool, true, List}
use Rattle.dir_model.specs.Causes.{Rose}
use Rattle.dir_model.specs.State.{DirState}
use Rattle.dir_model.proofs.Moments.{at_after, at_before}
use Rattle.dir_trait.specs.DirCalls.{DirAt, HeldBetween}
use Rattle.ac_types.specs.declared.store_key.StoreKey.{StoreKey}
use Rattle.dir_laws.proofs.Rose.{rose_later, rose_still}
use Rattle.tree_digest.specs.declared.line.ListingLine.{ListingLine}
use Rattle.image_reading.specs.declared.error.StoreError.{StoreError}
use Rattle.image_reading.specs.Within.{Within}
use Rattle.image_reading.proofs.Widths.{within_after, within_before}
use Rattle.folder_building.proofs.Following.{Follows}
use Rattle.image_store.specs.Causes.{Source, StrayCause, Conflicts, DamagedInTurn, FoundInTurn, FindsLackingPart, UnlikeListed, ImportCause}

module _ {observed : Bool} (a b c : DirAt) (ab : Follows observed a b) where
  pub fault_after : Rose b.faults c.faults → Rose a.faults c.faults
  fault_after r = rose_later a.faults b.faults c.faults ab.faults r

  pub held_after : {P : DirState → Type 0} → observed ≡ true → HeldBetween b c P → HeldBetween a c P
  held_after t h = at_after (ab.extends t) ab.same h

  pub told_after : {R : DirAt → DirAt → Type 0} → observed ≡ true → Within R b c → Within R a c
  told_after t w = within_after (ab.extends t) ab.same w

module _ {observed : Bool} (a b c : DirAt) (same : b.process ≡ a.process) (bc : Follows observed b c) where
  pub fault_before : Rose a.faults b.faults → Rose a.faults c.faults
  fault_before r = rose_still a.faults b.faults c.faults r bc.faults

  pub held_before : {P : DirState → Type 0} → observed ≡ true → HeldBetween a b P → HeldBetween a c P
  held_before t h = at_before h same (bc.extends t)

  pub told_before : {R : DirAt → DirAt → Type 0} → observed ≡ true → Within R a b → Within R a c
  told_before t w = within_before w (bc.extends t)

pub stray_after : {observed : Bool} {key : StoreKey} {a b c : DirAt} → observed ≡ true → Follows observed a b → StrayCause key b c → StrayCause key a c
stray_after {observed} {key} {a} {b} {c} t ab (inl w) = inl (told_after a b c ab t w)
stray_after {observed} {key} {a} {b} {c} t ab (inr v) = inr (told_after a b c ab t v)

pub stray_before : {observed : Bool} {key : StoreKey} {a b c : DirAt} → observed ≡ true → b.process ≡ a.process → StrayCause key a b → Follows observed b c → StrayCause key a c
stray_before {observed} {key} {a} {b} {c} t same (inl w) bc = inl (told_before a b c same bc t w)
stray_before {observed} {key} {a} {b} {c} t same (inr v) bc = inr (told_before a b c same bc t v)

pub conflict_after : {observed : Bool} {key other : StoreKey} {digest stored fresh : List ℕ} {a b c : DirAt} → Follows observed a b → Conflicts observed key other digest stored fresh b c → Conflicts observed key other digest stored fresh a c
conflict_after {observed} {key} {other} {digest} {stored} {fresh} {a} {b} {c} ab x = record { key_is = x.key_is; new_is = x.new_is; differ = x.differ; there = λ t. told_after a b c ab t (x.there t) }

pub conflict_before : {observed : Bool} {key other : StoreKey} {digest stored fresh : List ℕ} {a b c : DirAt} → b.process ≡ a.process → Conflicts observed key other digest stored fresh a b → Follows observed b c → Conflicts observed key other digest stored fresh a c
conflict_before {observed} {key} {other} {digest} {stored} {fresh} {a} {b} {c} same x bc = record { key_is = x.key_is; new_is = x.new_is; differ = x.differ; there = λ t. told_before a b c same bc t (x.there t) }

part_after : (observed : Bool) (key : StoreKey) (path : List ℕ) (lines : List ListingLine) (source : Source) (a b c : DirAt) → Follows observed a b → FindsLackingPart observed key path b c ⊎ UnlikeListed source lines path → FindsLackingPart observed key path a c ⊎ UnlikeListed source lines path
part_after observed key path lines source a b c ab (inl l) = inl (λ t. told_after a b c ab t (l t))
part_after observed key path lines source a b c ab (inr u) = inr u

part_before : (observed : Bool) (key : StoreKey) (path : List ℕ) (lines : List ListingLine) (source : Source) (a b c : DirAt) → b.process ≡ a.process → FindsLackingPart observed key path a b ⊎ UnlikeListed source lines path → Follows observed b c → FindsLackingPart observed key path a c ⊎ UnlikeListed source lines path
part_before observed key path lines source a b c same (inl l) bc = inl (λ t. told_before a b c same bc t (l t))
part_before observed key path lines source a b c same (inr u) bc = inr u

-- the same of what is damaged in its turn
module _ {observed : Bool} {source : Source} {key : StoreKey} {lines : List ListingLine} {path : List ℕ} (a b c : DirAt) where
  pub damaged_after : Follows observed a b → DamagedInTurn observed source key lines path b c → DamagedInTurn observed source key lines path a c
  damaged_after ab (inl l) = inl (λ t. told_after a b c ab t (l t))
  damaged_after ab (inr x) = inr (x.0, record { absent = λ t. held_after a b c ab t (x.1.absent t); locked = λ t. told_after a b c ab t (x.1.locked t) })

  pub damaged_before : b.process ≡ a.process → Follows observed b c → DamagedInTurn observed source key lines path a b → DamagedInTurn observed source key lines path a c
  damaged_before same bc (inl l) = inl (λ t. told_before a b c same bc t (l t))
  damaged_before same bc (inr x) = inr (x.0, record { absent = λ t. held_before a b c same bc t (x.1.absent t); locked = λ t. told_before a b c same bc t (x.1.locked t) })

pub cause_after : {may : StoreError → Bool} {observed : Bool} {source : Source} {key : StoreKey} {digest : List ℕ} {lines : List ListingLine} {e : StoreError} {a b c : DirAt} → Follows observed a b → ImportCause may observed source key digest lines e b c → ImportCause may observed source key digest lines e a c
cause_after {may} {observed} {source} {key} {digest} {lines} {e} {a} {b} {c} ab x = record {
  kind = x.kind;
  fault = λ is. fault_after a b c ab (x.fault is);
  busy = λ area is t. held_after a b c ab t (x.busy area is t);
  damaged = λ path is. part_after observed key path lines source a b c ab (x.damaged path is);
  conflict = λ other stored fresh is. conflict_after ab (x.conflict other stored fresh is);
  stray = λ is t. stray_after t ab (x.stray is t);
}

pub cause_before : {may : StoreError → Bool} {observed : Bool} {source : Source} {key : StoreKey} {digest : List ℕ} {lines : List ListingLine} {e : StoreError} {a b c : DirAt} → b.process ≡ a.process → ImportCause may observed source key digest lines e a b → Follows observed b c → ImportCause may observed source key digest lines e a c
cause_before {may} {observed} {source} {key} {digest} {lines} {e} {a} {b} {c} same x bc = record {
  kind = x.kind;
  fault = λ is. fault_before a b c same bc (x.fault is);
  busy = λ area is t. held_before a b c same bc t (x.busy area is t);
  damaged = λ path is. part_before observed key path lines source a b c same (x.damaged path is) bc;
  conflict = λ other stored fresh is. conflict_before same (x.conflict other stored fresh is) bc;
  stray = λ is t. stray_before t same (x.stray is t) bc;
}

pub turn_within : {observed : Bool} {source : Source} {key : StoreKey} {lines : List ListingLine} {e : StoreError} (a b c d : DirAt) → Follows observed a b → c.process ≡ a.process → Follows observed c d → FoundInTurn observed source key lines e b c → FoundInTurn observed source key lines e a d
turn_within a b c d ab same cd x = record {
  late = λ is t. held_before a c d same cd t (held_after a b c ab t (x.late is t));
  damaged = λ path is. damaged_before a c d same cd (damaged_after a b c ab (x.damaged path is));
}

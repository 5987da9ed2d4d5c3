-- Why an import was refused in a part of a time, it was refused in the whole; and so it came to a stored image.
use Rattle.std.proofs.Common.{arith, ◌≡◌, ◌⊎◌, inl, inr, ◌≤◌, ℕ, Bool, true, List, [], ◌∷◌, ◌++◌, append-nil, append_assoc, refl, sym, ap, subst, ◌∙◌}
use Rattle.ac_types.specs.declared.store_key.StoreKey.{StoreKey}
use Rattle.dir_model.specs.declared.event.Event.{Event}
use Rattle.dir_model.specs.declared.spot.Mode.TheVariants.{Shared}
use Rattle.dir_model.specs.declared.spot.Spot.{Spot}
use Rattle.dir_model.specs.declared.request.Request.TheVariants.{MoveFolder}
use Rattle.dir_model.specs.declared.request.Reply.TheVariants.{Done}
use Rattle.dir_model.specs.Calls.{event}
use Rattle.dir_model.specs.Causes.{Rose}
use Rattle.dir_rules.specs.declared.seen.Entry.{Entry}
use Rattle.dir_trait.specs.DirCalls.{DirAt}
use Rattle.dir_files.specs.AreaLocks.{IsBusy}
use Rattle.tree_digest.specs.declared.line.ListingLine.{ListingLine}
use Rattle.image_reading.specs.declared.error.StoreError.{StoreError}
use Rattle.image_reading.specs.Places.{IsImageAbsent}
use Rattle.image_store.specs.Causes.{Source, FindsLackingPart, UnlikeListed, Conflicts, StrayCause, DamagedInTurn, ImportCause}
use Rattle.image_store.specs.Imports.{key_of_image, IsImportRefused, RefusalComesInTurn, IsImported}
use Rattle.commands.proofs.Parts.{Part, within_wider, held_wider}

-- the time between the inner two moments is a part of that between the outer two, and the count of faults never fell
pub record Span (observed : Bool) (old first last new : DirAt) : Type 0 where
  pub part : observed ≡ true → Part old first last new
  pub before : old.faults ≤ first.faults
  pub after : last.faults ≤ new.faults

-- a part that is all
pub itself : (d : DirAt) → Part d d d d
itself d = record { earlier = []; later = []; same = refl; begins = sym (append-nil d.trace); ends = sym (append-nil d.trace) }

rose_within : (a b c d : ℕ) → a ≤ b → Rose b c → c ≤ d → Rose a d
rose_within a b c d ab rose cd = omega arith

module _ {old first last new : DirAt} (p : Part old first last new) where
  pub stray_wider : {key : StoreKey} → StrayCause key first last → StrayCause key old new
  stray_wider {key} (inl w) = inl (within_wider p w)
  stray_wider {key} (inr v) = inr (within_wider p v)

  pub imported_wider : {from to : Spot} {P : List Entry → Type 0} → IsImported first.process from to P first.trace last.trace → IsImported old.process from to P old.trace new.trace
  imported_wider {from} {to} {P} i =
      let x : IsImported old.process from to P first.trace last.trace = subst (λ (me : ℕ). IsImported me from to P first.trace last.trace) p.same i in
      record {
        before = x.before;
        later = x.later ++ p.later;
        meanwhile = p.earlier ++ x.meanwhile;
        begins = x.begins ∙ (ap (λ (h : List Event). h ++ x.meanwhile) p.begins ∙ append_assoc old.trace p.earlier x.meanwhile);
        moved = p.ends ∙ (ap (λ (h : List Event). h ++ p.later) x.moved ∙ append_assoc x.before (event old.process (MoveFolder from to) Done ∷ x.later) p.later);
        folder = x.folder;
        stands = x.stands;
        holds = x.holds;
      }

module _ {observed : Bool} {old first last new : DirAt} (s : Span observed old first last new) where
  conflict_wider : {key other : StoreKey} {digest stored fresh : List ℕ} → Conflicts observed key other digest stored fresh first last → Conflicts observed key other digest stored fresh old new
  conflict_wider {key} {other} {digest} {stored} {fresh} x = record { key_is = x.key_is; new_is = x.new_is; differ = x.differ; there = λ t. within_wider (s.part t) (x.there t) }

  damage_wider : (key : StoreKey) (path : List ℕ) (lines : List ListingLine) (source : Source) → FindsLackingPart observed key path first last ⊎ UnlikeListed source lines path → FindsLackingPart observed key path old new ⊎ UnlikeListed source lines path
  damage_wider key path lines source (inl l) = inl (λ t. within_wider (s.part t) (l t))
  damage_wider key path lines source (inr u) = inr u

  cause_wider : {may : StoreError → Bool} {source : Source} {key : StoreKey} {digest : List ℕ} {lines : List ListingLine} {e : StoreError} → ImportCause may observed source key digest lines e first last → ImportCause may observed source key digest lines e old new
  cause_wider {may} {source} {key} {digest} {lines} {e} x = record {
    kind = x.kind;
    fault = λ is. rose_within old.faults first.faults last.faults new.faults s.before (x.fault is) s.after;
    busy = λ area is t. held_wider (s.part t) (IsBusy area Shared) (x.busy area is t);
    damaged = λ path is. damage_wider key path lines source (x.damaged path is);
    conflict = λ other stored fresh is. conflict_wider (x.conflict other stored fresh is);
    stray = λ is t. stray_wider (s.part t) (x.stray is t);
  }

  pub refused_wider : (source : Source) (e : StoreError) → IsImportRefused observed source e first last → IsImportRefused observed source e old new
  refused_wider source e (inl x) = inl x
  refused_wider source e (inr x) = inr (x.0, x.1, cause_wider x.2)

  in_turn_wider : {source : Source} {key : StoreKey} {lines : List ListingLine} {path : List ℕ} → DamagedInTurn observed source key lines path first last → DamagedInTurn observed source key lines path old new
  in_turn_wider {key = key} (inl l) = inl (λ t. within_wider (s.part t) (l t))
  in_turn_wider {key = key} (inr x) = inr (x.0, record { absent = λ t. held_wider (s.part t) (IsImageAbsent key) (x.1.absent t); locked = λ t. within_wider (s.part t) (x.1.locked t) })

  pub turn_wider : (source : Source) (e : StoreError) → RefusalComesInTurn observed source e first last → RefusalComesInTurn observed source e old new
  turn_wider source e turn = record {
    late = λ late. let x = turn.late late in (x.0, x.1, λ t. held_wider (s.part t) (IsImageAbsent (key_of_image x.0)) (x.2 t));
    damaged = λ path is. let x = turn.damaged path is in (x.0, x.1, in_turn_wider x.2);
  }

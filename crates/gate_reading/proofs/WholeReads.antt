-- What was read of a file of an image under the gate is the file of the beginning.
use Rattle.std.proofs.Common.{arith, ◌≡◌, ◌⊎◌, inl, inr, ◌<◌, ℕ, Bool, true, Option, Some, None, option_map, List, [], ◌∷◌, ◌++◌, length, take, append_assoc, append-nil, sym, ap, subst, ◌∙◌}
use Rattle.dir_model.specs.declared.area.Area.TheVariants.{Images}
use Rattle.dir_model.specs.declared.event.Event.{Event}
use Rattle.dir_model.specs.declared.item.Inner.{Inner}
use Rattle.dir_model.specs.declared.request.Request.{Request}
use Rattle.dir_model.specs.declared.spot.Spot.{Spot}
use Rattle.dir_model.specs.State.{stands}
use Rattle.dir_model.specs.Trace.{state_after}
use Rattle.dir_model.specs.Calls.{AtOwnStep}
use Rattle.dir_model.proofs.Moments.{at_within, at_grown}
use Rattle.dir_rules.specs.declared.seen.Seen.{Seen}
use Rattle.dir_rules.specs.Standing.{is_in}
use Rattle.dir_trait.specs.DirCalls.{DirAt}
use Rattle.dir_files.specs.Reads.{inner_at, file_at, TellsFile, IsPiece, Piece, joined_pieces, AreTold, IsShort, ReadsUp, WasMissing, FileStaysBetween}
use Rattle.gate_reading.specs.Gate.{GoesOnUnderLock}
use Rattle.gate_reading.specs.Files.{is_outside_stage1, FindsFrom}
use Rattle.gate_reading.proofs.Callers.{file_found}

module _ (me : ℕ) (inner : Inner) (old : List Event) where
  -- what was told at an own step was told of the file that is found at each
  found_at : (found : Option (List ℕ)) (P : Option (List ℕ) → Type 0) {new : List Event} → FindsFrom me inner found old new →
      AtOwnStep me old new (TellsFile inner P) → P found
  found_at found P {new} finds at =
      let x = finds at.later at.rest at.step (at.ends ∙ ap (λ (h : List Event). (h ++ at.step ∷ []) ++ at.rest) at.begins) at.own in
      let here = subst (λ (h : List Event). TellsFile inner P (state_after (h ++ at.step ∷ []))) at.begins at.holds in
      subst P x.1 (here x.0)

  told_grown : (pieces : List Piece) {new : List Event} → AreTold me inner old pieces new → (more : List Event) × (new ≡ old ++ more)
  told_grown [] {new} told = ([], told ∙ sym (append-nil old))
  told_grown (p ∷ earlier) {new} told =
      let e = told_grown earlier told.earlier in
      let g = at_grown told.told in
      (e.0 ++ g.0, g.1 ∙ (ap (λ (h : List Event). h ++ g.0) e.1 ∙ append_assoc old e.0 g.0))

  -- where none is found, none was read
  nothing_read : (most : ℕ) (bytes : List ℕ) (pieces : List Piece) {new : List Event} → 0 < most → FindsFrom me inner None old new →
      bytes ≡ joined_pieces pieces → AreTold me inner old pieces new → (length bytes ≡ most) ⊎ IsShort pieces → ⊥
  nothing_read most bytes [] {new} some finds whole told (inl full) = let e = ap length whole in omega (arith, e, full, some)
  nothing_read most bytes [] {new} some finds whole told (inr short) = short
  nothing_read most bytes (p ∷ earlier) {new} some finds whole told ended =
      let e = told_grown earlier told.earlier in
      found_at None (IsPiece (length (joined_pieces earlier)) p.room p.bytes) finds
      (at_within e.0 [] e.1 (sym (append-nil new)) told.told)

-- by what its calls promised and what it knows
module _ {asks : Request → Bool} {s : Seen} {old new : DirAt} (g : GoesOnUnderLock asks s old new) (spot : Spot) (path : List ℕ)
    (is : is_in Images spot.area ≡ true) (plain : is_outside_stage1 path ≡ true) (there : stands (state_after old.trace).namespace spot ≡ true) where
  -- a file that was read to its end or to a limit, and is that part of one that stays, is that part of the one that stood there
  pub read_is : {most : ℕ} {bytes : List ℕ} → 0 < most → ReadsUp (inner_at spot path) most old new bytes
      → ((file : List ℕ) → FileStaysBetween (inner_at spot path) file old new → bytes ≡ take most file) →
      option_map (take most) (file_at (state_after old.trace) (inner_at spot path)) ≡ Some bytes
  read_is {most} {bytes} some r whole = by (file_at (state_after old.trace) (inner_at spot path)) (file_found g spot path is plain there)
    where
      by : (found : Option (List ℕ)) → FindsFrom old.process (inner_at spot path) found old.trace new.trace →
          option_map (take most) found ≡ Some bytes
      by None finds =
          absurd (nothing_read old.process (inner_at spot path) old.trace most bytes r.reads.pieces some finds r.reads.whole r.reads.told r.ended)
      by (Some file) finds = ap Some (sym (whole file finds))

  -- where none was there, none stood there
  pub missing_is : WasMissing (inner_at spot path) old new → file_at (state_after old.trace) (inner_at spot path) ≡ None
  missing_is w =
      found_at old.process (inner_at spot path) old.trace (file_at (state_after old.trace) (inner_at spot path)) (λ file. file ≡ None)
      (file_found g spot path is plain there) w

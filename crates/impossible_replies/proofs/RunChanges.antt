-- What a step changes in a pod in run: nothing, or one piece of a file is added by a make or an append there.
use Rattle.std.proofs.Common.{◌≡◌, ◌⊎◌, inl, inr, ℕ, Bool, true, false, ◌==◌, Option, Some, None, List, [], ◌∷◌, ◌++◌, take, append-nil, refl, sym, ap, subst}
use Rattle.std.proofs.lemmas.Bool.{and_parts}
use Rattle.plain_laws.proofs.Booleans.{clash}
use Rattle.dir_model.specs.declared.area.Area.{Area}
use Rattle.dir_model.specs.declared.area.Area.TheVariants.{Embryo, Prepare, Run, ExitedGarbage, Garbage, Incoming, Removed}
use Rattle.dir_model.specs.declared.spot.Spot.{Spot}
use Rattle.dir_model.specs.declared.item.Inner.{Inner}
use Rattle.dir_model.specs.declared.opening.Target.{Target}
use Rattle.dir_model.specs.declared.opening.Target.TheVariants.{Own, Claim, Gate}
use Rattle.dir_model.specs.declared.tree.TreeNode.TheVariants.{Dir, Piece}
use Rattle.dir_model.specs.declared.request.Request.{Request}
use Rattle.dir_model.specs.declared.request.Request.TheVariants.{MakeDirIn, MakeFileIn, AppendIn, RemoveFileIn, RemoveDirIn}
use Rattle.dir_model.specs.declared.request.Reply.{Reply}
use Rattle.dir_model.specs.declared.request.Reply.TheVariants.{Done, Refused}
use Rattle.dir_model.specs.State.{DirState, folder_at, spot_eq}
use Rattle.dir_model.specs.Trace.{state_next}
use Rattle.dir_model.specs.Locks.{is_exclusive}
use Rattle.dir_model.specs.Calls.{is_kill, event}
use Rattle.dir_rules.specs.declared.seen.Seen.{Seen}
use Rattle.dir_rules.specs.declared.seen.Making.{Making}
use Rattle.dir_rules.specs.declared.standing.Standing.{Standing}
use Rattle.dir_rules.specs.Seen.{makes_at, is_making_area}
use Rattle.dir_rules.specs.Standing.{is_in}
use Rattle.dir_rules.specs.LockRules.{lock_rules_allow, may_remove, is_removal_held, is_removal_target}
use Rattle.dir_rules.specs.Rules.{allows, content_rules_allow}
use Rattle.lifecycle.proofs.Lists.{any_in}
use Rattle.dir_model.proofs.Lists.{and_left, and_right}
use Rattle.folder_contents.specs.Entries.{entries_in}
use Rattle.folder_contents.proofs.Entries.{placed_here, placed_away, removed_away}
use Rattle.folder_contents.proofs.Spots.{one_location}
use Rattle.impossible_replies.proofs.Citing.{building_its}

-- nothing is removed in run
removal_elsewhere : (k : Standing) (spot : Spot) → may_remove k spot ≡ true → is_in Run spot.area ≡ false
removal_elsewhere k spot h =
    let e = any_in (is_removal_held spot) k.holdings h in
    by e.0.target spot.area (and_parts (is_exclusive e.0.lock) (is_removal_target spot e.0.target) e.1.1).1
  where
    by : (t : Target) (a : Area) → is_removal_target (record { area = a; name = spot.name }) t ≡ true → is_in Run a ≡ false
    by (Own here) ExitedGarbage h = refl
    by (Own here) Garbage h = refl
    by (Own here) a h = cc
    by (Claim here) a h = cc
    by (Gate gate) Removed h = refl
    by (Gate gate) a h = cc

-- nor is a folder made there
making_elsewhere : (a : Area) → is_making_area a ≡ true → is_in Run a ≡ false
making_elsewhere Embryo h = refl
making_elsewhere Prepare h = refl
making_elsewhere Incoming h = refl
making_elsewhere a h = cc

pub makes_elsewhere : (making : Option Making) (spot : Spot) → makes_at making spot ≡ true → is_in Run spot.area ≡ false
makes_elsewhere None spot h = cc
makes_elsewhere (Some m) spot h = making_elsewhere spot.area (and_right (spot_eq m.spot spot) (is_making_area spot.area) h)

building_makes : (g : Seen) (i : Inner) → allows g (MakeDirIn i) ≡ true → makes_at g.making i.spot ≡ true
building_makes g i may = building_its g (MakeDirIn i) refl may

elsewhere : (here spot : Spot) → is_in Run here.area ≡ true → is_in Run spot.area ≡ false → spot_eq here spot ≡ false
elsewhere here spot on off = by (spot_eq here spot) refl
  where
    by : (b : Bool) → spot_eq here spot ≡ b → b ≡ false
    by false e = refl
    by true e = clash (is_in Run here.area) on (subst (λ (x : Spot). is_in Run x.area ≡ false) (sym (one_location here spot e)) off)

-- one piece more, of the file that the request is about
pub record Written (s : DirState) (q : ℕ) (request : Request) (reply : Reply) (k : ℕ) (here : Spot) : Type 0 where
  pub inner : Inner
  pub bytes : List ℕ
  pub at : spot_eq here inner.spot ≡ true
  pub asked : (request ≡ MakeFileIn inner) ⊎ ((piece : List ℕ) × (request ≡ AppendIn inner piece))
  pub made : request ≡ MakeFileIn inner → reply ≡ Done
  pub grown : entries_in k (state_next s (event q request reply)).entries ≡ entries_in k s.entries ++ record { path = inner.path; node = Piece bytes } ∷ []

pub run_change : (s : DirState) (q : ℕ) (g : Seen) (request : Request) (reply : Reply) (k : ℕ) (here : Spot) → is_in Run here.area ≡ true →
    folder_at s.namespace here ≡ Some k → (is_kill request ≡ false → allows g request ≡ true) →
    (entries_in k (state_next s (event q request reply)).entries ≡ entries_in k s.entries) ⊎ Written s q request reply k here
run_change s q g (MakeDirIn i) Done k here run at may =
    inl (placed_away s.namespace k here i.spot i.path Dir s.entries at (elsewhere here i.spot run (makes_elsewhere g.making i.spot
    (building_makes g i (may refl)))))
run_change s q g (MakeFileIn i) Done k here run at may = by (spot_eq here i.spot) refl
  where
    by : (b : Bool) → spot_eq here i.spot ≡ b →
        (entries_in k (state_next s (event q (MakeFileIn i) Done)).entries ≡ entries_in k s.entries) ⊎ Written s q (MakeFileIn i) Done k here
    by true e = inr (record { inner = i; bytes = []; at = e; asked = inl refl; made = λ is. refl; grown = placed_here s.namespace k here i.spot i.path (Piece []) s.entries at e })
    by false e = inl (placed_away s.namespace k here i.spot i.path (Piece []) s.entries at e)
run_change s q g (AppendIn i piece) Done k here run at may = by (spot_eq here i.spot) refl
  where
    by : (b : Bool) → spot_eq here i.spot ≡ b →
        (entries_in k (state_next s (event q (AppendIn i piece) Done)).entries ≡ entries_in k s.entries) ⊎ Written s q (AppendIn i piece) Done k here
    by true e = inr (record { inner = i; bytes = piece; at = e; asked = inr (piece, refl); made = λ is. cc; grown = placed_here s.namespace k here i.spot i.path (Piece piece) s.entries at e })
    by false e = inl (placed_away s.namespace k here i.spot i.path (Piece piece) s.entries at e)
run_change s q g (AppendIn i piece) (Refused error left) k here run at may = by (left == 0) (spot_eq here i.spot) refl refl
  where
    by : (z b : Bool) → (left == 0) ≡ z → spot_eq here i.spot ≡ b →
        (entries_in k (state_next s (event q (AppendIn i piece) (Refused error left))).entries ≡ entries_in k s.entries) ⊎ Written s q (AppendIn i piece) (Refused error left) k here
    by true b z e = inl (rw z (ap (entries_in k) (append-nil s.entries)))
    by false true z e = inr (record {
      inner = i;
      bytes = take left piece;
      at = e;
      asked = inr (piece, refl);
      made = λ is. cc;
      grown = rw z (placed_here s.namespace k here i.spot i.path (Piece (take left piece)) s.entries at e);
    })
    by false false z e = inl (rw z (placed_away s.namespace k here i.spot i.path (Piece (take left piece)) s.entries at e))
run_change s q g (RemoveFileIn i) Done k here run at may =
    inl (removed_away s.namespace k here i.spot i.path s.entries at (elsewhere here i.spot run
    (removal_elsewhere g.standing i.spot (and_left (lock_rules_allow g.standing (RemoveFileIn i)) (content_rules_allow g (RemoveFileIn i)) (may refl)))))
run_change s q g (RemoveDirIn i) Done k here run at may =
    inl (removed_away s.namespace k here i.spot i.path s.entries at (elsewhere here i.spot run
    (removal_elsewhere g.standing i.spot (and_left (lock_rules_allow g.standing (RemoveDirIn i)) (content_rules_allow g (RemoveDirIn i)) (may refl)))))
run_change s q g request reply k here run at may = inl (ap (entries_in k) (append-nil s.entries))

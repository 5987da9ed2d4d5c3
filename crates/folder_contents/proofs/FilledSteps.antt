-- One step: what lasts in a pod that stands in prepared or in run, and where the pod stands then.
use Rattle.std.proofs.Common.{arith, ◌≡◌, ◌⊎◌, inl, inr, ◌<◌, ℕ, Bool, true, false, not, ◌&&◌, ◌==◌, cond, Option, Some, None, option_map, option_to_list, unwrap_or, List, [], ◌∷◌, ◌++◌, slice_get, take, append-nil, refl, sym, ap, subst, ◌∙◌}
use Rattle.std.specs.Prelude.{nat_lt}
use Rattle.std.proofs.lemmas.Option.{slice_get-map}
use Rattle.std.proofs.lemmas.Bool.Decides.{nat_tests}
use Rattle.plain_laws.proofs.Booleans.{clash}
use Rattle.plain_laws.proofs.Lists.{get_pushed}
use Rattle.dir_model.specs.declared.area.Area.{Area}
use Rattle.dir_model.specs.declared.area.Area.TheVariants.{Embryo, Prepare, Prepared, Run, ExitedGarbage, Garbage, Incoming, Images, Trees, Removed}
use Rattle.dir_model.specs.declared.event.Event.{Event}
use Rattle.dir_model.specs.declared.item.Inner.{Inner}
use Rattle.dir_model.specs.declared.spot.Spot.{Spot}
use Rattle.dir_model.specs.declared.tree.TreeNode.{TreeNode}
use Rattle.dir_model.specs.declared.tree.TreeNode.TheVariants.{Dir, Piece}
use Rattle.dir_model.specs.declared.request.Request.{Request}
use Rattle.dir_model.specs.declared.request.Request.TheVariants.{MakeFolder, MoveFolder, MakeDirIn, MakeFileIn, AppendIn, RemoveFileIn, RemoveDirIn, RemoveFolder, Open, OpenArea}
use Rattle.dir_model.specs.declared.request.Reply.{Reply}
use Rattle.dir_model.specs.declared.request.Reply.TheVariants.{Done, Opened, Refused}
use Rattle.dir_model.specs.Areas.{rank}
use Rattle.dir_model.specs.State.{Namespace, DirState, folder_at, spot_eq, is_at}
use Rattle.dir_model.specs.Trace.{state_next, state_after, namespace_replied, placed, moved, removed}
use Rattle.dir_model.specs.Calls.{is_kill, event}
use Rattle.dir_model.proofs.Chains.{state_after-push}
use Rattle.dir_model.proofs.Lists.{and_left, filter_past}
use Rattle.dir_rules.specs.declared.seen.Seen.{Seen}
use Rattle.dir_rules.specs.declared.seen.Entry.{Entry}
use Rattle.dir_rules.specs.LockRules.{lock_rules_allow}
use Rattle.dir_rules.specs.Rules.{allows, content_rules_allow}
use Rattle.dir_rules.specs.Conforms.{seen_of}
use Rattle.lifecycle.proofs.Places.{area_same, spot_turn}
use Rattle.folder_contents.specs.Entries.{entries_in}
use Rattle.folder_contents.proofs.Along.{Happens}
use Rattle.folder_contents.proofs.Entries.{placed_here, placed_away, removed_away}
use Rattle.folder_contents.proofs.Handed.{brought}
use Rattle.folder_contents.proofs.Spots.{one_location}
use Rattle.folder_contents.proofs.Unmoved.{further}
use Rattle.folder_contents.specs.Filled.{is_after_handover, is_note, lasting, lasting_after}
use Rattle.folder_contents.proofs.Notes.{make_note, append_note, no_directory, no_removal}

-- a location in another place than a filled pod's is another location
off_filled : (here spot : Spot) → is_after_handover here.area ≡ true → (spot_eq here spot ≡ true → is_after_handover spot.area ≡ true → ⊥) → spot_eq here spot ≡ false
off_filled here spot filled never = by (spot_eq here spot) refl
  where
    by : (b : Bool) → spot_eq here spot ≡ b → b ≡ false
    by false e = refl
    by true e = absurd (never e (ap (λ (z : Spot). is_after_handover z.area) (sym (one_location here spot e)) ∙ filled))

not_note : (b : Bool) → b ≡ true → not b ≡ false
not_note true h = refl
not_note false h = cc

-- an entry that is noted
placed_note : (n : Namespace) (k : ℕ) (here : Spot) (i : Inner) (node : TreeNode) (s : DirState) →
    folder_at s.namespace here ≡ Some k → (spot_eq here i.spot ≡ true → is_note i.path ≡ true) →
    lasting (entries_in k (s.entries ++ option_to_list (placed (folder_at s.namespace i.spot) i.path node))) ≡ lasting (entries_in k s.entries)
placed_note n k here i node s at noted = by (spot_eq here i.spot) refl
  where
    by : (b : Bool) → spot_eq here i.spot ≡ b →
        lasting (entries_in k (s.entries ++ option_to_list (placed (folder_at s.namespace i.spot) i.path node))) ≡ lasting (entries_in k s.entries)
    by false e = ap lasting (placed_away s.namespace k here i.spot i.path node s.entries at e)
    by true e =
        ap lasting (placed_here s.namespace k here i.spot i.path node s.entries at e)
        ∙ filter_past (λ (x : Entry). not (is_note x.path)) (entries_in k s.entries) (record { path = i.path; node = node }) (not_note (is_note i.path) (noted e))

-- what lasts there goes on to stand there
pub lasting_next : (s : DirState) (q : ℕ) (g : Seen) (request : Request) (reply : Reply) (k : ℕ) (here : Spot) →
    folder_at s.namespace here ≡ Some k → is_after_handover here.area ≡ true → (is_kill request ≡ false → allows g request ≡ true) →
    lasting (entries_in k (state_next s (event q request reply)).entries) ≡ lasting (entries_in k s.entries)
lasting_next s q g (MakeDirIn i) Done k here at filled may =
    ap lasting (placed_away s.namespace k here i.spot i.path Dir s.entries at
    (off_filled here i.spot filled (λ e there. no_directory g i there (may refl))))
lasting_next s q g (MakeFileIn i) Done k here at filled may =
    placed_note s.namespace k here i (Piece []) s at
    (λ e. make_note g i (ap (λ (z : Spot). is_after_handover z.area) (sym (one_location here i.spot e)) ∙ filled) (may refl))
lasting_next s q g (AppendIn i piece) Done k here at filled may =
    placed_note s.namespace k here i (Piece piece) s at
    (λ e. append_note g i piece (ap (λ (z : Spot). is_after_handover z.area) (sym (one_location here i.spot e)) ∙ filled) (may refl))
lasting_next s q g (AppendIn i piece) (Refused e left) k here at filled may = by (left == 0)
  where
    by : (b : Bool) → lasting (entries_in k (s.entries ++ option_to_list (cond b None
        (placed (folder_at s.namespace i.spot) i.path (Piece (take left piece)))))) ≡ lasting (entries_in k s.entries)
    by true = ap (λ es. lasting (entries_in k es)) (append-nil s.entries)
    by false =
        placed_note s.namespace k here i (Piece (take left piece)) s at
        (λ e. append_note g i piece (ap (λ (z : Spot). is_after_handover z.area) (sym (one_location here i.spot e)) ∙ filled) (may refl))
lasting_next s q g (RemoveFileIn i) Done k here at filled may =
    ap lasting (removed_away s.namespace k here i.spot i.path s.entries at
    (off_filled here i.spot filled (λ e there. clash (is_after_handover i.spot.area) there
    (no_removal g.standing i.spot (and_left (lock_rules_allow g.standing (RemoveFileIn i)) (content_rules_allow g (RemoveFileIn i)) (may refl))))))
lasting_next s q g (RemoveDirIn i) Done k here at filled may =
    ap lasting (removed_away s.namespace k here i.spot i.path s.entries at
    (off_filled here i.spot filled (λ e there. clash (is_after_handover i.spot.area) there
    (no_removal g.standing i.spot (and_left (lock_rules_allow g.standing (RemoveDirIn i)) (content_rules_allow g (RemoveDirIn i)) (may refl))))))
lasting_next s q g request reply k here at filled may = ap (λ es. lasting (entries_in k es)) (append-nil s.entries)

-- the same of an event of an execution
pub lasts : (h : List Event) (e : Event) → Happens h e → (spot : Spot) (k : ℕ) → is_after_handover spot.area ≡ true →
    folder_at (state_after h).namespace spot ≡ Some k → lasting_after k (h ++ e ∷ []) ≡ lasting_after k h
lasts h e x spot k filled at =
    ap (λ (z : DirState). lasting (entries_in k z.entries)) (state_after-push h e)
    ∙ lasting_next (state_after h) e.process (seen_of e.process h) e.request e.reply k spot at filled x.may

-- further along than run, or gone
abbrev pub is_late : Option Spot → Bool
is_late None = true
is_late (Some spot) = nat_lt 3 (rank spot.area)

abbrev pub IsLate : Namespace → ℕ → Type 0
IsLate n k = (z : Option Spot) × ((slice_get n.folders k ≡ Some z) × (is_late z ≡ true))

-- a folder that is so far along goes on being so
pub late_next : (n : Namespace) (p : ℕ) (g : Seen) (request : Request) (reply : Reply) (k : ℕ) (y : Option Spot) →
    (is_kill request ≡ false → allows g request ≡ true) → slice_get n.folders k ≡ Some y → is_late y ≡ true →
    IsLate (namespace_replied n p request reply) k
late_next n p g (MakeFolder spot) Done k y may at late = (y, (get_pushed n.folders (Some spot) y k at, late))
late_next n p g (MoveFolder from to) Done k y may at late =
    (moved from to y, (slice_get-map (moved from to) n.folders k ∙ ap (option_map (moved from to)) at, on y (is_at from y) refl late))
  where
    later : (a b c : ℕ) → a < b → c ≡ a → nat_lt 3 c ≡ true → nat_lt 3 b ≡ true
    later a b c up same late = grind (arith, nat_tests)

    on : (y : Option Spot) (b : Bool) → is_at from y ≡ b → is_late y ≡ true → is_late (cond b (Some to) y) ≡ true
    on None true e l = cc
    on None false e l = refl
    on (Some here) false e l = l
    on (Some here) true e l =
        later (rank from.area) (rank to.area) (rank here.area) (further g from to from.area to.area (brought g from to (may refl))) (area_same here from e) l
late_next n p g (RemoveFolder gone) Done k y may at late =
    (removed gone y, (slice_get-map (removed gone) n.folders k ∙ ap (option_map (removed gone)) at, on (is_at gone y)))
  where
    on : (b : Bool) → is_late (cond b None y) ≡ true
    on true = refl
    on false = late
late_next n p g (Open spot which) (Opened h) k y may at late = (y, (at, late))
late_next n p g (OpenArea a) (Opened h) k y may at late = (y, (at, late))
late_next n p g request (Opened h) k y may at late = (y, (at, late))
late_next n p g request Done k y may at late = (y, (at, late))
late_next n p g request reply k y may at late = (y, (at, late))

-- a move from there goes to run, or further
filled_rank : (a : Area) → is_after_handover a ≡ true → 1 < rank a
filled_rank Prepared f = omega arith
filled_rank Run f = omega arith
filled_rank a f = cc

pub goes_on : (a b : Area) → is_after_handover a ≡ true → rank a < rank b → (is_after_handover b ≡ true) ⊎ (nat_lt 3 (rank b) ≡ true)
goes_on a b f up = by b up (filled_rank a f)
  where
    by : (b : Area) → rank a < rank b → 1 < rank a → (is_after_handover b ≡ true) ⊎ (nat_lt 3 (rank b) ≡ true)
    by Embryo up low = absurd (omega (arith, up, low))
    by Prepare up low = absurd (omega (arith, up, low))
    by Prepared up low = inl refl
    by Run up low = inl refl
    by b up low = inr refl

-- A folder stays, and what stands directly in it, while only other folders are dealt with.
use Rattle.std.proofs.Common.{◌≡◌, ◌||◌, ◌==◌, ℕ, true, false, bytes_eq, Option, Some, List, [], refl, sym, ap, subst, ◌∙◌}
use Rattle.plain_laws.proofs.Texts.{same_text}
use Rattle.dir_model.specs.declared.area.Area.{Area}
use Rattle.dir_model.specs.declared.area.Area.TheVariants as area
use Rattle.dir_model.specs.declared.item.Inner.{Inner}
use Rattle.dir_model.specs.declared.item.Item.{Item}
use Rattle.dir_model.specs.declared.pod.PodId.{PodId}
use Rattle.dir_model.specs.declared.spot.Handle.{Handle}
use Rattle.dir_model.specs.declared.spot.Mode.TheVariants.{Exclusive}
use Rattle.dir_model.specs.declared.spot.Spot.{Spot}
use Rattle.dir_model.specs.declared.request.Request.{Request}
use Rattle.dir_model.specs.declared.request.Request.TheVariants.{Begin, ListArea, OpenArea, TryLock, Close, MakeFolder, MoveFolder, RemoveFolder, MakeDirIn, MakeFileIn, AppendIn, ListIn, RemoveFileIn, RemoveDirIn, Kill}
use Rattle.dir_model.specs.declared.request.Reply.{Reply}
use Rattle.dir_model.specs.declared.request.Reply.TheVariants.{Done}
use Rattle.dir_model.specs.Areas.{rank, is_stage}
use Rattle.dir_model.specs.Calls.{event, is_begin, is_kill}
use Rattle.dir_model.specs.Listings.{has_name}
use Rattle.dir_model.specs.Pods.{pod_text}
use Rattle.dir_model.specs.State.{Namespace, DirState, spot_eq, folder_at}
use Rattle.dir_model.specs.Trace.{state_next, namespace_replied}
use Rattle.dir_model.specs.Trees.{items_in}
use Rattle.dir_model.proofs.Lists.{and_left, and_right}
use Rattle.dir_files.specs.AreaLocks.{is_taking_area, closes}
use Rattle.lifecycle.proofs.Places.{moved_elsewhere, removed_elsewhere}
use Rattle.dir_model.specs.Spots.{pod_spot}
use Rattle.pod_gc.specs.Requests.{lists_pod_area, lists_marks, deals_with_pod}
use Rattle.pod_gc.specs.Told.{deals_with_pods}
use Rattle.pod_gc.proofs.Asking.{some_sweep}
use Rattle.commands.proofs.OwnSteps.{same_folders}
use Rattle.commands.proofs.FolderItems.{changed, items_replied}
use Rattle.commands.proofs.GcTells.{among, apart, deals_moves, deals_removes}

module _ (spot : Spot) where
  -- what is asked for is of other folders
  abbrev pub Off : Request → Type 0
  Off (MakeFolder new) = ⊥
  Off (MoveFolder from to) = (spot_eq from spot ≡ false) × (spot_eq to spot ≡ false)
  Off (RemoveFolder gone) = spot_eq gone spot ≡ false
  Off (MakeDirIn i) = spot_eq i.spot spot ≡ false
  Off (MakeFileIn i) = spot_eq i.spot spot ≡ false
  Off (AppendIn i piece) = spot_eq i.spot spot ≡ false
  Off (RemoveFileIn i) = spot_eq i.spot spot ≡ false
  Off (RemoveDirIn i) = spot_eq i.spot spot ≡ false
  Off request = Unit {0}

  off_changed : (request : Request) → Off request → (inner : Inner) → changed request ≡ Some inner → spot_eq inner.spot spot ≡ false
  off_changed (MakeDirIn i) off inner is = let same : i ≡ inner = cc in subst (λ (j : Inner). spot_eq j.spot spot ≡ false) same off
  off_changed (MakeFileIn i) off inner is = let same : i ≡ inner = cc in subst (λ (j : Inner). spot_eq j.spot spot ≡ false) same off
  off_changed (AppendIn i piece) off inner is = let same : i ≡ inner = cc in subst (λ (j : Inner). spot_eq j.spot spot ≡ false) same off
  off_changed (RemoveFileIn i) off inner is = let same : i ≡ inner = cc in subst (λ (j : Inner). spot_eq j.spot spot ≡ false) same off
  off_changed (RemoveDirIn i) off inner is = let same : i ≡ inner = cc in subst (λ (j : Inner). spot_eq j.spot spot ≡ false) same off
  off_changed request off inner is = cc

  same_place : (me : ℕ) (n : Namespace) (request : Request) (reply : Reply) → Off request → folder_at (namespace_replied n me request reply) spot ≡ folder_at n spot
  same_place me n (MakeFolder new) reply off = absurd off
  same_place me n (MoveFolder from to) Done off = moved_elsewhere n spot from to off.1 off.0
  same_place me n (MoveFolder from to) reply off = refl
  same_place me n (RemoveFolder gone) Done off = removed_elsewhere n spot gone off
  same_place me n (RemoveFolder gone) reply off = refl
  same_place me n request reply off = ap (λ (fs : List (Option Spot)). folder_at (record n { folders = fs }) spot) (same_folders me n request reply refl (λ handle. refl))

  -- the folder of this number stands there, and this directly in it
  module _ (k : ℕ) (items : List Item) where
    abbrev pub Holds : DirState → Type 0
    Holds s = (folder_at s.namespace spot ≡ Some k) × (items_in k [] s.entries ≡ items)

    pub holds_next : (s : DirState) (me : ℕ) (request : Request) (reply : Reply) → Off request → Holds s → Holds (state_next s (event me request reply))
    holds_next s me request reply off x =
        (same_place me s.namespace request reply off ∙ x.0, items_replied k spot s.namespace x.0 s.entries request reply (λ inner is. off_changed request off inner is) ∙ x.1)

    pub holds_before : (s : DirState) (me : ℕ) (request : Request) (reply : Reply) → Off request → Holds (state_next s (event me request reply)) → Holds s
    holds_before s me request reply off x =
        let at = sym (same_place me s.namespace request reply off) ∙ x.0 in
        (at, sym (items_replied k spot s.namespace at s.entries request reply (λ inner is. off_changed request off inner is)) ∙ x.1)

  -- what asks for nothing else

  pub begin_off : (request : Request) → (is_kill request || is_begin request) ≡ true → Off request
  begin_off (Begin intent) h = tt
  begin_off Kill h = tt
  begin_off request h = cc

  pub lists_off : (a : Area) (request : Request) → (is_kill request || lists_pod_area a request) ≡ true → Off request
  lists_off a (ListArea here) h = tt
  lists_off a Kill h = tt
  lists_off a request h = cc

  pub marks_off : (pod : PodId) (a : Area) (request : Request) → (is_kill request || lists_marks pod a request) ≡ true → Off request
  marks_off pod a (ListIn inner) h = tt
  marks_off pod a Kill h = tt
  marks_off pod a request h = cc

  pub takes_off : (request : Request) → (is_kill request || is_taking_area area.Embryo Exclusive request) ≡ true → Off request
  takes_off (OpenArea here) h = tt
  takes_off (TryLock handle mode) h = tt
  takes_off (Close handle) h = tt
  takes_off Kill h = tt
  takes_off request h = cc

  pub closes_off : (handle : Handle) (request : Request) → (is_kill request || closes handle request) ≡ true → Off request
  closes_off handle (Close given) h = tt
  closes_off handle Kill h = tt
  closes_off handle request h = cc

  marks_named : (p : PodId) (now : ℕ) (here : Area) (i : Inner) → deals_with_pod p now here (MakeFileIn i) ≡ true → pod_text p.bytes ≡ i.spot.name
  marks_named p now here i is =
      same_text (pod_text p.bytes) i.spot.name (and_right (rank area.Run == rank i.spot.area) (bytes_eq (pod_text p.bytes) i.spot.name) (and_left (spot_eq (pod_spot p area.Run) i.spot) _ is))

  module _ (now : ℕ) (here : Area) (stage : is_stage here ≡ true) (names : List (List ℕ)) (unshown : has_name names spot.name ≡ false) (me : ℕ) where
    off : (other : Spot) → has_name names other.name ≡ true → spot_eq other spot ≡ false
    off other shown = apart now here stage names spot unshown me other shown

    pub deals_off : (request : Request) → (is_kill request || deals_with_pods now here names request) ≡ true → Off request
    deals_off (MakeFolder new) h = let clash : false ≡ true = some_sweep now here names stage (MakeFolder new) h in cc
    deals_off (MakeDirIn i) h = let clash : false ≡ true = some_sweep now here names stage (MakeDirIn i) h in cc
    deals_off (AppendIn i piece) h = let clash : false ≡ true = some_sweep now here names stage (AppendIn i piece) h in cc
    deals_off (MoveFolder from to) h = (
      off from (among now here (MoveFolder from to) from.name (λ p is. (deals_moves p now here from to is).0) names h),
      off to (among now here (MoveFolder from to) to.name (λ p is. (deals_moves p now here from to is).1) names h),
    )
    deals_off (RemoveFolder gone) h = off gone (among now here (RemoveFolder gone) gone.name (λ p is. deals_removes p now here gone is) names h)
    deals_off (MakeFileIn i) h = off i.spot (among now here (MakeFileIn i) i.spot.name (λ p is. marks_named p now here i is) names h)
    deals_off (RemoveFileIn i) h = off i.spot (among now here (RemoveFileIn i) i.spot.name (λ p is. deals_removes p now here i.spot is) names h)
    deals_off (RemoveDirIn i) h = off i.spot (among now here (RemoveDirIn i) i.spot.name (λ p is. deals_removes p now here i.spot is) names h)
    deals_off request h = tt

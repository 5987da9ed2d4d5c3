-- What a process that imports knows after its make of the folder and its move.
use Rattle.std.proofs.Common.{◌≡◌, Bool, true, false, ◌&&◌, cond, bytes_eq, Option, Some, None, List, [], ◌∷◌, map, refl, sym, ap, subst, ◌∙◌}
use Rattle.std.specs.List.{list_any}
use Rattle.plain_laws.proofs.Texts.{same_bytes}
use Rattle.dir_model.specs.declared.area.Area.TheVariants.{Incoming, Images}
use Rattle.dir_model.specs.declared.intent.Intent.{Intent}
use Rattle.dir_model.specs.declared.pod.PodId.{PodId}
use Rattle.dir_model.specs.declared.spot.Spot.{Spot}
use Rattle.dir_model.specs.declared.request.DirError.{DirError}
use Rattle.dir_model.specs.declared.request.Request.TheVariants.{MakeFolder, MoveFolder}
use Rattle.dir_model.specs.declared.request.Reply.TheVariants.{Done, Refused}
use Rattle.dir_model.specs.Pods.{pod_text}
use Rattle.dir_model.proofs.Spots.{spot_self}
use Rattle.dir_rules.specs.declared.standing.Held.{Held}
use Rattle.dir_rules.specs.declared.seen.Entry.{Entry}
use Rattle.dir_rules.specs.declared.seen.Making.{Making}
use Rattle.dir_rules.specs.declared.seen.Seen.{Seen}
use Rattle.dir_rules.specs.Standing.{is_gate_shared, uncover}
use Rattle.dir_rules.specs.Seen.{moved_making}
use Rattle.dir_rules.specs.Rules.{allows}
use Rattle.dir_rules.specs.Conforms.{seen_replied}
use Rattle.image_store.specs.Requests.{building_spot}
use Rattle.image_store.specs.Work.{seen_importing, IsImport, holding, UnderImportLocks}

-- handles of no pod stay as they are
still_held : (hs : List Held) (draw : PodId) → map (uncover (building_spot draw)) hs ≡ hs
still_held [] draw = refl
still_held (h ∷ hs) draw = ap (λ l. h ∷ l) (still_held hs draw)

module _ (draw : PodId) (intent : Intent) (hs : List Held) (imports : IsImport draw intent) (under : UnderImportLocks hs) where
  abbrev Here : Spot
  Here = building_spot draw

  drawn : bytes_eq (pod_text intent.draw.bytes) (pod_text draw.bytes) ≡ true
  drawn = ap (λ (d : PodId). bytes_eq (pod_text d.bytes) (pod_text draw.bytes)) imports.drawn ∙ same_bytes (pod_text draw.bytes)

  abbrev Free : Seen
  Free = seen_importing intent hs false None

  may_make : allows Free (MakeFolder Here) ≡ true
  may_make =
      ap (λ b. (b && list_any (is_gate_shared Incoming) hs) && (bytes_eq (pod_text intent.draw.bytes) (pod_text draw.bytes) && true)) imports.kind
      ∙ (ap (λ b. b && (bytes_eq (pod_text intent.draw.bytes) (pod_text draw.bytes) && true)) under.incoming
      ∙ ap (λ b. b && true) drawn)

  abbrev Made : Bool → Bool → Seen
  Made image_under_lock kept = record (seen_importing intent hs image_under_lock (Some (holding Here []))) { kept = kept }

  pub made_seen : seen_replied Free (MakeFolder Here) Done ≡ seen_importing intent hs true (Some (holding Here []))
  made_seen = ap (λ b. Made b (allows Free (MakeFolder Here) && true)) under.incoming ∙ ap (λ b. Made true (b && true)) may_make

  pub unmade_seen : (error : DirError) → seen_replied Free (MakeFolder Here) (Refused error 0) ≡ Free
  unmade_seen error = ap (λ b. let s : Seen = record Free { kept = b && true } in s) may_make

  module _ (entries : List Entry) (to : Spot) (images : to.area ≡ Images) where
    abbrev Filled : Seen
    Filled = seen_importing intent hs true (Some (holding Here entries))

    abbrev Bound : Spot
    Bound = record { area = Images; name = to.name }

    is_bound : to ≡ Bound
    is_bound = ap (λ area. let s : Spot = record { area = area; name = to.name } in s) images

    may_move : allows Filled (MoveFolder Here Bound) ≡ true
    may_move = ap (λ b. (((b && true) && true) && true) && true) (spot_self Here)

    abbrev Moved : List Held → Option Making → Bool → Seen
    Moved held making kept = record (seen_importing intent held false making) { kept = kept }

    pub moved_seen : seen_replied Filled (MoveFolder Here to) Done ≡ seen_importing intent hs false (Some (holding to entries))
    moved_seen = subst (λ (t : Spot). seen_replied Filled (MoveFolder Here t) Done ≡ seen_importing intent hs false (Some (holding t entries))) (sym is_bound)
        (ap (λ (held : List Held). Moved held (Some (moved_making Here Bound (holding Here entries))) (allows Filled (MoveFolder Here Bound) && true)) (still_held hs draw)
        ∙ (ap (λ b. Moved hs (Some (cond b (holding Bound entries) (holding Here entries))) (allows Filled (MoveFolder Here Bound) && true)) (spot_self Here)
        ∙ ap (λ b. Moved hs (Some (holding Bound entries)) (b && true)) may_move))

    pub unmoved_seen : (error : DirError) → seen_replied Filled (MoveFolder Here to) (Refused error 0) ≡ Filled
    unmoved_seen error = subst (λ (t : Spot). seen_replied Filled (MoveFolder Here t) (Refused error 0) ≡ Filled) (sym is_bound)
        (ap (λ b. let s : Seen = record Filled { kept = b && true } in s) may_move)

-- The folder is made and filled by what the process knows.
use Rattle.std.proofs.Common.{◌≡◌, Bool, true, false, ◌&&◌, ◌||◌, Some, None, List, [], ◌∷◌, ◌++◌, refl, ap, subst}
use Rattle.dir_model.specs.declared.area.Area.TheVariants.{Incoming}
use Rattle.dir_model.specs.declared.intent.Intent.{Intent}
use Rattle.dir_model.specs.declared.pod.PodId.{PodId}
use Rattle.dir_model.specs.declared.spot.Spot.{Spot}
use Rattle.dir_model.specs.declared.request.Request.{Request}
use Rattle.dir_model.specs.declared.request.Request.TheVariants.{MakeFolder}
use Rattle.dir_model.proofs.Lists.{or_last}
use Rattle.dir_model.proofs.Spots.{spot_self}
use Rattle.dir_rules.specs.declared.standing.Held.{Held}
use Rattle.dir_rules.specs.declared.seen.Making.{Making}
use Rattle.dir_rules.specs.declared.seen.Seen.{Seen}
use Rattle.dir_trait.specs.DirCalls.{DirAt}
use Rattle.dir_trait.specs.Knowledge.{Knows}
use Rattle.dir_trait.specs.Effects.{OnlyAsks}
use Rattle.folder_building.specs.declared.plan.PlanEntry.{PlanEntry}
use Rattle.folder_building.specs.Plans.{AreMade, are_in_turn}
use Rattle.folder_building.specs.Making.{IsSite, MayFill, CarriesOut, BeginsPlan}
use Rattle.folder_building.specs.Sources.{SourceAt}
use Rattle.folder_building.specs.Work.{either, builds_at}
use Rattle.folder_building.proofs.Working.{worked_wider}
use Rattle.image_store.specs.Requests.{building_spot, takes_lock, brings, imports_at, makes_image}
use Rattle.image_reading.specs.Looks.{reads_images}
use Rattle.image_store.specs.Work.{seen_importing, holding, HasImportFolder, HasFilledImport}

-- the changes of its folder are among what is asked for to build an image, and that is among an import's requests
builds_image : (spot : Spot) (request : Request) → builds_at spot request ≡ true → makes_image spot request ≡ true
builds_image spot (MakeFolder here) is = cc
builds_image spot request is = is

pub makes_import : (spot : Spot) (request : Request) → makes_image spot request ≡ true → imports_at spot request ≡ true
makes_import spot (MakeFolder here) is = rw is refl
makes_import spot request is =
    or_last (takes_lock request) (reads_images request || (brings spot request || builds_at spot request))
    (or_last (reads_images request) (brings spot request || builds_at spot request) (or_last (brings spot request) (builds_at spot request) is))

source_builds : (spot : Spot) (request : Request) → either (builds_at spot) (λ r. false) request ≡ true → makes_image spot request ≡ true
source_builds spot request is = builds_image spot request (by (builds_at spot request) is)
  where
    by : (b : Bool) → (b || false) ≡ true → b ≡ true
    by true h = refl
    by false h = h

pub worked_fill : {observed : Bool} (spot : Spot) {old new : DirAt} → OnlyAsks observed (either (builds_at spot) (λ r. false)) old new → OnlyAsks observed (makes_image spot) old new
worked_fill {observed} spot w = worked_wider (source_builds spot) w

-- outside of pods no order is asked for
any_turn : (s : Seen) (before plan : List PlanEntry) → are_in_turn s Incoming before plan ≡ true
any_turn s before [] = refl
any_turn s before (e ∷ plan) = any_turn s (before ++ e ∷ []) plan

module _ (draw : PodId) (intent : Intent) (hs : List Held) (plan : List PlanEntry) (source : SourceAt) where
  abbrev Here : Spot
  Here = building_spot draw

  abbrev Base : Seen
  Base = seen_importing intent hs true None

  abbrev Empty : Making
  Empty = holding Here []

  site : IsSite Here Base Empty
  site = record { here = ap (λ b. (b && true) && true) (spot_self Here); spared = refl }

  fill : source.may Base.standing ≡ true → MayFill source Here plan Base Empty
  fill may = record { fresh = record { clean = refl; entries = refl; unsynced = refl }; may = may; turn = any_turn Base [] plan }

  pub has_filled : {observed : Bool} {spot : Spot} {old new : DirAt} → spot ≡ Here → observed ≡ true → Knows old (seen_importing intent hs true (Some Empty)) → CarriesOut observed source spot plan old new → source.may Base.standing ≡ true → HasFilledImport (AreMade plan) draw intent hs new
  has_filled {observed} {spot} {old} {new} is t k c may =
      let d = subst (λ (s : Spot). CarriesOut observed source s plan old new) is c in
      record { entries = d.entries; made = d.made; knows = d.knows t Base Empty k site (fill may) }

  pub has_begun : {old new : DirAt} (spot : Spot) → spot ≡ Here → Knows old (seen_importing intent hs true (Some Empty)) → BeginsPlan source spot plan old new → source.may Base.standing ≡ true → HasImportFolder draw intent hs new
  has_begun {old} {new} spot is k b may =
      let d = subst (λ (s : Spot). BeginsPlan source s plan old new) is b in
      let g = d Base Empty k site (fill may) in
      record { image_under_lock = true; making = Some g.making; own = g.is.stands; knows = g.knows }

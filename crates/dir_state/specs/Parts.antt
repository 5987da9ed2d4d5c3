-- What the parts of a directory's state as data stand for, and the trace with it.
use Rattle.std.specs.Prelude.{◌≡◌, ◌≤◌, ℕ, Bool, true, false, cond, List, [], ◌∷◌, MatchOption}
use Rattle.dir_model.specs.Reserved.{Reserved}
use Rattle.dir_model.specs.declared.event.Event.{Event}
use Rattle.dir_model.specs.declared.tree.OpenListing.{OpenListing}
use Rattle.dir_model.specs.declared.request.Request.{Request}
use Rattle.dir_model.specs.declared.request.Request.TheVariants.{Close, ListArea, ListIn, Finish, Kill}
use Rattle.dir_model.specs.declared.request.Reply.{Reply}
use Rattle.dir_model.specs.declared.request.Reply.TheVariants.{Done, Names, Items, Refused}
use Rattle.dir_model.specs.State.{Namespace, DirState}
use Rattle.dir_model.specs.Listings.{is_listing_request, without_listing}
use Rattle.dir_model.specs.Trace.{entry_made, app_started, listings_replied, state_after}
use Rattle.dir_model.specs.Calls.{IsRun, event}
use Rattle.dir_state.specs.declared.namespace.NamespaceTable.{NamespaceTable}
use Rattle.dir_state.specs.declared.parts.TreeTable.{TreeTable}
use Rattle.dir_state.specs.declared.parts.Table.{Table}
use Rattle.dir_state.specs.declared.parts.Brought.{Brought}

abbrev pub namespace_of : NamespaceTable → Namespace
namespace_of t = record { folders = t.folders.items; openings = t.openings.items; begun = t.begun.items; ended = t.ended.items }

abbrev pub state_of : NamespaceTable → TreeTable → DirState
state_of n t = record { namespace = namespace_of n; entries = t.entries.items; apps = t.apps.items; listings = t.listings.items }

abbrev pub table_state : Table → DirState
table_state t = state_of t.namespace t.trees

-- the listing of the process goes with this event
abbrev pub closes_listing : Request → Reply → Bool
closes_listing Finish Done = true
closes_listing Kill Done = true
closes_listing request (Names names) = is_listing_request request
closes_listing request (Items items) = is_listing_request request
closes_listing request (Refused error left) = is_listing_request request
closes_listing request _ = false

abbrev pub listings_left : DirState → ℕ → Request → Reply → List OpenListing
listings_left s p request reply = cond (closes_listing request reply) (without_listing p s.listings) s.listings

-- it leaves the open listings as they are, but for the one that goes with it
abbrev pub LeavesListings : DirState → ℕ → Request → Reply → Type 0
LeavesListings s p request reply = listings_replied s p request reply ≡ listings_left s p request reply

-- these are the open listings after it
abbrev pub AreListings : DirState → ℕ → Request → Reply → List OpenListing → Type 0
AreListings s p request reply listings = listings ≡ listings_replied s p request reply

-- what an event brings to the trees and the listings was made for it. Where no listings were, some are only left
pub record IsBrought (s : DirState) (p : ℕ) (request : Request) (reply : Reply) (b : Brought) : Type 0 where
  pub entry : b.entry ≡ entry_made s.namespace request reply
  pub app : b.app ≡ app_started s.namespace request reply
  pub listings : MatchOption b.listings (LeavesListings s p request reply) (λ ls. AreListings s p request reply ls.items)

-- an event that makes no entry, starts no app and begins or notes no listing
abbrev pub brings_nothing : Request → Reply → Bool
brings_nothing (Close handle) Done = true
brings_nothing Finish Done = true
brings_nothing Kill Done = true
brings_nothing (ListArea area) (Names names) = true
brings_nothing (ListArea area) (Refused error left) = true
brings_nothing (ListIn inner) (Items items) = true
brings_nothing (ListIn inner) (Refused error left) = true
brings_nothing _ _ = false

-- a process that has begun and not finished is killed
abbrev pub kill_of : Bool → ℕ → List Event
kill_of active process = cond active (event process Kill Done ∷ []) []

-- the table is the state after the events, each event was allowed, and there is room for so many more
pub record IsPast (events : Reserved Event) (table : Table) (spare : ℕ) : Type 0 where
  pub agrees : table_state table ≡ state_after events.items
  pub run : IsRun events.items
  pub events_room : spare ≤ events.spare
  pub namespace_room : spare ≤ table.namespace.spare
  pub trees_room : spare ≤ table.trees.spare

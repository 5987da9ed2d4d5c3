-- The answers that a directory gives which follows its state exactly.
use Rattle.std.specs.Prelude.{ℕ, ◌+◌, ◌^◌, nat_lt, Bool, true, not, ◌&&◌, ◌||◌, cond, Option, Some, None, is_some, List, [], ◌∷◌, length, find, map}
use Rattle.std.specs.List.{list_any, range_with_len}
use Rattle.std.specs.Ordering.{nat_cmp}
use Rattle.std.specs.Cmp.Lexicographic.{slice_cmp}
use Rattle.std.specs.BTreeSet.{insert_key}
use Rattle.dir_model.specs.declared.event.Event.{Event}
use Rattle.dir_model.specs.declared.item.Item.{Item}
use Rattle.dir_model.specs.declared.item.ItemKind.{ItemKind}
use Rattle.dir_model.specs.declared.item.ItemKind.TheVariants.{Dir}
use Rattle.dir_model.specs.declared.opening.Opening.{Opening}
use Rattle.dir_model.specs.declared.spot.Handle.{Handle}
use Rattle.dir_model.specs.declared.tree.Listed.{Listed}
use Rattle.dir_model.specs.declared.tree.Listed.TheVariants as listed
use Rattle.dir_model.specs.declared.tree.OpenListing.{OpenListing}
use Rattle.dir_model.specs.declared.request.DirError.{DirError}
use Rattle.dir_model.specs.declared.request.DirError.TheVariants.{Missing, NoMemory}
use Rattle.dir_model.specs.declared.request.Request.{Request}
use Rattle.dir_model.specs.declared.request.Request.TheVariants.{Open, OpenArea, TryLock, Close, ReadIn}
use Rattle.dir_model.specs.declared.request.Reply.{Reply}
use Rattle.dir_model.specs.declared.request.Reply.TheVariants.{Done, Begun, Opened, Names, Items, Read, Refused}
use Rattle.dir_model.specs.Locks.{is_handle}
use Rattle.dir_model.specs.State.{Namespace, DirState, folder_at, has_open}
use Rattle.dir_model.specs.Trace.{state_next}
use Rattle.dir_model.specs.Listings.{is_listing_request, is_listing, listing_of, item_names, is_named}
use Rattle.dir_model.specs.Replies.{refusal, bytes_at}
use Rattle.dir_model.specs.Calls.{is_kill, may_step, event}

-- the handle with this number, where handles go so far
abbrev pub handle_at : Option ℕ → Option Handle
handle_at None = None
handle_at (Some n) = cond (nat_lt n (2 ^ 32)) (Some (record { number = n })) None

-- the least handle that isn't open. One more number than there are open handles is enough to find it
abbrev pub free_handle : Namespace → ℕ → Option Handle
free_handle n p = handle_at (find (λ k. not (has_open n p (record { number = k }))) (range_with_len 0 (length n.openings + 1)))

abbrev pub opened_or_refused : Option Handle → Reply
opened_or_refused None = Refused NoMemory 0
opened_or_refused (Some handle) = Opened handle

-- the state's answer to a request that it doesn't refuse
abbrev pub granted : DirState → ℕ → Request → Reply
granted s p (Open spot which) = opened_or_refused (free_handle s.namespace p)
granted s p (OpenArea area) = opened_or_refused (free_handle s.namespace p)
granted s p (ReadIn inner at room) = Read (bytes_at s.entries inner.path at room (folder_at s.namespace inner.spot))
granted s p _ = Done

abbrev pub answer_by : Option DirError → Reply → Reply
answer_by (Some error) reply = Refused error 0
answer_by None reply = reply

-- the state's own answer to a request. A listing begins
abbrev pub answer : DirState → ℕ → Request → Reply
answer s p request = cond (is_listing_request request) Begun (answer_by (refusal s p request) (granted s p request))

-- the names in byte order, each once
abbrev pub inserted_in_order : List (List ℕ) → List (List ℕ) → List (List ℕ)
inserted_in_order ordered [] = ordered
inserted_in_order ordered (name ∷ names) = inserted_in_order (insert_key (slice_cmp nat_cmp) ordered name) names

-- the kind of the first item with this name
abbrev pub kind_or_dir : Option Item → ItemKind
kind_or_dir None = Dir
kind_or_dir (Some item) = item.kind

abbrev pub kind_named : List Item → List ℕ → ItemKind
kind_named items name = kind_or_dir (find (is_named name) items)

abbrev pub item_named : List Item → List ℕ → Item
item_named items name = record { name = name; kind = kind_named items name }

abbrev pub items_in_order : List Item → List Item
items_in_order items = map (item_named items) (inserted_in_order [] (item_names items))

-- what a listing shows: exactly what stood all the time
abbrev pub shown : Listed → Reply
shown (listed.Area area through ever) = Names (inserted_in_order [] through)
shown (listed.Missing inner) = Refused Missing 0
shown (listed.Inside inner folder through ever) = Items (items_in_order through)

abbrev pub shown_or_refused : Option OpenListing → Reply
shown_or_refused None = Refused NoMemory 0
shown_or_refused (Some l) = shown l.listed

-- the end of the listing that the process has open
abbrev pub listing_answer : DirState → ℕ → Reply
listing_answer s p = shown_or_refused (listing_of s p)

-- this handle holds no lock
abbrev pub is_unlocked : ℕ → Handle → Opening → Bool
is_unlocked p handle o = is_handle p handle o && not (is_some o.lock)

-- a lock is asked for by an open handle without one, and an open handle is closed
abbrev pub finds_handle : DirState → ℕ → Request → Bool
finds_handle s p (TryLock handle mode) = list_any (is_unlocked p handle) s.namespace.openings
finds_handle s p (Close handle) = has_open s.namespace p handle
finds_handle s p _ = true

-- no listing of the process is open, unless it is killed, and the handle is as it has to be
abbrev pub is_met : DirState → ℕ → Request → Bool
is_met s p request = (is_kill request || not (is_listing s p)) && finds_handle s p request

-- the process may take the step now
abbrev pub is_possible : DirState → ℕ → Request → Bool
is_possible s p request = may_step s p request && is_met s p request

-- the end of a listing that has just begun
abbrev pub end_events : DirState → ℕ → Request → List Event
end_events s p request = cond (is_listing_request request) (event p request (listing_answer (state_next s (event p request Begun)) p) ∷ []) []

-- the events of a whole step
abbrev pub step_of : DirState → ℕ → Request → List Event
step_of s p request = event p request (answer s p request) ∷ end_events s p request

-- the events of a whole step where the process may take it now, and else none
abbrev pub taken_step : DirState → ℕ → Request → List Event
taken_step s p request = cond (is_possible s p request) (step_of s p request) []

-- Requests about a path, and a call for which memory ran out before it was noted.
use Rattle.std.proofs.Common.{◌≡◌, inl, inr, ℕ, Bool, true, false, not, ◌&&◌, is_some, Result, Ok, Err, List, [], refl, sym, append-nil}
use Rattle.dir_model.specs.declared.item.Inner.{Inner}
use Rattle.dir_model.specs.declared.request.DirError.{DirError}
use Rattle.dir_model.specs.declared.request.DirError.TheVariants.{NoMemory}
use Rattle.dir_model.specs.declared.request.Request.{Request}
use Rattle.dir_model.specs.declared.request.Reply.{Reply}
use Rattle.dir_model.specs.declared.request.Reply.TheVariants.{Names, Items, Refused}
use Rattle.dir_model.specs.Paths.{is_path}
use Rattle.dir_model.specs.Listings.{is_listing_request}
use Rattle.dir_model.specs.Replies.{asks_for_nothing, may_refuse, done_reply}
use Rattle.dir_model.specs.Local.{Local, IsActive}
use Rattle.dir_trait.specs.DirCalls.{DirAt, DirCall, AppendCall}
use Rattle.dir_memory.specs.declared.path_call.PathCall.{PathCall}
use Rattle.dir_memory.specs.declared.path_call.PathCall.TheVariants.{MakeDir, MakeFile, Sync, RemoveFile, RemoveDir}
use Rattle.dir_memory.specs.PathCalls.{path_request}
use Rattle.dir_memory.specs.Memories.{Memory, MemoryFollows, FollowsListing, RanOut, is_numbered, is_active, may_be_called, short_of_memory, is_end_of, is_names_end, is_items_end}
use Rattle.dir_model.specs.declared.area.Area.{Area}
use Rattle.dir_model.specs.declared.request.Request.TheVariants.{ListArea, ListIn}
use Rattle.dir_model.proofs.Lists.{and_left}

pub path_numbered : (kind : PathCall) (inner : Inner) → is_numbered (path_request kind inner) ≡ true
path_numbered MakeDir inner = refl
path_numbered MakeFile inner = refl
path_numbered Sync inner = refl
path_numbered RemoveFile inner = refl
path_numbered RemoveDir inner = refl

pub path_nothing : (kind : PathCall) (inner : Inner) → asks_for_nothing (path_request kind inner) ≡ true
path_nothing MakeDir inner = refl
path_nothing MakeFile inner = refl
path_nothing Sync inner = refl
path_nothing RemoveFile inner = refl
path_nothing RemoveDir inner = refl

pub path_plain : (kind : PathCall) (inner : Inner) → is_listing_request (path_request kind inner) ≡ false
path_plain MakeDir inner = refl
path_plain MakeFile inner = refl
path_plain Sync inner = refl
path_plain RemoveFile inner = refl
path_plain RemoveDir inner = refl

pub path_runs_out : (kind : PathCall) (inner : Inner) → may_refuse (path_request kind inner) NoMemory ≡ true
path_runs_out MakeDir inner = refl
path_runs_out MakeFile inner = refl
path_runs_out Sync inner = refl
path_runs_out RemoveFile inner = refl
path_runs_out RemoveDir inner = refl

good : (g some finished : Bool) → g ≡ true → some ≡ true → finished ≡ false → (g && (some && not finished)) ≡ true
good g some finished a b c = rw (a, b, c) refl

-- an active process may ask about a path
pub path_may : (m : Local) (kind : PathCall) (inner : Inner) → IsActive m → is_path inner.path ≡ true → may_be_called m (path_request kind inner) ≡ true
path_may m MakeDir inner active path = good (is_path inner.path) (is_some m.intent) m.finished path active.begun active.unfinished
path_may m MakeFile inner active path = good (is_path inner.path) (is_some m.intent) m.finished path active.begun active.unfinished
path_may m Sync inner active path = good (is_path inner.path) (is_some m.intent) m.finished path active.begun active.unfinished
path_may m RemoveFile inner active path = good (is_path inner.path) (is_some m.intent) m.finished path active.begun active.unfinished
path_may m RemoveDir inner active path = good (is_path inner.path) (is_some m.intent) m.finished path active.begun active.unfinished

pub asks_active : (m : Local) (path : List ℕ) → IsActive m → is_path path ≡ true → (is_path path && is_active m) ≡ true
asks_active m path active is = good (is_path path) (is_some m.intent) m.finished is active.begun active.unfinished

-- memory ran out before the call was noted
short_ran_out : (old : Memory) (request : Request) (new : Memory) → new ≡ short_of_memory old → RanOut old request (Refused NoMemory 0) new
short_ran_out old request new is = rw is (record {
  replied = refl;
  meanwhile = record { others = []; foreign = tt; grown = sym (append-nil old.trace) };
  first = refl;
  later = refl;
  same = refl;
})

pub short_follows : (old : Memory) (request : Request) (new : Memory) → new ≡ short_of_memory old → MemoryFollows old request (Refused NoMemory 0) new
short_follows old request new is = inr (inl (short_ran_out old request new is))

pub short_lists : (old : Memory) (request : Request) (new : Memory) → new ≡ short_of_memory old → FollowsListing old request (Refused NoMemory 0) new
short_lists old request new is = inr (inr (inl (short_ran_out old request new is)))

-- an append in memory leaves nothing where it is refused
pub append_called : (old : DirAt) (request : Request) (r : Result (Unit {0}) DirError) (new : DirAt) → DirCall true old request (done_reply r) new → AppendCall true old request r new
append_called old request (Ok x) new d = record { counted = d.counted; same = d.same; faults = d.faults; local = d.local; step = λ observed. record { left = 0; step = d.step observed } }
append_called old request (Err e) new d = record { counted = d.counted; same = d.same; faults = d.faults; local = d.local; step = λ observed. record { left = 0; step = d.step observed } }

pub names_end : (area : Area) (reply : Reply) → is_end_of (ListArea area) reply ≡ true → is_names_end reply ≡ true
names_end area (Names names) ends = refl
names_end area (Refused error left) ends = and_left _ (may_refuse (ListArea area) error) ends
names_end area _ ends = cc

pub items_end : (inner : Inner) (reply : Reply) → is_end_of (ListIn inner) reply ≡ true → is_items_end reply ≡ true
items_end inner (Items items) ends = refl
items_end inner (Refused error left) ends = and_left _ (may_refuse (ListIn inner) error) ends
items_end inner _ ends = cc

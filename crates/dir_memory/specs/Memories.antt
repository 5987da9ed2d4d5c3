-- What contracts see of a directory in memory, and what a call leaves there.
use Rattle.std.specs.Prelude.{◌≡◌, ◌⊎◌, ℕ, ◌+◌, ◌-◌, ◌≤◌, ◌^◌, ◌==◌, min, Bool, true, false, not, ◌&&◌, ◌||◌, cond, is_some, List, [], ◌∷◌, ◌++◌, nat_le, Option, Some, None}
use Rattle.std.specs.List.{list_any}
use Rattle.dir_model.specs.Reserved.{Reserved}
use Rattle.dir_model.specs.declared.event.Event.{Event}
use Rattle.dir_model.specs.declared.request.DirError.TheVariants.{Failed, NoMemory}
use Rattle.dir_model.specs.declared.request.Request.{Request}
use Rattle.dir_model.specs.declared.request.Request.TheVariants.{ListArea, ListIn, ReadIn}
use Rattle.dir_model.specs.declared.request.Reply.{Reply}
use Rattle.dir_model.specs.declared.request.Reply.TheVariants.{Done, Begun, Opened, Names, Items, Read, Refused}
use Rattle.dir_model.specs.Paths.{is_well_formed}
use Rattle.dir_model.specs.Listings.{is_listing, is_listing_request, ascend, item_names}
use Rattle.dir_model.specs.State.{DirState, has_begun, has_ended, lives}
use Rattle.dir_model.specs.Trace.{state_after}
use Rattle.dir_model.specs.Replies.{is_fallible, asks_for_handle, may_refuse}
use Rattle.dir_model.specs.Calls.{Interference, IsRun, is_begin, event}
use Rattle.dir_model.specs.Local.{Local, nothing_local, IsActive, local_replied, holdings_in}
use Rattle.dir_trait.specs.DirCalls.{DirAt}
use Rattle.dir_state.specs.Parts.{kill_of}
use Rattle.dir_state.specs.Answers.{answer, listing_answer}
use Rattle.dir_memory.specs.declared.local.LocalView.{LocalView}
use Rattle.dir_memory.specs.declared.planned.Planned.{Planned}
use Rattle.dir_memory.specs.Schedules.{with_steps, due, not_due}

-- the trace, the process with its faults, its calls so far, those of them that have a number, and what it has open, the
-- steps of others that are to come, in the order of scheduling, the numbers of the calls that are to fail, the number of
-- the call before which it is killed, and whether it was
pub record Memory : Type 0 where
  pub trace : List Event
  pub process : ℕ
  pub faults : ℕ
  pub calls : ℕ
  pub numbered : ℕ
  pub local : Local
  pub pending : List Planned
  pub failing : List ℕ
  pub stop : Option ℕ
  pub killed : Bool

abbrev pub local_of : LocalView → Local
local_of v = record { intent = v.intent; finished = v.finished; holdings = v.held.items }

-- as every directory is seen
abbrev pub dir_of_memory : Memory → DirAt
dir_of_memory m = record { process = m.process; faults = m.faults; calls = m.calls; local = m.local; trace = m.trace }

-- one more, up to the greatest number of a u64
abbrev pub raised : ℕ → ℕ
raised n = min (n + 1) (2 ^ 64 - 1)

-- the number is at most this
abbrev pub is_up_to : Option ℕ → ℕ → Bool
is_up_to None n = false
is_up_to (Some k) n = nat_le k n

-- the process was killed, or is before its next call. Not before its begin
abbrev pub is_stopped : Memory → Request → Bool
is_stopped m request = not (is_begin request) && (m.killed || is_up_to m.stop (m.numbered + 1))

-- the next call is to fail. A begin never fails
abbrev pub is_to_fail : Memory → Request → Bool
is_to_fail m request = is_fallible request && list_any (λ number. number == m.numbered + 1) m.failing

-- the trace once the steps have come that are due before the next call
abbrev pub before_call : Memory → Request → List Event
before_call m request = with_steps m.process m.trace (due (m.numbered + 1) (is_listing_request request) m.pending)

-- the steps that are then to come
abbrev pub still_pending : Memory → Request → List Planned
still_pending m request = not_due (m.numbered + 1) (is_listing_request request) m.pending

-- a failure, or the state's own answer
abbrev pub answer_or_failure : Bool → DirState → ℕ → Request → Reply
answer_or_failure fails s p request = cond fails (Refused Failed 0) (answer s p request)

-- what the next call is answered, where there is memory for it
abbrev pub next_reply : Memory → Request → Reply
next_reply m request = answer_or_failure (is_to_fail m request) (state_after (before_call m request)) m.process request

-- after a call with a number that left this trace, these faults and these steps to come
abbrev pub after_call : Memory → List Event → Bool → Request → Reply → List Planned → Memory
after_call m trace fails request reply pending = record m {
  trace = trace;
  faults = cond fails (raised m.faults) m.faults;
  calls = raised m.calls;
  numbered = raised m.numbered;
  local = local_replied m.local request reply;
  pending = pending;
}

-- the call was answered and left its event
pub record Answered (old : Memory) (request : Request) (reply : Reply) (new : Memory) : Type 0 where
  pub replied : reply ≡ next_reply old request
  pub after : new ≡ after_call old (before_call old request ++ event old.process request reply ∷ []) (is_to_fail old request) request reply (still_pending old request)

-- memory ran out: some of the steps that were due came, the first ones, and the others come before the next call
pub record RanOut (old : Memory) (request : Request) (reply : Reply) (new : Memory) : Type 0 where
  pub replied : reply ≡ Refused NoMemory 0
  pub meanwhile : Interference old.process old.trace new.trace
  pub first : with_steps old.process new.trace (due (old.numbered + 1) (is_listing_request request) new.pending) ≡ before_call old request
  pub later : not_due (old.numbered + 1) (is_listing_request request) new.pending ≡ still_pending old request
  pub same : new ≡ after_call old new.trace false request reply new.pending

-- the process was killed before this call or an earlier one. The steps that were due came before
pub record CallerWasKilled (old : Memory) (request : Request) (reply : Reply) (new : Memory) : Type 0 where
  pub stopped : is_stopped old request ≡ true
  pub over : lives (state_after new.trace).namespace old.process ≡ false
  pub replied : reply ≡ Refused Failed 0
  pub after : new ≡ record (after_call old (before_call old request ++ kill_of (not old.killed) old.process) true request reply (still_pending old request)) { killed = true }

-- a call with a number that is no listing: it was answered in full, memory ran out, or the process was killed
abbrev pub MemoryFollows : Memory → Request → Reply → Memory → Type 0
MemoryFollows old request reply new = Answered old request reply new ⊎ (RanOut old request reply new ⊎ CallerWasKilled old request reply new)

-- the trace once a listing has begun
abbrev pub once_begun : Memory → Request → List Event
once_begun m request = before_call m request ++ event m.process request Begun ∷ []

-- and once the steps have come that are meant to come inside it
abbrev pub before_end : Memory → Request → List Event
before_end m request = with_steps m.process (once_begun m request) (due (m.numbered + 1) false (still_pending m request))

-- a failure, or exactly what stood all the time
abbrev pub end_reply : Memory → Request → Reply
end_reply m request = cond (is_to_fail m request) (Refused Failed 0) (listing_answer (state_after (before_end m request)) m.process)

-- the end of a listing: in byte order, each name once, or a refusal of the call
abbrev pub is_end_of : Request → Reply → Bool
is_end_of (ListArea area) (Names names) = ascend names
is_end_of (ListIn inner) (Items items) = ascend (item_names items)
is_end_of request (Refused error left) = (left == 0) && may_refuse request error
is_end_of request _ = false

-- a listing began, the steps inside it came, and it ended
pub record Listed (old : Memory) (request : Request) (reply : Reply) (new : Memory) : Type 0 where
  pub replied : reply ≡ end_reply old request
  pub ends : is_end_of request reply ≡ true
  pub failed : (left : ℕ) → reply ≡ Refused Failed left → is_to_fail old request ≡ true
  pub after : new ≡ after_call old (before_end old request ++ event old.process request reply ∷ []) (is_to_fail old request) request reply (not_due (old.numbered + 1) false (still_pending old request))

-- memory ran out before its end: some of those steps came, the first ones
pub record CutOff (old : Memory) (request : Request) (reply : Reply) (new : Memory) : Type 0 where
  pub trace : List Event
  pub replied : reply ≡ Refused NoMemory 0
  pub meanwhile : Interference old.process (once_begun old request) trace
  pub first : with_steps old.process trace (due (old.numbered + 1) false new.pending) ≡ before_end old request
  pub later : not_due (old.numbered + 1) false new.pending ≡ not_due (old.numbered + 1) false (still_pending old request)
  pub after : new ≡ after_call old (trace ++ event old.process request reply ∷ []) false request reply new.pending

abbrev pub FollowsListing : Memory → Request → Reply → Memory → Type 0
FollowsListing old request reply new = Listed old request reply new ⊎ (CutOff old request reply new ⊎ (RanOut old request reply new ⊎ CallerWasKilled old request reply new))

-- a handle or the process was given up, and nothing else has happened. After its kill that is no event
abbrev pub memory_given_up : Memory → Request → Memory
memory_given_up m request = record m { trace = m.trace ++ cond m.killed [] (event m.process request Done ∷ []); calls = raised m.calls; local = local_replied m.local request Done }

-- a begin comes first, and every other request from an active process
abbrev pub is_active : Local → Bool
is_active m = is_some m.intent && not m.finished

abbrev pub may_be_called : Local → Request → Bool
may_be_called m request = is_well_formed request && cond (is_begin request) (not (is_some m.intent)) (is_active m)

-- a step before a call that has passed never comes
abbrev pub scheduled : Memory → Planned → Memory
scheduled m step = cond (nat_le step.before m.numbered) m (record m { pending = m.pending ++ step ∷ [] })

-- the same data folder for another process, whose calls are counted anew
abbrev pub passed_on : Memory → ℕ → Memory
passed_on m process = record {
  trace = m.trace ++ kill_of (is_active m.local && not m.killed) m.process;
  process = process;
  faults = m.faults;
  calls = 0;
  numbered = 0;
  local = nothing_local;
  pending = [];
  failing = [];
  stop = None;
  killed = false;
}

-- a call that has a number
abbrev pub is_numbered : Request → Bool
is_numbered request = is_begin request || is_fallible request

-- the replies that stand for an answer that carries nothing, a handle, or bytes
abbrev pub is_plain_reply : Reply → Bool
is_plain_reply Done = true
is_plain_reply (Refused error left) = left == 0
is_plain_reply _ = false

abbrev pub is_opening : Reply → Bool
is_opening (Opened handle) = true
is_opening (Refused error left) = left == 0
is_opening _ = false

abbrev pub is_reading : Reply → Bool
is_reading (Read bytes) = true
is_reading (Refused error left) = left == 0
is_reading _ = false

abbrev pub is_read_request : Request → Bool
is_read_request (ReadIn inner at room) = true
is_read_request _ = false

-- the reply is of the call's kind
abbrev pub has_shape : Request → Reply → Bool
has_shape request reply = cond (asks_for_handle request) (is_opening reply) (cond (is_read_request request) (is_reading reply) (is_plain_reply reply))

abbrev pub is_names_end : Reply → Bool
is_names_end (Names names) = true
is_names_end (Refused error left) = left == 0
is_names_end _ = false

abbrev pub is_items_end : Reply → Bool
is_items_end (Items items) = true
is_items_end (Refused error left) = left == 0
is_items_end _ = false

-- memory ran out before the call was noted
abbrev pub short_of_memory : Memory → Memory
short_of_memory m = record m { calls = raised m.calls; numbered = raised m.numbered }

-- the trace is a run in which this process has begun, has ended and has open what it knows, and has no listing open; and
-- while it is active and wasn't killed there is room for the events that give up its handles and itself
pub record IsMemory (past : Reserved Event) (process : ℕ) (local : Local) (held : ℕ) (killed : Bool) : Type 0 where
  pub run : IsRun past.items
  pub begun : has_begun (state_after past.items).namespace process ≡ is_some local.intent
  pub ended : has_ended (state_after past.items).namespace process ≡ (local.finished || killed)
  pub holds : killed ≡ false → holdings_in (state_after past.items).namespace process ≡ local.holdings
  pub listing : is_listing (state_after past.items) process ≡ false
  pub was : killed ≡ true → is_some local.intent ≡ true
  pub room : IsActive local → killed ≡ false → held + 1 ≤ past.spare

-- a listing whose steps came ends with what it shows, or with a failure where it is to fail. Memory left for nothing is
-- a failure
abbrev pub EndsWhole : DirState → ℕ → Bool → Bool → Reply → Type 0
EndsWhole s p fails came reply = (came ≡ true) × (reply ≡ cond fails (Refused Failed 0) (listing_answer s p)) × ((left : ℕ) → reply ≡ Refused Failed left → fails ≡ true)

-- Which replies don't come in conforming executions.
use Rattle.std.specs.Prelude.{◌≡◌, ℕ, Bool, true, false, nat_le, length, Option, Some, None, List, ◌∷◌, ◌++◌}
use Rattle.std.specs.List.{AllByRecursion}
use Rattle.dir_model.specs.declared.event.Event.{Event}
use Rattle.dir_model.specs.declared.spot.Spot.{Spot}
use Rattle.dir_model.specs.declared.request.Reply.{Reply}
use Rattle.dir_model.specs.declared.request.Request.{Request}
use Rattle.dir_model.specs.Calls.{event, is_kill}
use Rattle.dir_model.specs.Replies.{is_apps_request}
use Rattle.dir_model.specs.Trace.{state_after}
use Rattle.dir_rules.specs.declared.seen.Seen.{Seen}
use Rattle.dir_rules.specs.Anomalies.{most_path, folder_of, loses_embryo, meets_another, loses_own, is_impossible_reply, is_foreign_write}
use Rattle.dir_rules.specs.Conforms.{seen_of}
use Rattle.dir_rules.specs.Seen.{makes_at}

-- no reply comes that no rule-keeping process brings about
abbrev pub NoneIsImpossible : List Event → Type 0
NoneIsImpossible trace =
    (before : List Event) (e : Event) (later : List Event) → trace ≡ before ++ e ∷ later → is_kill e.request ≡ false →
    is_impossible_reply (state_after before) (seen_of e.process before) e.request e.reply ≡ false

-- a started app's writes show only at and below its root
abbrev pub ForeignWritesAreApps : List Event → Type 0
ForeignWritesAreApps trace =
    (before : List Event) (e : Event) (later : List Event) → trace ≡ before ++ e ∷ later → is_kill e.request ≡ false →
    is_foreign_write (state_after before) (seen_of e.process before) e.request e.reply ≡ true →
    is_apps_request (state_after before) e.request ≡ true

-- the request is about the folder that the process makes
abbrev pub is_of_making : Seen → Option Spot → Bool
is_of_making s None = false
is_of_making s (Some spot) = makes_at s.making spot

-- no maker finds its embryo gone or locked; no pod, no import and nothing that is put away meets another folder; and no
-- maker's change, sync or move of its folder is answered as if the folder weren't its own
pub record MakersReply (trace : List Event) : Type 0 where
  pub embryo : (before : List Event) (e : Event) (later : List Event) → trace ≡ before ++ e ∷ later → is_kill e.request ≡ false →
      loses_embryo (seen_of e.process before).standing e.request e.reply ≡ false
  pub another : (before : List Event) (e : Event) (later : List Event) → trace ≡ before ++ e ∷ later → is_kill e.request ≡ false →
      meets_another e.request e.reply ≡ false
  pub own : (before : List Event) (e : Event) (later : List Event) → trace ≡ before ++ e ∷ later → is_kill e.request ≡ false →
      is_of_making (seen_of e.process before) (folder_of e.request) ≡ true →
      loses_own (seen_of e.process before) e.request e.reply ≡ false

-- no path in a folder is longer than any that a maker makes
abbrev pub PathsAreShort : List Event → Type 0
PathsAreShort trace = AllByRecursion (λ x. nat_le (length x.path) most_path ≡ true) (state_after trace).entries

-- an own step between these two traces was answered by what a started app wrote
pub record AppWroteOn (me : ℕ) (old new : List Event) : Type 0 where
  pub before : List Event
  pub request : Request
  pub reply : Reply
  pub earlier : List Event
  pub later : List Event
  pub begins : before ≡ old ++ earlier
  pub ends : new ≡ before ++ event me request reply ∷ later
  pub foreign : is_foreign_write (state_after before) (seen_of me before) request reply ≡ true
  pub app : is_apps_request (state_after before) request ≡ true

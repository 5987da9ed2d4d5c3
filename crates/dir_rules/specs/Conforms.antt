-- A process's part of a trace, judged by the local rules.
use Rattle.std.specs.Prelude.{◌≡◌, ℕ, Bool, true, false, ◌&&◌, cond, Option, None, option_map, List, [], ◌∷◌, ◌++◌}
use Rattle.dir_model.specs.declared.area.Area.{Area}
use Rattle.dir_model.specs.declared.area.Area.TheVariants.{Prepare, Run, ExitedGarbage, Garbage}
use Rattle.dir_model.specs.declared.spot.Spot.{Spot}
use Rattle.dir_model.specs.declared.event.Event.{Event}
use Rattle.dir_model.specs.declared.request.Request.{Request}
use Rattle.dir_model.specs.declared.request.Reply.{Reply}
use Rattle.dir_model.specs.declared.request.Reply.TheVariants.{Begun}
use Rattle.dir_model.specs.State.{lives}
use Rattle.dir_model.specs.Trace.{state_after}
use Rattle.dir_model.specs.Calls.{is_foreign}
use Rattle.dir_rules.specs.declared.seen.Making.{Making}
use Rattle.dir_rules.specs.declared.seen.Seen.{Seen}
use Rattle.dir_rules.specs.Standing.{nothing_standing, standing_replied}
use Rattle.dir_rules.specs.Seen.{spoilt, learned}
use Rattle.dir_rules.specs.Rules.{allows}

-- it hasn't begun
abbrev pub nothing_seen : Seen
nothing_seen = record { standing = nothing_standing; making = None; image_under_lock = false; created = []; marked = []; notes = []; put_away = []; listed = []; items = []; areas = []; kept = true }

-- one request more: what its reply tells, and whether it was allowed
abbrev pub seen_replied : Seen → Request → Reply → Seen
seen_replied s request reply = record (learned s request reply) { standing = standing_replied s.standing request reply; kept = allows s request && s.kept }

-- a listing is answered twice: at its beginning and at its end
abbrev pub seen_listed : Seen → Request → Reply → Seen
seen_listed s request reply = seen_replied (seen_replied s request Begun) request reply

-- others' events aren't seen, nor its own kill
abbrev pub seen_after_event : ℕ → Seen → Event → Seen
seen_after_event me s e = cond (is_foreign me e) s (seen_replied s e.request e.reply)

-- what a process knows after more events
abbrev pub seen_after : ℕ → Seen → List Event → Seen
seen_after me s [] = s
seen_after me s (e ∷ es) = seen_after me (seen_after_event me s e) es

-- what it knows by a whole trace
abbrev pub seen_of : ℕ → List Event → Seen
seen_of me trace = seen_after me nothing_seen trace

-- each of its requests was allowed
abbrev pub Conforms : ℕ → List Event → Type 0
Conforms me trace = (seen_of me trace).kept ≡ true

-- nothing but looks: places were found free at most
pub record Looked (old new : Seen) : Type 0 where
  pub free : List Spot
  pub same : new ≡ record old { standing = record old.standing { seen_unowned = free ++ old.standing.seen_unowned } }

-- where anyone may ask for a shared lock of Own
abbrev pub is_lookable : Area → Bool
is_lookable Prepare = true
is_lookable Run = true
is_lookable ExitedGarbage = true
is_lookable Garbage = true
is_lookable _ = false

-- a request that left no event, for want of memory, may have spoilt the folder that the process makes
abbrev pub lost : Bool → Option Making → Option Making
lost spoils m = cond spoils (option_map spoilt m) m

-- after requests that left no event: whether each was allowed, and whether one may have spoilt its folder
abbrev pub with_lost : Seen → Bool → Bool → Seen
with_lost s kept spoils = record s { kept = kept; making = lost spoils s.making }

-- it is what the events say, but for requests that left none
pub record Agrees (s events : Seen) : Type 0 where
  pub spoils : Bool
  pub same : s ≡ with_lost events s.kept spoils

-- what a process knows, and its events in a trace. After its kill it may go on with what it knows
pub record IsTied (me : ℕ) (trace : List Event) (s : Seen) : Type 0 where
  pub living : lives (state_after trace).namespace me ≡ true → Agrees s (seen_of me trace)
  pub conforms : s.kept ≡ true → Conforms me trace

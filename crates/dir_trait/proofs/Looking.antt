-- Looks at locations, and what a process then knows.
use Rattle.std.proofs.Common.{◌≡◌, Bool, true, false, Result, refl, ◌∙◌}
use Rattle.dir_model.specs.declared.opening.Target.TheVariants.{Own}
use Rattle.dir_model.specs.declared.spot.Spot.{Spot}
use Rattle.dir_model.specs.declared.spot.Handle.{Handle}
use Rattle.dir_model.specs.declared.spot.Mode.TheVariants.{Shared}
use Rattle.dir_model.specs.declared.spot.Which.TheVariants as which
use Rattle.dir_model.specs.declared.request.DirError.{DirError}
use Rattle.dir_model.specs.declared.request.Request.TheVariants.{Open, TryLock, Close}
use Rattle.dir_model.specs.declared.request.Reply.TheVariants.{Done, Opened, Refused}
use Rattle.dir_model.specs.Local.{is_handle_of, is_own_of, has_own_open, IsUnopened}
use Rattle.dir_model.specs.Replies.{done_reply}
use Rattle.dir_rules.specs.declared.seen.Seen.{Seen}
use Rattle.dir_rules.specs.LockRules.{is_open_on}
use Rattle.dir_rules.specs.Conforms.{seen_replied, is_lookable}
use Rattle.dir_rules.proofs.Looks.{Fresh, looked_same, looked_more, look_looked, ask_looked, missed_looked}
use Rattle.dir_trait.specs.DirCalls.{DirAt, DirCall}
use Rattle.dir_trait.specs.Knowledge.{Knows, OnlyLooks}
use Rattle.dir_trait.proofs.Knowing.{knows_call}

pub looks_none : {d : DirAt} → OnlyLooks d d
looks_none s k = record { known = s; looked = looked_same s; knows = k }

pub looks_more : {a b c : DirAt} → OnlyLooks a b → OnlyLooks b c → OnlyLooks a c
looks_more ab bc s k =
    let x = ab s k in
    let y = bc x.known x.knows in
    record { known = y.known; looked = looked_more x.looked y.looked; knows = y.knows }

-- a handle that isn't open isn't known
pub fresh_of : {d : DirAt} {s : Seen} (h : Handle) → Knows d s → IsUnopened d.local h → Fresh h s.standing.holdings
fresh_of h k unopened = k.handles (is_handle_of h) ∙ unopened

-- nor is a handle on the pod's lock
off_of : {d : DirAt} {s : Seen} (spot : Spot) → Knows d s → has_own_open d.local spot.name ≡ false → is_open_on (Own spot) s.standing.holdings ≡ false
off_of spot k alone = k.handles (λ h. is_own_of spot.name h.target) ∙ alone

-- nothing was there, or the look failed
pub missed_looks : {observed : Bool} {old new : DirAt} {spot : Spot} {error : DirError} → observed ≡ true → DirCall observed old (Open spot which.Own) (Refused error 0) new → OnlyLooks old new
missed_looks {observed} {old} {new} {spot} {error} t c s k = record { known = seen_replied s (Open spot which.Own) (Refused error 0); looked = missed_looked refl; knows = knows_call t k refl refl c }

-- what is there was opened, and closed again
pub look_looks : {observed : Bool} {old mid new : DirAt} {spot : Spot} {h : Handle} → observed ≡ true → IsUnopened old.local h → DirCall observed old (Open spot which.Own) (Opened h) mid → DirCall observed mid (Close h) Done new → OnlyLooks old new
look_looks {observed} {old} {mid} {new} {spot} {h} t unopened x y s k = record {
  known = seen_replied (seen_replied s (Open spot which.Own) (Opened h)) (Close h) Done;
  looked = look_looked (fresh_of h k unopened) refl refl;
  knows = knows_call t (knows_call t k refl refl x) refl refl y;
}

-- and in between asked for its lock
pub ask_looks : {observed : Bool} {old mid late new : DirAt} {spot : Spot} {h : Handle} (answer : Result (Unit {0}) DirError) → observed ≡ true → is_lookable spot.area ≡ true → has_own_open old.local spot.name ≡ false → IsUnopened old.local h → DirCall observed old (Open spot which.Own) (Opened h) mid → DirCall observed mid (TryLock h Shared) (done_reply answer) late → DirCall observed late (Close h) Done new → OnlyLooks old new
ask_looks {observed} {old} {mid} {late} {new} {spot} {h} answer t look alone unopened x y z s k = record {
  known = seen_replied (seen_replied (seen_replied s (Open spot which.Own) (Opened h)) (TryLock h Shared) (done_reply answer)) (Close h) Done;
  looked = ask_looked answer look (off_of spot k alone) (fresh_of h k unopened) refl refl refl;
  knows = knows_call t (knows_call t (knows_call t k refl refl x) refl refl y) refl refl z;
}

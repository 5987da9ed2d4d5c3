-- What the maker of a pod knows after each part of the making.
use Rattle.std.proofs.Common.{◌≡◌, inl, inr, ℕ, Bool, true, false, not, ◌&&◌, ◌||◌, ◌==◌, Some, None, List, [], ◌∷◌, refl, sym, ap, subst, ◌∙◌}
use Rattle.plain_laws.proofs.Texts.{same_bytes}
use Rattle.dir_model.specs.declared.area.Area.{Area}
use Rattle.dir_model.specs.declared.area.Area.TheVariants.{Embryo, Prepare, Run, Images}
use Rattle.dir_model.specs.declared.intent.Intent.{Intent}
use Rattle.dir_model.specs.declared.pod.PodId.{PodId}
use Rattle.dir_model.specs.declared.spot.Handle.{Handle}
use Rattle.dir_model.specs.declared.spot.Mode.TheVariants.{Shared, Exclusive}
use Rattle.dir_model.specs.declared.spot.Spot.{Spot}
use Rattle.dir_model.specs.declared.spot.Which.TheVariants as which
use Rattle.dir_model.specs.declared.request.DirError.{DirError}
use Rattle.dir_model.specs.declared.request.Reply.TheVariants.{Done, Opened, Refused}
use Rattle.dir_model.specs.declared.request.Request.TheVariants.{MakeFolder, MoveFolder, Open, TryLock, Close}
use Rattle.dir_model.specs.Local.{IsUnopened}
use Rattle.dir_model.specs.Pods.{pod_text}
use Rattle.dir_model.proofs.Lists.{same_self}
use Rattle.dir_model.specs.declared.opening.Target.TheVariants.{Own}
use Rattle.dir_rules.specs.declared.standing.Held.{Held}
use Rattle.dir_rules.specs.declared.seen.Entry.{Entry}
use Rattle.dir_rules.specs.declared.seen.Making.{Making}
use Rattle.dir_rules.specs.declared.seen.Seen.{Seen}
use Rattle.dir_rules.specs.LockRules.{is_open_on}
use Rattle.dir_rules.specs.Conforms.{seen_replied}
use Rattle.dir_rules.specs.Rules.{is_whole_pod}
use Rattle.dir_rules.proofs.Looks.{Fresh, deletes_none}
use Rattle.dir_trait.specs.DirCalls.{DirAt, DirCall}
use Rattle.dir_trait.specs.Knowledge.{Knows}
use Rattle.dir_trait.proofs.Knowing.{knows_call}
use Rattle.dir_files.specs.AreaLocks.{on_gate, MayLock}
use Rattle.dir_files.proofs.Locking.{number_is_new}
use Rattle.folder_building.specs.declared.plan.PlanEntry.{PlanEntry}
use Rattle.folder_building.specs.Plans.{AreMade}
use Rattle.folder_building.specs.Making.{IsSite, MayFill, CarriesOut, BeginsPlan}
use Rattle.folder_building.specs.Sources.{SourceAt, may_read_images}
use Rattle.folder_building.proofs.Following.{Follows, nothing_follows}
use Rattle.dir_model.specs.Spots.{pod_spot}
use Rattle.pod_build.specs.Progress.{Progress, seen_making, holding, nothing_made, in_embryo, in_prepare, handed, own_held}
use Rattle.pod_build.specs.Work.{IsMaker, MayMake, MakesUnderImages, UnderMakingLocks, Owns, WhereMakingPod, HasMakerFolder}
use Rattle.pod_build.specs.Makings.{HasFilledPrepare, WherePlanFilled, IsHanded, HasMade}
use Rattle.pod_locks.specs.Running.{RunsPod}
use Rattle.pod_build.proofs.Steps.{is_maker_of, own_given, made_seen, unmade_seen, locked_seen, unlocked_seen, left_seen, unleft_seen, handed_seen, unhanded_seen, gate_given_back, gate_given_after}
use Rattle.pod_build.proofs.Times.{moved_within}
use Rattle.pod_build.proofs.Calls.{moved_by}

-- the folder was made, or not
pub knows_made : {observed : Bool} {draw : PodId} {old new : DirAt} → observed ≡ true → DirCall observed old (MakeFolder (pod_spot draw Embryo)) Done new → WhereMakingPod (IsMaker draw) (UnderMakingLocks draw) nothing_made old (λ intent hs. Knows new (seen_making intent hs (in_embryo draw)))
knows_made {observed} {draw} {old} {new} t c intent hs maker under k = subst (λ (s : Seen). Knows new s) (made_seen draw intent maker hs under) (knows_call t k refl refl c)

pub knows_unmade : {observed : Bool} {draw : PodId} {old new : DirAt} (e : DirError) → observed ≡ true → DirCall observed old (MakeFolder (pod_spot draw Embryo)) (Refused e 0) new → WhereMakingPod (IsMaker draw) (UnderMakingLocks draw) nothing_made old (λ intent hs. HasMakerFolder draw intent hs new)
knows_unmade {observed} {draw} {old} {new} e t c intent hs maker under k = record {
  progress = nothing_made;
  own = tt;
  knows = subst (λ (s : Seen). Knows new s) (unmade_seen draw intent maker hs under e) (knows_call t k refl refl c);
}

-- an embryo is left
pub has_embryo : {draw : PodId} {intent : Intent} {hs : List Held} {new : DirAt} → Knows new (seen_making intent hs (in_embryo draw)) → HasMakerFolder draw intent hs new
has_embryo {draw} k = record { progress = in_embryo draw; own = inl refl; knows = k }

pub has_prepare : {draw : PodId} {intent : Intent} {hs : List Held} {new : DirAt} (entries : List Entry) → Knows new (seen_making intent hs (in_prepare draw entries)) → HasMakerFolder draw intent hs new
has_prepare {draw} entries k = record { progress = in_prepare draw entries; own = inr refl; knows = k }

-- its own lock was opened and taken
pub knows_opened : {observed : Bool} {intent : Intent} {hs : List Held} {h : Handle} {old mid : DirAt} (draw : PodId) → observed ≡ true → Knows old (seen_making intent hs (in_embryo draw)) → DirCall observed old (Open (pod_spot draw Embryo) which.Own) (Opened h) mid → Knows mid (seen_making intent (own_held draw h None ∷ hs) (in_embryo draw))
knows_opened draw t k x = knows_call t k refl refl x

pub knows_locked : {observed : Bool} {draw : PodId} {h : Handle} {old mid new : DirAt} → observed ≡ true → IsUnopened old.local h → DirCall observed old (Open (pod_spot draw Embryo) which.Own) (Opened h) mid → DirCall observed mid (TryLock h Exclusive) Done new
    → WhereMakingPod (IsMaker draw) (UnderMakingLocks draw) (in_embryo draw) old (λ intent hs. Knows new (seen_making intent (own_held draw h (Some Exclusive) ∷ hs) (in_embryo draw)))
knows_locked {observed} {draw} {h} {old} {mid} {new} t unopened x y intent hs maker under k =
    subst (λ (s : Seen). Knows new s) (locked_seen draw intent maker hs under h (number_is_new h k unopened)) (knows_call t (knows_opened draw t k x) refl refl y)

pub knows_unlocked : {observed : Bool} {draw : PodId} {h : Handle} {old mid late new : DirAt} (e : DirError) → observed ≡ true → IsUnopened old.local h → DirCall observed old (Open (pod_spot draw Embryo) which.Own) (Opened h) mid → DirCall observed mid (TryLock h Exclusive) (Refused e 0) late → DirCall observed late (Close h) Done new
    → WhereMakingPod (IsMaker draw) (UnderMakingLocks draw) (in_embryo draw) old (λ intent hs. HasMakerFolder draw intent hs new)
knows_unlocked {observed} {draw} {h} {old} {mid} {late} {new} e t unopened x y z intent hs maker under k =
    let fresh = number_is_new h k unopened in
    let asked = subst (λ (s : Seen). Knows late s) (unlocked_seen draw intent maker hs under h fresh e) (knows_call t (knows_opened draw t k x) refl refl y) in
    has_embryo (subst (λ (s : Seen). Knows new s) (own_given draw intent h None hs (in_embryo draw) fresh) (knows_call t asked refl refl z))

pub knows_unopened : {observed : Bool} {draw : PodId} {old new : DirAt} (e : DirError) → observed ≡ true → DirCall observed old (Open (pod_spot draw Embryo) which.Own) (Refused e 0) new → WhereMakingPod (IsMaker draw) (UnderMakingLocks draw) (in_embryo draw) old (λ intent hs. HasMakerFolder draw intent hs new)
knows_unopened {observed} {draw} {old} {new} e t x intent hs maker under k = let kept : Knows new (seen_making intent hs (in_embryo draw)) = knows_call t k refl refl x in has_embryo kept

-- the handles, as its own lock and others
as_mine : {draw : PodId} {intent : Intent} {hs : List Held} {p : Progress} {d : DirAt} (owns : Owns draw hs) → Knows d (seen_making intent hs p) → Knows d (seen_making intent (own_held draw owns.own (Some Exclusive) ∷ owns.others) p)
as_mine {draw} {intent} {hs} {p} {d} owns k = subst (λ (l : List Held). Knows d (seen_making intent l p)) owns.are k

as_held : {draw : PodId} {intent : Intent} {hs : List Held} {p : Progress} {d : DirAt} (owns : Owns draw hs) → Knows d (seen_making intent (own_held draw owns.own (Some Exclusive) ∷ owns.others) p) → Knows d (seen_making intent hs p)
as_held {draw} {intent} {hs} {p} {d} owns k = subst (λ (l : List Held). Knows d (seen_making intent l p)) (sym owns.are) k

-- the plan makes the pod whole
whole_by : {to : Area} {plan : List PlanEntry} {draw : PodId} {intent : Intent} (entries : List Entry) → MayMake to plan draw intent → AreMade plan entries → is_whole_pod (holding (pod_spot draw Prepare) entries) ≡ true
whole_by {to} {plan} {draw} entries may made = may.whole (holding (pod_spot draw Prepare) entries) refl made

-- the folder was moved to prepare, or not
module _ {observed : Bool} {draw : PodId} {old new : DirAt} (t : observed ≡ true) where
  pub knows_left : DirCall observed old (MoveFolder (pod_spot draw Embryo) (pod_spot draw Prepare)) Done new → WhereMakingPod (IsMaker draw) (Owns draw) (in_embryo draw) old (λ intent hs. Knows new (seen_making intent hs (in_prepare draw [])))
  knows_left c intent hs maker owns k = as_held {p = in_prepare draw []} owns (subst (λ (s : Seen). Knows new s) (left_seen draw intent maker owns.own owns.others owns.apart) (knows_call t (as_mine {p = in_embryo draw} owns k) refl refl c))

  pub knows_unleft : (e : DirError) → DirCall observed old (MoveFolder (pod_spot draw Embryo) (pod_spot draw Prepare)) (Refused e 0) new → WhereMakingPod (IsMaker draw) (Owns draw) (in_embryo draw) old (λ intent hs. Knows new (seen_making intent hs (in_embryo draw)))
  knows_unleft e c intent hs maker owns k = as_held {p = in_embryo draw} owns (subst (λ (s : Seen). Knows new s) (unleft_seen draw intent maker owns.own owns.others owns.apart e) (knows_call t (as_mine {p = in_embryo draw} owns k) refl refl c))

  -- and moved on, or not
  module _ (to : Area) (plan : List PlanEntry) where
    pub knows_handed : DirCall observed old (MoveFolder (pod_spot draw Prepare) (pod_spot draw to)) Done new → WherePlanFilled to plan draw old (λ intent hs entries. IsHanded draw to intent hs entries old new)
    knows_handed c intent hs entries may owns made k = record {
      knows = as_held {p = handed draw to entries} owns (subst (λ (s : Seen). Knows new s) (handed_seen draw intent (is_maker_of may) owns.own owns.others owns.apart entries (whole_by entries may made) to may.leads) (knows_call t (as_mine {p = in_prepare draw entries} owns k) refl refl c));
      moved = moved_by entries intent refl refl k.tied (c.step t);
    }

    pub knows_unhanded : (e : DirError) → DirCall observed old (MoveFolder (pod_spot draw Prepare) (pod_spot draw to)) (Refused e 0) new → WherePlanFilled to plan draw old (λ intent hs entries. Knows new (seen_making intent hs (in_prepare draw entries)))
    knows_unhanded e c intent hs entries may owns made k = as_held {p = in_prepare draw entries} owns (subst (λ (s : Seen). Knows new s) (unhanded_seen draw intent (is_maker_of may) owns.own owns.others owns.apart entries (whole_by entries may made) to may.leads e) (knows_call t (as_mine {p = in_prepare draw entries} owns k) refl refl c))

-- the newest handle, over others
pub owns_both : {draw : PodId} {hs : List Held} (own : Handle) → UnderMakingLocks draw hs → Owns draw (own_held draw own (Some Exclusive) ∷ hs)
owns_both {draw} {hs} own under = record { own = own; others = hs; are = refl; images = under.images; apart = under.apart }

pub owns_images : {draw : PodId} {hs : List Held} (own : Handle) → MakesUnderImages draw hs → Owns draw (own_held draw own (Some Exclusive) ∷ hs)
owns_images {draw} {hs} own under = record { own = own; others = hs; are = refl; images = under.images; apart = under.apart }

pub under_both : {draw : PodId} {hs : List Held} (g : Handle) → MakesUnderImages draw hs → UnderMakingLocks draw (on_gate g Embryo (Some Shared) ∷ hs)
under_both g under = record { images = under.images; embryo = refl; apart = under.apart }

pub may_lock : {draw : PodId} {intent : Intent} {hs : List Held} → MakesUnderImages draw hs → MayLock (seen_making intent hs nothing_made) Embryo Shared
may_lock under = record { free = ap not under.free; kind = refl }

-- its own lock is given up
pub own_back : {observed : Bool} {draw : PodId} {intent : Intent} {hs : List Held} {h : Handle} {old new : DirAt} → observed ≡ true → Fresh h hs → DirCall observed old (Close h) Done new → HasMakerFolder draw intent (own_held draw h (Some Exclusive) ∷ hs) old → HasMakerFolder draw intent hs new
own_back {observed} {draw} {intent} {hs} {h} {old} {new} t fresh c x = record {
  progress = x.progress;
  own = x.own;
  knows = subst (λ (s : Seen). Knows new s) (own_given draw intent h (Some Exclusive) hs x.progress fresh) (knows_call t x.knows refl refl c);
}

-- the lock of embryo is given back
pub gate_back : {draw : PodId} {intent : Intent} {hs : List Held} {g : Handle} {old new : DirAt} → IsMaker draw intent → is_open_on (Own (pod_spot draw Embryo)) hs ≡ false → Fresh g hs → ((s : Seen) → Knows old s → Knows new (seen_replied s (Close g) Done))
    → HasMakerFolder draw intent (on_gate g Embryo (Some Shared) ∷ hs) old → HasMakerFolder draw intent hs new
gate_back {draw} {intent} {hs} {g} {old} {new} maker apart fresh gives x = record {
  progress = record x.progress { embryo_under_lock = false };
  own = x.own;
  knows = subst (λ (s : Seen). Knows new s) (gate_given_back intent g hs fresh draw maker apart x.progress) (gives (seen_making intent (on_gate g Embryo (Some Shared) ∷ hs) x.progress) x.knows);
}

pub gate_back_after : {intent : Intent} {hs : List Held} {g h : Handle} {old new : DirAt} (draw : PodId) → (h.number == g.number) ≡ false → Fresh g hs → ((s : Seen) → Knows old s → Knows new (seen_replied s (Close g) Done))
    → Knows old (seen_making intent (own_held draw h (Some Exclusive) ∷ on_gate g Embryo (Some Shared) ∷ hs) (in_prepare draw [])) → Knows new (seen_making intent (own_held draw h (Some Exclusive) ∷ hs) (in_prepare draw []))
gate_back_after {intent} {hs} {g} {h} {old} {new} draw other fresh gives k = subst (λ (s : Seen). Knows new s) (gate_given_after intent g Embryo hs fresh draw h other (in_prepare draw []))
    (gives (seen_making intent (own_held draw h (Some Exclusive) ∷ on_gate g Embryo (Some Shared) ∷ hs) (in_prepare draw [])) k)

-- the folder is filled
module _ (draw : PodId) (to : Area) (plan : List PlanEntry) (source : SourceAt) (intent : Intent) (hs : List Held) (may : MayMake to plan draw intent) (owns : Owns draw hs) where
  abbrev There : Spot
  There = pod_spot draw Prepare

  abbrev Base : Seen
  Base = seen_making intent hs (in_prepare draw [])

  abbrev Empty : Making
  Empty = holding There []

  site : IsSite There Base Empty
  site = subst (λ (l : List Held). IsSite There (seen_making intent l (in_prepare draw [])) Empty) (sym owns.are) (record { here = rw (same_bytes (pod_text draw.bytes)) refl; spared = rw (deletes_none (pod_text draw.bytes) owns.others owns.apart) (by _) })
    where
      by : (b : Bool) → not (true && ((b && false) || false)) ≡ true
      by true = refl
      by false = refl

  may_read : may_read_images Base.standing ≡ true
  may_read = subst (λ (l : List Held). may_read_images (seen_making intent l (in_prepare draw [])).standing ≡ true) (sym owns.are) (rw owns.images refl)

  fills : source.may ≡ may_read_images → MayFill source There plan Base Empty
  fills is = record {
    fresh = record { clean = refl; entries = refl; unsynced = refl };
    may = ap (λ f. f Base.standing) is ∙ may_read;
    turn = may.turn Base (number_self intent.now);
  }
    where
      number_self : (n : ℕ) → (n == n) ≡ true
      number_self n = same_self n

  pub has_filled : {observed : Bool} {spot : Spot} {old new : DirAt} → spot ≡ There → observed ≡ true → Knows old Base → CarriesOut observed source spot plan old new → source.may ≡ may_read_images → HasFilledPrepare plan draw intent hs new
  has_filled {observed} {spot} {old} {new} is t k c reads =
      let d = subst (λ (s : Spot). CarriesOut observed source s plan old new) is c in
      record { entries = d.entries; made = d.made; knows = d.knows t Base Empty k site (fills reads) }

  pub has_begun : {old new : DirAt} {spot : Spot} → spot ≡ There → Knows old Base → BeginsPlan source spot plan old new → source.may ≡ may_read_images → HasMakerFolder draw intent hs new
  has_begun {old} {new} {spot} is k b reads =
      let d = subst (λ (s : Spot). BeginsPlan source s plan old new) is b in
      let g = d Base Empty k site (fills reads) in
      record { progress = record (in_prepare draw []) { making = Some g.making }; own = inr g.is.stands; knows = g.knows }

-- what was made, said of a longer time, once its own lock is given up
module _ {observed : Bool} (draw : PodId) (to : Area) (plan : List PlanEntry) (intent : Intent) (a b c d : DirAt) (t : observed ≡ true) where
  pub made_kept : (hs : List Held) → Follows observed a b → Follows observed c c → HasMade draw to plan intent hs b c → HasMade draw to plan intent hs a c
  made_kept hs ab cc' x = record { entries = x.entries; made = x.made; knows = x.knows; moved = moved_within (pod_spot draw Prepare) (pod_spot draw to) x.entries intent a b c c t ab cc' x.moved }

  pub made_free : (hs : List Held) (h : Handle) → Fresh h hs → Follows observed a b → Follows observed c d → DirCall observed c (Close h) Done d → HasMade draw to plan intent (own_held draw h (Some Exclusive) ∷ hs) b c → HasMade draw to plan intent hs a d
  made_free hs h fresh ab cd closes x = record {
    entries = x.entries;
    made = x.made;
    knows = subst (λ (s : Seen). Knows d s) (own_given draw intent h (Some Exclusive) hs (handed draw to x.entries) fresh) (knows_call t x.knows refl refl closes);
    moved = moved_within (pod_spot draw Prepare) (pod_spot draw to) x.entries intent a b c d t ab cd x.moved;
  }

-- it was filled, and moved on
pub handed_made : {observed : Bool} {draw : PodId} {to : Area} {plan : List PlanEntry} {intent : Intent} {hs : List Held} (a b c : DirAt) → observed ≡ true → Follows observed a b → Follows observed c c → (x : HasFilledPrepare plan draw intent hs b) → IsHanded draw to intent hs x.entries b c → HasMade draw to plan intent hs a c
handed_made {observed} {draw} {to} {plan} {intent} {hs} a b c t ab cc' x y = record { entries = x.entries; made = x.made; knows = y.knows; moved = moved_within (pod_spot draw Prepare) (pod_spot draw to) x.entries intent a b c c t ab cc' y.moved }

-- nothing was made
pub has_nothing : {draw : PodId} {intent : Intent} {hs : List Held} {new : DirAt} → Knows new (seen_making intent hs nothing_made) → HasMakerFolder draw intent hs new
has_nothing k = record { progress = nothing_made; own = tt; knows = k }

-- whoever runs the pod gives the lock of images back
pub images_back : {observed : Bool} {draw : PodId} {plan : List PlanEntry} {intent : Intent} {hs : List Held} {g h : Handle} {a b c : DirAt} → observed ≡ true → (h.number == g.number) ≡ false → Fresh g hs → Follows observed b c
    → ((s : Seen) → Knows b s → Knows c (seen_replied s (Close g) Done)) → HasMade draw Run plan intent (own_held draw h (Some Exclusive) ∷ on_gate g Images (Some Shared) ∷ hs) a b → HasMade draw Run plan intent (own_held draw h (Some Exclusive) ∷ hs) a c
images_back {observed} {draw} {plan} {intent} {hs} {g} {h} {a} {b} {c} t other fresh bc gives x = record {
  entries = x.entries;
  made = x.made;
  knows = subst (λ (s : Seen). Knows c s) (gate_given_after intent g Images hs fresh draw h other (handed draw Run x.entries)) (gives (seen_making intent (own_held draw h (Some Exclusive) ∷ on_gate g Images (Some Shared) ∷ hs) (handed draw Run x.entries)) x.knows);
  moved = moved_within (pod_spot draw Prepare) (pod_spot draw Run) x.entries intent a a b c t nothing_follows bc x.moved;
}

-- the pod that was moved to run is the process's own
pub runs_pod : {draw : PodId} {plan : List PlanEntry} {intent : Intent} {hs : List Held} {h : Handle} {old new : DirAt} → HasMade draw Run plan intent (own_held draw h (Some Exclusive) ∷ hs) old new → RunsPod draw new
runs_pod {draw} {plan} {intent} {hs} {h} x = record { seen = seen_making intent (own_held draw h (Some Exclusive) ∷ hs) (handed draw Run x.entries); knows = x.knows; runs = rw (same_bytes (pod_text draw.bytes)) refl }

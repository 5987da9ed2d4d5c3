-- What a process knows that marks a pod in run, and what the refusal of a mark rests on.
use Rattle.std.proofs.Common.{◌≡◌, ◌⊎◌, inl, inr, ◌==◌, ◌&&◌, ◌||◌, ℕ, Bool, true, false, not, cond, bytes_eq, Option, Some, None, is_some, Result, Ok, Err, List, [], ◌∷◌, ◌++◌, option_to_list, append-nil, refl, sym, ap, subst, ◌∙◌}
use Rattle.std.specs.List.{list_any}
use Rattle.std.proofs.lemmas.Bool.{eqb-true}
use Rattle.plain_laws.proofs.Texts.{same_bytes}
use Rattle.dir_model.specs.declared.area.Area.{Area}
use Rattle.dir_model.specs.declared.area.Area.TheVariants.{Prepare, Run, ExitedGarbage, Garbage}
use Rattle.dir_model.specs.declared.event.Event.{Event}
use Rattle.dir_model.specs.declared.intent.Intent.{Intent}
use Rattle.dir_model.specs.declared.item.Inner.{Inner}
use Rattle.dir_model.specs.declared.opening.Target.TheVariants as target
use Rattle.dir_model.specs.declared.pod.PodId.{PodId}
use Rattle.dir_model.specs.declared.spot.Spot.{Spot}
use Rattle.dir_model.specs.declared.spot.Which.TheVariants.{Own}
use Rattle.dir_model.specs.declared.tree.TreeEntry.{TreeEntry}
use Rattle.dir_model.specs.declared.tree.TreeNode.TheVariants.{Piece}
use Rattle.dir_model.specs.declared.request.DirError.{DirError}
use Rattle.dir_model.specs.declared.request.DirError.TheVariants.{Missing, Exists, NotEmpty, Locked, Failed}
use Rattle.dir_model.specs.declared.request.DirError.TheVariants as dir
use Rattle.dir_model.specs.declared.request.Request.TheVariants.{MakeFileIn}
use Rattle.dir_model.specs.declared.request.Reply.{Reply}
use Rattle.dir_model.specs.declared.request.Reply.TheVariants.{Done, Refused}
use Rattle.dir_model.specs.Calls.{AtOwnStep, CallStep, Extends, TookPlace, LeftNothing}
use Rattle.dir_model.specs.Causes.{Rose}
use Rattle.dir_model.specs.Pods.{pod_text}
use Rattle.dir_model.specs.Paths.{is_directly_in}
use Rattle.dir_model.specs.Replies.{refused_in, make_refusal, is_error, is_apps_inner, is_any_reply, is_reply, is_state_reply, may_refuse, done_reply}
use Rattle.dir_model.specs.State.{DirState, folder_at, spot_eq}
use Rattle.dir_model.specs.Trace.{state_after, placed}
use Rattle.dir_model.specs.Trees.{has_any, has_dir, has_file, has_parent, is_file_entry, is_parent_entry}
use Rattle.dir_model.proofs.Allowed.{allowed_reply}
use Rattle.dir_model.proofs.Chains.{nothing_yet, and_call}
use Rattle.dir_model.proofs.Lists.{and_both, any_last, or_last, same_self}
use Rattle.dir_model.proofs.Moments.{took_at, some_number}
use Rattle.dir_model.proofs.Spots.{spot_self}
use Rattle.dir_rules.specs.declared.standing.Standing.{Standing}
use Rattle.dir_rules.specs.declared.seen.Seen.{Seen}
use Rattle.dir_rules.specs.Marks.{marked_mark}
use Rattle.dir_rules.specs.Standing.{intends, began_as, is_remover, has_place}
use Rattle.dir_rules.specs.LockRules.{is_open_on}
use Rattle.dir_rules.specs.Seen.{is_own_mark, is_free, marks}
use Rattle.dir_rules.specs.Rules.{allows, may_note, may_mark, spares_deleted_pod, is_deleting}
use Rattle.dir_rules.specs.Conforms.{seen_replied}
use Rattle.dir_rules.proofs.Looks.{deletes_none}
use Rattle.dir_trait.specs.DirCalls.{DirAt, DirCall}
use Rattle.dir_trait.specs.Knowledge.{Knows}
use Rattle.dir_trait.proofs.Knowing.{knows_call}
use Rattle.dir_trait.specs.Effects.{OnlyAsks, Given}
use Rattle.gate_reading.proofs.PlainPaths.{plain_own}
use Rattle.dir_model.specs.Spots.{pod_spot}
use Rattle.pod_locks.proofs.ClaimSeen.{off}
use Rattle.pod_locks.proofs.Times.{at_part}
use Rattle.pod_locks.proofs.Traces.{grown_none}
use Rattle.pod_locks.specs.declared.setback.Setback.TheVariants as stop
use Rattle.pod_locks.specs.Setbacks.{step_setback_of}
use Rattle.pod_locks.specs.Holding.{IsBare, MayLook, LooksFree, with_look, MayMove, KeepsHoldings, KeepsReady}
use Rattle.pod_locks.specs.Requests.{moves_pod}
use Rattle.pod_locks.specs.Causes.{StepWasStopped, IsAbsentAt}
use Rattle.pod_locks.proofs.Calls.{Follows}
use Rattle.pod_gc.specs.RemovalCauses.{IsMarkedIn, IsMarkedBetween, MarkedFirst}
use Rattle.pod_gc.specs.RemovalRequests.{may_lie_dead, marks_at}
use Rattle.pod_gc.specs.Requests.{goes_to}
use Rattle.pod_gc.specs.RemovalHolding.{MayRemove, MayMark, Marked}
use Rattle.pod_gc.proofs.MarkNames.{marked_directly, marked_plain}
use Rattle.pod_gc.proofs.Stages.{looks_dead, ready_aborted, spares as spares_it}

abbrev pub mark_of : PodId → ℕ → Inner
mark_of pod now = record { spot = pod_spot pod Run; path = marked_mark now }

-- the call's place and name are those
pub with_mark : {observed : Bool} {old new : DirAt} {spot : Spot} {path : List ℕ} {reply : Reply} (pod : PodId) (now : ℕ) → spot ≡ pod_spot pod Run → path ≡ marked_mark now
    → DirCall observed old (MakeFileIn (record { spot = spot; path = path })) reply new → DirCall observed old (MakeFileIn (mark_of pod now)) reply new
with_mark {observed} {old} {new} {spot} {path} {reply} pod now at name c =
    subst (λ (p : List ℕ). DirCall observed old (MakeFileIn (record { spot = pod_spot pod Run; path = p })) reply new) name
    (subst (λ (s : Spot). DirCall observed old (MakeFileIn (record { spot = s; path = path })) reply new) at c)

pub asks_mark : (pod : PodId) (now : ℕ) → marks_at pod now (MakeFileIn (mark_of pod now)) ≡ true
asks_mark pod now = and_both _ _ (spot_self (pod_spot pod Run)) (same_bytes (marked_mark now))

pub worked_mark : {observed : Bool} {old new : DirAt} (pod : PodId) (now : ℕ) (answer : Result (Unit {0}) DirError) → DirCall observed old (MakeFileIn (mark_of pod now)) (done_reply answer) new → OnlyAsks observed (marks_at pod now) old new
worked_mark {observed} {old} {new} pod now answer x = record { same = x.same; faults = x.faults; local = by answer x; extends = λ t. and_call nothing_yet refl (asks_mark pod now) (x.step t) }
  where
    by : (answer : Result (Unit {0}) DirError) → DirCall observed old (MakeFileIn (mark_of pod now)) (done_reply answer) new → new.local ≡ old.local
    by (Ok done) x = x.local
    by (Err e) x = x.local

-- the mark of its own moment
same_moment : (now : ℕ) (intent : Option Intent) → intends (λ i. i.now == now) intent ≡ true → is_own_mark intent (marked_mark now) ≡ true
same_moment now None h = cc
same_moment now (Some i) h = subst (λ (n : ℕ). bytes_eq (marked_mark now) (marked_mark n) ≡ true) (sym (eqb-true i.now now h)) (same_bytes (marked_mark now))

module _ (pod : PodId) (now : ℕ) (s : Seen) (may : MayMark pod now s) where
  abbrev Mark : Inner
  Mark = mark_of pod now

  own_mark : is_own_mark s.standing.intent (marked_mark now) ≡ true
  own_mark = same_moment now s.standing.intent may.moment

  marks_it : marks s Mark ≡ true
  marks_it = and_both (is_own_mark s.standing.intent (marked_mark now)) (is_free s (pod_spot pod Run)) own_mark may.free

  allowed_mark : allows s (MakeFileIn Mark) ≡ true
  allowed_mark =
      and_both (may_note s Mark || may_mark s Mark) (spares_deleted_pod s Mark)
      (or_last (may_note s Mark) (may_mark s Mark)
      (and_both (began_as is_remover s.standing) (is_own_mark s.standing.intent (marked_mark now) && is_free s (pod_spot pod Run)) may.began
      (and_both (is_own_mark s.standing.intent (marked_mark now)) (is_free s (pod_spot pod Run)) own_mark may.free)))
      (ap not (deletes_none (pod_text pod.bytes) s.standing.holdings may.alone))

  mark_keeps : (answer : Result (Unit {0}) DirError) → KeepsHoldings s (seen_replied s (MakeFileIn Mark) (done_reply answer))
  mark_keeps (Ok done) = record { intent = refl; holdings = refl; kept = ap (λ b. b && s.kept) allowed_mark; bare = may.bare }
  mark_keeps (Err e) = record { intent = refl; holdings = refl; kept = ap (λ b. b && s.kept) allowed_mark; bare = may.bare }

  made_marked : list_any (spot_eq (pod_spot pod Run)) (seen_replied s (MakeFileIn Mark) Done).marked ≡ true
  made_marked =
      ap (λ b. list_any (spot_eq (pod_spot pod Run)) (cond b (pod_spot pod Run ∷ s.marked) s.marked)) marks_it
      ∙ ap (λ b. b || list_any (spot_eq (pod_spot pod Run)) s.marked) (spot_self (pod_spot pod Run))

  there_marked : list_any (spot_eq (pod_spot pod Run)) (seen_replied s (MakeFileIn Mark) (Refused Exists 0)).marked ≡ true
  there_marked =
      ap (λ b. list_any (spot_eq (pod_spot pod Run)) (cond (b && true) (pod_spot pod Run ∷ s.marked) s.marked)) marks_it
      ∙ ap (λ b. b || list_any (spot_eq (pod_spot pod Run)) s.marked) (spot_self (pod_spot pod Run))

module _ {observed : Bool} {old new : DirAt} (pod : PodId) (now : ℕ) where
  pub knows_marked : DirCall observed old (MakeFileIn (mark_of pod now)) Done new → observed ≡ true → Given (MayMark pod now) old (λ s. Marked pod s new)
  knows_marked x t s k may = record { known = seen_replied s (MakeFileIn (mark_of pod now)) Done; keeps = mark_keeps pod now s may (Ok tt); standing = refl; marked = made_marked pod now s may; knows = knows_call t k refl refl x }

  pub knows_there : DirCall observed old (MakeFileIn (mark_of pod now)) (Refused Exists 0) new → observed ≡ true → Given (MayMark pod now) old (λ s. Marked pod s new)
  knows_there x t s k may = record { known = seen_replied s (MakeFileIn (mark_of pod now)) (Refused Exists 0); keeps = mark_keeps pod now s may (Err Exists); standing = refl; marked = there_marked pod now s may; knows = knows_call t k refl refl x }

  pub ready_mark : (answer : Result (Unit {0}) DirError) → DirCall observed old (MakeFileIn (mark_of pod now)) (done_reply answer) new → observed ≡ true → Given (MayMark pod now) old (λ s. KeepsReady s new)
  ready_mark answer x t s k may = record { known = seen_replied s (MakeFileIn (mark_of pod now)) (done_reply answer); keeps = mark_keeps pod now s may answer; knows = by answer x }
    where
      by : (answer : Result (Unit {0}) DirError) → DirCall observed old (MakeFileIn (mark_of pod now)) (done_reply answer) new → Knows new (seen_replied s (MakeFileIn (mark_of pod now)) (done_reply answer))
      by (Ok done) x = knows_call t k refl refl x
      by (Err e) x = knows_call t k refl refl x

-- nothing was asked for
pub ready_unasked : {d : DirAt} (pod : PodId) (now : ℕ) → Given (MayMark pod now) d (λ s. KeepsReady s d)
ready_unasked pod now s k may = record { known = s; keeps = record { intent = refl; holdings = refl; kept = refl; bare = may.bare }; knows = k }

-- why it wasn't marked

absent_by : (path : List ℕ) (es : List TreeEntry) (o : Option ℕ) → is_directly_in [] path ≡ true → is_error Missing (refused_in (make_refusal path) es o) ≡ true → is_some o ≡ false
absent_by path es None direct h = refl
absent_by path es (Some folder) direct h = by (has_any es folder path) (has_parent es folder path) (ap (λ b. b || list_any (is_parent_entry folder path) es) direct) h
  where
    by : {P : Type 0} → (any parent : Bool) → parent ≡ true → is_error Missing (cond any (Some Exists) (cond parent None (Some Missing))) ≡ true → P
    by true parent p h = cc
    by false true p h = cc
    by false false p h = cc

by_state : (s : DirState) (me : ℕ) (inner : Inner) (reply : Reply) → is_apps_inner s (Some inner) ≡ false → is_reply s me (MakeFileIn inner) reply ≡ true → is_state_reply s me (MakeFileIn inner) reply ≡ true
by_state s me inner reply off h = by (is_apps_inner s (Some inner)) off h
  where
    by : (b : Bool) → b ≡ false → cond b (is_any_reply s me (MakeFileIn inner) reply) (is_state_reply s me (MakeFileIn inner) reply) ≡ true → is_state_reply s me (MakeFileIn inner) reply ≡ true
    by true is h = cc
    by false is h = h

missed_mark : {me : ℕ} {old new : List Event} (pod : PodId) (now : ℕ) → CallStep me old (MakeFileIn (mark_of pod now)) (Refused Missing 0) new → AtOwnStep me old new (IsAbsentAt pod Run)
missed_mark {me} {old} {new} pod now s = from s.own
  where
    from : TookPlace s.before me (MakeFileIn (mark_of pod now)) (Refused Missing 0) new ⊎ LeftNothing s.before me (MakeFileIn (mark_of pod now)) (Refused Missing 0) new → AtOwnStep me old new (IsAbsentAt pod Run)
    from (inl took) =
        let w = state_after s.before in
        took_at me old s.before (MakeFileIn (mark_of pod now)) (Refused Missing 0) new (IsAbsentAt pod Run) refl s.meanwhile took
        (absent_by (marked_mark now) w.entries (folder_at w.namespace (pod_spot pod Run)) (marked_directly now)
        (by_state w me (mark_of pod now) (Refused Missing 0) (plain_own s.before (mark_of pod now) (marked_plain now)) (allowed_reply w me (MakeFileIn (mark_of pod now)) (Refused Missing 0) took.allowed)))
    from (inr left) = let clash : true ≡ false = sym left.late in cc

-- or it was, or had been

placed_by : (path : List ℕ) (es : List TreeEntry) (o : Option ℕ) → (not (is_some (refused_in (make_refusal path) es o)) && true) ≡ true → is_some o ≡ true
placed_by path es None h = cc
placed_by path es (Some folder) h = refl

there_by : (path : List ℕ) (es : List TreeEntry) (o : Option ℕ) → is_error Exists (refused_in (make_refusal path) es o) ≡ true → (k : ℕ) × (o ≡ Some k) × (has_any es k path ≡ true)
there_by path es None h = cc
there_by path es (Some k) h = (k, refl, by (has_any es k path) (has_parent es k path) h)
  where
    by : (any parent : Bool) → is_error Exists (cond any (Some Exists) (cond parent None (Some Missing))) ≡ true → any ≡ true
    by true parent h = refl
    by false true h = cc
    by false false h = cc

has_new : (es : List TreeEntry) (k : ℕ) (path : List ℕ) → has_any (es ++ record { folder = k; path = path; node = Piece [] } ∷ []) k path ≡ true
has_new es k path =
    let new : TreeEntry = record { folder = k; path = path; node = Piece [] } in
    let its : is_file_entry k path new ≡ true = and_both ((k == k) && bytes_eq path path) true (and_both (k == k) (bytes_eq path path) (same_self k) (same_bytes path)) refl in
    or_last (has_dir (es ++ new ∷ []) k path) (has_file (es ++ new ∷ []) k path) (any_last (is_file_entry k path) es new its)

abbrev IsNoted : PodId → ℕ → ℕ → List Event → List Event → Type 0
IsNoted pod now me old new = (k : ℕ) × AtOwnStep me old new (IsMarkedIn pod now k)

module _ {me : ℕ} {old new : List Event} (pod : PodId) (now : ℕ) where
  noted_made : CallStep me old (MakeFileIn (mark_of pod now)) Done new → IsNoted pod now me old new
  noted_made s = from s.own
    where
      from : TookPlace s.before me (MakeFileIn (mark_of pod now)) Done new ⊎ LeftNothing s.before me (MakeFileIn (mark_of pod now)) Done new → IsNoted pod now me old new
      from (inl took) =
          let w = state_after s.before in
          let is = by_state w me (mark_of pod now) Done (plain_own s.before (mark_of pod now) (marked_plain now)) (allowed_reply w me (MakeFileIn (mark_of pod now)) Done took.allowed) in
          let k = some_number (folder_at w.namespace (pod_spot pod Run)) (placed_by (marked_mark now) w.entries (folder_at w.namespace (pod_spot pod Run)) is) in (
            k.0,
            took_at me old s.before (MakeFileIn (mark_of pod now)) Done new (IsMarkedIn pod now k.0) refl s.meanwhile took
                (k.1, subst (λ (o : Option ℕ). has_any (w.entries ++ option_to_list (placed o (marked_mark now) (Piece []))) k.0 (marked_mark now) ≡ true) (sym k.1) (has_new w.entries k.0 (marked_mark now))),
          )
      from (inr left) = let clash : true ≡ false = sym left.late in cc

  noted_there : CallStep me old (MakeFileIn (mark_of pod now)) (Refused Exists 0) new → IsNoted pod now me old new
  noted_there s = from s.own
    where
      from : TookPlace s.before me (MakeFileIn (mark_of pod now)) (Refused Exists 0) new ⊎ LeftNothing s.before me (MakeFileIn (mark_of pod now)) (Refused Exists 0) new → IsNoted pod now me old new
      from (inl took) =
          let w = state_after s.before in
          let x = there_by (marked_mark now) w.entries (folder_at w.namespace (pod_spot pod Run))
          (by_state w me (mark_of pod now) (Refused Exists 0) (plain_own s.before (mark_of pod now) (marked_plain now)) (allowed_reply w me (MakeFileIn (mark_of pod now)) (Refused Exists 0) took.allowed)) in (
            x.0,
            took_at me old s.before (MakeFileIn (mark_of pod now)) (Refused Exists 0) new (IsMarkedIn pod now x.0) refl s.meanwhile took
                (x.1, subst (λ (es : List TreeEntry). has_any es x.0 (marked_mark now) ≡ true) (sym (append-nil w.entries)) x.2),
          )
      from (inr left) = let clash : true ≡ false = sym left.late in cc

pub noted_marked : {observed : Bool} {old new : DirAt} (pod : PodId) (now : ℕ) → DirCall observed old (MakeFileIn (mark_of pod now)) Done new → observed ≡ true → IsMarkedBetween pod now old new
noted_marked pod now x t = noted_made pod now (x.step t)

pub noted_already : {observed : Bool} {old new : DirAt} (pod : PodId) (now : ℕ) → DirCall observed old (MakeFileIn (mark_of pod now)) (Refused Exists 0) new → observed ≡ true → IsMarkedBetween pod now old new
noted_already pod now x t = noted_there pod now (x.step t)

-- and then it was moved
pub marked_first : {observed : Bool} {a b c d : DirAt} (pod : PodId) (now : ℕ) → observed ≡ true → Follows observed a b → IsMarkedBetween pod now b c → c.process ≡ b.process → OnlyAsks observed (moves_pod pod Run ExitedGarbage) c d → MarkedFirst pod now a.process a.trace d.trace
marked_first {observed} {a} {b} {c} {d} pod now t ab x same w = record {
  folder = x.0;
  between = c.trace;
  marked = at_part (ab.grown t) ab.same grown_none x.1;
  only = subst (λ (p : ℕ). Extends (moves_pod pod Run ExitedGarbage) p c.trace d.trace) (same ∙ ab.same) (w.extends t);
}

pub mark_stops : {observed : Bool} {old new : DirAt} (inner : Inner) (pod : PodId) (now : ℕ) (e : DirError) → (e ≡ Exists → ⊥) → may_refuse (MakeFileIn inner) e ≡ true → (e ≡ Failed → Rose old.faults new.faults)
    → DirCall observed old (MakeFileIn (mark_of pod now)) (Refused e 0) new → StepWasStopped observed pod (IsAbsentAt pod Run) (step_setback_of e) old new
mark_stops inner pod now Missing other may rose x = record { fault = λ is. cc; missing = λ is t. missed_mark pod now (x.step t); manifest = λ is. cc; stray = λ is. cc }
mark_stops inner pod now Exists other may rose x = absurd (other refl)
mark_stops inner pod now Failed other may rose x = record { fault = λ is. rose refl; missing = λ is. cc; manifest = λ is. cc; stray = λ is. cc }
mark_stops inner pod now dir.NoMemory other may rose x = record { fault = λ is. cc; missing = λ is. cc; manifest = λ is. cc; stray = λ is. cc }
mark_stops inner pod now Locked other may rose x = cc
mark_stops inner pod now NotEmpty other may rose x = cc

pub unnamed_stops : {observed : Bool} {d : DirAt} {pod : PodId} {Missed : DirState → Type 0} → StepWasStopped observed pod Missed stop.NoMemory d d
unnamed_stops = record { fault = λ is. cc; missing = λ is. cc; manifest = λ is. cc; stray = λ is. cc }

-- an exited pod: it was looked at, marked, and moved

pub marks_exited : {now : ℕ} {s : Seen} (pod : PodId) → MayRemove now s → MayMark pod now (with_look pod Run s)
marks_exited {now} {s} pod may = record {
  began = may.began;
  moment = may.moment;
  alone = off Own (pod_spot pod Run) s.standing.holdings may.apart;
  free = rw (same_bytes (pod_text pod.bytes)) refl;
  bare = may.bare;
}

moves_marked : (pod : PodId) (z : Seen) → began_as is_remover z.standing ≡ true → has_place (pod_text pod.bytes) Run z.standing.seen_unowned ≡ true → list_any (spot_eq (pod_spot pod Run)) z.marked ≡ true
    → list_any (is_deleting (pod_text pod.bytes)) z.standing.holdings ≡ false → is_open_on (target.Own (pod_spot pod Run)) z.standing.holdings ≡ false → IsBare z → MayMove pod Run ExitedGarbage z
moves_marked pod z began free marked none alone bare = record { allowed = rw (same_bytes (pod_text pod.bytes), began, free, marked, none) refl; alone = alone; bare = bare }

moves_exited : {now : ℕ} {s : Seen} {d : DirAt} (pod : PodId) → MayRemove now s → (m : Marked pod (with_look pod Run s) d) → MayMove pod Run ExitedGarbage m.known
moves_exited {now} {s} pod may m =
    let looked = with_look pod Run s in
    let u = pod_text pod.bytes in
    moves_marked pod m.known
    (ap (λ (z : Standing). began_as is_remover z) m.standing ∙ may.began)
    (ap (λ (z : Standing). has_place u Run z.seen_unowned) m.standing ∙ (marks_exited pod may).free)
    m.marked
    (ap (λ (z : Standing). list_any (is_deleting u) z.holdings) m.standing ∙ spares_it pod s.standing.holdings may.apart)
    (ap (λ (z : Standing). is_open_on (target.Own (pod_spot pod Run)) z.holdings) m.standing ∙ off Own (pod_spot pod Run) s.standing.holdings may.apart)
    m.keeps.bare

ready_exited : {now : ℕ} {a b c d : DirAt} (pod : PodId) → Given (MayLook pod Run) a (λ s. LooksFree pod Run s b) → Given (MayMark pod now) b (λ s. Marked pod s c) → Given (MayMove pod Run ExitedGarbage) c (λ s. KeepsReady s d)
    → Given (MayRemove now) a (λ s. KeepsReady s d)
ready_exited pod free marked moves_pod s k may =
    let m = marked (with_look pod Run s) (free s k (looks_dead pod Run refl may)) (marks_exited pod may) in
    let x = moves_pod m.known m.knows (moves_exited pod may m) in
    record { known = x.known; keeps = record { intent = x.keeps.intent ∙ m.keeps.intent; holdings = x.keeps.holdings ∙ m.keeps.holdings; kept = x.keeps.kept ∙ m.keeps.kept; bare = x.keeps.bare }; knows = x.knows }

pub ready_unmarked : {now : ℕ} {a b c : DirAt} (pod : PodId) (place : Area) → place ≡ Run → Given (MayLook pod place) a (λ s. LooksFree pod place s b) → Given (MayMark pod now) b (λ s. KeepsReady s c) → Given (MayRemove now) a (λ s. KeepsReady s c)
ready_unmarked pod Run is free left s k may =
    let x = left (with_look pod Run s) (free s k (looks_dead pod Run refl may)) (marks_exited pod may) in
    record { known = x.known; keeps = record { intent = x.keeps.intent; holdings = x.keeps.holdings; kept = x.keeps.kept; bare = x.keeps.bare }; knows = x.knows }
ready_unmarked pod _ is free left s k may = cc

-- a dead pod, which was marked in run alone
pub ready_dead : {now : ℕ} {a b c d : DirAt} (pod : PodId) (place : Area) → may_lie_dead place ≡ true → Given (MayLook pod place) a (λ s. LooksFree pod place s b) → (place ≡ Run → Given (MayMark pod now) b (λ s. Marked pod s c)) → ((place ≡ Run → ⊥) → c ≡ b)
    → Given (MayMove pod place (goes_to place)) c (λ s. KeepsReady s d) → Given (MayRemove now) a (λ s. KeepsReady s d)
ready_dead {now} {a} {b} {c} {d} pod Prepare dead free marked still moves = ready_aborted pod free (subst (λ (x : DirAt). Given (MayMove pod Prepare Garbage) x (λ s. KeepsReady s d)) (still (λ is. cc)) moves)
ready_dead pod Run dead free marked still moves = ready_exited pod free (marked refl) moves
ready_dead pod _ dead free marked still moves = cc

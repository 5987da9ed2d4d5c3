-- What notes in a pod's folder leave: whatever runs still runs, and what was done was done.
use Rattle.std.proofs.Common.{◌≡◌, ℕ, Bool, true, false, ◌&&◌, bytes_eq, List, [], ◌∷◌, ◌++◌, Ok, refl, sym, ap, subst, ◌∙◌, append_assoc}
use Rattle.plain_laws.proofs.Texts.{same_bytes}
use Rattle.dir_model.specs.declared.area.Area.TheVariants.{Run}
use Rattle.dir_model.specs.declared.event.Event.{Event}
use Rattle.dir_model.specs.declared.request.Request.{Request}
use Rattle.dir_model.specs.declared.request.Request.TheVariants.{MakeFileIn, AppendIn, SyncIn}
use Rattle.dir_model.specs.declared.request.Reply.{Reply}
use Rattle.dir_model.specs.declared.request.Reply.TheVariants.{Done}
use Rattle.dir_model.specs.Areas.{is_stage}
use Rattle.dir_model.specs.Calls.{is_begin, is_kill, event}
use Rattle.dir_model.specs.Local.{IsActive, local_replied}
use Rattle.dir_model.specs.Replies.{is_late_reply}
use Rattle.dir_model.proofs.Chains.{step_extends}
use Rattle.dir_model.proofs.Lists.{and_both}
use Rattle.dir_rules.specs.declared.standing.Standing.{Standing}
use Rattle.dir_rules.specs.Conforms.{seen_replied}
use Rattle.dir_rules.specs.LockRules.{on_spot}
use Rattle.dir_rules.specs.Seen.{inner_eq}
use Rattle.dir_rules.specs.Standing.{is_in, is_spot_of_pod, holds_own, last_move_of, standing_replied}
use Rattle.dir_laws.proofs.Spots.{inner_self}
use Rattle.folder_building.specs.Making.{inner_at}
use Rattle.dir_trait.specs.DirCalls.{DirAt, DirCall}
use Rattle.dir_trait.proofs.Knowing.{knows_call}
use Rattle.dir_trait.proofs.Calls.{took}
use Rattle.dir_trait.specs.Effects.{OnlyAsks}
use Rattle.folder_building.proofs.Working.{append_call, worked_wider}
use Rattle.spawner.specs.declared.call.RootPlace.{RootPlace}
use Rattle.spawner.specs.Conditions.{start_mark, did, MarkSynced, StillRuns}
use Rattle.spawner.proofs.Marking.{mark_kept, mark_synced, did_it}
use Rattle.stage1.specs.Notes.{IsRootInRun, status_path, status_text, mark_inner, status_inner, makes_own_mark, makes_status, writes_status, syncs_status, DidInTurn, MadeMark, WroteStatus, anything, StaysAble, MadeFile, Appended, Synced}

-- what was done in turn was so whatever comes later
did_kept : (me : ℕ) (asks : List (Request → Bool)) (trace more : List Event) → DidInTurn me asks trace → DidInTurn me asks (trace ++ more)
did_kept me [] trace more d = tt
did_kept me (ask ∷ asks) trace more d = (d.0, d.1, d.2 ++ more, ap (λ (h : List Event). h ++ more) d.3 ∙ append_assoc d.0 (d.1 ∷ d.2) more, d.4, did_kept me asks d.2 more d.5)

-- and one thing more
did_more : (me : ℕ) (asks : List (Request → Bool)) (ask : Request → Bool) (trace others : List Event) (e : Event) → did me ask e ≡ true → DidInTurn me asks trace → DidInTurn me (asks ++ ask ∷ []) (trace ++ (others ++ e ∷ []))
did_more me [] ask trace others e is d = (trace ++ others, e, [], sym (append_assoc trace others (e ∷ [])), is, tt)
did_more me (a ∷ asks) ask trace others e is d = (d.0, d.1, d.2 ++ (others ++ e ∷ []), ap (λ (h : List Event). h ++ (others ++ e ∷ [])) d.3 ∙ append_assoc d.0 (d.1 ∷ d.2) (others ++ e ∷ []), d.4, did_more me asks ask d.2 others e is d.5)

did_call : {observed : Bool} {a b : DirAt} → observed ≡ true → (asks : List (Request → Bool)) (ask : Request → Bool) (request : Request) → is_late_reply request Done ≡ false → is_kill request ≡ false → ask request ≡ true → DirCall observed a request Done b → DidInTurn a.process asks a.trace → DidInTurn b.process (asks ++ ask ∷ []) b.trace
did_call {observed} {a} {b} t asks ask request timely alive asked c d =
    let s = c.step t in
    let own = took timely s.own in
    let e = event a.process request Done in
    let grown : b.trace ≡ a.trace ++ (s.meanwhile.others ++ e ∷ []) = own.grown ∙ (ap (λ (h : List Event). h ++ e ∷ []) s.meanwhile.grown ∙ append_assoc a.trace s.meanwhile.others (e ∷ [])) in
    subst (λ (p : ℕ). DidInTurn p (asks ++ ask ∷ []) b.trace) (sym c.same)
    (subst (λ (h : List Event). DidInTurn a.process (asks ++ ask ∷ []) h) (sym grown) (did_more a.process asks ask a.trace s.meanwhile.others e (did_it a.process ask request alive asked) d))

pub wrote_status : {observed : Bool} {a b c d : DirAt} (root : RootPlace) (status : ℕ) → observed ≡ true → MadeFile observed root.spot (status_path root.app) a b → Appended observed root.spot (status_path root.app) (status_text status) b c → Synced observed root.spot (status_path root.app) c d → WroteStatus root status d
wrote_status root status t made appended synced =
    let inner = status_inner root in
    did_call t (makes_status root ∷ writes_status root status ∷ []) (syncs_status root) (SyncIn inner) refl refl (inner_self inner) synced
    (did_call t (makes_status root ∷ []) (writes_status root status) (AppendIn inner (status_text status)) refl refl (and_both (inner_eq inner inner) (bytes_eq (status_text status) (status_text status)) (inner_self inner) (same_bytes (status_text status))) (append_call inner (status_text status) (Ok tt) t appended).1
    (did_call t [] (makes_status root) (MakeFileIn inner) refl refl (inner_self inner) made tt))

-- the trace went on, and what runs still runs
stays_on : (old new : DirAt) (more : List Event) → new.process ≡ old.process → new.trace ≡ old.trace ++ more → ((name : List ℕ) → StillRuns old name → StillRuns new name) → StaysAble old new
stays_on old new more same grown runs = record {
  runs = runs;
  may = λ root m. record {
    may = record {
      marked = subst (λ (p : ℕ). MarkSynced p new.trace root) (sym same) (subst (λ (h : List Event). MarkSynced old.process h root) (sym grown) (mark_kept old.process old.trace more root m.may.marked));
      runs = runs root.spot.name m.may.runs;
    };
    made = subst (λ (p : ℕ). DidInTurn p (makes_own_mark root ∷ []) new.trace) (sym same) (subst (λ (h : List Event). DidInTurn old.process (makes_own_mark root ∷ []) h) (sym grown) (did_kept old.process (makes_own_mark root ∷ []) old.trace more m.made));
  };
  wrote = λ root status w.
      subst (λ (p : ℕ). DidInTurn p (makes_status root ∷ writes_status root status ∷ syncs_status root ∷ []) new.trace) (sym same)
      (subst (λ (h : List Event). DidInTurn old.process (makes_status root ∷ writes_status root status ∷ syncs_status root ∷ []) h) (sym grown) (did_kept old.process (makes_status root ∷ writes_status root status ∷ syncs_status root ∷ []) old.trace more w));
}

-- a call after which the same is held, and the same is open
runs_call : {observed : Bool} {old new : DirAt} {request : Request} {reply : Reply} → observed ≡ true → is_begin request ≡ false → is_kill request ≡ false → ((s : Standing) → standing_replied s request reply ≡ s) → local_replied old.local request reply ≡ old.local → DirCall observed old request reply new → (name : List ℕ) → StillRuns old name → StillRuns new name
runs_call {observed} {old} {new} {request} {reply} t begins alive stand keep c name r = record {
  active = subst IsActive (sym (c.local ∙ keep)) r.active;
  seen = seen_replied r.seen request reply;
  knows = knows_call t r.knows begins alive c;
  runs = ap (λ (s : Standing). holds_own name s && on_spot (λ spot. is_in Run spot.area) (last_move_of name s.moves)) (stand r.seen.standing) ∙ r.runs;
}

pub stays_call : {observed : Bool} {old new : DirAt} {request : Request} {reply : Reply} → observed ≡ true → is_begin request ≡ false → is_kill request ≡ false → ((s : Standing) → standing_replied s request reply ≡ s) → local_replied old.local request reply ≡ old.local → DirCall observed old request reply new → StaysAble old new
stays_call {observed} {old} {new} {request} {reply} t begins alive stand keep c =
    let e = step_extends (λ r. true) old.process old.trace request reply new.trace refl (c.step t) in
    stays_on old new e.more c.same e.grown (runs_call t begins alive stand keep c)

pub stays_none : {d : DirAt} → StaysAble d d
stays_none = record { runs = λ name r. r; may = λ root m. m; wrote = λ root status w. w }

pub stays_more : {a b c : DirAt} → StaysAble a b → StaysAble b c → StaysAble a c
stays_more ab bc = record { runs = λ name r. bc.runs name (ab.runs name r); may = λ root m. bc.may root (ab.may root m); wrote = λ root status w. bc.wrote root status (ab.wrote root status w) }

pub worked_any : {observed : Bool} {asks : Request → Bool} {old new : DirAt} → OnlyAsks observed asks old new → OnlyAsks observed anything old new
worked_any w = worked_wider (λ r h. refl) w

-- the mark
of_self : (root : RootPlace) → IsRootInRun root → is_spot_of_pod root.spot.name root.spot ≡ true
of_self root placed = and_both (is_stage root.spot.area) (bytes_eq root.spot.name root.spot.name) (ap is_stage placed.area) (same_bytes root.spot.name)

pub marked : {observed : Bool} {a b c : DirAt} (root : RootPlace) → observed ≡ true → IsRootInRun root → MadeFile observed root.spot (start_mark root.app) a b → Synced observed root.spot [] b c → MarkSynced c.process c.trace root
marked root t placed made synced =
    mark_synced root (inner_at root.spot (start_mark root.app)) (inner_at root.spot []) t made synced
    (and_both (is_spot_of_pod root.spot.name root.spot) (bytes_eq (start_mark root.app) (start_mark root.app)) (of_self root placed) (same_bytes (start_mark root.app)))
    (and_both (is_spot_of_pod root.spot.name root.spot) true (of_self root placed) refl)

pub made_mark : {observed : Bool} {a b c : DirAt} (root : RootPlace) → observed ≡ true → MadeFile observed root.spot (start_mark root.app) a b → Synced observed root.spot [] b c → MadeMark root c
made_mark {observed} {a} {b} {c} root t made synced =
    let one = did_call t [] (makes_own_mark root) (MakeFileIn (mark_inner root)) refl refl (inner_self (mark_inner root)) made tt in
    let e = step_extends (λ r. true) b.process b.trace (SyncIn (inner_at root.spot [])) Done c.trace refl (synced.step t) in
    subst (λ (p : ℕ). DidInTurn p (makes_own_mark root ∷ []) c.trace) (sym synced.same) (subst (λ (h : List Event). DidInTurn b.process (makes_own_mark root ∷ []) h) (sym e.grown) (did_kept b.process (makes_own_mark root ∷ []) b.trace e.more one))

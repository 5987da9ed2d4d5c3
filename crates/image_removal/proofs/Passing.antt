-- What a pass of a sweep comes to.
use Rattle.std.proofs.Common.{◌≡◌, inl, inr, ℕ, Bool, true, List, [], ◌++◌, map, Result, Ok, Err, IfOk, IfErr, refl, sym, ap, subst, ◌∙◌, append_assoc}
use Rattle.std.specs.List.{AllByRecursion}
use Rattle.std.specs.List.Sorted.{IsStrictlySortedBy}
use Rattle.std.specs.Ordering.{nat_cmp}
use Rattle.std.specs.Cmp.Lexicographic.{slice_cmp}
use Rattle.dir_model.specs.declared.area.Area.{Area}
use Rattle.dir_model.specs.declared.event.Event.{Event}
use Rattle.dir_model.specs.declared.spot.Handle.{Handle}
use Rattle.dir_model.specs.declared.spot.Mode.TheVariants.{Exclusive}
use Rattle.dir_model.specs.declared.request.Request.TheVariants.{ListArea}
use Rattle.dir_model.specs.declared.request.Reply.TheVariants.{Done, Names}
use Rattle.dir_model.specs.Causes.{Rose}
use Rattle.dir_model.specs.State.{DirState}
use Rattle.dir_model.specs.Calls.{Extends}
use Rattle.dir_model.proofs.Chains.{nothing_yet, extends_wider}
use Rattle.dir_trait.specs.DirCalls.{DirAt, HeldBetween, ListCall}
use Rattle.dir_trait.specs.Effects.{OnlyAsks}
use Rattle.dir_files.specs.Listed.{ShowsAreaBetween}
use Rattle.dir_files.specs.AreaLocks.{is_taking_area, closes, IsFreeElsewhere}
use Rattle.image_reading.specs.declared.error.StoreError.{StoreError}
use Rattle.image_reading.specs.declared.error.StoreError.TheVariants.{DirFault}
use Rattle.image_removal.specs.declared.pass.Pass.{Pass}
use Rattle.image_removal.specs.declared.pass.Pass.TheVariants.{PutAway, Delete}
use Rattle.image_removal.specs.declared.pass.SweepLine.{SweepLine}
use Rattle.image_removal.specs.Passes.{area_of_pass, line_of, pass_request_of, uuids, deals_with_folders, is_close}
use Rattle.image_removal.specs.Calls.{WasCalled}
use Rattle.image_removal.specs.Causes.{is_fault_refusal, RemovalWorkCause}
use Rattle.image_removal.specs.Sweeps.{WorksAtShown, SweepsUnder, PassEndsEarly, UnderLock, PassedOverStore, IsSwept, Tried, AddsSweepLines, AddsLines}
use Rattle.dir_rules.specs.declared.seen.Seen.{Seen}
use Rattle.image_removal.specs.Work.{KeepsStandingAndRules, StaysBare, Stays}
use Rattle.image_removal.proofs.Knowing.{stays_conform}
use Rattle.image_removal.proofs.Causes.{fault_cause}
use Rattle.image_removal.proofs.Listings.{only_lists}
use Rattle.image_removal.proofs.Locked.{closes_some}

-- the area was listed, and its names worked at
module _ {observed : Bool} (pass : Pass) (names : List (List ℕ)) (a b c : DirAt) (t : observed ≡ true)
    (listing : ListCall observed a (ListArea (area_of_pass pass)) (Names names) b) (shows : ShowsAreaBetween a b (area_of_pass pass) names) (works : OnlyAsks observed (deals_with_folders pass names) b c) where
  pub works_at_shown : WorksAtShown pass names a.process a.trace c.trace
  works_at_shown = record {
    listed = b.trace;
    only_lists = only_lists (area_of_pass pass) (listing.step t);
    shows = shows;
    only = subst (λ (me : ℕ). Extends (deals_with_folders pass names) me b.trace c.trace) listing.same (works.extends t);
  }

  pub adds_swept : IsStrictlySortedBy (slice_cmp nat_cmp) names → (before after : List SweepLine) → AddsLines observed pass names before after b c → AddsSweepLines (λ lines. SweepsUnder pass lines a.process a.trace c.trace) before after
  unfolding works_at_shown
  adds_swept rise before after adds = (
    map (line_of pass) (uuids names),
    adds.lines,
    record {
      names = names;
      rise = rise;
      works = works_at_shown;
      each = subst (λ (me : ℕ). AllByRecursion (λ n. WasCalled (pass_request_of pass n) Done me b.trace c.trace) (uuids names)) listing.same (adds.each t);
      lines_are = refl;
    },
  )

-- a lock around other work
pub under_lock : (area : Area) (h : Handle) (P : ℕ → List Event → List Event → Type 0) (a b c d : DirAt) → b.process ≡ a.process → c.process ≡ b.process
    → Extends (is_taking_area area Exclusive) a.process a.trace b.trace → HeldBetween a b (IsFreeElsewhere a.process area Exclusive) → P b.process b.trace c.trace → Extends (closes h) c.process c.trace d.trace → UnderLock area P a.process a.trace d.trace
under_lock area h P a b c d ab bc first free under last = record {
  locked = b.trace;
  done = c.trace;
  takes_lock = first;
  free = free;
  under = subst (λ (me : ℕ). P me b.trace c.trace) ab under;
  gives_back = subst (λ (me : ℕ). Extends is_close me c.trace d.trace) (bc ∙ ab) (extends_wider (closes_some h) last);
}

-- a lock that wasn't had
pub line_cause : (observed : Bool) (old new : DirAt) (r : Result (Unit {0}) StoreError) → IfErr r (λ e. is_fault_refusal e ≡ true)
    → (r ≡ Err DirFault → Rose old.faults new.faults) → IfErr r (λ e. RemovalWorkCause observed e old new)
line_cause observed old new (Ok done) kind fault = tt
line_cause observed old new (Err e) kind fault = fault_cause e kind (λ is. fault (ap Err is))

-- both passes
pub tried_none : (pass : Pass) (me : ℕ) (d : List Event) → Tried pass me d d
tried_none pass me d = inl nothing_yet

pub swept_untried : (pass : Pass) (lines : List SweepLine) (me : ℕ) (old new : List Event) → SweepsUnder pass lines me old new → PassEndsEarly pass me old new
swept_untried pass lines me old new x = inr (x.names, x.works)

pub passed_tried : (Busy : Area → DirState → Type 0) (pass : Pass) (lines : List SweepLine) (me : ℕ) (old new : List Event) → PassedOverStore Busy pass lines me old new → Tried pass me old new
passed_tried Busy pass lines me old new (inl x) = inr
    (record { locked = x.locked; done = x.done; takes_lock = x.takes_lock; free = x.free; under = swept_untried pass lines me x.locked x.done x.under; gives_back = x.gives_back })
passed_tried Busy pass lines me old new (inr x) = inl x.only

pub adds_both : (Busy : Area → DirState → Type 0) (a b c : DirAt) → b.process ≡ a.process → (before mid after : List SweepLine)
    → AddsSweepLines (λ lines. PassedOverStore Busy PutAway lines a.process a.trace b.trace) before mid → AddsSweepLines (λ lines. PassedOverStore Busy Delete lines b.process b.trace c.trace) mid after
    → AddsSweepLines (λ lines. IsSwept Busy lines a.process a.trace c.trace) before after
adds_both Busy a b c same before mid after x y = (
  x.0 ++ y.0,
  y.1 ∙ (ap (λ (l : List SweepLine). l ++ y.0) x.1 ∙ append_assoc before x.0 y.0),
  record {
    between = b.trace;
    moved = x.0;
    deleted = y.0;
    puts_away = x.2;
    deletes = subst (λ (me : ℕ). PassedOverStore Busy Delete y.0 me b.trace c.trace) same y.2;
    lines_are = refl;
  },
)

-- the lines that were added to none
pub all_added : (P : List SweepLine → Type 0) (before after : List SweepLine) → before ≡ [] → AddsSweepLines P before after → P after
all_added P before after none x = subst P (sym (x.1 ∙ ap (λ (l : List SweepLine). l ++ x.0) none)) x.2

-- whatever the second came to
pub either_conforms : {T E : Type 0} (May : Seen → Type 0) (observed : Bool) (b c : DirAt) (r : Result T E) → IfOk r (λ x. observed ≡ true → Stays May StaysBare b c)
    → IfErr r (λ e. observed ≡ true → Stays May KeepsStandingAndRules b c)
    → observed ≡ true → Stays May KeepsStandingAndRules b c
either_conforms May observed b c (Ok x) ok err t = stays_conform (ok t)
either_conforms May observed b c (Err e) ok err t = err t

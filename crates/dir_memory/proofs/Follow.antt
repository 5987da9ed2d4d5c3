-- What the calls of a directory in memory leave.
use Rattle.std.proofs.Common.{◌≡◌, ◌⊎◌, inl, inr, ℕ, ◌+◌, Bool, true, false, not, ◌&&◌, cond, List, [], ◌∷◌, ◌++◌, refl, sym, ap, subst, ◌∙◌}
use Rattle.dir_model.specs.declared.event.Event.{Event}
use Rattle.dir_model.specs.declared.request.DirError.TheVariants.{Failed, NoMemory}
use Rattle.dir_model.specs.declared.request.Request.{Request}
use Rattle.dir_model.specs.declared.request.Reply.{Reply}
use Rattle.dir_model.specs.declared.request.Reply.TheVariants.{Begun, Refused}
use Rattle.dir_model.specs.Listings.{is_listing_request}
use Rattle.dir_model.specs.Trace.{state_after}
use Rattle.dir_model.specs.Calls.{event, Interference}
use Rattle.dir_model.specs.Local.{Local, local_replied}
use Rattle.dir_model.specs.State.{lives}
use Rattle.dir_state.specs.Parts.{kill_of}
use Rattle.dir_state.specs.Answers.{listing_answer}
use Rattle.dir_memory.specs.declared.planned.Planned.{Planned}
use Rattle.dir_memory.specs.Schedules.{with_steps, due, not_due}
use Rattle.dir_memory.specs.Memories.{Memory, CallerWasKilled, is_stopped, raised, is_to_fail, before_call, still_pending, answer_or_failure, Answered, RanOut, Listed, CutOff, once_begun, before_end, is_end_of}
use Rattle.dir_memory.proofs.Facts.{listing_local}

pub answered_by : (old : Memory) (request : Request) (reply : Reply) (fails : Bool) (trace : List Event) (faults calls numbered : ℕ) (local : Local) (pending : List Planned) → is_listing_request request ≡ false → fails ≡ is_to_fail old request
    → reply ≡ answer_or_failure fails (state_after (with_steps old.process old.trace (due (old.numbered + 1) false old.pending))) old.process request
    → trace ≡ with_steps old.process old.trace (due (old.numbered + 1) false old.pending) ++ event old.process request reply ∷ []
    → faults ≡ cond fails (raised old.faults) old.faults → calls ≡ raised old.calls → numbered ≡ raised old.numbered → local ≡ local_replied old.local request reply → pending ≡ not_due (old.numbered + 1) false old.pending
    → Answered old request reply (record { trace = trace; process = old.process; faults = faults; calls = calls; numbered = numbered; local = local; pending = pending; failing = old.failing; stop = old.stop; killed = old.killed })
answered_by old request reply fails trace faults calls numbered local pending plain f r t fs cs ns l p =
    let before : before_call old request ≡ with_steps old.process old.trace (due (old.numbered + 1) false old.pending) = ap (λ b. with_steps old.process old.trace (due (old.numbered + 1) b old.pending)) plain in
    let left : still_pending old request ≡ not_due (old.numbered + 1) false old.pending = ap (λ b. not_due (old.numbered + 1) b old.pending) plain in
    record {
      replied = r ∙ (ap (λ b. answer_or_failure b (state_after (with_steps old.process old.trace (due (old.numbered + 1) false old.pending))) old.process request) f ∙ ap (λ h. answer_or_failure (is_to_fail old request) (state_after h) old.process request) (sym before));
      after = rw (t, fs, cs, ns, l, p, before, left, f) refl;
    }

never : (b : Bool) (x y : ℕ) → cond (b && false) x y ≡ y
never true x y = refl
never false x y = refl

always : (b : Bool) (x y : ℕ) → cond (b && true) x y ≡ cond b x y
always true x y = refl
always false x y = refl

same_memory : (m : Memory) (t t' : List Event) (f f' c c' n n' : ℕ) (l l' : Local) (p p' : List Planned) → t ≡ t' → f ≡ f' → c ≡ c' → n ≡ n' → l ≡ l' → p ≡ p' → record m { trace = t; faults = f; calls = c; numbered = n; local = l; pending = p } ≡ record m { trace = t'; faults = f'; calls = c'; numbered = n'; local = l'; pending = p' }
same_memory m t t' f f' c c' n n' l l' p p' a b d e g h = rw (a, b, d, e, g, h) refl

pub stopped_by : (m : Memory) (request : Request) (listing : Bool) (mid trace : List Event) (pending : List Planned) (faults calls numbered : ℕ) → is_stopped m request ≡ true → listing ≡ is_listing_request request
    → mid ≡ with_steps m.process m.trace (due (m.numbered + 1) listing m.pending) → pending ≡ not_due (m.numbered + 1) listing m.pending → trace ≡ mid ++ kill_of (not m.killed) m.process → lives (state_after trace).namespace m.process ≡ false
    → faults ≡ raised m.faults → calls ≡ raised m.calls → numbered ≡ raised m.numbered
    → CallerWasKilled m request (Refused Failed 0) (record { trace = trace; process = m.process; faults = faults; calls = calls; numbered = numbered; local = m.local; pending = pending; failing = m.failing; stop = m.stop; killed = true })
stopped_by m request listing mid trace pending faults calls numbered stopped l came left t over fs cs ns = record {
  stopped = stopped;
  over = over;
  replied = refl;
  after = rw (t, came, left, l, fs, cs, ns) refl;
}

module _ (m : Memory) (request : Request) (reply : Reply) (fails cut came : Bool) (begun mid trace : List Event) (earlier later_steps : List Planned) (faults calls numbered : ℕ) (asks : is_listing_request request ≡ true) where
  abbrev n : ℕ
  n = m.numbered + 1

  abbrev new : Memory
  new = record { trace = trace; process = m.process; faults = faults; calls = calls; numbered = numbered; local = m.local; pending = later_steps; failing = m.failing; stop = m.stop; killed = m.killed }

  pub listing_by : fails ≡ is_to_fail m request
      → begun ≡ with_steps m.process m.trace (due n true m.pending) ++ event m.process request Begun ∷ [] → earlier ≡ not_due n true m.pending
      → Interference m.process begun mid → with_steps m.process mid (due n false later_steps) ≡ with_steps m.process begun (due n false earlier) → not_due n false later_steps ≡ not_due n false earlier
      → is_end_of request reply ≡ true → (came ≡ true → mid ≡ with_steps m.process begun (due n false earlier)) → (came ≡ true → later_steps ≡ not_due n false earlier)
      → trace ≡ mid ++ event m.process request reply ∷ []
      → (cut ≡ true → reply ≡ Refused NoMemory 0) → (cut ≡ false → (came ≡ true) × (reply ≡ cond fails (Refused Failed 0) (listing_answer (state_after mid) m.process)) × ((left : ℕ) → reply ≡ Refused Failed left → fails ≡ true))
      → faults ≡ cond (fails && not cut) (raised m.faults) m.faults → calls ≡ raised m.calls → numbered ≡ raised m.numbered
      → Listed m request reply new ⊎ (CutOff m request reply new ⊎ RanOut m request reply new)
  listing_by f b e inter first later ends came_is left_is t cut_is whole fs cs ns = by cut cut_is whole fs
    where
      before : once_begun m request ≡ begun
      before = ap (λ x. with_steps m.process m.trace (due n x m.pending) ++ event m.process request Begun ∷ []) asks ∙ sym b

      left : still_pending m request ≡ earlier
      left = ap (λ x. not_due n x m.pending) asks ∙ sym e

      ending : before_end m request ≡ with_steps m.process begun (due n false earlier)
      ending = ap (λ h. with_steps m.process h (due n false (still_pending m request))) before ∙ ap (λ ps. with_steps m.process begun (due n false ps)) left

      kept : m.local ≡ local_replied m.local request reply
      kept = sym (listing_local m.local request reply asks)

      by : (c : Bool) → (c ≡ true → reply ≡ Refused NoMemory 0) → (c ≡ false → (came ≡ true) × (reply ≡ cond fails (Refused Failed 0) (listing_answer (state_after mid) m.process)) × ((left : ℕ) → reply ≡ Refused Failed left → fails ≡ true)) → faults ≡ cond (fails && not c) (raised m.faults) m.faults → Listed m request reply new ⊎ (CutOff m request reply new ⊎ RanOut m request reply new)
      by true cut whole fs = inr (inl (record {
        trace = mid;
        replied = cut refl;
        meanwhile = subst (λ (h : List Event). Interference m.process h mid) (sym before) inter;
        first = first ∙ sym ending;
        later = later ∙ sym (ap (not_due n false) left);
        after = same_memory m trace (mid ++ event m.process request reply ∷ []) faults m.faults calls (raised m.calls) numbered (raised m.numbered) m.local (local_replied m.local request reply) later_steps later_steps t (fs ∙ never fails (raised m.faults) m.faults) cs ns kept refl;
      }))
      by false cut whole fs =
          let w = whole refl in
          let last : mid ≡ before_end m request = came_is w.0 ∙ sym ending in
          inl (record {
            replied = w.1 ∙ (ap (λ x. cond x (Refused Failed 0) (listing_answer (state_after mid) m.process)) f ∙ ap (λ h. cond (is_to_fail m request) (Refused Failed 0) (listing_answer (state_after h) m.process)) last);
            ends = ends;
            failed = λ left is. sym f ∙ (w.2 left is);
            after = same_memory m trace (before_end m request ++ event m.process request reply ∷ []) faults (cond (is_to_fail m request) (raised m.faults) m.faults) calls (raised m.calls) numbered (raised m.numbered) m.local (local_replied m.local request reply) later_steps (not_due n false (still_pending m request)) (t ∙ ap (λ h. h ++ event m.process request reply ∷ []) last) (fs ∙ (always fails (raised m.faults) m.faults ∙ ap (λ x. cond x (raised m.faults) m.faults) f)) cs ns kept (left_is w.0 ∙ sym (ap (not_due n false) left));
          })

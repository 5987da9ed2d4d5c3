-- What `prepare` left and `gc` did, by their own answers and status.
use Rattle.std.proofs.Common.{◌≡◌, ◌⊎◌, inl, inr, ℕ, true, false, ◌||◌, ◌==◌, List, Ok, Err, refl, sym, ap, subst, ◌∙◌}
use Rattle.dir_model.specs.declared.intent.Draw.{Draw}
use Rattle.dir_model.specs.declared.request.DirError.TheVariants as dir
use Rattle.dir_model.specs.declared.request.Reply.TheVariants.{Refused}
use Rattle.dir_model.specs.Calls.{Extends, is_begin}
use Rattle.dir_model.proofs.Chains.{nothing_yet, step_extends}
use Rattle.rkt_cli.specs.Tasks.{Prepare, Gc}
use Rattle.command_outcomes.specs.declared.refusal.Refusal.{Refusal}
use Rattle.command_outcomes.specs.declared.refusal.Refusal.TheVariants.{NoPod, DirFault, OutFault, NoMemory}
use Rattle.command_outcomes.specs.Texts.{exit_status_of}
use Rattle.command_outcomes.specs.Moments.{Outside, Moment, SinkSeen, CommandOutcome}
use Rattle.commands.specs.Prepare.{HasBrought, HasKeptFolder}
use Rattle.commands.specs.Gc.{times_of}
use Rattle.commands.specs.GcCommand.{LeavesSwept}
use Rattle.commands.specs.PrepareCommand.{LeavesPod}
use Rattle.rkt_cli.specs.Commands.{intent_of, may}
use Rattle.rkt_cli.specs.Runs.{Performs, End, Unwritten, Printed, end_status, RunsTaskOrNothing}
use Rattle.rkt_cli.proofs.Outcomes.{refusals_of}
use Rattle.rkt_cli.proofs.PodRan.{began, prepare_synced, brought_in_process, kept_in_process}
use Rattle.rkt_cli.proofs.PodRemovals.{SweptBy, gc_passes, gc_swept}
use Rattle.commands.specs.Wants.{Wants}

-- a prepare that was refused so left its own folder at most, or its sync was refused
abbrev LeftBy : Draw → Refusal → Outside → Outside → Type 0
LeftBy draw DirFault old new = HasKeptFolder draw.uuid old.dir new.dir ⊎ HasBrought draw.uuid (Refused dir.Failed 0) old.dir new.dir
LeftBy draw NoMemory old new = HasKeptFolder draw.uuid old.dir new.dir ⊎ HasBrought draw.uuid (Refused dir.NoMemory 0) old.dir new.dir
LeftBy draw r old new = HasKeptFolder draw.uuid old.dir new.dir

left_by : (wants : Wants) (now : ℕ) (draw : Draw) (old new : Outside) (r : Refusal) → Performs (Prepare wants) now draw (intent_of (Prepare wants) now draw) old new (Err r) → old.observed ≡ true → LeftBy draw r old new
left_by wants now draw old new DirFault (inl s) t = elim s.ran.says [ inl left ↦ inl (kept_in_process s (began now draw) t left) | inr brings ↦ inr (brought_in_process s (began now draw) t brings) ]
left_by wants now draw old new NoMemory (inl s) t = elim s.ran.says [ inl left ↦ inl (kept_in_process s (began now draw) t left) | inr brings ↦ inr (brought_in_process s (began now draw) t brings) ]
left_by wants now draw old new NoMemory (inr n) t = inl (inl (step_extends is_begin old.dir.process old.dir.trace _ _ new.dir.trace refl (n.step t)))
left_by wants now draw old new r (inl s) t = kept_in_process s (began now draw) t s.ran.says.0
left_by wants now draw old new r (inr n) t = let e = n.is in cc

-- another status than that of a whole answer, or of one that wasn't written
neither : (wants : Wants) (r : Refusal) → may (Prepare wants) r ≡ true → ((exit_status_of r == 0) || (exit_status_of r == 12)) ≡ false
neither wants OutFault allowed = let clash : false ≡ true = allowed in cc
neither wants NoPod allowed = refl
neither wants r allowed = refl

module _ (wants : Wants) (now : ℕ) (draw : Draw) (before after : Outside) (t : before.observed ≡ true) where
  abbrev Leaves : ℕ → Type 0
  Leaves status = LeavesPod draw.uuid status before.dir after.dir

  refused : (r : Refusal) (status : ℕ) → status ≡ exit_status_of r → may (Prepare wants) r ≡ true → LeftBy draw r before after → Leaves status
  refused r status is allowed left = subst Leaves (sym is) (by r allowed left)
    where
      by : (r : Refusal) → may (Prepare wants) r ≡ true → LeftBy draw r before after → Leaves (exit_status_of r)
      by DirFault allowed (inl kept) = inr (inr (inr (refl, kept)))
      by DirFault allowed (inr brought) = inr (inl (refl, brought))
      by NoMemory allowed (inl kept) = inr (inr (inr (refl, kept)))
      by NoMemory allowed (inr brought) = inr (inr (inl (refl, inr brought)))
      by r allowed kept = inr (inr (inr (neither wants r allowed, kept)))

  -- the pod was told, or its name wasn't written
  brought : (text : List ℕ) (old new : SinkSeen) (end : End) (status : ℕ) → Performs (Prepare wants) now draw (intent_of (Prepare wants) now draw) before after (Ok text) → Printed (Ok text) old new end → status ≡ end_status end → Leaves status
  brought text old new (Ok done) status p printed is = inl (inl is, prepare_synced wants now draw before after text p t)
  brought text old new (Err r) status p printed is = by (printed.cause text refl)
    where
      by : Unwritten r old new → Leaves status
      by (inl x) = inl (inr (is ∙ ap exit_status_of x.0), prepare_synced wants now draw before after text p t)
      by (inr x) = inr (inr (inl (is ∙ ap exit_status_of x.0, inl (prepare_synced wants now draw before after text p t))))

  ended : (o : CommandOutcome) (old new : SinkSeen) (end : End) (status : ℕ) → Performs (Prepare wants) now draw (intent_of (Prepare wants) now draw) before after o → Printed o old new end → status ≡ end_status end → Leaves status
  ended (Ok text) old new end status p printed is = brought text old new end status p printed is
  ended (Err r) old new end status p printed is =
      refused r status (is ∙ ap end_status printed.refused.0) (refusals_of (Prepare wants) now draw (intent_of (Prepare wants) now draw) before after (Err r) r p refl) (left_by wants now draw before after r p t)

-- a sweep was refused with another status than these
neither_swept : (grace expire : ℕ) (r : Refusal) → may (Gc grace expire) r ≡ true → ((exit_status_of r == 0) || (exit_status_of r == 12)) ≡ false
neither_swept grace expire OutFault allowed = let clash : false ≡ true = allowed in cc
neither_swept grace expire r allowed = refl

module _ (grace expire : ℕ) (now : ℕ) (draw : Draw) (before after : Outside) (t : before.observed ≡ true) where
  abbrev Swept : ℕ → Type 0
  Swept status = LeavesSwept (times_of now grace expire) status before.dir after.dir

  swept_early : (r : Refusal) (status : ℕ) → status ≡ exit_status_of r → may (Gc grace expire) r ≡ true → SweptBy (times_of now grace expire) r before.dir after.dir → Swept status
  swept_early r status is allowed swept = subst Swept (sym is) (by r allowed swept)
    where
      by : (r : Refusal) → may (Gc grace expire) r ≡ true → SweptBy (times_of now grace expire) r before.dir after.dir → Swept (exit_status_of r)
      by NoMemory allowed (inl whole) = inl (inr refl, whole)
      by NoMemory allowed (inr (inl part)) = inr (inl (refl, part))
      by NoMemory allowed (inr (inr none)) = inr (inr (refl, none))
      by r allowed part = inr (inl (neither_swept grace expire r allowed, part))

  swept_whole : (text : List ℕ) (old new : SinkSeen) (end : End) (status : ℕ) → Performs (Gc grace expire) now draw (intent_of (Gc grace expire) now draw) before after (Ok text) → Printed (Ok text) old new end → status ≡ end_status end → Swept status
  swept_whole text old new (Ok done) status p printed is = inl (inl (inl is), gc_passes now draw before after text p t)
  swept_whole text old new (Err r) status p printed is = by (printed.cause text refl)
    where
      by : Unwritten r old new → Swept status
      by (inl x) = inl (inl (inr (is ∙ ap exit_status_of x.0)), gc_passes now draw before after text p t)
      by (inr x) = inl (inr (is ∙ ap exit_status_of x.0), gc_passes now draw before after text p t)

  swept : (o : CommandOutcome) (old new : SinkSeen) (end : End) (status : ℕ) → Performs (Gc grace expire) now draw (intent_of (Gc grace expire) now draw) before after o → Printed o old new end → status ≡ end_status end → Swept status
  swept (Ok text) old new end status p printed is = swept_whole text old new end status p printed is
  swept (Err r) old new end status p printed is =
      swept_early r status (is ∙ ap end_status printed.refused.0) (refusals_of (Gc grace expire) now draw (intent_of (Gc grace expire) now draw) before after (Err r) r p refl) (gc_swept now draw before after r p t)

module _ (now : ℕ) (draw : Draw) (old new : Moment) (status : ℕ) (t : old.outside.observed ≡ true) where
  pub sweep_left : {grace : ℕ} {expire : ℕ} → RunsTaskOrNothing (Gc grace expire) now draw old new status → LeavesSwept (times_of now grace expire) status old.outside.dir new.outside.dir
  sweep_left {grace = grace} {expire = expire} (inl r) = swept grace expire now draw old.outside new.outside t r.outcome old.out new.out r.end status r.performs r.printed r.is
  sweep_left (inr n) = inr (inr (n.is, subst (λ (x : Outside). Extends is_begin old.outside.dir.process old.outside.dir.trace x.dir.trace) (sym n.outside) nothing_yet))

  pub pod_left : (wants : Wants) → RunsTaskOrNothing (Prepare wants) now draw old new status → LeavesPod draw.uuid status old.outside.dir new.outside.dir
  pod_left wants (inl r) = ended wants now draw old.outside new.outside t r.outcome old.out new.out r.end status r.performs r.printed r.is
  pod_left wants (inr n) =
      inr (inr (inr (ap (λ (x : ℕ). (x == 0) || (x == 12)) n.is, inl (subst (λ (x : Outside). Extends is_begin old.outside.dir.process old.outside.dir.trace x.dir.trace) (sym n.outside) nothing_yet))))

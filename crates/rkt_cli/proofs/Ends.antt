-- What a status says of the end of a run.
use Rattle.std.proofs.Common.{arith, ◌≡◌, ◌⊎◌, inl, inr, ℕ, Bool, true, false, ◌||◌, ◌==◌, cond, List, Ok, Err, IfErr, refl, sym, ap, subst, ◌∙◌}
use Rattle.std.proofs.lemmas.Bool.Decides.{nat_tests}
use Rattle.dir_model.specs.declared.area.Area.{Area}
use Rattle.dir_model.specs.declared.area.Phase.{Phase}
use Rattle.dir_model.specs.declared.spot.Which.{Which}
use Rattle.dir_model.specs.declared.pod.PodId.{PodId}
use Rattle.rkt_cli.specs.Tasks.{Task}
use Rattle.command_outcomes.specs.declared.refusal.Refusal.{Refusal}
use Rattle.command_outcomes.specs.declared.refusal.Refusal.TheVariants.{Usage, NoPod, Ambiguous, Busy, BadManifest, NoImage, NoDependency, Cycle, Limit, DirFault, BundleFault, OutFault, NoMemory, NoFile, Conflict, Damaged, BadKind, Taken, WrongPhase, PodBusy, NoManifest, NoProgram, SpawnFault, LinkFault, Stray}
use Rattle.command_outcomes.specs.Texts.{exit_status_of}
use Rattle.command_outcomes.specs.Moments.{SinkSeen, CommandOutcome}
use Rattle.rkt_cli.specs.Commands.{may}
use Rattle.rkt_cli.specs.Promises.{IsExitStatus}
use Rattle.rkt_cli.specs.Runs.{End, Unwritten, Printed, end_status}

pub absurd_number : {X : Type 0} → (m n : ℕ) → m ≡ n → (m == n) ≡ false → X
absurd_number m n h apart = absurd (grind (arith, nat_tests))

-- the end that a status stands for, but for those that name something
abbrev pub end_of : ℕ → End
end_of n = cond (n == 0) (Ok tt) (cond (n == 1) (Err Usage) (cond (n == 2) (Err NoPod) (cond (n == 9) (Err DirFault) (cond (n == 10) (Err BundleFault) (cond (n == 11) (Err SpawnFault) (cond (n == 12) (Err OutFault) (cond (n == 13) (Err LinkFault) (cond (n == 20) (Err Stray) (Err NoMemory)))))))))

abbrev pub names : ℕ → Bool
names n = (n == 3) || ((n == 4) || ((n == 5) || ((n == 6) || ((n == 7) || ((n == 8) || ((n == 15) || ((n == 17) || ((n == 18) || (n == 19)))))))))

end_again : (end : End) → names (end_status end) ≡ false → end ≡ end_of (end_status end)
end_again (Ok done) plain = refl
end_again (Err Usage) plain = refl
end_again (Err NoPod) plain = refl
end_again (Err DirFault) plain = refl
end_again (Err BundleFault) plain = refl
end_again (Err SpawnFault) plain = refl
end_again (Err OutFault) plain = refl
end_again (Err LinkFault) plain = refl
end_again (Err NoMemory) plain = refl
end_again (Err Stray) plain = refl
end_again (Err r) plain = let clash : true ≡ false = plain in cc

pub end_at : (end : End) (status n : ℕ) → status ≡ end_status end → status ≡ n → names n ≡ false → end ≡ end_of n
end_at end status n is at plain = let e : end_status end ≡ n = sym is ∙ at in end_again end (ap names e ∙ plain) ∙ ap end_of e

-- the others that it may stand for
pub refusal_end : (end : End) (n : ℕ) → end_status end ≡ n → (n == 0) ≡ false → (r : Refusal) × (end ≡ Err r) × (exit_status_of r ≡ n)
refusal_end (Ok done) n is apart = absurd_number n 0 (sym is) apart
refusal_end (Err r) n is apart = (r, refl, is)

pub is_bad_manifest : (r : Refusal) → exit_status_of r ≡ 6 → (path : List ℕ) × (number : ℕ) × (r ≡ BadManifest path number)
is_bad_manifest (BadManifest path number) is = (path, number, refl)
is_bad_manifest r is = absurd_number (exit_status_of r) 6 is refl

pub is_limit : (r : Refusal) → exit_status_of r ≡ 8 → (number : ℕ) × (r ≡ Limit number)
is_limit (Limit number) is = (number, refl)
is_limit r is = absurd_number (exit_status_of r) 8 is refl

pub is_taken : (r : Refusal) → exit_status_of r ≡ 17 → (pod : PodId) × (r ≡ Taken pod)
is_taken (Taken pod) is = (pod, refl)
is_taken r is = absurd_number (exit_status_of r) 17 is refl

pub is_busy : (r : Refusal) → exit_status_of r ≡ 5 → ((area : Area) × (r ≡ Busy area)) ⊎ ((pod : PodId) × (which : Which) × (r ≡ PodBusy pod which))
is_busy (Busy area) is = inl (area, refl)
is_busy (PodBusy pod which) is = inr (pod, which, refl)
is_busy r is = absurd_number (exit_status_of r) 5 is refl

pub is_wrong_phase : (r : Refusal) → exit_status_of r ≡ 4 → (phase : Phase) × (r ≡ WrongPhase phase)
is_wrong_phase (WrongPhase phase) is = (phase, refl)
is_wrong_phase r is = absurd_number (exit_status_of r) 4 is refl

pub is_no_manifest : (r : Refusal) → exit_status_of r ≡ 18 → (pod : PodId) × (r ≡ NoManifest pod)
is_no_manifest (NoManifest pod) is = (pod, refl)
is_no_manifest r is = absurd_number (exit_status_of r) 18 is refl

pub is_no_program : (r : Refusal) → exit_status_of r ≡ 19 → (app : List ℕ) × (word : List ℕ) × (r ≡ NoProgram app word)
is_no_program (NoProgram app word) is = (app, word, refl)
is_no_program r is = absurd_number (exit_status_of r) 19 is refl

-- the refusals of an output
abbrev pub is_of_output : Refusal → Bool
is_of_output OutFault = true
is_of_output NoMemory = true
is_of_output _ = false

-- no refusal of an output has status 15
pub lacks_no_output : (r : Refusal) → exit_status_of r ≡ 15 → is_of_output r ≡ false
lacks_no_output OutFault is = absurd_number 12 15 is refl
lacks_no_output NoMemory is = absurd_number 14 15 is refl
lacks_no_output r is = refl

-- nor has one status 7
pub unmatched_no_output : (r : Refusal) → exit_status_of r ≡ 7 → is_of_output r ≡ false
unmatched_no_output OutFault is = absurd_number 12 7 is refl
unmatched_no_output NoMemory is = absurd_number 14 7 is refl
unmatched_no_output r is = refl

pub refusal_status : (r : Refusal) → (exit_status_of r == 0) ≡ false
refusal_status NoPod = refl
refusal_status r = refl

pub refusal_plain : (r : Refusal) → ((exit_status_of r == 0) || (exit_status_of r == 16)) ≡ false
refusal_plain NoPod = refl
refusal_plain r = refl

abbrev refusal_in : End → Refusal → Refusal
refusal_in (Ok done) other = other
refusal_in (Err r) other = r

-- where it ended so, the outcome was that refusal, or its text wasn't written
pub from_end : (o : CommandOutcome) (old new : SinkSeen) (end : End) (r : Refusal) → Printed o old new end → end ≡ Err r → (o ≡ Err r) ⊎ Unwritten r old new
from_end (Err x) old new end r p is = inl (ap (λ (e : End). Err (refusal_in e r)) (sym (p.refused.0) ∙ is))
from_end (Ok text) old new end r p is = inr (subst (λ (e : End). IfErr e (λ r. Unwritten r old new)) is (p.cause text refl))

-- a status that the command can have, or that of an output
pub output_known : (r : Refusal) → is_of_output r ≡ true → IsExitStatus (exit_status_of r)
output_known OutFault is = refl
output_known NoMemory is = refl
output_known r is = let clash : false ≡ true = is in cc

pub refusal_known : (line : Task) (r : Refusal) → may line r ≡ true → IsExitStatus (exit_status_of r)
refusal_known line Usage allowed = refl
refusal_known line NoPod allowed = refl
refusal_known line (Ambiguous first second) allowed = refl
refusal_known line (Busy area) allowed = refl
refusal_known line (BadManifest path number) allowed = refl
refusal_known line (NoImage key) allowed = refl
refusal_known line (NoDependency name) allowed = refl
refusal_known line (Cycle key) allowed = refl
refusal_known line DirFault allowed = refl
refusal_known line BundleFault allowed = refl
refusal_known line OutFault allowed = refl
refusal_known line NoMemory allowed = refl
refusal_known line (NoFile path) allowed = refl
refusal_known line (Conflict key stored new) allowed = refl
refusal_known line (Damaged path) allowed = refl
refusal_known line (BadKind path) allowed = refl
refusal_known line (Taken pod) allowed = refl
refusal_known line (Limit number) allowed = refl
refusal_known line Stray allowed = refl
refusal_known line (WrongPhase phase) allowed = refl
refusal_known line (PodBusy pod which) allowed = refl
refusal_known line (NoManifest pod) allowed = refl
refusal_known line (NoProgram app word) allowed = refl
refusal_known line SpawnFault allowed = refl
refusal_known line LinkFault allowed = refl

-- the others are the command's
pub from_command : (o : CommandOutcome) (old new : SinkSeen) (end : End) (r : Refusal) → Printed o old new end → end ≡ Err r → is_of_output r ≡ false → o ≡ Err r
from_command o old new end r p is other = by (from_end o old new end r p is)
  where
    by : (o ≡ Err r) ⊎ Unwritten r old new → o ≡ Err r
    by (inl e) = e
    by (inr (inl x)) = let clash : true ≡ false = sym (ap is_of_output x.0) ∙ other in cc
    by (inr (inr x)) = let clash : true ≡ false = sym (ap is_of_output x.0) ∙ other in cc

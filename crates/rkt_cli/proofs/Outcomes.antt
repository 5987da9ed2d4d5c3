-- What a command came to, whatever it is.
use Rattle.std.proofs.Common.{arith, ◌≡◌, ◌⊎◌, inl, inr, ℕ, true, false, List, ◌++◌, Option, Some, None, Ok, Err, IsOk, IsErrOf, IfErr, refl, sym, ap, subst, ◌∙◌}
use Rattle.dir_model.specs.declared.intent.Draw.{Draw}
use Rattle.dir_model.specs.declared.intent.Intent.{Intent}
use Rattle.dir_model.specs.Causes.{Rose}
use Rattle.dir_trait.specs.Bundles.{bytes_of_node}
use Rattle.ac_types.specs.Outcomes.{reads, fails}
use Rattle.ac_types.specs.Outcomes as reading
use Rattle.manifests.specs.DocumentData.{DocumentData, any_manifest}
use Rattle.rkt_cli.specs.Tasks.{Task}
use Rattle.rkt_cli.specs.Tasks.{Validate}
use Rattle.command_outcomes.specs.declared.refusal.Refusal.{Refusal}
use Rattle.command_outcomes.specs.declared.refusal.Refusal.TheVariants.{DirFault, BundleFault, NoMemory}
use Rattle.command_outcomes.specs.Texts.{exit_status_of}
use Rattle.commands.specs.Texts.{valid_text}
use Rattle.command_outcomes.specs.Moments.{Outside, Moment, BundleSeen, CommandOutcome}
use Rattle.command_outcomes.proofs.Seen.{rose_wider}
use Rattle.command_outcomes.specs.Ends.{is_own_end}
use Rattle.commands.specs.Validate.{ValidateSays, file_outcome, manifest_outcome, sequential_validate}
use Rattle.commands.specs.Answers.{IsAnswer}
use Rattle.rkt_cli.specs.Commands.{may}
use Rattle.rkt_cli.specs.Runs.{Performs, End, Unwritten, Printed, Reported, end_status}
use Rattle.rkt_cli.proofs.Judged.{judged_whole}

pub rose_between : (a b c d : ℕ) → b ≡ a → Rose b c → d ≡ c → Rose a d
rose_between a b c d ba rose dc = omega arith

pub fault_cause : (line : Task) (now : ℕ) (draw : Draw) (intent : Option Intent) (old new : Outside) (o : CommandOutcome) → Performs line now draw intent old new o → o ≡ Err DirFault → Rose old.dir.faults new.dir.faults
fault_cause line now draw (Some intent) old new o (inl s) is = rose_wider old.dir.faults s.begun.dir.faults s.ended.dir.faults new.dir.faults s.risen (subst (λ (o : CommandOutcome). IsErrOf o DirFault → Rose s.begun.dir.faults s.ended.dir.faults) is s.ran.cause refl) s.faults
fault_cause line now draw (Some intent) old new o (inr n) is = let e : Err DirFault ≡ Err NoMemory = sym is ∙ n.is in cc
fault_cause line now draw None old new o p is = subst (λ (o : CommandOutcome). IsErrOf o DirFault → Rose old.dir.faults new.dir.faults) is p.ran.cause refl

pub bundle_cause : (line : Task) (now : ℕ) (draw : Draw) (intent : Option Intent) (old new : Outside) (o : CommandOutcome) → Performs line now draw intent old new o → o ≡ Err BundleFault → Rose old.bundle.faults new.bundle.faults
bundle_cause line now draw (Some intent) old new o (inl s) is = rose_between old.bundle.faults s.begun.bundle.faults s.ended.bundle.faults new.bundle.faults (ap (λ (x : BundleSeen). x.faults) s.bundle_before) (subst (λ (o : CommandOutcome). IsErrOf o BundleFault → Rose s.begun.bundle.faults s.ended.bundle.faults) is s.ran.bundle_cause refl) (ap (λ (x : BundleSeen). x.faults) s.bundle_after)
bundle_cause line now draw (Some intent) old new o (inr n) is = let e : Err BundleFault ≡ Err NoMemory = sym is ∙ n.is in cc
bundle_cause line now draw None old new o p is = subst (λ (o : CommandOutcome). IsErrOf o BundleFault → Rose old.bundle.faults new.bundle.faults) is p.ran.bundle_cause refl

pub refusals_of : (line : Task) (now : ℕ) (draw : Draw) (intent : Option Intent) (old new : Outside) (o : CommandOutcome) (r : Refusal) → Performs line now draw intent old new o → o ≡ Err r → may line r ≡ true
refusals_of line now draw (Some intent) old new o r (inl s) is = subst (λ (o : CommandOutcome). IfErr o (λ r. may line r ≡ true)) is s.ran.refusals
refusals_of line now draw (Some intent) old new o r (inr n) is = subst (λ (o : CommandOutcome). IfErr o (λ r. may line r ≡ true)) (sym n.is ∙ is) refl
refusals_of line now draw None old new o r p is = subst (λ (o : CommandOutcome). IfErr o (λ r. may line r ≡ true)) is p.ran.refusals

abbrev pub printing : List ℕ → CommandOutcome
printing text = Ok text

abbrev pub WasAnswered : CommandOutcome → ℕ → Moment → Moment → Type 0
WasAnswered o status old new = (status ≡ 14) ⊎ ((status ≡ 12) × IsOk o × Rose old.out.faults new.out.faults) ⊎ IsAnswer o status old new

-- what was written is the outcome's, or a part of its text
pub answered : (o : CommandOutcome) (old new : Moment) (end : End) (status : ℕ) → Printed o old.out new.out end → Reported end old.err new.err → status ≡ end_status end → WasAnswered o status old new
answered (Err r) old new end status p said is =
    inr (inr (is ∙ ap end_status p.refused.0, p.refused.1, subst (λ (e : End). Reported e old.err new.err) p.refused.0 said))
answered (Ok text) old new (Ok done) status p said is =
    let d = p.done refl in
    let same : d.0 ≡ text = let e : Ok text ≡ Ok d.0 = d.1 in cc in
    inr (inr (is, λ t. d.2 t ∙ ap (λ (x : List ℕ). old.out.bytes ++ x) same, said))
answered (Ok text) old new (Err r) status p said is = by (p.cause text refl)
  where
    by : Unwritten r old.out new.out → WasAnswered (printing text) status old new
    by (inl x) = inr (inl (is ∙ ap exit_status_of x.0, refl, x.1))
    by (inr x) = inl (is ∙ ap exit_status_of x.0)

-- the file of `validate`
pub does_validate : (path : List ℕ) (now : ℕ) (draw : Draw) (intent : Option Intent) (old new : Outside) (o : CommandOutcome) → is_own_end o ≡ true → Performs (Validate path) now draw intent old new o → ValidateSays path old.bundle o
does_validate path now draw None old new o own p = p.ran.says own
does_validate path now draw (Some intent) old new o own (inl s) = subst (λ (x : BundleSeen). ValidateSays path x o) s.bundle_before (s.ran.says own)
does_validate path now draw (Some intent) old new o own (inr n) = let clash : true ≡ false = sym own ∙ ap is_own_end n.is in cc

pub validate_told : (path : List ℕ) (old : BundleSeen) (o : CommandOutcome) → ValidateSays path old o → old.observed ≡ true → o ≡ sequential_validate path old.tree
validate_told path old o d t = d.is ∙ judged_whole path d.found (bytes_of_node (old.tree path)) (d.told t)

manifest_prints : (judged : reading.Outcome DocumentData) (text : List ℕ) → Ok text ≡ manifest_outcome judged → (manifest : DocumentData) × (text ≡ valid_text manifest)
manifest_prints (reads manifest) text is = (manifest, let e : text ≡ valid_text manifest = cc in e)
manifest_prints (fails path kind) text is = cc

pub file_prints : (path : List ℕ) (found : Option (List ℕ)) (text : List ℕ) → Ok text ≡ file_outcome path found → (manifest : DocumentData) × (text ≡ valid_text manifest)
file_prints path None text is = cc
file_prints path (Some bytes) text is = manifest_prints (any_manifest bytes) text is

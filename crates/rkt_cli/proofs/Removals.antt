-- What `image rm` and `image gc` tell of the whole run.
use Rattle.std.proofs.Common.{◌≡◌, inl, inr, ℕ, true, false, List, [], Option, Some, None, Ok, Err, refl, subst, ◌∙◌}
use Rattle.ac_types.specs.Ids.{id_text}
use Rattle.ac_types.specs.declared.store_key.StoreKey.{StoreKey}
use Rattle.dir_model.specs.declared.area.Area.{Area}
use Rattle.dir_model.specs.declared.event.Event.{Event}
use Rattle.dir_model.specs.declared.intent.Draw.{Draw}
use Rattle.dir_model.specs.declared.intent.Intent.{Intent}
use Rattle.dir_model.specs.declared.intent.Kind.TheVariants as kind
use Rattle.dir_model.specs.Calls.{is_begin, is_finish, Extends}
use Rattle.image_removal.specs.declared.pass.SweepLine.{SweepLine}
use Rattle.image_removal.specs.Causes.{StrayRemoval, FoundNoImage}
use Rattle.image_removal.proofs.Begun.{begun_removes, begun_sweeps}
use Rattle.rkt_cli.specs.Tasks.{Task}
use Rattle.rkt_cli.specs.Tasks.{ImageRm, ImageGc}
use Rattle.command_outcomes.specs.declared.refusal.Refusal.TheVariants.{Busy, NoImage, Stray, DirFault}
use Rattle.command_outcomes.specs.Moments.{Outside, CommandOutcome}
use Rattle.command_outcomes.specs.Conforming.{seen_at_begin}
use Rattle.commands.specs.Command.{intent_for}
use Rattle.rkt_cli.specs.Commands.{intent_of}
use Rattle.rkt_cli.specs.Runs.{InProcess, Performs}
use Rattle.command_outcomes.specs.Meanwhile.{Meanwhile}
use Rattle.commands.specs.ImageRm.{removed_image_text, RemovesStoredImage, FindsBusy, HasRemoved, HasFoundNone, HasMetStray}
use Rattle.commands.specs.ImageGc.{sweep_texts, SweepsImages, StrayInSweep, HasSwept, HasMetStrayInSweep, EndsEarly, HasEndedEarly}
use Rattle.rkt_cli.proofs.Sessions.{begin_part, finish_part, no_looks}
use Rattle.rkt_cli.proofs.Conforming.{begun_knows}
use Rattle.commands.specs.Opening.{directly, OnceFound}
use Rattle.commands.proofs.Starts.{open_extends}
use Rattle.rkt_cli.specs.Commands.{approach_in}
use Rattle.commands.specs.Strays.{NeverComes}
use Rattle.lifecycle.proofs.Draws.{conforming_left}
use Rattle.lifecycle.specs.Executions.{IsConforming}

-- what was so of the command is so of the process between its begin and its finish
pub meanwhile : {task : Task} {now : ℕ} {draw : Draw} {intent : Intent} {old new : Outside} {o : CommandOutcome} (P : ℕ → List Event → List Event → Type 0) → approach_in task ≡ directly → (s : InProcess task now draw intent old new o) → old.observed ≡ true →
    P s.begun.dir.process s.begun.dir.trace s.ended.dir.trace → Meanwhile P old.dir.process old.dir.trace new.dir.trace
meanwhile {task = task} P direct s t so = record {
  begun = s.begun.dir.trace;
  ended = s.ended.dir.trace;
  begins = begin_part s t is_begin refl (λ r h. no_looks task direct r h);
  so = subst (λ (me : ℕ). P me s.begun.dir.trace s.ended.dir.trace) s.me so;
  finishes = finish_part s t is_finish refl;
}

-- and where the process may have looked for its pod
pub once_found : {task : Task} {now : ℕ} {draw : Draw} {intent : Intent} {old new : Outside} {o : CommandOutcome} (P : ℕ → List Event → List Event → Type 0) (s : InProcess task now draw intent old new o) → old.observed ≡ true →
    P s.begun.dir.process s.begun.dir.trace s.ended.dir.trace → OnceFound P old.dir.process old.dir.trace new.dir.trace
once_found P s t so = record {
  begun = s.begun.dir.trace;
  ended = s.ended.dir.trace;
  begins = open_extends (s.begins t);
  so = subst (λ (me : ℕ). P me s.begun.dir.trace s.ended.dir.trace) s.me so;
  finishes = finish_part s t is_finish refl;
}

-- `image rm`: what was printed
pub removal_printed : (key : StoreKey) (now : ℕ) (draw : Draw) (intent : Option Intent) (old new : Outside) (text : List ℕ) → Performs (ImageRm key) now draw intent old new (Ok text) → text ≡ removed_image_text key
removal_printed key now draw (Some intent) old new text (inl s) = s.ran.says.0.is
removal_printed key now draw (Some intent) old new text (inr n) = let e = n.is in cc
removal_printed key now draw None old new text p = let clash : true ≡ false = p.apart in cc

-- and done
pub removal_done : (key : StoreKey) (now : ℕ) (draw : Draw) (old new : Outside) (text : List ℕ) → Performs (ImageRm key) now draw (intent_of (ImageRm key) now draw) old new (Ok text) → old.observed ≡ true →
    HasRemoved key draw.uuid old.dir new.dir
removal_done key now draw old new text (inl s) t =
    let intent = intent_for kind.ImageRm [] now draw in
    meanwhile (RemovesStoredImage key draw.uuid) refl s t (s.ran.says.0.removed (s.told ∙ t) (seen_at_begin intent) (begun_knows s t) (begun_removes intent draw.uuid refl refl))
removal_done key now draw old new text (inr n) t = let e = n.is in cc

-- or why not
pub removal_busy : (key : StoreKey) (now : ℕ) (draw : Draw) (old new : Outside) (area : Area) → Performs (ImageRm key) now draw (intent_of (ImageRm key) now draw) old new (Err (Busy area)) → old.observed ≡ true →
    Meanwhile FindsBusy old.dir.process old.dir.trace new.dir.trace
removal_busy key now draw old new area (inl s) t =
    let intent = intent_for kind.ImageRm [] now draw in
    meanwhile FindsBusy refl s t (s.ran.says.0 (s.told ∙ t) (seen_at_begin intent) (begun_knows s t) (begun_removes intent draw.uuid refl refl))
removal_busy key now draw old new area (inr n) t = let e = n.is in cc

pub removal_unnamed : (key : StoreKey) (now : ℕ) (draw : Draw) (intent : Option Intent) (old new : Outside) (named : List ℕ) → Performs (ImageRm key) now draw intent old new (Err (NoImage named)) → named ≡ id_text key.bytes
removal_unnamed key now draw (Some intent) old new named (inl s) = s.ran.says.0.is
removal_unnamed key now draw (Some intent) old new named (inr n) = let e = n.is in cc
removal_unnamed key now draw None old new named p = let clash : true ≡ false = p.apart in cc

pub removal_none : (key : StoreKey) (now : ℕ) (draw : Draw) (intent : Option Intent) (old new : Outside) (named : List ℕ) → Performs (ImageRm key) now draw intent old new (Err (NoImage named)) → old.observed ≡ true →
    HasFoundNone key draw.uuid old.dir new.dir
removal_none key now draw (Some intent) old new named (inl s) t = meanwhile (FoundNoImage key draw.uuid) refl s t (s.ran.says.0.found (s.told ∙ t))
removal_none key now draw (Some intent) old new named (inr n) t = let e = n.is in cc
removal_none key now draw None old new named p t = let clash : true ≡ false = p.apart in cc

-- what doesn't come in a part of a conforming history doesn't come in the whole
never_in_part : {me : ℕ} {ended new : List Event} → Extends is_finish me ended new → NeverComes ended → NeverComes new
never_in_part {me} {ended} {new} x never conforming = never (conforming_left ended x.more (subst IsConforming x.grown conforming))

pub removal_stray : (key : StoreKey) (now : ℕ) (draw : Draw) (old new : Outside) → Performs (ImageRm key) now draw (intent_of (ImageRm key) now draw) old new (Err Stray) → old.observed ≡ true →
    HasMetStray key draw.uuid old.dir new.dir × NeverComes new.dir.trace
removal_stray key now draw old new (inl s) t =
    let intent = intent_for kind.ImageRm [] now draw in (
      meanwhile (StrayRemoval key draw.uuid) refl s t (s.ran.says.0.0 (s.told ∙ t)),
      never_in_part (finish_part s t is_finish refl) (s.ran.says.0.1 (s.told ∙ t) (seen_at_begin intent) (begun_knows s t) (begun_removes intent draw.uuid refl refl)),
    )
removal_stray key now draw old new (inr n) t = let e = n.is in cc

-- `image gc`: what was printed
pub sweep_printed : (now : ℕ) (draw : Draw) (intent : Option Intent) (old new : Outside) (text : List ℕ) → Performs ImageGc now draw intent old new (Ok text) → (lines : List SweepLine) × (text ≡ sweep_texts lines)
sweep_printed now draw (Some intent) old new text (inl s) = (s.ran.says.lines, s.ran.says.is)
sweep_printed now draw (Some intent) old new text (inr n) = let e = n.is in cc
sweep_printed now draw None old new text p = let clash : true ≡ false = p.apart in cc

-- and done
pub sweep_done : (now : ℕ) (draw : Draw) (old new : Outside) (text : List ℕ) → Performs ImageGc now draw (intent_of ImageGc now draw) old new (Ok text) → old.observed ≡ true → HasSwept old.dir new.dir text
sweep_done now draw old new text (inl s) t =
    let intent = intent_for kind.ImageGc [] now draw in
    record {
      lines = s.ran.says.lines;
      is = s.ran.says.is;
      swept = meanwhile (SweepsImages s.ran.says.lines) refl s t (s.ran.says.swept (s.told ∙ t) (seen_at_begin intent) (begun_knows s t) (begun_sweeps intent refl));
    }
sweep_done now draw old new text (inr n) t = let e = n.is in cc

pub sweep_stray : (now : ℕ) (draw : Draw) (old new : Outside) → Performs ImageGc now draw (intent_of ImageGc now draw) old new (Err Stray) → old.observed ≡ true → HasMetStrayInSweep old.dir new.dir × NeverComes new.dir.trace
sweep_stray now draw old new (inl s) t =
    let intent = intent_for kind.ImageGc [] now draw in (
      meanwhile StrayInSweep refl s t (s.ran.says.0 (s.told ∙ t)),
      never_in_part (finish_part s t is_finish refl) (s.ran.says.1 (s.told ∙ t) (seen_at_begin intent) (begun_knows s t) (begun_sweeps intent refl)),
    )
sweep_stray now draw old new (inr n) t = let e = n.is in cc

-- a sweep whose directory failed ended early
pub sweep_failed : (now : ℕ) (draw : Draw) (intent : Option Intent) (old new : Outside) → Performs ImageGc now draw intent old new (Err DirFault) → old.observed ≡ true → HasEndedEarly old.dir new.dir
sweep_failed now draw (Some intent) old new (inl s) t = meanwhile EndsEarly refl s t (s.ran.says (s.told ∙ t))
sweep_failed now draw (Some intent) old new (inr n) t = let e = n.is in cc
sweep_failed now draw None old new p t = let clash : true ≡ false = p.apart in cc

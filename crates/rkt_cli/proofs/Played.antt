-- One play after another.
use Rattle.std.proofs.Common.{◌≡◌, ℕ, suc, ◌+◌, List, [], ◌∷◌, ◌++◌, Result, Ok, Err, IfOk, refl, sym, ap, subst, arith}
use Rattle.plain_laws.proofs.Numbers.{one_further}
use Rattle.dir_model.specs.Local.{nothing_local}
use Rattle.command_outcomes.specs.declared.told.Told.{Told}
use Rattle.dir_memory.specs.Memories.{Memory}
use Rattle.dir_memory.specs.MemoryBundles.{BundleMemory}
use Rattle.memory_spawner.specs.SpawnerMemories.{SpawnerMemory}
use Rattle.rkt_cli.specs.declared.stage.Stage.{Stage}
use Rattle.rkt_cli.specs.declared.turn.Turn.{Turn}
use Rattle.rkt_cli.specs.Lookups.{Acts}
use Rattle.rkt_cli.specs.Plays.{empty_stage, HasPassedOn, outside_of, Plays, spawner_seen, TurnWasPlayed}
use Rattle.rkt_cli.specs.Turns.{imports, last_turns, prepare_turns, runs_of, turns}
use Rattle.demo_line.specs.Numbers.{count_below, is_run_pod}

pub plays_then : (first rest : List Turn) (a b c : Stage) → Plays first a b → Plays rest b c → Plays (first ++ rest) a c
plays_then [] rest a b c same p = subst (λ (x : Stage). Plays rest x c) same p
plays_then (turn ∷ turns) rest a b c (mid, went, more) p = (mid, went, plays_then turns rest mid b c more p)

pub plays_one : (turn : Turn) (a b : Stage) → TurnWasPlayed turn a b → Plays (turn ∷ []) a b
plays_one turn a b went = (b, went, refl)

-- and a list of turns of all numbers below another, one number further
pub plays_next : (all : ℕ → List Turn) (n : ℕ) (last : List Turn) (a b c : Stage) → all (suc n) ≡ all n ++ last → Plays (all n) a b → Plays last b c → Plays (all (n + 1)) a c
plays_next all n last a b c is before after = subst (λ (k : ℕ). Plays (all k) a c) (one_further n) (subst (λ (l : List Turn). Plays l a c) (sym is) (plays_then (all n) last a b c before after))

-- the imports, the prepares, the runs, and then what comes at the end
pub plays_to_end : {Error : Type 0} (count runs : ℕ) (start a b c : Stage) (result : Result Stage Error) → start ≡ empty_stage → Plays (imports count) start a → Plays (prepare_turns count) a b → Plays (runs_of count count) b c → runs ≡ count_below is_run_pod count →
    IfOk result (λ stage. Plays (last_turns (count + runs)) c stage) → IfOk result (λ stage. Plays (turns count) empty_stage stage)
plays_to_end count runs start a b c (Ok stage) empty first second third ran last =
    let begun : Plays (imports count ++ prepare_turns count) empty_stage b = plays_then (imports count) (prepare_turns count) empty_stage a b (subst (λ (s : Stage). Plays (imports count) s a) empty first) second in
    let run : Plays ((imports count ++ prepare_turns count) ++ runs_of count count) empty_stage c = plays_then (imports count ++ prepare_turns count) (runs_of count count) empty_stage b c begun third in
    plays_then ((imports count ++ prepare_turns count) ++ runs_of count count) (last_turns (count + count_below is_run_pod count)) empty_stage c stage run (subst (λ (k : ℕ). Plays (last_turns (count + k)) c stage) ran last)
plays_to_end count runs start a b c (Err e) empty first second third ran last = tt

-- where a command was done, and the folder passed on
pub fresh_again : {Error : Type 0} (told : Told) (old : Stage) (result : Result Stage Error) → IfOk result (λ new. HasPassedOn told old new) → IfOk result (λ new. new.dir.local ≡ nothing_local)
fresh_again told old (Ok new) passed = ap (λ (d : Memory). d.local) passed.dir
fresh_again told old (Err e) passed = tt

pub went_on : {Error : Type 0} (told : Told) (turn : Turn) (old : Stage) (dir : Memory) (bundle : BundleMemory) (spawner : SpawnerMemory) (result : Result Stage Error)
    → Acts turn.line turn.now turn.draw (outside_of old.dir turn.bundle) (outside_of dir bundle) (spawner_seen turn.spawner) (spawner_seen spawner) (Ok told)
    → IfOk result (λ new. HasPassedOn told (record old { dir = dir }) new) → IfOk result (λ new. TurnWasPlayed turn old new)
went_on told turn old dir bundle spawner (Ok new) acts passed = record { told = told; dir = dir; bundle = bundle; spawner = spawner; acts = acts; passed = passed }
went_on told turn old dir bundle spawner (Err e) acts passed = tt

-- the last three of them
pub plays_last : {Error : Type 0} (first second third x y z : Turn) (old a b : Stage) (result : Result Stage Error) → first ≡ x → second ≡ y → third ≡ z → TurnWasPlayed first old a → TurnWasPlayed second a b → IfOk result (λ new. TurnWasPlayed third b new)
    → IfOk result (λ new. Plays (x ∷ y ∷ z ∷ []) old new)
plays_last first second third x y z old a b (Ok new) is then_is last_is went later last =
    (a, subst (λ (t : Turn). TurnWasPlayed t old a) is went, (b, subst (λ (t : Turn). TurnWasPlayed t a b) then_is later, (new, subst (λ (t : Turn). TurnWasPlayed t b new) last_is last, refl)))
plays_last first second third x y z old a b (Err e) is then_is last_is went later last = tt

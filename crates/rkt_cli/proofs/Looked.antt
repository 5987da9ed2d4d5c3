-- From an answer to a pod's word to how a process came to its pod.
use Rattle.std.proofs.Common.{◌≡◌, ◌==◌, ℕ, Bool, true, false, cond, List, length, Some, Ok, Err, IsOk, IsErrOf, refl, ap, subst}
use Rattle.dir_model.specs.declared.pod.PodId.{PodId}
use Rattle.dir_model.specs.Causes.{Rose}
use Rattle.dir_model.specs.Pods.{pod_text}
use Rattle.dir_model.proofs.PodTexts.{whole_back}
use Rattle.dir_rules.specs.declared.seen.Seen.{Seen}
use Rattle.dir_trait.specs.DirCalls.{DirAt}
use Rattle.dir_trait.specs.Knowledge.{Knows}
use Rattle.phase_read.specs.declared.found.LookError.{LookError}
use Rattle.phase_read.specs.declared.found.LookError.TheVariants as lookup
use Rattle.pod_lookup.specs.Choice.{IfAmbiguous, IsLookupAnswer, NamesMeant}
use Rattle.pod_lookup.specs.Looks.{OnlyLooksFor, lists_stages}
use Rattle.pod_lookup.specs.Resolved.{AreTheLeast, Existed, FindsTheOne, IsChosen, IsNoneOf, IsSequential}
use Rattle.command_outcomes.specs.Conforming.{seen_at_begin}
use Rattle.commands.specs.Opening.{directly, looking, Looks}
use Rattle.rkt_cli.specs.Lookups.{ComesToPod, FindsMeant, MeansNone, lookup_refusal}
use Rattle.command_outcomes.specs.declared.refusal.Refusal.{Refusal}

module _ (observed : Bool) (word : List ℕ) (old new : DirAt) where
  -- how it came there
  pub came : OnlyLooksFor observed lists_stages old new → (length word ≡ 36 → new ≡ old) → ComesToPod observed (Some word) old new
  came only unseen = record {
    same = only.same;
    faults = only.faults;
    local = only.local;
    looks = λ t. looks t (length word == 36) refl;
    knows = λ t intent k.
        let x = only.known t (seen_at_begin intent) k in
        subst (λ (s : Seen). Knows new s) (x.bare refl) x.knows;
  }
    where
      looks : observed ≡ true → (b : Bool) → (length word == 36) ≡ b → Looks (cond b directly looking) old.process old.trace new.trace
      looks t true is = ap (λ (d : DirAt). d.trace) (unseen (whole_back (length word) is))
      looks t false is = only.extends t

  -- to the pod
  pub came_to : (pod : PodId) → NamesMeant word (Ok pod) → (length word ≡ 36 → pod_text pod.bytes ≡ word) → ((length word ≡ 36 → ⊥) → observed ≡ true → IsChosen word (Ok pod) old new) → ((length word ≡ 36 → ⊥) → observed ≡ true → Existed pod old new) →
      (observed ≡ true → FindsTheOne word (Ok pod) old new) → (observed ≡ true → IsSequential word (Ok pod) old new) → FindsMeant observed word old new (Ok pod)
  came_to pod meant whole chosen existed one quiet =
      (record { begins = meant; whole = whole }, λ t. record { shown = λ part. let x = chosen part t in (x.pods, x.found, x.is); existed = λ part. existed part t; the_one = one t; quiet = quiet t })

  -- or to none
  why : (error : LookError) → (IsErrOf {T = PodId} (Err error) lookup.DirFault → Rose old.faults new.faults) → (IsErrOf {T = PodId} (Err error) lookup.NoPod → observed ≡ true → IsNoneOf word old new) →
      IfAmbiguous (Err error) (λ a b. observed ≡ true → AreTheLeast word a b old new) → MeansNone observed word error old new
  why lookup.NoPod cause none several = none refl
  why (lookup.Ambiguous a b) cause none several = several
  why lookup.DirFault cause none several = cause refl
  why lookup.NoMemory cause none several = tt

  apart : (error : LookError) (b : Bool) → (length word == 36) ≡ b → (length word ≡ 36 → IsOk {T = PodId} {E = LookError} (Err error)) → cond b directly looking ≡ looking
  apart error false is whole = refl
  apart error true is whole = let clash : false ≡ true = whole (whole_back (length word) is) in cc

  pub came_to_none : (error : LookError) (refusal : Refusal) → refusal ≡ lookup_refusal error → (IsErrOf {T = PodId} (Err error) lookup.DirFault → Rose old.faults new.faults) → (IsErrOf {T = PodId} (Err error) lookup.NoPod → observed ≡ true → IsNoneOf word old new) →
      IfAmbiguous (Err error) (λ a b. observed ≡ true → AreTheLeast word a b old new) → (length word ≡ 36 → IsOk {T = PodId} {E = LookError} (Err error)) → NamesMeant word (Err error) →
      ((length word ≡ 36 → ⊥) → IsLookupAnswer (Err error) → observed ≡ true → IsChosen word (Err error) old new) → (IsLookupAnswer (Err error) → observed ≡ true → FindsTheOne word (Err error) old new) → (IsLookupAnswer (Err error) → observed ≡ true → IsSequential word (Err error) old new) →
      FindsMeant observed word old new (Err refusal)
  came_to_none error refusal is cause none several whole names chosen one quiet = record {
    error = error;
    is = is;
    part = apart error (length word == 36) refl whole;
    names = names;
    why = why error cause none several;
    chosen = λ t choice. let x = chosen (λ long. let clash : false ≡ true = whole long in cc) choice t in record { pods = x.pods; found = x.found; is = x.is };
    not_one = λ t choice. one choice t;
    quiet = λ t choice. quiet choice t;
  }

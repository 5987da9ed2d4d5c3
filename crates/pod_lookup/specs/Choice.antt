-- The pod that a word means.
use Rattle.std.specs.Prelude.{◌≡◌, ℕ, Bool, true, List, [], ◌∷◌, filter, Result, Ok, Err, Option, Some, None}
use Rattle.std.specs.Ordering.{nat_cmp}
use Rattle.std.specs.declared.cmp.Ordering.TheVariants.{Less}
use Rattle.std.specs.Cmp.Lexicographic.{slice_cmp}
use Rattle.dir_model.specs.declared.pod.PodId.{PodId}
use Rattle.dir_model.specs.Pods.{pod_text, pod_of_text}
use Rattle.dir_model.specs.State.{DirState}
use Rattle.dir_rules.specs.Marks.{begins}
use Rattle.phase_read.specs.declared.found.LookError.{LookError}
use Rattle.phase_read.specs.declared.found.LookError.TheVariants.{NoPod, Ambiguous, DirFault, NoMemory}
use Rattle.pod_lookup.specs.Pods.{pods_standing}

-- the pod's uuid begins with the word
abbrev pub is_meant : List ℕ → PodId → Bool
is_meant word pod = begins word (pod_text pod.bytes)

-- the only one, if there is just one; of several the first two
abbrev pub the_only : List PodId → Result PodId LookError
the_only [] = Err NoPod
the_only (pod ∷ []) = Ok pod
the_only (a ∷ b ∷ more) = Err (Ambiguous a b)

-- what a word means among some pods
abbrev pub choice : List ℕ → List PodId → Result PodId LookError
choice word pods = the_only (filter (is_meant word) pods)

-- it isn't a fault of the directory, nor want of memory
abbrev pub IsLookupAnswer : Result PodId LookError → Type 0
IsLookupAnswer (Err DirFault) = ⊥
IsLookupAnswer (Err NoMemory) = ⊥
IsLookupAnswer result = Unit {0}

-- this holds of the two pods of an answer that several are meant
abbrev pub IfAmbiguous : Result PodId LookError → (PodId → PodId → Type 0) → Type 0
IfAmbiguous (Err (Ambiguous a b)) P = P a b
IfAmbiguous result P = Unit {0}

-- whatever pods the answer names, the word begins their uuids, and of two the first is less
abbrev pub NamesMeant : List ℕ → Result PodId LookError → Type 0
NamesMeant word (Ok pod) = is_meant word pod ≡ true
NamesMeant word (Err (Ambiguous a b)) =
    (is_meant word a ≡ true) × (is_meant word b ≡ true) × (slice_cmp nat_cmp (pod_text a.bytes) (pod_text b.bytes) ≡ Less)
NamesMeant word result = Unit {0}

-- the pod of a whole uuid, and else what was chosen
abbrev pub whole_or : Option PodId → Result PodId LookError → Result PodId LookError
whole_or (Some pod) chosen = Ok pod
whole_or None chosen = chosen

-- what a word means where nobody else steps: a whole uuid its pod, there or not, and else the choice among the pods that stand
abbrev pub sequential_resolve : DirState → List ℕ → Result PodId LookError
sequential_resolve s word = whole_or (pod_of_text word) (choice word (pods_standing s.namespace))

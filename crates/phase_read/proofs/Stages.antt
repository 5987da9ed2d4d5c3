-- The stages of a pod's life, one after the other.
use Rattle.std.proofs.Common.{◌≡◌, ◌⊎◌, inl, inr, ℕ, nat_le, Bool, true, false, ◌==◌, bytes_eq, Some, None, ◌∷◌, ◌+◌, ◌≤◌, refl, sym, ap, ◌∙◌, arith}
use Rattle.std.proofs.lemmas.Bool.Decides.{nat_tests}
use Rattle.std.proofs.lemmas.Slice.Eq.{bytes_eq-Decides}
use Rattle.dir_model.specs.declared.area.Area.{Area}
use Rattle.dir_model.specs.declared.area.Area.TheVariants.{Embryo, Prepare, Prepared, Run, ExitedGarbage, Garbage, Incoming, Images, Trees, Removed}
use Rattle.dir_model.specs.declared.area.Phase.{Phase}
use Rattle.dir_model.specs.declared.pod.PodId.{PodId}
use Rattle.dir_model.specs.declared.spot.Spot.{Spot}
use Rattle.dir_model.specs.Areas.{rank, next_of, phase_in}
use Rattle.dir_model.specs.Pods.{pod_text}
use Rattle.dir_model.specs.State.{DirState, spot_eq, stands}
use Rattle.dir_model.proofs.Lists.{and_left, and_right, and_both}
use Rattle.dir_model.proofs.Moments.{some_owner}
use Rattle.phase_read.specs.Read.{HasPhase, calls_of_miss, calls_of_misses, is_pod_spot, stages, stages_before}

by_next : (b c : Area) → Some b ≡ Some c → rank b ≡ rank c
by_next b c h = let e : b ≡ c = cc in ap rank e

-- the next area has the next number
pub next_rank : (a b : Area) → Some b ≡ next_of a → rank b ≡ rank a + 1
next_rank Embryo b h = by_next b Prepare h
next_rank Prepare b h = by_next b Prepared h
next_rank Prepared b h = by_next b Run h
next_rank Run b h = by_next b ExitedGarbage h
next_rank ExitedGarbage b h = by_next b Garbage h
next_rank Garbage b h = cc
next_rank Incoming b h = cc
next_rank Images b h = cc
next_rank Trees b h = cc
next_rank Removed b h = cc

-- and stays an area of a pod's life
pub next_within : (a b : Area) → Some b ≡ next_of a → rank b ≤ 5
next_within Embryo b h = omega (arith, next_rank Embryo b h)
next_within Prepare b h = omega (arith, next_rank Prepare b h)
next_within Prepared b h = omega (arith, next_rank Prepared b h)
next_within Run b h = omega (arith, next_rank Run b h)
next_within ExitedGarbage b h = omega (arith, next_rank ExitedGarbage b h)
next_within Garbage b h = cc
next_within Incoming b h = cc
next_within Images b h = cc
next_within Trees b h = cc
next_within Removed b h = cc

-- the stages before the next are this one and those before it
pub next_before : (a b : Area) → Some b ≡ next_of a → stages_before b ≡ a ∷ stages_before a
next_before Embryo b h = let e : b ≡ Prepare = cc in ap stages_before e
next_before Prepare b h = let e : b ≡ Prepared = cc in ap stages_before e
next_before Prepared b h = let e : b ≡ Run = cc in ap stages_before e
next_before Run b h = let e : b ≡ ExitedGarbage = cc in ap stages_before e
next_before ExitedGarbage b h = let e : b ≡ Garbage = cc in ap stages_before e
next_before Garbage b h = cc
next_before Incoming b h = cc
next_before Images b h = cc
next_before Trees b h = cc
next_before Removed b h = cc

-- the last and those before it are all
pub last_stages : (a : Area) → None ≡ next_of a → rank a ≤ 5 → a ∷ stages_before a ≡ stages
last_stages Garbage h within = refl
last_stages Embryo h within = cc
last_stages Prepare h within = cc
last_stages Prepared h within = cc
last_stages Run h within = cc
last_stages ExitedGarbage h within = cc
last_stages Incoming h within = absurd (omega arith)
last_stages Images h within = absurd (omega arith)
last_stages Trees h within = absurd (omega arith)
last_stages Removed h within = absurd (omega arith)

rank_within : (m n : ℕ) → m ≤ 5 → (m == n) ≡ true → nat_le n 5 ≡ true
rank_within m n within same = grind (arith, nat_tests)

-- one of the pod's locations
pub pod_spot_only : (pod : PodId) (spot here : Spot) → rank spot.area ≤ 5 → spot.name ≡ pod_text pod.bytes → spot_eq spot here ≡ true → is_pod_spot pod here ≡ true
pod_spot_only pod spot here stage named same =
    let r = and_left (rank spot.area == rank here.area) (bytes_eq spot.name here.name) same in
    let e : spot.name ≡ here.name = (bytes_eq-Decides spot.name here.name).0 (and_right (rank spot.area == rank here.area) (bytes_eq spot.name here.name) same) in
    and_both (nat_le (rank here.area) 5) (bytes_eq here.name (pod_text pod.bytes)) (rank_within (rank spot.area) (rank here.area) stage r) ((bytes_eq-Decides here.name (pod_text pod.bytes)).1 (sym e ∙ named))

-- in these two areas the lock doesn't matter
pub free_area : (a : Area) → (a ≡ Embryo) ⊎ (a ≡ Prepared) → (x y : Bool) → phase_in a x ≡ phase_in a y
free_area a (inl h) x y = rw h refl
free_area a (inr h) x y = rw h refl

pub has_phase : (spot : Spot) (phase : Phase) → (spot.area ≡ Embryo) ⊎ (spot.area ≡ Prepared) → phase_in spot.area false ≡ Some phase → (s : DirState) → stands s.namespace spot ≡ true → HasPhase spot phase s
has_phase spot phase free is s there = let o = some_owner s.namespace spot there in record { owned = o.0; here = o.1; is = free_area spot.area free o.0 false ∙ is }

-- so the next adds what a miss in this one costs
pub next_misses : (a b : Area) → Some b ≡ next_of a → calls_of_misses (stages_before b) ≡ calls_of_miss a + calls_of_misses (stages_before a)
next_misses a b h = ap calls_of_misses (next_before a b h)

-- misses before any area are at most fourteen calls
pub misses_most : (a : Area) → calls_of_misses (stages_before a) ≤ 14
misses_most Embryo = omega arith
misses_most Prepare = omega arith
misses_most Prepared = omega arith
misses_most Run = omega arith
misses_most ExitedGarbage = omega arith
misses_most Garbage = omega arith
misses_most Incoming = omega arith
misses_most Images = omega arith
misses_most Trees = omega arith
misses_most Removed = omega arith

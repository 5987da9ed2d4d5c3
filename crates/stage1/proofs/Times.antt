-- How often the notes of apps are made: each once.
use Rattle.std.proofs.Common.{arith, ◌≡◌, ◌≤◌, ℕ, zero, suc, ◌+◌, Result, Ok, Err, List, [], ◌∷◌, ◌++◌, length, take, drop, refl, subst}
use Rattle.dir_model.specs.declared.item.Inner.{Inner}
use Rattle.dir_trait.specs.DirCalls.{DirAt}
use Rattle.stage1.specs.declared.start.AppStart.{AppStart}
use Rattle.stage1.specs.declared.error.Fault.{Fault}
use Rattle.stage1.specs.declared.stand.Stand.{Stand}
use Rattle.stage1.specs.declared.stand.Stand.TheVariants.{Running, Ended}
use Rattle.stage1.specs.Keeping.{NotesAtMost, mark_times, app_times, begun_times, end_times, going_times, beginning_times, all_begun_times, all_end_times, all_times}
use Rattle.stage1.proofs.Keeping.{keeps_more, keeps_wider}
use Rattle.stage1.proofs.Rests.{rest_of, rest_is}

-- one app
mark_within : (app : AppStart) (r : Result Stand Fault) (i : Inner) → mark_times app.root i ≤ beginning_times app r i
mark_within app (Ok (Running child)) i = omega arith
mark_within app (Ok (Ended status)) i = omega arith
mark_within app (Err fault) i = omega arith

going_within : (app : AppStart) (r : Result Stand Fault) (i : Inner) → mark_times app.root i + going_times app r i ≤ beginning_times app r i
going_within app (Ok (Running child)) i = omega arith
going_within app (Ok (Ended status)) i = omega arith
going_within app (Err fault) i = omega arith

beginning_within : (app : AppStart) (r : Result Stand Fault) (i : Inner) → beginning_times app r i ≤ app_times app i
beginning_within app (Ok (Running child)) i = omega arith
beginning_within app (Ok (Ended status)) i = omega arith
beginning_within app (Err fault) i = omega arith

pub keeps_marked_only : {a b : DirAt} (app : AppStart) (r : Result Stand Fault) → NotesAtMost (mark_times app.root) a b → NotesAtMost (beginning_times app r) a b
keeps_marked_only app r ab = keeps_wider (mark_within app r) ab

pub keeps_begun : {a b c : DirAt} (app : AppStart) (r : Result Stand Fault) → NotesAtMost (mark_times app.root) a b → NotesAtMost (going_times app r) b c → NotesAtMost (beginning_times app r) a c
keeps_begun app r ab bc = keeps_wider (going_within app r) (keeps_more ab bc)

-- one app more has begun, in part or whole
begun_push : (apps : List AppStart) (stands : List Stand) (app : AppStart) (stand : Stand) → length apps ≡ length stands → (i : Inner) → all_begun_times apps stands i + begun_times app stand i ≤ all_begun_times (apps ++ app ∷ []) (stands ++ stand ∷ []) i
begun_push [] [] app stand h i = omega arith
begun_push [] (s ∷ stands) app stand h i = absurd (omega (arith, h))
begun_push (a ∷ apps) [] app stand h i = absurd (omega (arith, h))
begun_push (a ∷ apps) (s ∷ stands) app stand h i = omega (arith, begun_push apps stands app stand (omega (arith, h)) i)

begun_part : (done : List AppStart) (stands : List Stand) (app : AppStart) (rest : List AppStart) → length done ≡ length stands → (i : Inner) → all_begun_times done stands i + app_times app i ≤ all_begun_times (done ++ app ∷ rest) stands i
begun_part [] [] app rest h i = omega arith
begun_part [] (s ∷ stands) app rest h i = absurd (omega (arith, h))
begun_part (a ∷ done) [] app rest h i = absurd (omega (arith, h))
begun_part (a ∷ done) (s ∷ stands) app rest h i = omega (arith, begun_part done stands app rest (omega (arith, h)) i)

pub keeps_push : {a b c : DirAt} (apps : List AppStart) (stands : List Stand) (app : AppStart) (stand : Stand) → length apps ≡ length stands → NotesAtMost (all_begun_times apps stands) a b → NotesAtMost (begun_times app stand) b c → NotesAtMost (all_begun_times (apps ++ app ∷ []) (stands ++ stand ∷ [])) a c
keeps_push apps stands app stand h ab bc = keeps_wider (begun_push apps stands app stand h) (keeps_more ab bc)

pub keeps_broken : {a b c : DirAt} (done : List AppStart) (stands : List Stand) (app : AppStart) (rest : List AppStart) (r : Result Stand Fault) → length done ≡ length stands → NotesAtMost (all_begun_times done stands) a b → NotesAtMost (beginning_times app r) b c → NotesAtMost (all_begun_times (done ++ app ∷ rest) stands) a c
keeps_broken done stands app rest r h ab bc = keeps_wider (begun_part done stands app rest h) (keeps_more ab (keeps_wider (beginning_within app r) bc))

-- one app more has ended
end_push : (apps : List AppStart) (stands : List Stand) (app : AppStart) (stand : Stand) → length apps ≡ length stands → (i : Inner) → all_end_times apps stands i + end_times app stand i ≤ all_end_times (apps ++ app ∷ []) (stands ++ stand ∷ []) i
end_push [] [] app stand h i = omega arith
end_push [] (s ∷ stands) app stand h i = absurd (omega (arith, h))
end_push (a ∷ apps) [] app stand h i = absurd (omega (arith, h))
end_push (a ∷ apps) (s ∷ stands) app stand h i = omega (arith, end_push apps stands app stand (omega (arith, h)) i)

pub keeps_end_push : {a b c : DirAt} (apps : List AppStart) (stands : List Stand) (app : AppStart) (stand : Stand) → length apps ≡ length stands → NotesAtMost (all_end_times apps stands) a b → NotesAtMost (end_times app stand) b c → NotesAtMost (all_end_times (apps ++ app ∷ []) (stands ++ stand ∷ [])) a c
keeps_end_push apps stands app stand h ab bc = keeps_wider (end_push apps stands app stand h) (keeps_more ab bc)

-- some of them, and the rest
end_front : (n : ℕ) (apps : List AppStart) (stands : List Stand) (i : Inner) → all_end_times (take n apps) (take n stands) i ≤ all_end_times apps stands i
end_front zero apps stands i = omega arith
end_front (suc n) [] stands i = omega arith
end_front (suc n) (a ∷ apps) [] i = omega arith
end_front (suc n) (a ∷ apps) (s ∷ stands) i = omega (arith, end_front n apps stands i)

no_stands : (apps : List AppStart) (i : Inner) → all_end_times apps [] i ≡ 0
no_stands [] i = refl
no_stands (a ∷ apps) i = refl

end_parts : (n : ℕ) (apps : List AppStart) (stands : List Stand) (i : Inner) → all_end_times (take n apps) (take n stands) i + all_end_times (drop n apps) (drop n stands) i ≤ all_end_times apps stands i
end_parts zero apps stands i = omega arith
end_parts (suc n) [] stands i = omega arith
end_parts (suc n) (a ∷ apps) [] i = omega (arith, no_stands (drop n apps) i)
end_parts (suc n) (a ∷ apps) (s ∷ stands) i = omega (arith, end_parts n apps stands i)

pub keeps_front : {a b : DirAt} (n : ℕ) (apps : List AppStart) (stands : List Stand) → NotesAtMost (all_end_times (take n apps) (take n stands)) a b → NotesAtMost (all_end_times apps stands) a b
keeps_front n apps stands ab = keeps_wider (end_front n apps stands) ab

pub keeps_parts : {a b c : DirAt} (n : ℕ) (apps : List AppStart) (stands : List Stand) → NotesAtMost (all_end_times (take n apps) (take n stands)) a b → NotesAtMost (all_end_times (rest_of n apps) (rest_of n stands)) b c → NotesAtMost (all_end_times apps stands) a c
keeps_parts {a} {b} {c} n apps stands ab bc =
    keeps_wider (end_parts n apps stands) (keeps_more ab
    (subst (λ (l : List AppStart). NotesAtMost (all_end_times l (drop n stands)) b c) (rest_is n apps) (subst (λ (l : List Stand). NotesAtMost (all_end_times (rest_of n apps) l) b c) (rest_is n stands) bc)))

-- both parts of the run
begun_and_ended : (apps : List AppStart) (stands : List Stand) (i : Inner) → all_begun_times apps stands i + all_end_times apps stands i ≤ all_times apps i
begun_and_ended [] stands i = omega arith
begun_and_ended (a ∷ apps) [] i = omega (arith, begun_and_ended apps [] i)
begun_and_ended (a ∷ apps) (Running child ∷ stands) i = omega (arith, begun_and_ended apps stands i)
begun_and_ended (a ∷ apps) (Ended status ∷ stands) i = omega (arith, begun_and_ended apps stands i)

pub keeps_both : {a b c : DirAt} (apps : List AppStart) (stands : List Stand) → NotesAtMost (all_begun_times apps stands) a b → NotesAtMost (all_end_times apps stands) b c → NotesAtMost (all_times apps) a c
keeps_both apps stands ab bc = keeps_wider (begun_and_ended apps stands) (keeps_more ab bc)

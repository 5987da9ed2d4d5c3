-- What was read of a file or of a link, and what stands there.
use Rattle.std.proofs.Common.{arith, ◌≡◌, inl, inr, ◌≤◌, ◌<◌, ℕ, Bool, true, List, length, take, ap, subst, ◌∙◌, Option, Some, None, IsSomeAnd, ⊎_elim}
use Rattle.std.proofs.lemmas.Bool.{cases_lt}
use Rattle.std.proofs.lemmas.Grind.{common_steps}
use Rattle.plain_laws.proofs.Fronts.{front_length}
use Rattle.dir_trait.specs.Bundles.{Fills}
use Rattle.bundle_image.specs.Fronts.{IsFrontOrNothing, IsFront}
use Rattle.bundle_image.specs.declared.file_sum.FileSum.{FileSum}
use Rattle.bundle_image.specs.FileSums.{IsSumOf}
use Rattle.bundle_image.specs.Links.{IsTargetOf}

-- what is known of one file is known of an equal one
pub carried : (ended : Bool) (old new : List ℕ) {file same : Option (List ℕ)} → file ≡ same → (IsFrontOrNothing file old → IsSomeAnd file (IsFront ended new)) → IsFrontOrNothing same old → IsSomeAnd same (IsFront ended new)
carried ended old new is next = subst (λ (f : Option (List ℕ)). IsFrontOrNothing f old → IsSomeAnd f (IsFront ended new)) is next

-- where the reading has ended, the sum is that of the file
pub sum_whole : (file : Option (List ℕ)) (message : List ℕ) (ended : Bool) (sum : Option FileSum) → ended ≡ true → IsSomeAnd file (IsFront ended message) → IsSumOf message sum → IsSomeAnd file (λ bytes. IsSumOf bytes sum)
sum_whole None message ended sum is front s = absurd front
sum_whole (Some bytes) message ended sum is front s = subst (λ b. IsSumOf b sum) (front.whole is) s

begun_long : (bytes message : List ℕ) (sum : Option FileSum) → 1073741824 < length message → length message ≤ length bytes → IsSumOf message sum → IsSumOf bytes sum
begun_long bytes message None long within s = omega arith
begun_long bytes message (Some sum) long within s = absurd (omega (arith, s.0))

-- where too much was read, the file is too long
pub sum_long : (file : Option (List ℕ)) (message : List ℕ) (sum : Option FileSum) → 1073741824 < length message → IsFrontOrNothing file message → IsSumOf message sum → IsSomeAnd file (λ bytes. IsSumOf bytes sum)
sum_long file message sum long (inl none) s = absurd (omega (arith, ap length none))
sum_long None message sum long (inr front) s = absurd front
sum_long (Some bytes) message sum long (inr front) s = begun_long bytes message sum long (front_length bytes message front) s

filled_front : (target room filled : List ℕ) (n : ℕ) → Fills target 0 room n filled → take n filled ≡ take n target
filled_front target room filled n fills = let c = fills.count in let e = fills.room in grind (arith, common_steps)

short_target : (target : List ℕ) (n : ℕ) → length target ≤ n → take n target ≡ target
short_target target n within = grind (arith, common_steps)

taken_length : (target : List ℕ) (n : ℕ) → n ≤ length target → length (take n target) ≡ n
taken_length target n within = grind (arith, common_steps)

too_long : (target bytes : List ℕ) (found : Option (List ℕ)) → 4095 < length target → 4095 < length bytes → IsTargetOf bytes found → IsTargetOf target found
too_long target bytes None long read is = λ t. omega (arith, t.short)
too_long target bytes (Some text) long read is = absurd (omega (arith, is.0.short))

-- the target that was read is the link's
pub target_whole : (link : Option (List ℕ)) (room filled : List ℕ) (n : ℕ) (found : Option (List ℕ)) → length room ≡ 4096 → IsSomeAnd link (λ target. Fills target 0 room n filled) → IsTargetOf (take n filled) found
    → IsSomeAnd link (λ target. IsTargetOf target found)
target_whole None room filled n found size fills is = absurd fills
target_whole (Some target) room filled n found size fills is =
    let c = fills.count in
    let front = filled_front target room filled n fills in
    ⊎_elim
    (λ long.
    let full : n ≡ 4096 = omega arith in
    let all : length (take n filled) ≡ n = ap length front ∙ taken_length target n (omega arith) in
    too_long target (take n filled) found long (omega arith) is)
    (λ short. subst (λ t. IsTargetOf t found) (front ∙ short_target target n (omega arith)) is)
    (cases_lt 4095 (length target))

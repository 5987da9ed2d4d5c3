-- What a call of a bundle in memory leaves, as every bundle is seen.
use Rattle.std.proofs.Common.{◌≡◌, inl, inr, ◌≤◌, ◌+◌, ◌^◌, ◌-◌, min, ℕ, Bool, true, false, cond, List, [], ◌∷◌, ◌++◌, Result, Ok, Err, arith, refl, ap}
use Rattle.dir_model.specs.Causes.{Rose}
use Rattle.dir_trait.specs.declared.bundle.BundleError.{BundleError}
use Rattle.dir_trait.specs.declared.bundle.BundleError.TheVariants.{Missing, Failed, NoMemory}
use Rattle.dir_trait.specs.declared.bundle.BundleRequest.{BundleRequest}
use Rattle.dir_trait.specs.Bundles.{AsksBundleOnly, BundleCall, bytes_given}
use Rattle.dir_memory.specs.Memories.{raised}
use Rattle.dir_memory.specs.MemoryBundles.{BundleMemory, bundle_of_memory, is_bundle_failure_due, bundle_after_call, with_given, AnswersCall, AnswersListing, bundle_tree_of}

faults_rose : (b : Bool) (faults new : ℕ) → b ≡ true → new ≡ cond b (raised faults) faults → Rose faults new
faults_rose true faults new fails is = omega (arith, is)
faults_rose false faults new fails is = cc

one_asked : (request : BundleRequest) (old : List BundleRequest) → AsksBundleOnly request old (old ++ request ∷ [])
one_asked request old = record { more = request ∷ []; grown = refl; each = (refl, tt) }

none_asked : (request : BundleRequest) (old : List BundleRequest) → AsksBundleOnly request old (old ++ [])
none_asked request old = record { more = []; grown = refl; each = tt }

more_given : (given count new : ℕ) → new ≡ min (given + count) (2 ^ 64 - 1) → new ≤ given + count
more_given given count new is = omega (arith, is)

same_given : (given new count : ℕ) → new ≡ given → new ≤ given + count
same_given given new count is = omega (arith, is)

left : (old : BundleMemory) (request : BundleRequest) (count : ℕ) (asked : List BundleRequest) (new : BundleMemory) → old.faults ≤ new.faults → AsksBundleOnly request old.asked (old.asked ++ asked) → new ≡ bundle_after_call old asked → BundleCall true (bundle_of_memory old) request count (bundle_of_memory new)
left old request count asked new faults only is = record {
  faults = faults;
  given = same_given old.given new.given count (ap (λ (m : BundleMemory). m.given) is);
  same = λ t. ap (λ (m : BundleMemory). bundle_tree_of m.entries) is;
  asked = λ t. rw is only;
}

gave : (old : BundleMemory) (request : BundleRequest) (count : ℕ) (new : BundleMemory) → old.faults ≤ new.faults → new ≡ with_given (bundle_after_call old (request ∷ [])) count → BundleCall true (bundle_of_memory old) request count (bundle_of_memory new)
gave old request count new faults is = record {
  faults = faults;
  given = more_given old.given count new.given (ap (λ (m : BundleMemory). m.given) is);
  same = λ t. ap (λ (m : BundleMemory). bundle_tree_of m.entries) is;
  asked = λ t. rw is (one_asked request old.asked);
}

pub answers_called : (old : BundleMemory) (request : BundleRequest) (answer : Result ℕ BundleError) (new : BundleMemory) → old.faults ≤ new.faults → AnswersCall old request answer new → BundleCall true (bundle_of_memory old) request (bytes_given answer) (bundle_of_memory new)
answers_called old request (Ok count) new faults is = gave old request count new faults is.1
answers_called old request (Err Missing) new faults is = left old request 0 (request ∷ []) new faults (one_asked request old.asked) is.1
answers_called old request (Err Failed) new faults is = left old request 0 (request ∷ []) new faults (one_asked request old.asked) is.1
answers_called old request (Err NoMemory) new faults (inl is) = left old request 0 [] new faults (none_asked request old.asked) is
answers_called old request (Err NoMemory) new faults (inr is) = left old request 0 (request ∷ []) new faults (one_asked request old.asked) is

pub listing_called : {T : Type 0} (old : BundleMemory) (request : BundleRequest) (answer : Result T BundleError) (new : BundleMemory) → old.faults ≤ new.faults → AnswersListing old request answer new → BundleCall true (bundle_of_memory old) request 0 (bundle_of_memory new)
listing_called old request (Ok items) new faults is = left old request 0 (request ∷ []) new faults (one_asked request old.asked) is.1
listing_called old request (Err Missing) new faults is = left old request 0 (request ∷ []) new faults (one_asked request old.asked) is.1
listing_called old request (Err Failed) new faults is = left old request 0 (request ∷ []) new faults (one_asked request old.asked) is.1
listing_called old request (Err NoMemory) new faults (inl is) = left old request 0 [] new faults (none_asked request old.asked) is
listing_called old request (Err NoMemory) new faults (inr is) = left old request 0 (request ∷ []) new faults (one_asked request old.asked) is

pub answers_cause : (old : BundleMemory) (request : BundleRequest) (new : BundleMemory) → AnswersCall old request (Err Failed) new → Rose old.faults new.faults
answers_cause old request new is = faults_rose (is_bundle_failure_due old) old.faults new.faults is.0 (ap (λ (m : BundleMemory). m.faults) is.1)

-- Calls of a bundle, one after the other.
use Rattle.std.proofs.Common.{◌≡◌, ◌≤◌, ℕ, Bool, true, List, [], ◌++◌, sym, refl, ap, ◌∙◌, append_assoc, append-nil, arith}
use Rattle.dir_model.proofs.Lists.{all_both, all_weaker}
use Rattle.dir_trait.specs.declared.bundle.BundleRequest.{BundleRequest}
use Rattle.dir_trait.specs.Bundles.{BundleAt, AsksBundleOnly, BundleCall}
use Rattle.bundle_image.specs.Reads.{IsFrontOf, AsksWithin, ReadsWithin}

asks_nothing : {front : List ℕ} {old : List BundleRequest} → AsksWithin front old old
asks_nothing {front} {old} = record { more = []; grown = sym (append-nil old); each = tt }

asks_more : {front : List ℕ} {a b c : List BundleRequest} → AsksWithin front a b → AsksWithin front b c → AsksWithin front a c
asks_more {front} {a} {b} {c} ab bc = record {
  more = ab.more ++ bc.more;
  grown = bc.grown ∙ (ap (λ h. h ++ bc.more) ab.grown ∙ append_assoc a ab.more bc.more);
  each = all_both (λ asked. IsFrontOf front asked.path) ab.more bc.more ab.each bc.each;
}

asks_only : {request : BundleRequest} {a b : List BundleRequest} (front : List ℕ) → IsFrontOf front request.path → AsksBundleOnly request a b → AsksWithin front a b
asks_only {request} {a} {b} front within only = record {
  more = only.more;
  grown = only.grown;
  each = all_weaker (λ asked. asked ≡ request) (λ asked. IsFrontOf front asked.path) (λ asked same. (within.0, ap (λ r. r.path) same ∙ within.1)) only.more only.each;
}

asks_wider : {a b : List BundleRequest} (front more : List ℕ) → AsksWithin (front ++ more) a b → AsksWithin front a b
asks_wider {a} {b} front more asks = record {
  more = asks.more;
  grown = asks.grown;
  each = all_weaker (λ asked. IsFrontOf (front ++ more) asked.path) (λ asked. IsFrontOf front asked.path) (λ asked within. (more ++ within.0, within.1 ∙ append_assoc front more within.0)) asks.more asks.each;
}

pub reads_nothing : {observed : Bool} {front : List ℕ} {old : BundleAt} → ReadsWithin observed front old old
reads_nothing = record { faults = omega arith; same = λ t. refl; asked = λ t. asks_nothing }

pub reads_more : {observed : Bool} {front : List ℕ} {a b c : BundleAt} → ReadsWithin observed front a b → ReadsWithin observed front b c → ReadsWithin observed front a c
reads_more ab bc = record {
  faults = omega (arith, ab.faults, bc.faults);
  same = λ t. bc.same t ∙ ab.same t;
  asked = λ t. asks_more (ab.asked t) (bc.asked t);
}

pub reads_wider : {observed : Bool} {a b : BundleAt} (front more : List ℕ) → ReadsWithin observed (front ++ more) a b → ReadsWithin observed front a b
reads_wider front more reads = record {
  faults = reads.faults;
  same = reads.same;
  asked = λ t. asks_wider front more (reads.asked t);
}

pub reads_call : {observed : Bool} {a b : BundleAt} {request : BundleRequest} {count : ℕ} (front : List ℕ) → IsFrontOf front request.path → BundleCall observed a request count b → ReadsWithin observed front a b
reads_call front within call = record {
  faults = call.faults;
  same = call.same;
  asked = λ t. asks_only front within (call.asked t);
}

pub itself : (path : List ℕ) → IsFrontOf path path
itself path = ([], sym (append-nil path))

pub reads_file : {observed : Bool} {a b : BundleAt} {request : BundleRequest} (front : List ℕ) → IsFrontOf front request.path
    → a.faults ≤ b.faults → (observed ≡ true → b.tree ≡ a.tree) → (observed ≡ true → AsksBundleOnly request a.asked b.asked) → ReadsWithin observed front a b
reads_file front within faults same asked = record {
  faults = faults;
  same = same;
  asked = λ t. asks_only front within (asked t);
}

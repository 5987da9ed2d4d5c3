-- Calls of a bundle that ask for one thing, one after the other.
use Rattle.std.proofs.Common.{List, [], ◌++◌, sym, ap, ◌∙◌, append_assoc, append-nil}
use Rattle.dir_model.proofs.Lists.{all_both}
use Rattle.dir_trait.specs.declared.bundle.BundleRequest.{BundleRequest}
use Rattle.dir_trait.specs.Bundles.{AsksBundleOnly}

pub asks_nothing : {request : BundleRequest} {old : List BundleRequest} → AsksBundleOnly request old old
asks_nothing {request} {old} = record { more = []; grown = sym (append-nil old); each = tt }

pub asks_more : {request : BundleRequest} {a b c : List BundleRequest} → AsksBundleOnly request a b → AsksBundleOnly request b c → AsksBundleOnly request a c
asks_more {request} {a} {b} {c} ab bc = record {
  more = ab.more ++ bc.more;
  grown = bc.grown ∙ (ap (λ h. h ++ bc.more) ab.grown ∙ append_assoc a ab.more bc.more);
  each = all_both _ ab.more bc.more ab.each bc.each;
}

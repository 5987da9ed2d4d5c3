-- The listing that a process has open, with what stands now noted.
use Rattle.std.proofs.Common.{◌≡◌, ℕ, Option, find, option_map, ap, ◌∙◌}
use Rattle.dir_model.specs.declared.tree.OpenListing.{OpenListing}
use Rattle.dir_model.specs.State.{DirState}
use Rattle.dir_model.specs.Listings.{is_listing_of, noted_by}
use Rattle.dir_laws.proofs.Open.{noted_found}
use Rattle.dir_state.specs.Answers.{shown_or_refused, listing_answer}

pub answer_is : (s : DirState) (p : ℕ) (o : Option OpenListing) → find (is_listing_of p) s.listings ≡ o → listing_answer s p ≡ shown_or_refused (option_map (noted_by s) o)
answer_is s p o is = ap shown_or_refused (noted_found s p s.listings ∙ ap (option_map (noted_by s)) is)

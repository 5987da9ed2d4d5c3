use Rattle.std.proofs.Common.{◌≡◌, [], ◌∷◌, refl, ap, ◌∙◌}
use Rattle.path_map.specs.Entries.{Entries, entry_at}
use Rattle.tree_digest.specs.Listings.{entries_of, lines_of}
use Rattle.bundle_image.proofs.listing.listing_of.Goals as goal

entries_again : (es : Entries) → entries_of (lines_of es) ≡ es
entries_again [] = refl
entries_again (e ∷ es) = ap (λ (t : Entries). e ∷ t) (entries_again es)

pub returns-in-Ok : goal.returns-in-Ok
returns-in-Ok c = λ q.
    ap (λ ls. entry_at (entries_of ls) q) c.in-Ok.ensures.ok ∙ ap (λ (es : Entries). entry_at es q) (entries_again c.in_ok-map.map) ∙ c.in_ok-map.ensures.entries q

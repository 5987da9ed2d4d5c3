-- The digests of trees and of images.
use Rattle.std.specs.Prelude.{ℕ, List, ◌∷◌, ◌++◌}
use Rattle.hex.specs.Hex.{encode_lower}
use Rattle.sha2.specs.Sha512.{sha512}
use Rattle.ac_types.specs.declared.image_id.ImageId.{ImageId}
use Rattle.ac_types.specs.Ids.{id_text}
use Rattle.tree_digest.specs.declared.line.ListingLine.{ListingLine}
use Rattle.tree_digest.specs.Listings.{listing_text}

-- the digest of a tree: the SHA-512 of its listing's text
abbrev pub tree_digest : List ListingLine → List ℕ
tree_digest lines = sha512 (listing_text lines)

-- what an image's digest is taken of: the text of its ID and the SHA-512 of its manifest's bytes in lower-case
-- hex digits, each with a line end, and its listing's text
abbrev pub image_text : ImageId → List ℕ → List ListingLine → List ℕ
image_text id manifest lines = id_text id.bytes ++ 10 ∷ (encode_lower (sha512 manifest) ++ 10 ∷ listing_text lines)

-- the digest of an image
abbrev pub image_digest : ImageId → List ℕ → List ListingLine → List ℕ
image_digest id manifest lines = sha512 (image_text id manifest lines)

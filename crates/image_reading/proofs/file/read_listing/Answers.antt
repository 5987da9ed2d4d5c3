use Rattle.std.proofs.Common.{◌≡◌, ◌≤◌, ◌∙◌, ℕ, length, List, true, sym, subst}
use Rattle.dir_files.specs.Reads.{ReadsUp}
use Rattle.image_reading.specs.Places.{image_inner, stored_path, tree_name}
use Rattle.image_reading.specs.Files.{IsListingOf, IsNoListing}
use Rattle.image_reading.proofs.Places.{tree_path}
use Rattle.image_reading.proofs.Values.{tree_front, no_tree_front}
use Rattle.image_reading.proofs.Files.{some_read, some_lacks, some_whole}
use Rattle.image_reading.proofs.file.read_listing.Goals as goal
use Rattle.tree_digest.specs.ListingSize.{most_of_tree}

pub read_part-requires-clause-path : goal.read_part-requires-clause-path
read_part-requires-clause-path g c = tree_path

pub returns-in-Ok-Some-clause-read : goal.returns-in-Ok-Some-clause-read
returns-in-Ok-Some-clause-read g c =
    let D = g.D.Dir in
    let e = rw c.in-Ok-Some.field-0-is at c.in-Ok-Some.ensures in
    let inner = image_inner c.args.key tree_name in
    let few : length c.deref.result.now ≤ most_of_tree = subst (λ (b : List ℕ). length b ≤ most_of_tree) (sym c.deref.ensures.value) e.most in
    let read : D.observed ≡ true → ReadsUp inner most_of_tree (D.shown c.args.dir.now) (D.shown c.read_part.new.dir) c.deref.result.now = λ t. subst (λ (b : List ℕ). ReadsUp inner most_of_tree (D.shown c.args.dir.now) (D.shown c.read_part.new.dir) b) (sym c.deref.ensures.value) (e.read t) in
    some_read inner most_of_tree (D.shown c.args.dir.now) (D.shown c.read_part.new.dir) c.deref.result.now few read IsListingOf IsNoListing c.listing_of.result c.listing_of.ensures.ok

pub returns-in-Ok-Some-clause-damaged : goal.returns-in-Ok-Some-clause-damaged
returns-in-Ok-Some-clause-damaged g c =
    let D = g.D.Dir in
    let e = rw c.in-Ok-Some.field-0-is at c.in-Ok-Some.ensures in
    let inner = image_inner c.args.key tree_name in
    let few : length c.deref.result.now ≤ most_of_tree = subst (λ (b : List ℕ). length b ≤ most_of_tree) (sym c.deref.ensures.value) e.most in
    let read : D.observed ≡ true → ReadsUp inner most_of_tree (D.shown c.args.dir.now) (D.shown c.read_part.new.dir) c.deref.result.now = λ t. subst (λ (b : List ℕ). ReadsUp inner most_of_tree (D.shown c.args.dir.now) (D.shown c.read_part.new.dir) b) (sym c.deref.ensures.value) (e.read t) in
    some_lacks inner most_of_tree (D.shown c.args.dir.now) (D.shown c.read_part.new.dir) c.deref.result.now few read IsListingOf IsNoListing c.listing_of.result (stored_path c.args.key tree_name) c.listing_of.ensures.fault

pub returns-in-Ok-Some-clause-whole : goal.returns-in-Ok-Some-clause-whole
returns-in-Ok-Some-clause-whole g c t file stays =
    let D = g.D.Dir in
    let e = rw c.in-Ok-Some.field-0-is at c.in-Ok-Some.ensures in
    let inner = image_inner c.args.key tree_name in
    let few : length c.deref.result.now ≤ most_of_tree = subst (λ (b : List ℕ). length b ≤ most_of_tree) (sym c.deref.ensures.value) e.most in
    let read : D.observed ≡ true → ReadsUp inner most_of_tree (D.shown c.args.dir.now) (D.shown c.read_part.new.dir) c.deref.result.now = λ t. subst (λ (b : List ℕ). ReadsUp inner most_of_tree (D.shown c.args.dir.now) (D.shown c.read_part.new.dir) b) (sym c.deref.ensures.value) (e.read t) in
    some_whole inner most_of_tree (D.shown c.args.dir.now) (D.shown c.read_part.new.dir) c.deref.result.now few read IsListingOf IsNoListing c.listing_of.result (stored_path c.args.key tree_name) c.listing_of.ensures.ok c.listing_of.ensures.fault
    file (c.deref.ensures.value ∙ e.whole t file stays) (tree_front file) (no_tree_front file)

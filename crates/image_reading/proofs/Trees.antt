-- Of which images the listings are read, call by call.
use Rattle.std.proofs.Common.{◌≡◌, Bool, true, false, not, ◌&&◌, ◌||◌, bytes_eq, ℕ, List, [], ◌∷◌, refl, ap, ◌∙◌}
use Rattle.std.proofs.lemmas.Slice.Eq.{bytes_eq-Decides}
use Rattle.ac_types.specs.declared.store_key.StoreKey.{StoreKey}
use Rattle.dir_model.specs.declared.area.Area.{Area}
use Rattle.dir_model.specs.declared.area.Area.TheVariants.{Images}
use Rattle.dir_model.specs.declared.item.Inner.{Inner}
use Rattle.dir_model.specs.declared.request.Request.{Request}
use Rattle.dir_model.specs.declared.request.Request.TheVariants.{ListArea, ListIn, ReadIn}
use Rattle.dir_model.specs.declared.request.Reply.{Reply}
use Rattle.dir_model.specs.declared.spot.Spot.{Spot}
use Rattle.dir_model.specs.State.{spot_eq}
use Rattle.dir_model.proofs.Lists.{and_right, and_false, or_map, or_last}
use Rattle.dir_model.proofs.Chains.{nothing_yet, extends_wider, and_more}
use Rattle.dir_rules.specs.Standing.{is_in}
use Rattle.dir_trait.specs.DirCalls.{DirAt, ListCall}
use Rattle.dir_trait.proofs.ListCalls.{list_extends}
use Rattle.dir_files.specs.Reads.{inner_at, OnlyReads, reads_at}
use Rattle.image_reading.specs.Places.{tree_name}
use Rattle.image_reading.specs.Looks.{reads_image, OnlyReadsImage}
use Rattle.image_reading.specs.Trees.{is_tree, is_of_one, reads_trees_of, ReadsTreesOf, ReadsNoTrees}

pub trees_none : {observed : Bool} {keys : List StoreKey} {d : DirAt} → ReadsTreesOf observed keys d d
trees_none = record { same = refl; extends = λ t. nothing_yet }

pub trees_more : {observed : Bool} {keys : List StoreKey} {a b c : DirAt} → ReadsTreesOf observed keys a b → ReadsTreesOf observed keys b c → ReadsTreesOf observed keys a c
trees_more ab bc = record { same = bc.same ∙ ab.same; extends = λ t. and_more (ab.extends t) ab.same (bc.extends t) }

-- of more images
pub trees_wider : {observed : Bool} {old new : DirAt} (keys more : List StoreKey) → ((inner : Inner) → is_of_one keys inner ≡ true → is_of_one more inner ≡ true) → ReadsTreesOf observed keys old new → ReadsTreesOf observed more old new
trees_wider keys more wider r = record { same = r.same; extends = λ t. extends_wider asked (r.extends t) }
  where
    asked : (r : Request) → reads_trees_of keys r ≡ true → reads_trees_of more r ≡ true
    asked (ReadIn inner at room) h = or_map (not (is_tree inner)) (is_of_one keys inner) (is_of_one more inner) (wider inner) h
    asked r h = refl

pub trees_any : {observed : Bool} {old new : DirAt} (keys : List StoreKey) → ReadsNoTrees observed old new → ReadsTreesOf observed keys old new
trees_any keys r = trees_wider [] keys (λ inner h. cc) r

-- of an image alone
pub trees_of_image : {observed : Bool} {old new : DirAt} (key : StoreKey) → OnlyReadsImage observed key old new → ReadsTreesOf observed (key ∷ []) old new
trees_of_image key o = record { same = o.same; extends = λ t. extends_wider asked (o.extends t) }
  where
    asked : (r : Request) → reads_image key r ≡ true → reads_trees_of (key ∷ []) r ≡ true
    asked (ReadIn inner at room) h = or_last (not (is_tree inner)) (is_of_one (key ∷ []) inner) (rw h refl)
    asked r h = refl

-- another file than the listing
pub other_file : (spot : Spot) (name : List ℕ) → bytes_eq name tree_name ≡ false → (r : Request) → reads_at (inner_at spot name) r ≡ true → reads_trees_of [] r ≡ true
other_file spot name other (ReadIn inner at room) h =
    let same : inner.path ≡ name = (bytes_eq-Decides inner.path name).0 (and_right (spot_eq inner.spot spot) (bytes_eq inner.path name) h) in
    let apart : bytes_eq inner.path tree_name ≡ false = ap (λ p. bytes_eq p tree_name) same ∙ other in
    ap (λ b. not (is_in inner.spot.area Images && b) || false) apart ∙ ap (λ b. not b || false) (and_false (is_in inner.spot.area Images))
other_file spot name other r h = refl

pub no_tree_file : {observed : Bool} {old new : DirAt} (spot : Spot) (name : List ℕ) → bytes_eq name tree_name ≡ false → OnlyReads observed (inner_at spot name) old new → ReadsNoTrees observed old new
no_tree_file spot name other o = record { same = o.same; extends = λ t. extends_wider (other_file spot name other) (o.extends t) }

-- a listing of a directory, or of an area
pub no_tree_items : {observed : Bool} {old new : DirAt} (inner : Inner) (reply : Reply) → ListCall observed old (ListIn inner) reply new → ReadsNoTrees observed old new
no_tree_items inner reply c = record { same = c.same; extends = λ t. list_extends refl (c.step t) }

pub no_tree_names : {observed : Bool} {old new : DirAt} (area : Area) (reply : Reply) → ListCall observed old (ListArea area) reply new → ReadsNoTrees observed old new
no_tree_names area reply c = record { same = c.same; extends = λ t. list_extends refl (c.step t) }

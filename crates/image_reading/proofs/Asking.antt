-- What a process asked for, and what it knows afterwards.
use Rattle.std.proofs.Common.{arith, ◌≡◌, ℕ, Bool, true, false, ◌&&◌, ◌||◌, cond, bytes_eq, nat_eq, List, [], ◌∷◌, Result, Ok, Err, refl, ap, subst, ◌∙◌}
use Rattle.std.specs.List.{list_any}
use Rattle.ac_types.specs.declared.store_key.StoreKey.{StoreKey}
use Rattle.dir_model.specs.declared.area.Area.TheVariants.{Images}
use Rattle.dir_model.specs.declared.item.Inner.{Inner}
use Rattle.dir_model.specs.declared.item.Item.{Item}
use Rattle.dir_model.specs.declared.opening.Target.{Target}
use Rattle.dir_model.specs.declared.opening.Target.TheVariants.{Own, Claim, Gate}
use Rattle.dir_model.specs.declared.request.DirError.{DirError}
use Rattle.dir_model.specs.declared.request.DirError.TheVariants.{Missing}
use Rattle.dir_model.specs.declared.request.Request.{Request}
use Rattle.dir_model.specs.declared.request.Request.TheVariants.{ListArea, ListIn, ReadIn}
use Rattle.dir_model.specs.declared.request.Reply.TheVariants.{Items, Refused}
use Rattle.dir_model.specs.declared.spot.Spot.{Spot}
use Rattle.dir_model.specs.Areas.{rank}
use Rattle.dir_model.specs.Local.{Local, local_replied}
use Rattle.dir_model.specs.Locks.{is_exclusive}
use Rattle.dir_model.specs.Paths.{is_empty}
use Rattle.dir_model.specs.Replies.{names_reply, items_reply}
use Rattle.dir_model.specs.State.{spot_eq}
use Rattle.dir_model.proofs.Lists.{and_left, and_right, and_both, and_false}
use Rattle.dir_model.proofs.Spots.{spot_self}
use Rattle.dir_model.proofs.Chains.{extends_wider, nothing_yet, and_more}
use Rattle.dir_rules.specs.declared.standing.Held.{Held}
use Rattle.dir_rules.specs.declared.seen.Seen.{Seen}
use Rattle.dir_rules.specs.declared.seen.ShownArea.{ShownArea}
use Rattle.dir_rules.specs.Standing.{excludes_area}
use Rattle.dir_rules.specs.LockRules.{is_removal_held, is_removal_target, may_remove}
use Rattle.dir_rules.specs.Seen.{with_items, with_names}
use Rattle.dir_rules.specs.Conforms.{seen_listed}
use Rattle.dir_trait.specs.DirCalls.{DirAt, ListCall, HeldBetween}
use Rattle.dir_files.proofs.Folders.{tells_present, tells_absent}
use Rattle.dir_trait.specs.Knowledge.{Knows}
use Rattle.dir_trait.proofs.ListCalls.{list_extends, knows_list, local_items}
use Rattle.dir_files.specs.Reads.{inner_at, OnlyReads, may_read, reads_at}
use Rattle.image_reading.specs.Places.{image_spot, image_inner, IsPresent, IsImageAbsent}
use Rattle.image_reading.specs.Looks.{reads_image, reads_images, OnlyReadsImage, OnlyReadsImages}

local_names : (m : Local) (r : Result (List (List ℕ)) DirError) → local_replied m (ListArea Images) (names_reply r) ≡ m
local_names m (Ok names) = refl
local_names m (Err e) = refl

-- nothing of an image may be removed
no_target : (key : StoreKey) (target : Target) → is_removal_target (image_spot key) target ≡ false
no_target key (Own here) = refl
no_target key (Claim here) = refl
no_target key (Gate gate) = refl

no_removal : (key : StoreKey) (hs : List Held) → list_any (is_removal_held (image_spot key)) hs ≡ false
no_removal key [] = refl
no_removal key (h ∷ hs) = ap (λ (b : Bool). b || list_any (is_removal_held (image_spot key)) hs) (ap (λ (b : Bool). is_exclusive h.lock && b) (no_target key h.target) ∙ and_false (is_exclusive h.lock)) ∙ no_removal key hs

module _ (s : Seen) (key : StoreKey) (may : may_read Images s.standing ≡ true) where
  seen_items : (r : Result (List Item) DirError) → seen_listed s (ListIn (image_inner key [])) (items_reply r) ≡ s
  seen_items (Ok items) =
      let inner = image_inner key [] in
      let f : Bool → Bool → Bool → Seen = λ a b r. let x : Seen = record s { listed = cond r (inner ∷ s.listed) s.listed; items = cond r (with_items inner items s.items) s.items; kept = a && (b && s.kept) } in x in
      let may' = may_read Images s.standing in
      let r = may_remove s.standing inner.spot in
      let one : f may' may' r ≡ f true may' r = ap (λ a. f a may' r) may in
      let two : f true may' r ≡ f true true r = ap (λ b. f true b r) may in
      let three : f true true r ≡ f true true false = ap (f true true) (no_removal key s.standing.holdings) in
      one ∙ (two ∙ three)
  seen_items (Err e) = ap (λ (a : Bool). let x : Seen = record s { kept = a && (a && s.kept) } in x) may

module _ (s : Seen) (may : may_read Images s.standing ≡ true) where
  seen_names : (r : Result (List (List ℕ)) DirError) → (areas : List ShownArea) × (excludes_area Images s.standing ≡ false → areas ≡ s.areas) × (seen_listed s (ListArea Images) (names_reply r) ≡ record s { areas = areas })
  seen_names (Ok names) =
      let areas = cond (excludes_area Images s.standing) (with_names Images names s.areas) s.areas in
      (areas, λ off. rw off refl, ap (λ (a : Bool). let x : Seen = record s { areas = areas; kept = a && (a && s.kept) } in x) may)
  seen_names (Err e) = (s.areas, λ off. refl, ap (λ (a : Bool). let x : Seen = record s { kept = a && (a && s.kept) } in x) may)

items_standing : (s : Seen) (inner : Inner) (r : Result (List Item) DirError) → (seen_listed s (ListIn inner) (items_reply r)).standing ≡ s.standing
items_standing s inner (Ok items) = refl
items_standing s inner (Err e) = refl

names_standing : (s : Seen) (r : Result (List (List ℕ)) DirError) → (seen_listed s (ListArea Images) (names_reply r)).standing ≡ s.standing
names_standing s (Ok names) = refl
names_standing s (Err e) = refl

-- of one image
pub image_none : {observed : Bool} (key : StoreKey) {d : DirAt} → OnlyReadsImage observed key d d
image_none key = record { same = refl; faults = omega arith; local = refl; extends = λ t. nothing_yet; known = λ t s may k. k }

pub image_more : {observed : Bool} (key : StoreKey) {a b c : DirAt} → OnlyReadsImage observed key a b → OnlyReadsImage observed key b c → OnlyReadsImage observed key a c
image_more key ab bc = record {
  same = bc.same ∙ ab.same;
  faults = omega (arith, ab.faults, bc.faults);
  local = bc.local ∙ ab.local;
  extends = λ t. and_more (ab.extends t) ab.same (bc.extends t);
  known = λ t s may k. bc.known t s may (ab.known t s may k);
}

file_asked : (key : StoreKey) (name : List ℕ) (r : Request) → reads_at (image_inner key name) r ≡ true → reads_image key r ≡ true
file_asked key name (ReadIn inner at room) h = and_left (spot_eq inner.spot (image_spot key)) (bytes_eq inner.path name) h
file_asked key name r h = cc

pub image_file : {observed : Bool} {old new : DirAt} (key : StoreKey) (name : List ℕ) → OnlyReads observed (image_inner key name) old new → OnlyReadsImage observed key old new
image_file key name o = record { same = o.same; faults = o.faults; local = o.local; extends = λ t. extends_wider (file_asked key name) (o.extends t); known = o.known }

pub image_items : {observed : Bool} {old new : DirAt} (key : StoreKey) (r : Result (List Item) DirError) → ListCall observed old (ListIn (image_inner key [])) (items_reply r) new → OnlyReadsImage observed key old new
image_items {observed} {old} {new} key r c = record {
  same = c.same;
  faults = c.faults;
  local = c.local ∙ local_items old.local (image_inner key []) r;
  extends = λ t. list_extends (and_both (spot_eq (image_spot key) (image_spot key)) true (spot_self (image_spot key)) refl) (c.step t);
  known = λ t s may k. subst (λ (x : Seen). Knows new x) (seen_items s key may r) (knows_list refl refl (local_items old.local (image_inner key []) r) (items_standing s (image_inner key []) r) t k c);
}

-- of several
pub images_more : {observed : Bool} {a b c : DirAt} → OnlyReadsImages observed a b → OnlyReadsImages observed b c → OnlyReadsImages observed a c
images_more ab bc = record {
  same = bc.same ∙ ab.same;
  faults = omega (arith, ab.faults, bc.faults);
  local = bc.local ∙ ab.local;
  extends = λ t. and_more (ab.extends t) ab.same (bc.extends t);
  known = λ t s may k.
      let x = ab.known t s may k in
      let y = bc.known t (record s { areas = x.areas }) may x.knows in
      record { areas = y.areas; shared = λ off. y.shared off ∙ x.shared off; knows = y.knows };
}

image_asked : (key : StoreKey) (r : Request) → reads_image key r ≡ true → reads_images r ≡ true
image_asked key (ReadIn inner at room) h = and_left (nat_eq (rank inner.spot.area) (rank Images)) (bytes_eq inner.spot.name (image_spot key).name) h
image_asked key (ListIn inner) h =
    and_both (nat_eq (rank inner.spot.area) (rank Images)) (is_empty inner.path)
    (and_left (nat_eq (rank inner.spot.area) (rank Images)) (bytes_eq inner.spot.name (image_spot key).name) (and_left (spot_eq inner.spot (image_spot key)) (is_empty inner.path) h))
    (and_right (spot_eq inner.spot (image_spot key)) (is_empty inner.path) h)
image_asked key r h = cc

pub images_one : {observed : Bool} {old new : DirAt} (key : StoreKey) → OnlyReadsImage observed key old new → OnlyReadsImages observed old new
images_one {observed} {old} {new} key o = record {
  same = o.same;
  faults = o.faults;
  local = o.local;
  extends = λ t. extends_wider (image_asked key) (o.extends t);
  known = λ t s may k. record { areas = s.areas; shared = λ off. refl; knows = o.known t s may k };
}

pub images_none : {observed : Bool} {d : DirAt} → OnlyReadsImages observed d d
images_none = record { same = refl; faults = omega arith; local = refl; extends = λ t. nothing_yet; known = λ t s may k. record { areas = s.areas; shared = λ off. refl; knows = k } }

pub images_names : {observed : Bool} {old new : DirAt} (r : Result (List (List ℕ)) DirError) → ListCall observed old (ListArea Images) (names_reply r) new → OnlyReadsImages observed old new
images_names {observed} {old} {new} r c = record {
  same = c.same;
  faults = c.faults;
  local = c.local ∙ local_names old.local r;
  extends = λ t. list_extends refl (c.step t);
  known = λ t s may k.
      let n = seen_names s may r in
      record { areas = n.0; shared = n.1; knows = subst (λ (x : Seen). Knows new x) n.2 (knows_list refl refl (local_names old.local r) (names_standing s r) t k c) };
}

-- by a location that is the image's
pub image_file_at : {observed : Bool} {old new : DirAt} (key : StoreKey) (name : List ℕ) (spot : Spot) → spot ≡ image_spot key → OnlyReads observed (inner_at spot name) old new → OnlyReadsImage observed key old new
image_file_at {observed} {old} {new} key name spot same o = image_file key name (subst (λ (x : Spot). OnlyReads observed (inner_at x name) old new) same o)

pub image_items_at : {observed : Bool} {old new : DirAt} (key : StoreKey) (spot : Spot) (r : Result (List Item) DirError) → spot ≡ image_spot key → ListCall observed old (ListIn (inner_at spot [])) (items_reply r) new → OnlyReadsImage observed key old new
image_items_at {observed} {old} {new} key spot r same c = image_items key r (subst (λ (x : Spot). ListCall observed old (ListIn (inner_at x [])) (items_reply r) new) same c)

pub present_at : {observed : Bool} {old new : DirAt} {items : List Item} (key : StoreKey) (spot : Spot) → spot ≡ image_spot key → observed ≡ true → ListCall observed old (ListIn (inner_at spot [])) (Items items) new → HeldBetween old new (IsPresent key)
present_at {observed} {old} {new} {items} key spot same t c = tells_present t (subst (λ (x : Spot). ListCall observed old (ListIn (inner_at x [])) (Items items) new) same c)

pub absent_at : {observed : Bool} {old new : DirAt} (key : StoreKey) (spot : Spot) → spot ≡ image_spot key → observed ≡ true → ListCall observed old (ListIn (inner_at spot [])) (Refused Missing 0) new → HeldBetween old new (IsImageAbsent key)
absent_at {observed} {old} {new} key spot same t c = tells_absent t (subst (λ (x : Spot). ListCall observed old (ListIn (inner_at x [])) (Refused Missing 0) new) same c)

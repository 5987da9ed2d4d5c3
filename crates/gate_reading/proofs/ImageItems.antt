-- The listing of an image under the gate.
use Rattle.std.proofs.Common.{◌≡◌, ℕ, Bool, true, false, ◌||◌, ◌==◌, bytes_eq, Option, unwrap_or, List, [], ◌∷◌, ◌++◌, refl, sym, ap, subst, ◌∙◌}
use Rattle.std.specs.List.{list_any}
use Rattle.plain_laws.proofs.Texts.{same_text}
use Rattle.plain_laws.proofs.Booleans.{same_test}
use Rattle.plain_laws.proofs.Lists.{any_wider}
use Rattle.dir_model.specs.declared.event.Event.{Event}
use Rattle.dir_model.specs.declared.item.Item.{Item}
use Rattle.dir_model.specs.declared.item.ItemKind.TheVariants as kind
use Rattle.dir_model.specs.declared.spot.Spot.{Spot}
use Rattle.dir_model.specs.declared.request.Request.TheVariants.{ListIn}
use Rattle.dir_model.specs.declared.request.Reply.TheVariants.{Items}
use Rattle.dir_model.specs.Paths.{is_file_name}
use Rattle.dir_model.specs.State.{DirState}
use Rattle.dir_model.specs.Trace.{states_next, state_after}
use Rattle.dir_model.specs.Listings.{has_name, item_names, has_item, is_item, kind_number}
use Rattle.dir_model.proofs.Lists.{and_left, and_right, and_both, or_last, any_of_map, same_self}
use Rattle.dir_rules.specs.declared.seen.Entry.{Entry}
use Rattle.dir_laws.specs.Stretches.{StandsNamed, StandsInside}
use Rattle.dir_files.specs.Reads.{inner_at}
use Rattle.dir_files.specs.Listed.{ShowsInside, ShowsDirectory}
use Rattle.lifecycle.specs.Executions.{IsConforming}
use Rattle.lifecycle.proofs.Places.{same_name}
use Rattle.folder_contents.specs.Entries.{entries_in}
use Rattle.gate_reading.specs.Listings.{has_direct, shown_item_of, has_direct_item, ShowsEntries, ListingsTell}
use Rattle.gate_reading.proofs.PlainPaths.{plain_own}
use Rattle.gate_reading.proofs.DirectItems.{named_direct, item_direct}
use Rattle.gate_reading.proofs.Listed.{throughout, sometime, stands_in}

-- an item of a name that is shown
pub record Shown (items : List Item) (name : List ℕ) : Type 0 where
  pub item : Item
  pub there : has_item items item ≡ true
  pub named : item.name ≡ name

shown_item : (items : List Item) (name : List ℕ) → has_name (item_names items) name ≡ true → Shown items name
shown_item [] name h = cc
shown_item (x ∷ xs) name h = by (bytes_eq x.name name) refl h (λ l. shown_item xs name l)
  where
    by : (b : Bool) → bytes_eq x.name name ≡ b → (b || has_name (item_names xs) name) ≡ true →
        (has_name (item_names xs) name ≡ true → Shown xs name) → Shown (x ∷ xs) name
    by true is h go = record {
      item = x;
      there = ap (λ c. c || has_item xs x)
          (and_both (bytes_eq x.name x.name) (kind_number x.kind == kind_number x.kind) (same_name x.name x.name refl)
          (same_self (kind_number x.kind)));
      named = same_text x.name name is;
    }
    by false is h go =
        let s = go h in
        record { item = s.item; there = or_last (is_item s.item x) (has_item xs s.item) s.there; named = s.named }

-- an item that stands has its name among the entries
pub item_named : (es : List Entry) (item : Item) → has_direct_item es item ≡ true → has_direct es item.name ≡ true
item_named es item h =
    and_both (is_file_name item.name) (list_any (λ e. bytes_eq e.path item.name) es)
    (and_left (is_file_name item.name) (list_any (λ e. is_item item (shown_item_of e)) es) h)
    (any_wider (λ e. is_item item (shown_item_of e)) (λ e. bytes_eq e.path item.name)
    (λ e is. and_left (bytes_eq e.path item.name) _ is) es
    (and_right (is_file_name item.name) (list_any (λ e. is_item item (shown_item_of e)) es) h))

-- a listing in whose whole time a folder had these entries
shows_entries : (p : ℕ) (old new : List Event) (spot : Spot) (items : List Item) (d : ShowsDirectory p old new (inner_at spot []) items) →
    (i : ShowsInside p old new (inner_at spot []) items d.stretch) → (es : List Entry)
    → ((a b : List Event) → d.stretch.others ≡ a ++ b → entries_in i.folder (states_next (state_after d.stretch.begun) a).entries ≡ es)
    → ShowsEntries es items
shows_entries p old new spot items d i es same = record {
  names = λ name. same_test (has_name (item_names items) name) (has_direct es name) (only name) (all name);
  kinds = kinds;
}
  where
    first : DirState
    first = state_after d.stretch.begun

    kinds : (item : Item) → has_item items item ≡ true → has_direct_item es item ≡ true
    kinds item h =
        let m = sometime (StandsInside i.folder [] item) first d.stretch.others (i.only item h) in
        ap (λ (l : List Entry). has_direct_item l item) (sym (same m.earlier m.later m.split))
        ∙ (sym (item_direct i.folder (states_next first m.earlier).entries item) ∙ m.holds)

    only : (name : List ℕ) → has_name (item_names items) name ≡ true → has_direct es name ≡ true
    only name h =
        let s = shown_item items name h in
        subst (λ (n : List ℕ). has_direct es n ≡ true) s.named (item_named es s.item (kinds s.item s.there))

    all : (name : List ℕ) → has_direct es name ≡ true → has_name (item_names items) name ≡ true
    all name h =
        let item : Item = record { name = name; kind = kind.File } in
        any_of_map (λ (x : Item). x.name) (λ n. bytes_eq n name) items
        ∙ i.all item (throughout (StandsNamed i.folder [] item) first d.stretch.others
        (λ a b is. named_direct i.folder (states_next first a).entries item
        ∙ (ap (λ (l : List Entry). has_direct l name) (same a b is) ∙ h)))

pub listings_tell : (trace : List Event) → IsConforming trace → ListingsTell trace
listings_tell trace conforming p before x y later spot folder items whole is gate at d =
    let i = d.shows (plain_own (d.stretch.begun ++ d.stretch.others) (inner_at spot []) refl) in
    let stays = stands_in trace conforming p before x y later (ListIn (inner_at spot [])) (Items items) refl whole gate d.stretch
    spot folder is at in
    let same : folder ≡ i.folder = ap (λ (o : Option ℕ). unwrap_or o folder) (sym (stays [] d.stretch.others refl).0 ∙ i.here) in
    shows_entries p (before ++ x) ((before ++ x) ++ y) spot items d i (entries_in folder (state_after before).entries)
    (λ a b parts. subst (λ (k : ℕ). entries_in k (states_next (state_after d.stretch.begun) a).entries ≡
    entries_in folder (state_after before).entries) same (stays a b parts).1)

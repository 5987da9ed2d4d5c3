-- What a listing of an image shows, while the image stays as it is.
use Rattle.std.proofs.Common.{◌≡◌, ℕ, Bool, true, false, ◌||◌, bytes_eq, List, [], ◌∷◌, ◌++◌, refl, sym, ap, subst, ◌∙◌}
use Rattle.plain_laws.proofs.Texts.{same_text}
use Rattle.plain_laws.proofs.Booleans.{same_test}
use Rattle.dir_model.specs.declared.event.Event.{Event}
use Rattle.dir_model.specs.declared.item.Item.{Item}
use Rattle.dir_model.specs.declared.item.ItemKind.TheVariants as kind
use Rattle.dir_model.specs.declared.spot.Spot.{Spot}
use Rattle.dir_model.specs.State.{DirState}
use Rattle.dir_model.specs.Trace.{states_next, state_after}
use Rattle.dir_model.specs.Listings.{has_name, item_names, has_item, is_item, kind_number}
use Rattle.dir_model.proofs.Lists.{and_both, or_last, any_of_map, same_self}
use Rattle.dir_rules.specs.declared.seen.Entry.{Entry}
use Rattle.dir_laws.specs.Stretches.{StandsNamed, StandsInside}
use Rattle.dir_files.specs.Reads.{inner_at}
use Rattle.dir_files.specs.Listed.{ShowsInside, ShowsDirectory}
use Rattle.lifecycle.proofs.Places.{same_name}
use Rattle.folder_contents.specs.Entries.{entries_in}
use Rattle.gate_reading.specs.Listings.{has_direct, has_direct_item}
use Rattle.gate_reading.proofs.DirectItems.{named_direct, item_direct}
use Rattle.gate_reading.proofs.Listed.{throughout, sometime}
use Rattle.gate_reading.proofs.ImageItems.{item_named}

-- a name that is shown is some item's
shown_so : (P : List ℕ → Type 0) (items : List Item) → ((item : Item) → has_item items item ≡ true → P item.name) → (name : List ℕ) →
    has_name (item_names items) name ≡ true → P name
shown_so P [] each name h = cc
shown_so P (x ∷ xs) each name h = by (bytes_eq x.name name) refl h (λ l. shown_so P xs (λ item there. each item (or_last (is_item item x) (has_item xs item) there)) name l)
  where
    first : P x.name
    first = each x (ap (λ c. c || has_item xs x)
        (and_both (bytes_eq x.name x.name) _ (same_name x.name x.name refl) (same_self (kind_number x.kind))))

    by : (b : Bool) → bytes_eq x.name name ≡ b → (b || has_name (item_names xs) name) ≡ true →
        (has_name (item_names xs) name ≡ true → P name) → P name
    by true is h go = subst P (same_text x.name name is) first
    by false is h go = go h

-- a listing in whose whole time a folder had these entries shows their names
pub shows_names : (p : ℕ) (old new : List Event) (spot : Spot) (items : List Item) (d : ShowsDirectory p old new (inner_at spot []) items) →
    (i : ShowsInside p old new (inner_at spot []) items d.stretch) → (es : List Entry)
    → ((a b : List Event) → d.stretch.others ≡ a ++ b → entries_in i.folder (states_next (state_after d.stretch.begun) a).entries ≡ es)
    → (name : List ℕ) → has_name (item_names items) name ≡ has_direct es name
shows_names p old new spot items d i es same name =
    same_test (has_name (item_names items) name) (has_direct es name) (shown_so (λ n. has_direct es n ≡ true) items only name) all
  where
    first : DirState
    first = state_after d.stretch.begun

    only : (item : Item) → has_item items item ≡ true → has_direct es item.name ≡ true
    only item h =
        let m = sometime (StandsInside i.folder [] item) first d.stretch.others (i.only item h) in
        item_named es item
        (ap (λ (l : List Entry). has_direct_item l item) (sym (same m.earlier m.later m.split))
        ∙ (sym (item_direct i.folder (states_next first m.earlier).entries item) ∙ m.holds))

    all : has_direct es name ≡ true → has_name (item_names items) name ≡ true
    all h =
        let item : Item = record { name = name; kind = kind.File } in
        any_of_map (λ (x : Item). x.name) (λ n. bytes_eq n name) items
        ∙ i.all item (throughout (StandsNamed i.folder [] item) first d.stretch.others
        (λ a b is. named_direct i.folder (states_next first a).entries item
        ∙ (ap (λ (l : List Entry). has_direct l name) (same a b is) ∙ h)))

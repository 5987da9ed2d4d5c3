-- The greatest moment among items.
use Rattle.std.proofs.Common.{◌≡◌, ℕ, ◌+◌, ◌<◌, Option, List, length, drop, slice_index_or}
use Rattle.std.proofs.lemmas.List.{drop_more}
use Rattle.dir_model.specs.declared.item.Item.{Item}
use Rattle.dir_rules.specs.Marks.{created_moment}
use Rattle.dir_rules.specs.Seen.{later, created_among}
use Rattle.dir_laws.proofs.Later.{later_assoc}

pub greatest_more : (items : List Item) (i : ℕ) (d : Item) (g : Option ℕ) → i < length items → later (later g (created_moment (slice_index_or items i d).name)) (created_among (drop (i + 1) items)) ≡ later g (created_among (drop i items))
greatest_more items i d g h = rw (drop_more items i d h) (later_assoc g (created_moment (slice_index_or items i d).name) (created_among (drop (i + 1) items)))

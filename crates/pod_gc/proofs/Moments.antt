-- The moments of marks, and the greatest of them.
use Rattle.std.proofs.Common.{◌≡◌, ◌+◌, ◌&&◌, ℕ, Bool, true, false, cond, nat_le, bytes_eq, Option, Some, None, List, [], ◌∷◌, ◌++◌, length, take, drop, refl, sym, ap, ◌∙◌}
use Rattle.dir_model.specs.declared.item.Item.{Item}
use Rattle.dir_rules.specs.Seen.{later}
use Rattle.dir_laws.proofs.Later.{later_assoc}
use Rattle.dir_rules.specs.Marks.{mark_moment}
use Rattle.pod_gc.specs.Ages.{moment_among}

later_none : (a : Option ℕ) → a ≡ later a None
later_none None = refl
later_none (Some a) = refl

moment_push : (text : List ℕ) (items : List Item) (item : Item) → moment_among text (items ++ item ∷ []) ≡ later (moment_among text items) (mark_moment text item.name)
moment_push text [] item = sym (later_none (mark_moment text item.name))
moment_push text (x ∷ items) item = ap (later (mark_moment text x.name)) (moment_push text items item) ∙ sym (later_assoc (mark_moment text x.name) (moment_among text items) (mark_moment text item.name))

pub moment_next : (text : List ℕ) (items : List Item) (i : ℕ) (item : Item) (found : Option ℕ) → take (i + 1) items ≡ take i items ++ item ∷ [] → found ≡ moment_among text (take i items) → later found (mark_moment text item.name) ≡ moment_among text (take (i + 1) items)
moment_next text items i item found more is = ap (λ (o : Option ℕ). later o (mark_moment text item.name)) is ∙ (sym (moment_push text (take i items) item) ∙ ap (moment_among text) (sym more))

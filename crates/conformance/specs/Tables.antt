-- What the lists that change stand for.
use Rattle.std.specs.Prelude.{Option, List, ℕ, option_map, map}
use Rattle.dir_model.specs.declared.item.Inner.{Inner}
use Rattle.dir_model.specs.declared.tree.TreeNode.TheVariants.{Dir, Piece}
use Rattle.dir_rules.specs.Marks.{parent}
use Rattle.dir_rules.specs.Seen.{making_with_entry, making_changed}
use Rattle.dir_rules.specs.declared.seen.Making.{Making}
use Rattle.dir_rules.specs.declared.seen.Created.{Created}
use Rattle.dir_rules.specs.declared.seen.Seen.{Seen}
use Rattle.lock_rules.specs.declared.standing.StandingTable.{StandingTable}
use Rattle.lock_rules.specs.Tables.{table_standing}
use Rattle.conformance.specs.declared.table.MakingTable.{MakingTable}
use Rattle.conformance.specs.declared.table.CreatedMark.{CreatedMark}
use Rattle.conformance.specs.declared.table.ContentsTable.{ContentsTable}
use Rattle.conformance.specs.declared.table.SeenTable.{SeenTable}

abbrev pub table_making : MakingTable → Making
table_making t = record { spot = t.spot; clean = t.clean; entries = t.entries.items; unsynced = t.unsynced.items }

-- a piece of a file was made: its entry, and the directory or file that is to be synced for it
abbrev pub making_with_piece : Inner → List ℕ → List ℕ → Option Making → Option Making
making_with_piece inner piece unsynced making = making_changed inner.spot (making_with_entry inner.path (Piece piece) unsynced) making

-- a directory was made: its entry, and the directory above it, which is to be synced
abbrev pub making_with_dir : Inner → Option Making → Option Making
making_with_dir inner making = making_changed inner.spot (making_with_entry inner.path Dir (parent inner.path)) making

abbrev pub created_of : CreatedMark → Created
created_of t = record { name = t.name; moment = t.moment }

abbrev pub seen_with : StandingTable → ContentsTable → Seen
seen_with standing t = record { standing = table_standing standing; making = option_map table_making t.making; image_under_lock = t.image_under_lock; created = map created_of t.created.items; marked = t.marked.items; notes = t.notes.items; put_away = t.put_away.items; listed = t.listed.items; items = t.items.items; areas = t.areas.items; kept = t.kept }

abbrev pub table_seen : SeenTable → Seen
table_seen t = seen_with t.standing t.contents

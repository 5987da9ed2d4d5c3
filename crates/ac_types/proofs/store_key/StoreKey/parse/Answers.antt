use Rattle.std.proofs.Common.{◌∙◌, List, ℕ, sym, subst, Some, ap}
use Rattle.ac_types.specs.Ids.{IsKeyText}
use Rattle.ac_types.proofs.IdTexts.{short_key, long_key, no_key, key_of_id, key_alone, key_none}
use Rattle.ac_types.proofs.store_key.StoreKey.parse.Goals as goal

pub returns-in-Ok-clause-reads : goal.returns-in-Ok-clause-reads
returns-in-Ok-clause-reads c =
    key_of_id c.args.text.now c.in-Ok.id.bytes c.in-Ok.ensures.reads ∙ ap Some (sym c.of.ensures)

pub returns-in-Ok-clause-text : goal.returns-in-Ok-clause-text
returns-in-Ok-clause-text c =
    let P : List ℕ → Type 0 = λ key. IsKeyText key c.args.text.now in
    subst P (sym c.of.ensures) (long_key c.args.text.now c.in-Ok.id.bytes c.in-Ok.ensures.reads)

pub returns-then-not-read_id-clause-reads : goal.returns-then-not-read_id-clause-reads
returns-then-not-read_id-clause-reads c =
    key_none c.args.text.now c.in_default.ensures.reads c.if-not-read_id.ensures

pub returns-then-not-read_id-clause-refused : goal.returns-then-not-read_id-clause-refused
returns-then-not-read_id-clause-refused c =
    no_key c.args.text.now c.in_default.ensures.reads c.if-not-read_id.ensures

pub returns-clause-reads : goal.returns-clause-reads
returns-clause-reads c =
    key_alone c.args.text.now c.read_id.new.room c.in_default.ensures.reads c.if-not-read_id.ensures

pub returns-clause-text : goal.returns-clause-text
returns-clause-text c = short_key c.args.text.now c.read_id.new.room c.if-not-read_id.ensures

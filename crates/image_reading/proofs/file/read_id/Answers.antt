use Rattle.std.proofs.Common.{◌≡◌, ◌≤◌, ◌∙◌, ℕ, length, List, true, refl, sym, subst}
use Rattle.dir_files.specs.Reads.{ReadsUp}
use Rattle.image_reading.specs.Places.{image_inner, stored_path, id_name}
use Rattle.image_reading.specs.Files.{IsIdOf, IsNoId, most_of_id}
use Rattle.image_reading.proofs.Places.{id_path}
use Rattle.image_reading.proofs.Values.{id_front, no_id_front}
use Rattle.image_reading.proofs.Files.{some_read, some_lacks, some_whole}
use Rattle.image_reading.proofs.file.read_id.Goals as goal

pub read_part-requires-clause-path : goal.read_part-requires-clause-path
read_part-requires-clause-path g c = id_path

pub returns-in-Ok-Some-clause-read : goal.returns-in-Ok-Some-clause-read
returns-in-Ok-Some-clause-read g c =
    let D = g.D.Dir in
    let e = rw c.in-Ok-Some.field-0-is at c.in-Ok-Some.ensures in
    let inner = image_inner c.args.key id_name in
    let few : length c.deref.result.now ≤ most_of_id = subst (λ (b : List ℕ). length b ≤ most_of_id) (sym c.deref.ensures.value) e.most in
    let read : D.observed ≡ true → ReadsUp inner most_of_id (D.shown c.args.dir.now) (D.shown c.read_part.new.dir) c.deref.result.now = λ t. subst (λ (b : List ℕ). ReadsUp inner most_of_id (D.shown c.args.dir.now) (D.shown c.read_part.new.dir) b) (sym c.deref.ensures.value) (e.read t) in
    some_read inner most_of_id (D.shown c.args.dir.now) (D.shown c.read_part.new.dir) c.deref.result.now few read (IsIdOf c.args.key) (IsNoId c.args.key) c.id_of.result c.id_of.ensures.ok

pub returns-in-Ok-Some-clause-damaged : goal.returns-in-Ok-Some-clause-damaged
returns-in-Ok-Some-clause-damaged g c =
    let D = g.D.Dir in
    let e = rw c.in-Ok-Some.field-0-is at c.in-Ok-Some.ensures in
    let inner = image_inner c.args.key id_name in
    let few : length c.deref.result.now ≤ most_of_id = subst (λ (b : List ℕ). length b ≤ most_of_id) (sym c.deref.ensures.value) e.most in
    let read : D.observed ≡ true → ReadsUp inner most_of_id (D.shown c.args.dir.now) (D.shown c.read_part.new.dir) c.deref.result.now = λ t. subst (λ (b : List ℕ). ReadsUp inner most_of_id (D.shown c.args.dir.now) (D.shown c.read_part.new.dir) b) (sym c.deref.ensures.value) (e.read t) in
    some_lacks inner most_of_id (D.shown c.args.dir.now) (D.shown c.read_part.new.dir) c.deref.result.now few read (IsIdOf c.args.key) (IsNoId c.args.key) c.id_of.result (stored_path c.args.key id_name) c.id_of.ensures.fault

pub returns-in-Ok-Some-clause-whole : goal.returns-in-Ok-Some-clause-whole
returns-in-Ok-Some-clause-whole g c t file stays =
    let D = g.D.Dir in
    let e = rw c.in-Ok-Some.field-0-is at c.in-Ok-Some.ensures in
    let inner = image_inner c.args.key id_name in
    let few : length c.deref.result.now ≤ most_of_id = subst (λ (b : List ℕ). length b ≤ most_of_id) (sym c.deref.ensures.value) e.most in
    let read : D.observed ≡ true → ReadsUp inner most_of_id (D.shown c.args.dir.now) (D.shown c.read_part.new.dir) c.deref.result.now = λ t. subst (λ (b : List ℕ). ReadsUp inner most_of_id (D.shown c.args.dir.now) (D.shown c.read_part.new.dir) b) (sym c.deref.ensures.value) (e.read t) in
    some_whole inner most_of_id (D.shown c.args.dir.now) (D.shown c.read_part.new.dir) c.deref.result.now few read (IsIdOf c.args.key) (IsNoId c.args.key) c.id_of.result (stored_path c.args.key id_name) c.id_of.ensures.ok c.id_of.ensures.fault
    file (c.deref.ensures.value ∙ e.whole t file stays) (id_front c.args.key file) (no_id_front c.args.key file)

pub returns-in-Ok-Some-clause-trees : goal.returns-in-Ok-Some-clause-trees
returns-in-Ok-Some-clause-trees g c = c.read_part.ensures.trees refl

pub returns-in-Ok-None-clause-trees : goal.returns-in-Ok-None-clause-trees
returns-in-Ok-None-clause-trees g c = c.read_part.ensures.trees refl

pub returns-in-Err-clause-trees : goal.returns-in-Err-clause-trees
returns-in-Err-clause-trees g c = c.read_part.ensures.trees refl

use Rattle.std.proofs.Common.{◌≡◌, List, ℕ, length, take, Ok, Err, refl, subst}
use Rattle.folder_building.specs.declared.source.SourceError.TheVariants.{Missing}
use Rattle.folder_building.specs.Stored.{WasGone, SeesStoredBytes, reads_stored}
use Rattle.dir_trait.specs.Effects.{OnlyAsks}
use Rattle.folder_building.specs.Sources.{in_image}
use Rattle.folder_building.proofs.Reading.{image_worked, image_known}
use Rattle.folder_building.proofs.ReadsOf.{image_copies}
use Rattle.folder_building.proofs.Stored.{image_gone, image_sees}
use Rattle.folder_building.proofs.store_source.StoreSourceSource.read.Goals as goal

pub returns-in-Ok-clause-worked : goal.returns-in-Ok-clause-worked
returns-in-Ok-clause-worked g c = image_worked _ _ _ _ c.read_in.new.room (Ok c.in-Ok.count) c.in-Ok.ensures.called

pub returns-in-Ok-clause-known : goal.returns-in-Ok-clause-known
returns-in-Ok-clause-known g c = image_known _ _ _ _ c.read_in.new.room (Ok c.in-Ok.count) c.in-Ok.ensures.called

pub returns-in-Err-clause-worked : goal.returns-in-Err-clause-worked
returns-in-Err-clause-worked g c = image_worked _ _ _ _ c.read_in.new.room (Err c.in-Err.error) c.in-Err.ensures.called

pub returns-in-Err-clause-known : goal.returns-in-Err-clause-known
returns-in-Err-clause-known g c = image_known _ _ _ _ c.read_in.new.room (Err c.in-Err.error) c.in-Err.ensures.called

pub returns-in-Err-clause-gone : goal.returns-in-Err-clause-gone
returns-in-Err-clause-gone g c h t =
    let D = g.D.Dir in
    let is : c.store_error.result ≡ Missing = cc in
    subst (λ (path : List ℕ). WasGone (in_image path c.args.origin.now.folder) (D.shown c.args.dir.now) (D.shown c.read_in.new.self)) c.as_str.ensures
    (image_gone c.in-Some.name c.as_str.result.now c.args.origin.now.folder c.args.at _ c.read_in.new.room c.in-Some.is (Err c.in-Err.error) c.in-Err.error c.in-Err.ensures.called refl c.in-Err.ensures.refusals (c.store_error.ensures.missing is) t)

pub returns-in-Ok-clause-sees : goal.returns-in-Ok-clause-sees
returns-in-Ok-clause-sees g c t =
    let D = g.D.Dir in
    subst (λ (path : List ℕ). SeesStoredBytes (in_image path c.args.origin.now.folder) c.args.at (length c.args.room.now) (take c.in-Ok.count c.read_in.new.room) (D.shown c.args.dir.now) (D.shown c.read_in.new.self)) c.as_str.ensures
    (image_sees c.in-Some.name c.as_str.result.now c.args.origin.now.folder c.args.at _ c.read_in.new.room c.in-Some.is c.in-Ok.count c.in-Ok.ensures.called t)

pub returns-in-Ok-clause-copies : goal.returns-in-Ok-clause-copies
returns-in-Ok-clause-copies g c =
    let D = g.D.Dir in
    subst (λ (path : List ℕ). OnlyAsks D.observed (reads_stored (in_image path c.args.origin.now.folder)) (D.shown c.args.dir.now) (D.shown c.read_in.new.self)) c.as_str.ensures
    (image_copies c.in-Some.name c.as_str.result.now c.args.origin.now.folder _ _ c.read_in.new.room (Ok c.in-Ok.count) c.in-Some.is c.in-Ok.ensures.called)

pub returns-in-Err-clause-copies : goal.returns-in-Err-clause-copies
returns-in-Err-clause-copies g c =
    let D = g.D.Dir in
    subst (λ (path : List ℕ). OnlyAsks D.observed (reads_stored (in_image path c.args.origin.now.folder)) (D.shown c.args.dir.now) (D.shown c.read_in.new.self)) c.as_str.ensures
    (image_copies c.in-Some.name c.as_str.result.now c.args.origin.now.folder _ _ c.read_in.new.room (Err c.in-Err.error) c.in-Some.is c.in-Err.ensures.called)
